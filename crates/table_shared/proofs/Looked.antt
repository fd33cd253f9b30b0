-- What a read of a bucket tells, by what the look at it showed.
use Rattle.std.proofs.Common.{◌≡◌, ◌≢◌, ◌∙◌, ℕ, ap, refl, subst, sym, Bool, true, false, Bor}
use Rattle.std.specs.Prelude.{Option, Some, None}
use Rattle.std.specs.Option.{IsSomeAnd}
use Rattle.table_cell.specs.declared.bucket.Entry.{Entry}
use Rattle.table_generations.specs.Buckets.{Content, vacant, own, named}
use Rattle.table_generations.specs.Looks.{Tells, IsSeen}
use Rattle.table_generations.specs.declared.fixed.shared.Look.{Look}
use Rattle.table_generations.specs.declared.fixed.shared.Look.TheVariants as look
use Rattle.table_core.specs.declared.call.CallState.{CallState}
use Rattle.table_core.specs.RunningSteps.{passed}
use Rattle.table_shared.specs.declared.probe.Read.{Read}
use Rattle.table_shared.specs.declared.probe.Read.TheVariants as read
use Rattle.table_shared.specs.Reads.{ShowsAlike, ShowsMarked, Declines, MeetsTarget, StepsAt, IsTrueOf, Accepts, ReadTells}

abbrev pick : {X : Type 0} → X → Option X → X
pick d None = d
pick d (Some x) = x

module _ {T : Type 0} where
  -- what follows from what is told of a bucket is told of it
  pub seen_so : (c : Content T) → (old new : Option (Entry T)) → (P Q : Option (Entry T) → Type 0) → ((o : Option (Entry T)) → P o → Q o) → IsSeen c old new P → IsSeen c old new Q
  seen_so vacant old new P Q so saw = record { alone = tt; shared = (so new saw.shared.0, saw.shared.1) }
  seen_so (own e) old new P Q so saw = record { alone = (so (Some e) saw.alone.0, saw.alone.1); shared = tt }
  seen_so (named e) old new P Q so saw = record { alone = (so (Some e) saw.alone.0, saw.alone.1); shared = tt }

  -- what follows of the entry shown holds of it
  and_so : (o : Option (Entry T)) → (P Q : Entry T → Type 0) → ((e : Entry T) → P e → Q e) → IsSomeAnd o P → IsSomeAnd o Q
  and_so None P Q so holds = absurd holds
  and_so (Some e) P Q so holds = so e holds

module _ {T X : Type 0} (target : T → X) (says : X → Bool → Type 0) (bits : ℕ) where
  -- a look that showed an entry showed its target where it has the bits that were sought
  marked_by : (l : Look T) → (a : Option (Bor X)) → l ≢ look.Vacant → ShowsAlike target l a → (o : Option (Entry T)) → Tells bits o l → IsSomeAnd o (λ e. ShowsMarked target bits e a)
  marked_by look.Vacant a set k o tells = absurd (set refl)
  marked_by look.Other None set k o tells = subst (λ (p : Option (Entry T)). IsSomeAnd p (λ e. ShowsMarked target bits e None)) (sym tells.1) tells.2
  marked_by look.Other (Some r) set k o tells = absurd k
  marked_by (look.Alike entry) None set k o tells = absurd k
  marked_by (look.Alike entry) (Some r) set k o tells = subst (λ (p : Option (Entry T)). IsSomeAnd p (λ e. ShowsMarked target bits e (Some r))) (sym tells.0) (tells.1, k)

  -- the answer by which an entry was passed is true of it
  pub passed_of : (e : Entry T) → (a : Option (Bor X)) → (asked : Bool) → ShowsMarked target bits e a → Declines says a asked → IsTrueOf target says bits e (passed asked)
  passed_of e None asked marked said = subst (λ (b : Bool). IsTrueOf target says bits e (passed b)) (sym said) marked
  passed_of e (Some r) asked marked said =
      subst (λ (b : Bool). IsTrueOf target says bits e (passed b)) (sym said.0) (marked.0, subst (λ (x : X). says x false) marked.1 said.1)

  -- an entry was accepted whose target was met, and of which the closure said yes
  pub accepted_of : (e : Entry T) → (a : Option (Bor X)) → (r : Bor X) → ShowsMarked target bits e a → a ≡ Some r → says r.now true → Accepts target says bits r e
  accepted_of e None r marked is said = absurd (cc)
  accepted_of e (Some q) r marked is said =
      let same : r.now ≡ target e.value = ap (λ (x : Option (Bor X)). (pick r x).now) (sym is) ∙ marked.1 in
      ((marked.0, subst (λ (x : X). says x true) same said), same)

  -- a call that has met what a look showed tells of the bucket what the look does
  pub read_tells : (l : Look T) → (a : Option (Bor X)) → (s : CallState) → (m : Read (Bor X)) → l ≢ look.Vacant → ShowsAlike target l a → MeetsTarget says a s m → (o : Option (Entry T)) → Tells bits o l → ReadTells target says bits o m
  read_tells l a s (read.Empty t) set k m o tells = absurd m
  read_tells l a s (read.Passed t asked) set k m o tells = and_so o (λ e. ShowsMarked target bits e a) (λ e. IsTrueOf target says bits e (passed asked)) (λ e marked. passed_of e a asked marked m.1) (marked_by l a set k o tells)
  read_tells l a s (read.Met t r) set k m o tells = and_so o (λ e. ShowsMarked target bits e a) (Accepts target says bits r) (λ e marked. accepted_of e a r marked m.2 m.1) (marked_by l a set k o tells)

module _ {X : Type 0} where
  -- a call that has met an entry has read its bucket
  pub met_read : (says : X → Bool → Type 0) → (a : Option (Bor X)) → (s : CallState) → (m : Read (Bor X)) → MeetsTarget says a s m → StepsAt says s m
  met_read says a s (read.Empty t) m = absurd m
  met_read says a s (read.Passed t asked) m = m.0
  met_read says a s (read.Met t r) m = (m.0, m.1)

-- what is there is one thing
pub some_same : {R : Type 0} → (a b : R) → Some a ≡ Some b → a ≡ b
some_same a b e = ap (pick a) e
