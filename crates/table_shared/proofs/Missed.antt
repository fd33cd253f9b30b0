-- What is told of a bucket by an exchange that set nothing.
use Rattle.std.proofs.Common.{◌≡◌, ℕ, Bool, ap, subst, sym, Bor}
use Rattle.std.specs.Prelude.{Option, Some}
use Rattle.std.specs.Option.{IsSomeAnd}
use Rattle.table_cell.specs.Contents.{Content, vacant, own, named, Misses}
use Rattle.table_cell.specs.declared.bucket.Entry.{Entry}
use Rattle.table_cell.specs.declared.bucket.Missed.TheVariants.{Taken, NoMemory}
use Rattle.table_generations.specs.Looks.{IsSeen}
use Rattle.table_terms.specs.Hashes.{bits_of}
use Rattle.table_shared.specs.declared.probe.Put.{Put}
use Rattle.table_shared.specs.declared.probe.Put.TheVariants as put
use Rattle.table_shared.specs.Reads.{LossTells, PutTells}
use Rattle.table_shared.proofs.Looked.{seen_so}

module _ {T : Type 0} where
  -- the value comes back beside the entry that was first
  pub taken_back : (c : Content T) (value back : T) (first : Bor (Entry T)) (old new : Option (Entry T)) → Misses c value old new (Taken back first) → back ≡ value
  taken_back vacant value back first old new m = m.0
  taken_back (own e) value back first old new m = m.0
  taken_back (named e) value back first old new m = m.0

  -- the bucket shows that entry
  pub taken_seen : (c : Content T) (value back : T) (first : Bor (Entry T)) (old new : Option (Entry T)) → Misses c value old new (Taken back first) → IsSeen c old new (λ o. o ≡ Some first.now)
  taken_seen vacant value back first old new m = record { alone = tt; shared = (m.1, m.2) }
  taken_seen (own e) value back first old new m = record { alone = (ap Some (sym m.1), m.2); shared = tt }
  taken_seen (named e) value back first old new m = record { alone = (ap Some (sym m.1), m.2); shared = tt }

  -- the value comes back where its memory was refused
  pub refused_back : (c : Content T) (value back : T) (old new : Option (Entry T)) → Misses c value old new (NoMemory back) → back ≡ value
  refused_back vacant value back old new m = m.0
  refused_back (own e) value back old new m = m.0
  refused_back (named e) value back old new m = m.0

  -- and the note knows what it knew
  pub refused_same : (c : Content T) (value back : T) (old new : Option (Entry T)) → Misses c value old new (NoMemory back) → new ≡ old
  refused_same vacant value back old new m = m.1
  refused_same (own e) value back old new m = m.1
  refused_same (named e) value back old new m = m.1

  -- what holds of the entry that came first is told of the bucket that shows it
  first_seen : (c : Content T) (old new : Option (Entry T)) (first : Entry T) (P : Entry T → Type 0) → P first → IsSeen c old new (λ o. o ≡ Some first) → IsSeen c old new (λ o. IsSomeAnd o P)
  first_seen c old new first P holds saw = seen_so c old new (λ o. o ≡ Some first) (λ o. IsSomeAnd o P) (λ o is. subst (λ (p : Option (Entry T)). IsSomeAnd p P) (sym is) holds) saw

  -- who lost to an entry tells it of the bucket that shows it
  pub lost_tells : {X : Type 0} (target : T → X) (says : X → Bool → Type 0) (value : T) (hash : ℕ) (c : Content T) (old new : Option (Entry T)) (first : Bor (Entry T)) (m : Put T X)
      → LossTells target says (bits_of hash) m first.now → IsSeen c old new (λ o. o ≡ Some first.now) → PutTells target says value hash c old new m
  lost_tells target says value hash c old new first (put.Won t r) loss saw = absurd loss
  lost_tells target says value hash c old new first (put.Refused t back) loss saw = absurd loss
  lost_tells target says value hash c old new first (put.Passed t asked back) loss saw = first_seen c old new first.now (LossTells target says (bits_of hash) (put.Passed t asked back)) loss saw
  lost_tells target says value hash c old new first (put.Met t r back) loss saw = first_seen c old new first.now (LossTells target says (bits_of hash) (put.Met t r back)) loss saw
