-- A probe's steps.
use Rattle.std.proofs.Common.{◌≡◌, ℕ, ◌+◌, ◌<◌, Bool, true, List, Option, Some, refl, sym, ap, ◌∙◌, arith, inl, inr, below_more, length}
use Rattle.std.specs.Prelude.{None, slice_set}
use Rattle.std.proofs.lemmas.List.{length-set}
use Rattle.table_terms.specs.Hashes.{bits_of}
use Rattle.table_terms.specs.Probes.{bucket_at}
use Rattle.table_cell.specs.declared.bucket.Entry.{Entry}
use Rattle.table_generations.specs.Generations.{IsGeneration}
use Rattle.table_generations.specs.Buckets.{Content, vacant, values, value_at, content_at, shown, shown_all}
use Rattle.table_generations.specs.Probe.{IsAcceptedBy, IsPassedBy, IsPassed, IsVacant, ProbeGives}
use Rattle.table_generations.specs.declared.fixed.ProbeEnd.{ProbeEnd}
use Rattle.table_generations.specs.declared.fixed.ProbeEnd.TheVariants.{Accepted, Vacant, Full}
use Rattle.table_generations.proofs.Contents.{length-shown_all, shown_at, shown_more, shows_none}
use Rattle.table_generations.proofs.Counts.{full_values}

module _ {T U : Type 0} (target : T → U) (answers : U → Bool → Type 0) (ps : List (Option (Entry T))) (hash : ℕ) where
  -- a bucket whose entry was not accepted is passed
  pub passed_more : (d i : ℕ) (seen : Option (Entry T)) → i ≡ bucket_at (length ps) hash d → value_at ps i ≡ seen → IsPassedBy target answers (bits_of hash) seen → IsPassed target answers ps hash d → IsPassed target answers ps hash (d + 1)
  passed_more d i seen at is here p = record { refused = below_more _ _ p.refused (rw (← at, is) here) }

module _ {T U : Type 0} (target : T → U) (a b : U → Bool → Type 0) (into : (x : U) (r : Bool) → a x r → b x r) where
  passed_by_into : (bits : ℕ) (o : Option (Entry T)) → IsPassedBy target a bits o → IsPassedBy target b bits o
  passed_by_into bits o s = record { entry = s.entry; held = s.held; refused = elim s.refused [ inl other ↦ inl other | inr refused ↦ inr (into _ _ refused) ] }

  accepted_by_into : (bits : ℕ) (o : Option (Entry T)) → IsAcceptedBy target a bits o → IsAcceptedBy target b bits o
  accepted_by_into bits o s = record { entry = s.entry; held = s.held; marked = s.marked; accepted = into _ _ s.accepted }

  module _ (ps : List (Option (Entry T))) (hash : ℕ) where
    passed_into : (d : ℕ) → IsPassed target a ps hash d → IsPassed target b ps hash d
    passed_into d s = record { refused = λ k h. passed_by_into _ _ (s.refused k h) }

    -- an empty bucket found with one test is found with a wider one
    pub vacant_into : (i : ℕ) → IsVacant target a ps hash i → IsVacant target b ps hash i
    vacant_into i s = record { steps = s.steps; within = s.within; is = s.is; passed = passed_into _ s.passed; vacant = s.vacant }

    -- a probe with one test gives what a probe with a wider one may give
    pub gives_into : (s : ProbeEnd T) → ProbeGives target a ps hash s → ProbeGives target b ps hash s
    gives_into (Accepted i e) (s, is) = (record { steps = s.steps; within = s.within; is = s.is; passed = passed_into _ s.passed; accepted = accepted_by_into _ _ s.accepted }, is)
    gives_into (Vacant i) s = vacant_into i s
    gives_into Full s = passed_into _ s

module _ {T U : Type 0} (target : T → U) (answers : U → Bool → Type 0) (hash : ℕ) where
  -- a probe that nothing is accepted in ends at an empty bucket, if there is one
  pub ends_vacant : (ps : List (Option (Entry T))) (s : ProbeEnd T) → ((x : U) → answers x true → ⊥) → length (values ps) < length ps
      → ProbeGives target answers ps hash s → (i : ℕ) × (s ≡ Vacant i)
  ends_vacant ps (Accepted i e) none room (s, is) = absurd (none _ s.accepted.accepted)
  ends_vacant ps (Vacant i) none room s = (i, refl)
  ends_vacant ps Full none room s = absurd (let full = full_values target answers ps hash s in omega arith)

  -- the empty bucket where a probe of a generation ended
  pub vacant_below : (ps : List (Content T)) (i : ℕ) → IsVacant target answers (shown_all ps) hash i → i < length ps
  vacant_below ps i v =
      let long = length-shown_all ps in
      let within = v.within in
      rw (← long, v.is) (omega arith)

  -- with that bucket set, the generation is one of a size greater by one
  pub generation_set : (ps : List (Content T)) (size i : ℕ) (p : Content T) (e : Entry T) → IsGeneration ps size → IsVacant target answers (shown_all ps) hash i → shown p ≡ Some e → IsGeneration (slice_set ps i p) (size + 1)
  generation_set ps size i p e g v shows =
      let below = vacant_below ps i v in
      record {
        powered = elim g.powered [
          | inl none ↦ absurd (let n : length ps ≡ 0 = ap length none in omega arith)
          | inr two ↦ inr (rw length-set two)
        ];
        fits = rw length-set g.fits;
        counted = (let more = shown_more ps i p e below v.vacant shows in let was = g.counted in omega arith);
      }

-- the bucket where a probe ended at an empty one is vacant
pub vacant_held : {T : Type 0} (ps : List (Content T)) (i : ℕ) → value_at (shown_all ps) i ≡ None → content_at ps i ≡ vacant
vacant_held ps i empty = shows_none (content_at ps i) (sym (shown_at ps i) ∙ empty)
