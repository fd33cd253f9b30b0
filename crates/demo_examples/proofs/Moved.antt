-- Values that are moved from list to list are the same values in another order.
use Rattle.std.proofs.Common.{◌≡◌, ℕ, suc, ◌<◌, List, [], ◌∷◌, ◌++◌, append_assoc, append-nil, length, sym, subst, arith}
use Rattle.std.specs.Prelude.{slice_index_or}
use Rattle.std.specs.List.{flat_map}
use Rattle.std.specs.List.Sorted.{IsPermutation}
use Rattle.std.proofs.lemmas.List.Sorted.{IsPermutation-refl, IsPermutation-sym, IsPermutation-trans, IsPermutation-append, IsPermutation-append_left, IsPermutation-append_right, IsPermutation-append_comm, IsPermutation-middle}

module _ {V : Type 0} where
  -- one more value behind the first part, or behind the second one
  pub behind_first : (a b : List V) (v : V) → IsPermutation (v ∷ (a ++ b)) ((a ++ v ∷ []) ++ b)
  behind_first a b v = subst (IsPermutation (v ∷ (a ++ b))) (sym (append_assoc a (v ∷ []) b)) (IsPermutation-sym (a ++ v ∷ b) (v ∷ (a ++ b)) (IsPermutation-middle a v b))

  pub behind_second : (a b : List V) (v : V) → IsPermutation (v ∷ (a ++ b)) (a ++ (b ++ v ∷ []))
  behind_second a b v = subst (IsPermutation (v ∷ (a ++ b))) (append_assoc a b (v ∷ [])) (IsPermutation-append_comm (v ∷ []) (a ++ b))

  -- where the second part gains a value, both together do
  pub gains : (a b c : List V) (v : V) → IsPermutation (v ∷ b) c → IsPermutation (v ∷ (a ++ b)) (a ++ c)
  gains a b c v more = IsPermutation-trans (v ∷ (a ++ b)) (a ++ v ∷ b) (a ++ c) (IsPermutation-sym (a ++ v ∷ b) (v ∷ (a ++ b)) (IsPermutation-middle a v b)) (IsPermutation-append_right a (v ∷ b) c more)

  -- the next value goes where it goes
  pub next_moved : (all done new rest : List V) (v : V) → IsPermutation all (done ++ v ∷ rest) → IsPermutation (v ∷ done) new → IsPermutation all (new ++ rest)
  next_moved all done new rest v moved one = IsPermutation-trans all (done ++ v ∷ rest) (new ++ rest) moved
      (IsPermutation-trans (done ++ v ∷ rest) (v ∷ done ++ rest) (new ++ rest) (IsPermutation-middle done v rest) (IsPermutation-append_left rest (v ∷ done) new one))

  -- two lists of two parts are put together part by part
  parts_together : (a b c d : List V) → IsPermutation ((a ++ b) ++ (c ++ d)) ((a ++ c) ++ (b ++ d))
  parts_together a b c d =
      let inner : IsPermutation (b ++ (c ++ d)) (c ++ (b ++ d)) = subst (λ (l : List V). IsPermutation l (c ++ (b ++ d))) (append_assoc b c d)
      (subst (IsPermutation ((b ++ c) ++ d)) (append_assoc c b d) (IsPermutation-append_left d (b ++ c) (c ++ b) (IsPermutation-append_comm b c))) in
      subst (λ (l : List V). IsPermutation l ((a ++ c) ++ (b ++ d))) (sym (append_assoc a b (c ++ d)))
      (subst (IsPermutation (a ++ (b ++ (c ++ d)))) (sym (append_assoc a c (b ++ d))) (IsPermutation-append_right a (b ++ (c ++ d)) (c ++ (b ++ d)) inner))

  -- two lists of three parts are put together part by part
  pub three_together : (a b c x y z : List V) → IsPermutation ((a ++ (b ++ c)) ++ (x ++ (y ++ z))) ((a ++ x) ++ ((b ++ y) ++ (c ++ z)))
  three_together a b c x y z = IsPermutation-trans ((a ++ (b ++ c)) ++ (x ++ (y ++ z))) ((a ++ x) ++ ((b ++ c) ++ (y ++ z))) ((a ++ x) ++ ((b ++ y) ++ (c ++ z)))
      (parts_together a (b ++ c) x (y ++ z)) (IsPermutation-append_right (a ++ x) ((b ++ c) ++ (y ++ z)) ((b ++ y) ++ (c ++ z)) (parts_together b c y z))

  -- the next list goes where it goes
  pub next_joined : (all done next new rest : List V) → IsPermutation all (done ++ (next ++ rest)) → IsPermutation (done ++ next) new → IsPermutation all (new ++ rest)
  next_joined all done next new rest moved one = IsPermutation-trans all ((done ++ next) ++ rest) (new ++ rest) (subst (IsPermutation all) (sym (append_assoc done next rest)) moved)
      (IsPermutation-append_left rest (done ++ next) new one)

  -- where nothing is left, all is done
  pub all_done : (all done rest : List V) → rest ≡ [] → IsPermutation all (done ++ rest) → IsPermutation all done
  all_done all done rest none moved = subst (IsPermutation all) (append-nil done) (subst (λ (vs : List V). IsPermutation all (done ++ vs)) none moved)

module _ {J R V : Type 0} (given : J → List V) (left : R → List V) where
  -- what each result has are the values of its job
  pub all_moved : (js : List J) (rs : List R) → length rs ≡ length js → ((i : ℕ) (d : J) (e : R) → i < length js → IsPermutation (given (slice_index_or js i d)) (left (slice_index_or rs i e))) → IsPermutation (flat_map given js) (flat_map left rs)
  all_moved [] [] as_many each = IsPermutation-refl []
  all_moved [] (r ∷ rs) as_many each = absurd (omega (arith, as_many))
  all_moved (j ∷ js) [] as_many each = absurd (omega (arith, as_many))
  all_moved (j ∷ js) (r ∷ rs) as_many each = IsPermutation-append (given j) (left r) (flat_map given js) (flat_map left rs) (each 0 j r (omega arith))
      (all_moved js rs (omega (arith, as_many)) (λ i d e lt. each (suc i) d e (omega arith)))
