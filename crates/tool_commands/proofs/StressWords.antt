-- Two words name threads and jobs, or one of them writes no such number.
use Rattle.std.proofs.Common.{◌≡◌, ℕ, ◌<◌, ◌≤◌, List, [], ◌∷◌, length, map, get_or, refl, arith}
use Rattle.tool_streams.specs.Numbers.{Writes}
use Rattle.tool_commands.specs.Arguments.{IsThreadCount, IsJobCount, NamesStress}

-- a list of two elements is made of them
pub of_two : {X : Type 0} (xs : List X) (a b : X) → 2 ≤ length xs → length xs < 3 → a ≡ get_or xs 0 a → b ≡ get_or xs 1 b → xs ≡ a ∷ b ∷ []
of_two [] a b some few first second = absurd (omega (arith, some))
of_two (x ∷ []) a b some few first second = absurd (omega (arith, some))
of_two (x ∷ y ∷ []) a b some few first second = rw (first, second) refl
of_two (x ∷ y ∷ z ∷ xs) a b some few first second = absurd (omega (arith, few))

module _ {S : Type 0} (text : S → List ℕ) (words : List S) (a b : S) (is : words ≡ a ∷ b ∷ []) where
  abbrev NamesBoth : ℕ → ℕ → Type 0
  NamesBoth n jobs = (Writes 10 20 (text a) n × IsThreadCount n) × (Writes 10 20 (text b) jobs × IsJobCount jobs)

  pub no_threads : ((n : ℕ) → ¬ (Writes 10 20 (text a) n × IsThreadCount n)) → (n jobs : ℕ) → ¬ NamesStress (map text words) n jobs
  no_threads never n jobs named = let both : NamesBoth n jobs = rw is at named in never n both.0

  pub no_jobs : ((jobs : ℕ) → ¬ (Writes 10 20 (text b) jobs × IsJobCount jobs)) → (n jobs : ℕ) → ¬ NamesStress (map text words) n jobs
  no_jobs never n jobs named = let both : NamesBoth n jobs = rw is at named in never jobs both.1
