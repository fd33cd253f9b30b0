-- A law under which four numbers in a row have one hash.
use Rattle.std.specs.Prelude.{ℕ, ◌/◌}
use Rattle.std.proofs.Common.{ap, eqb-true}
use Rattle.table_terms.specs.Laws.{IsLaw, same_number, number_hash, number_hash_small, number_law}

abbrev pub hash_of_four : ℕ → ℕ
hash_of_four n = number_hash (n / 4)

pub fours_lawful : IsLaw same_number hash_of_four
fours_lawful = let law = number_law in record {
  reflexive = law.reflexive;
  symmetric = law.symmetric;
  transitive = law.transitive;
  small = λ a. number_hash_small (a / 4);
  agrees = λ a b is. ap hash_of_four (eqb-true a b is);
}
