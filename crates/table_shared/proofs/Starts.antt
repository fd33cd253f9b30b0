-- A generation that is made after another starts with no entry copied.
use Rattle.std.proofs.Common.{◌≡◌, ◌∙◌, ℕ, ◌*◌, ◌<◌, Some, length, arith}
use Rattle.std.specs.Borrow.{Bor}
use Rattle.std.specs.Int.{IsPowerOfTwo}
use Rattle.std.proofs.lemmas.List.{length-replicate}
use Rattle.table_generations.specs.Generations.{GenerationView, IsBlank}
use Rattle.table_shared.specs.Growths.{IsFresh}

module _ {A T : Type 0} where
  pub twice_as_fresh : (home c : ℕ) (from : Bor (GenerationView A T)) (built : GenerationView A T) → IsBlank from.now.from from.now.home c built → c ≡ 2 * length from.now.contents
      → IsPowerOfTwo c → 0 < length from.now.contents → from.now.home ≡ home → IsFresh home (Some from) built
  twice_as_fresh home c from built blank twice power room of_home = record {
    home_is = blank.of ∙ of_home;
    power = rw (blank.vacant, length-replicate) power;
    behind = ((blank.of, blank.allocator), rw (blank.vacant, length-replicate) (omega arith));
    empty = blank.none;
  }
