use Rattle.std.proofs.Common.{◌≡◌, Option, Some, None, sym, subst}
use Rattle.std.specs.Prelude.{MatchOption}
use Rattle.std.specs.Option.{IsSomeAnd}
use Rattle.table_generations.specs.Generations.{GenerationView}
use Rattle.table_shared.proofs.table.LockFreeRawTable.show.Goals as goal

-- what holds of the block holds of what the word has, if it took the block, and else of the block that came back
holds_shown : {X : Type 0} (P : X → Type 0) (block : X) → P block → (back holds : Option X) → MatchOption back (holds ≡ Some block) (λ x. x ≡ block) → MatchOption back (IsSomeAnd holds P) P
holds_shown P block is None holds told = subst (λ o. IsSomeAnd o P) (sym told) is
holds_shown P block is (Some x) holds told = subst P (sym told) is

pub returns-clause-shows : goal.returns-clause-shows
returns-clause-shows g c = holds_shown (λ (v : GenerationView g.row.A.Denot g.row.T.Denot). v.contents ≡ c.args.growth.built) c.into_block-slot.result.1.value c.into_block-slot.ensures.built
    c.publish.result.back c.publish.result.holds c.publish.ensures.shows
