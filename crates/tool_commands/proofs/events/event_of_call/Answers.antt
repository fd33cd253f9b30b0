use Rattle.std.proofs.Common.{◌≡◌, refl, arith, rules}
use Rattle.std.specs.Prelude.{codes}
use Rattle.std.proofs.lemmas.Slice.Eq.{text_from_reads}
use Rattle.tool_commands.proofs.events.event_of_call.Goals as goal

pub returns-in-share-clause-named : goal.returns-in-share-clause-named
returns-in-share-clause-named c = let word : c.args.word.now ≡ codes "share" = text_from_reads _ _ (omega arith) (search rules) in rw word refl
