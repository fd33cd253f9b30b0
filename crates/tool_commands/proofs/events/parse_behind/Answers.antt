use Rattle.std.proofs.Common.{◌≡◌, refl, arith, rules}
use Rattle.std.specs.Prelude.{codes}
use Rattle.std.proofs.lemmas.Slice.Eq.{text_from_reads}
use Rattle.tool_commands.proofs.EventPieces.{pieces-pair, pair-pieces, behind_insert, behind_lookup, behind_copy, behind_put}
use Rattle.tool_commands.proofs.events.parse_behind.Goals as goal

pub returns-in_err-accepted-in-put-clause-bad : goal.returns-in_err-accepted-in-put-clause-bad
returns-in_err-accepted-in-put-clause-bad c =
    let word : c.args.word.now ≡ codes "put" = text_from_reads _ _ (omega arith) (search rules) in
    rw (c.from_residual.ensures, word) (behind_put _ _ c.in_err-accepted-in-put.ensures.bad)

pub returns-in_err-hash-in-copy-clause-bad : goal.returns-in_err-hash-in-copy-clause-bad
returns-in_err-hash-in-copy-clause-bad c =
    let word : c.args.word.now ≡ codes "copy" = text_from_reads _ _ (omega arith) (search rules) in
    rw (c.from_residual-in_err-hash-in-copy.ensures, word) (behind_copy _ _ c.in_err-hash-in-copy.ensures.bad)

pub returns-in_err-hash-in-lookup-clause-bad : goal.returns-in_err-hash-in-lookup-clause-bad
returns-in_err-hash-in-lookup-clause-bad c =
    let word : c.args.word.now ≡ codes "lookup" = text_from_reads _ _ (omega arith) (search rules) in
    rw (c.from_residual-in_err-hash-in-lookup.ensures, word) (behind_lookup _ _ c.in_err-hash-in-lookup.ensures.bad)

pub returns-in_err-value-in-insert-clause-bad : goal.returns-in_err-value-in-insert-clause-bad
returns-in_err-value-in-insert-clause-bad c =
    let word : c.args.word.now ≡ codes "insert" = text_from_reads _ _ (omega arith) (search rules) in
    rw (c.from_residual-in_err-value-in-insert.ensures, word)
    (behind_insert _ _ (λ v h s. c.in_err-value-in-insert.ensures.bad v h (pair-pieces _ v h s)))

pub returns-in_ok-granted-in-check-clause-spelled : goal.returns-in_ok-granted-in-check-clause-spelled
returns-in_ok-granted-in-check-clause-spelled c =
    (text_from_reads _ _ (omega arith) (search rules), refl, c.in_ok-granted-in-check.ensures.spelled)

pub returns-in_ok-hash-in-lookup-clause-spelled : goal.returns-in_ok-hash-in-lookup-clause-spelled
returns-in_ok-hash-in-lookup-clause-spelled c =
    (text_from_reads _ _ (omega arith) (search rules), refl, c.in_ok-hash-in-lookup.ensures.spelled)

pub returns-in_ok-value-in-insert-clause-spelled : goal.returns-in_ok-value-in-insert-clause-spelled
returns-in_ok-value-in-insert-clause-spelled c =
    (text_from_reads _ _ (omega arith) (search rules), refl, pieces-pair _ _ _ c.in_ok-value-in-insert.ensures.spelled)
