use Rattle.table_cell.specs.Rows.{content_at}
use Rattle.std.proofs.Common.{sym, subst}
use Rattle.table_cell.specs.Notes.{Agrees}
use Rattle.table_shared.proofs.Copied.{seen_word}
use Rattle.table_shared.proofs.growth.ahead.read_ahead.Goals as goal

pub returns : goal.returns
returns g c =
    let from = c.args.from.now in
    let here = content_at from.contents c.args.index in
    let word = c.in_ok-word.word in
    let agrees = subst (λ e. Agrees word.value e) (sym c.get.ensures) c.name.ensures.1.0 in
    let (is, alone) = seen_word from.from from.home here _ _ word c.get.result.now c.in_ok-word.ensures.seen agrees in
    (c.get.result.now, is, alone, record { shown = c.deref.result; shows = c.deref.ensures; says = record { met = c.hash_fn-hash.ensures } })
