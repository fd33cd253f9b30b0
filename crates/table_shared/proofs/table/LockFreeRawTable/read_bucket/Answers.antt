use Rattle.std.proofs.Common.{◌≡◌, ◌≢◌, ◌∙◌, true, false, sym}
use Rattle.table_generations.specs.declared.fixed.shared.Look.TheVariants as look
use Rattle.table_terms.specs.Hashes.{bits_of}
use Rattle.table_core.proofs.ByPhase.{empty_fits, reads_entry}
use Rattle.table_shared.proofs.Looked.{met_read, read_tells, seen_so}
use Rattle.table_shared.proofs.table.LockFreeRawTable.read_bucket.Goals.{in-Vacant, in_default}
use Rattle.table_shared.proofs.table.LockFreeRawTable.read_bucket.Goals as goal

pub step-requires : goal.step-requires
step-requires g c = record { fits = empty_fits c.args.state c.requires.phase c.requires.stands }

pub meet-requires-clause-meets : goal.meet-requires-clause-meets
meet-requires-clause-meets g c = reads_entry c.args.state c.requires.phase

pub returns-clause-reads : goal.returns-clause-reads
returns-clause-reads g c = met_read (g.P.Probing.says c.args.probing.now) c.alike.result c.args.state c.meet.result c.meet.ensures

pub returns-clause-seen : goal.returns-clause-seen
returns-clause-seen g c =
    let set : c.look-look.result ≢ look.Vacant = elim c.match-matches.branch [
      | in-Vacant w ↦ absurd (let no : true ≡ false = sym w.matches-is ∙ c.if-matches.false in cc)
      | in_default w ↦ w.in_default.not-Vacant
    ] in
    seen_so _ _ _ _ _ (read_tells g.T.AtomicValue.target (g.P.Probing.says c.args.probing.now) (bits_of c.args.state.hash) c.look-look.result c.alike.result c.args.state c.meet.result set c.alike.ensures c.meet.ensures)
    c.look-look.ensures.seen
