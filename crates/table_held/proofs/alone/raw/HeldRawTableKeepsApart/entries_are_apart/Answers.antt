use Rattle.table_held.proofs.alone.raw.HeldRawTableKeepsApart.entries_are_apart.Goals as goal

pub returns : goal.returns
returns g c = λ law t lawful. lawful.apart
