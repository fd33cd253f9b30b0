-- What an output keeps.
use Rattle.std.specs.Prelude.{◌≡◌}
use Rattle.tool_streams.specs.declared.output.Output.{Output}

-- all that was kept is sent, or given up where the writer has failed
abbrev pub KeepsNothing : {W : Type 0} → Output W → Type 0
KeepsNothing output = output.kept ≡ 0
