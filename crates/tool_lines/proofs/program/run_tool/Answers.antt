use Rattle.std.proofs.Common.{[], ap, ◌∙◌}
use Rattle.std.proofs.KnownBytes.{Appends-nil, Appends-trans}
use Rattle.std.proofs.lemmas.Option.{IfSome_then}
use Rattle.std.specs.List.{flat_map}
use Rattle.tool_lines.specs.Pieces.{words_of, lines_of}
use Rattle.tool_lines.specs.Counts.{counted}
use Rattle.tool_lines.proofs.Counts.{lines_of_counts}
use Rattle.tool_lines.proofs.Pieces.{words_of_lines}
use Rattle.tool_lines.proofs.Written.{on_ok, same_bytes}
use Rattle.tool_lines.proofs.program.run_tool.Goals as goal

pub returns-in-Words : goal.returns-in-Words
returns-in-Words g c = rw c.in-Words.is (on_ok c.write_to.result _ _
    (λ more. IfSome_then (g.T.Texts.left c.args.texts.now) c.in_ok-take_texts-in-Words.ensures (λ all takes.
    let told = takes [] _ c.new-words.ensures (Appends-nil _) in
    same_bytes _ _ _ _ (lines_of_counts (flat_map words_of (flat_map lines_of all)) _ _ told.0 ∙ ap counted (words_of_lines all)) (Appends-trans _ _ _ [] _ told.1 more)))
    c.write_to.ensures)

pub returns : goal.returns
returns g c = rw c.in-Dedup.is (on_ok c.take_texts-in-Dedup.result _ _
    (λ taken. IfSome_then (g.T.Texts.left c.args.texts.now) taken (λ all takes. (takes [] _ c.new-seen.ensures (Appends-nil _)).1))
    c.take_texts-in-Dedup.ensures)
