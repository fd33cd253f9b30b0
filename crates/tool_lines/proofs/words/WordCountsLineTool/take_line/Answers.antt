use Rattle.std.proofs.Common.{◌∷◌, [], append-nil}
use Rattle.std.specs.List.{flat_map}
use Rattle.std.proofs.lemmas.Grind.{flat_map-append}
use Rattle.tool_lines.specs.Pieces.{words_of}
use Rattle.tool_lines.proofs.Written.{on_ok}
use Rattle.tool_lines.proofs.words.WordCountsLineTool.take_line.Goals as goal

pub returns : goal.returns
returns g c = on_ok c.count_words.result _ _
    (λ counts lines start taken grown. (rw (flat_map-append words_of lines (c.args.line.bytes.now ∷ []), append-nil) (counts (flat_map words_of lines) taken), grown))
    c.count_words.ensures
