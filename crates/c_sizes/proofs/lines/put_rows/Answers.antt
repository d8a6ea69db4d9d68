use Rattle.std.proofs.Common.{List, ℕ, ◌++◌, codes, ap, ◌∙◌}
use Rattle.std.specs.List.{flat_map}
use Rattle.std.proofs.lemmas.Result.{on_ok_weaker}
use Rattle.c_sizes.specs.Memory.{together}
use Rattle.c_sizes.specs.Table.{greatest_alignments, line, row_line}
use Rattle.c_sizes.proofs.Steps.{three_added}
use Rattle.c_sizes.proofs.lines.put_rows.Goals as goal

abbrev heading : List ℕ
heading = codes "bytes of static memory, by the greatest alignment of numbers"

pub returns : goal.returns
returns c =
    on_ok_weaker c.put_line-2.result
    (λ last. three_added c.args.text.now.items (line heading greatest_alignments) (flat_map row_line c.args.rows.now)
    (line (codes "  together") (together c.args.rows.now)) _ _ _
    (c.in_ok-put_line.ensures ∙ ap (λ bytes. c.args.text.now.items ++ line heading bytes) c.greatest_alignments.ensures)
    c.in_ok-put_each_row.ensures
    (last ∙ ap (λ bytes. c.put_each_row.new.text.items ++ line (codes "  together") bytes) c.together.ensures))
    c.put_line-2.ensures
