use Rattle.std.proofs.Common.{◌++◌, codes, ap, ◌∙◌}
use Rattle.std.proofs.lemmas.Result.{on_ok_weaker}
use Rattle.c_tree.specs.Words.{newline, separated}
use Rattle.c_sizes.specs.Table.{line}
use Rattle.c_sizes.proofs.Steps.{four_added}
use Rattle.c_sizes.proofs.lines.put_chain.Goals as goal

pub returns : goal.returns
returns c =
    on_ok_weaker c.put_line.result
    (four_added c.args.text.now.items newline (codes "deepest calls: ") (separated (codes ", ") c.args.calls.now.names)
    (line (codes "  bytes of their variables") c.args.calls.now.bytes) _ _ _ _
    c.in_ok-extend_from_slice.ensures.items c.in_ok-extend_from_slice-2.ensures.items
    (c.in_ok-put_names.ensures ∙ ap (λ names. c.extend_from_slice-2.new.self.items ++ separated (codes ", ") names) c.as_slice.ensures))
    c.put_line.ensures
