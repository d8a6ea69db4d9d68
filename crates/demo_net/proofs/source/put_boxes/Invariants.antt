use Rattle.std.proofs.Common.{◌≡◌, ◌++◌}
use Rattle.std.specs.List.{flat_map, range_with_len}
use Rattle.demo_net.specs.Source.{box_lines}
use Rattle.demo_net.proofs.source.put_boxes.Given as goal

abbrev pub invariant-loop-before : goal.invariant-loop-before
invariant-loop-before l = l.text.items ≡ l.fn.text.items ++ flat_map (box_lines l.number l.chain) (range_with_len 1 l.before)
