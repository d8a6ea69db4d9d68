use Rattle.std.proofs.Common.{◌≡◌, ◌++◌, drop}
use Rattle.std.specs.List.{flat_map}
use Rattle.c_tree.specs.Program.{item_text}
use Rattle.c_tree.proofs.put_file.put_items.Given as goal

abbrev pub invariant-loop-item : goal.invariant-loop-item
invariant-loop-item l = l.text.items ++ flat_map item_text (drop l.item-index l.items) ≡ l.initial.text.items ++ flat_map item_text l.items
