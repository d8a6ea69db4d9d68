use Rattle.std.proofs.Common.{◌≡◌, ◌++◌, drop}
use Rattle.std.specs.List.{flat_map}
use Rattle.c_tree.specs.Program.{include_text}
use Rattle.c_tree.proofs.put_file.put_includes.Given as goal

abbrev pub invariant-loop-header : goal.invariant-loop-header
invariant-loop-header l =
    l.text.items ++ flat_map include_text (drop l.header-index l.headers) ≡ l.initial.text.items ++ flat_map include_text l.headers
