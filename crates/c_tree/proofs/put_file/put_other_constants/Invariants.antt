use Rattle.std.proofs.Common.{◌≡◌, ◌++◌, drop, map}
use Rattle.std.specs.Prelude.{codes}
use Rattle.std.specs.List.{flat_map}
use Rattle.c_tree.specs.Program.{constant_text}
use Rattle.c_tree.proofs.put_file.put_other_constants.Given as goal

abbrev pub invariant-loop-constant : goal.invariant-loop-constant
invariant-loop-constant l =
    l.text.items ++ flat_map (λ part. codes ", " ++ part) (map constant_text (drop l.constant-index l.others))
    ≡ l.initial.text.items ++ flat_map (λ part. codes ", " ++ part) (map constant_text l.others)
