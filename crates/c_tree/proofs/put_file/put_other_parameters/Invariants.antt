use Rattle.std.proofs.Common.{◌≡◌, ◌++◌, drop, map}
use Rattle.std.specs.Prelude.{codes}
use Rattle.std.specs.List.{flat_map}
use Rattle.c_tree.specs.Program.{parameter_text}
use Rattle.c_tree.proofs.put_file.put_other_parameters.Given as goal

abbrev pub invariant-loop-parameter : goal.invariant-loop-parameter
invariant-loop-parameter l =
    l.text.items ++ flat_map (λ part. codes ", " ++ part) (map parameter_text (drop l.parameter-index l.others))
    ≡ l.initial.text.items ++ flat_map (λ part. codes ", " ++ part) (map parameter_text l.others)
