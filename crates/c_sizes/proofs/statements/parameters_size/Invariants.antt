use Rattle.std.proofs.Common.{◌≡◌, drop}
use Rattle.std.specs.Prelude.{fold}
use Rattle.c_sizes.specs.Frames.{parameters_size, with_parameter}
use Rattle.c_sizes.proofs.statements.parameters_size.Given as goal

abbrev pub invariant-loop-parameter : goal.invariant-loop-parameter
invariant-loop-parameter l =
    fold (with_parameter l.types) l.sum (drop l.parameter-index l.parameters) ≡ parameters_size l.types l.parameters
