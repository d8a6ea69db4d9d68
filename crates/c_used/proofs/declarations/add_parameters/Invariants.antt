use Rattle.std.proofs.Common.{◌≡◌, drop}
use Rattle.c_used.specs.Uses.{parameters_use}
use Rattle.c_used.specs.inner.Names.{with_names}
use Rattle.c_used.proofs.declarations.add_parameters.Given as goal

abbrev pub invariant-loop-parameter : goal.invariant-loop-parameter
invariant-loop-parameter l =
    with_names l.names (parameters_use (drop l.parameter-index l.parameters)) ≡ with_names l.initial.names (parameters_use l.parameters)
