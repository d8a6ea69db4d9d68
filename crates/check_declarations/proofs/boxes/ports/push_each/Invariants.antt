use Rattle.std.proofs.Common.{◌≡◌, drop}
use Rattle.check_scopes.specs.inner.OneByOne.{with_each_written}
use Rattle.check_declarations.specs.boxes.inner.Ports.{types_alone}
use Rattle.check_declarations.proofs.boxes.ports.push_each.Given as goal

-- what is left leads from here to where all of them lead from the start
abbrev pub invariant-loop-port : goal.invariant-loop-port
invariant-loop-port l = with_each_written (types_alone (drop l.port-index l.ports)) l.at ≡ with_each_written (types_alone l.ports) l.fn.at
