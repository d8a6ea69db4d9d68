use Rattle.std.proofs.Common.{◌≡◌, ◌<◌, drop}
use Rattle.std.specs.List.{list_any}
use Rattle.hume_base.specs.declared.limits.TheConstants.{MAX_EXCEPTIONS}
use Rattle.look_cores.specs.Raised.{node_lets_out}
use Rattle.look_cores.proofs.raised.may_raise.Given as goal

abbrev pub invariant-loop-node : goal.invariant-loop-node
invariant-loop-node l = l.exn < MAX_EXCEPTIONS → list_any (node_lets_out l.core l.line l.culprit l.exn) (drop l.node-index l.node-items)
    ≡ list_any (node_lets_out l.core l.line l.culprit l.exn) l.node-items
