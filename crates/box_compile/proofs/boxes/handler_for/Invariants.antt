use Rattle.std.proofs.Common.{◌≡◌, drop, ◌==◌}
use Rattle.std.specs.List.{find}
use Rattle.hume_model.specs.declared.core_tree.HandC.{HandC}
use Rattle.box_compile.proofs.boxes.handler_for.Given as goal

abbrev pub invariant-loop-handler : goal.invariant-loop-handler
invariant-loop-handler l =
    find (λ (handler : HandC). handler.exn == l.exn) (drop l.handler-index l.handlers)
    ≡ find (λ (handler : HandC). handler.exn == l.exn) l.handlers
