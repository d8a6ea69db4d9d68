use Rattle.std.proofs.Common.{◌≡◌, ◌==◌, ◌<◌, ℕ, take, Some}
use Rattle.std.specs.List.{find}
use Rattle.hume_model.specs.declared.core_tree.HandC.{HandC}
use Rattle.box_compile.proofs.boxes.are_known.Given as goal

abbrev pub invariant-loop-handler : goal.invariant-loop-handler
invariant-loop-handler l =
    (exn : ℕ) (handler : HandC) → find (λ (handler : HandC). handler.exn == exn) (take l.handler-index l.handlers) ≡ Some handler → exn < l.exceptions
