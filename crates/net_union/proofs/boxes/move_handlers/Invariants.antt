use Rattle.std.proofs.Common.{◌≡◌, take, map}
use Rattle.union_laws.specs.Moving.{moved_handler}
use Rattle.std.specs.Prelude.{IfOk}
use Rattle.net_union.proofs.boxes.move_handlers.Given as goal

abbrev pub invariant-loop-handler : goal.invariant-loop-handler
invariant-loop-handler l = IfOk l.higher (λ made. made ≡ map (moved_handler l.fn.moves) (take l.handler-index l.handlers))
