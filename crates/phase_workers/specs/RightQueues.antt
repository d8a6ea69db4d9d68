-- When a queue is right behind the bytes that were read.
use Rattle.std.specs.Prelude.{◌≡◌, ℕ, true, List, [], ◌++◌}
use Rattle.hume_base.specs.declared.types.Ty.{Ty}
use Rattle.hume_base.specs.declared.types.Types.{Types}
use Rattle.hume_base.specs.declared.types.Value.{Value}
use Rattle.hume_streams.specs.Queues.{QueueView, IsQueueOf}

-- The queue is right behind these bytes: it read these values of them, whatever its port has left, and nothing once it is at the end.
pub record IsRightBehind (types : Types) (ty : Ty) (queue : QueueView) (read : List ℕ) (given : List Value) : Type 0 where
  pub right : (rest : List ℕ) → (queue.ended ≡ true → rest ≡ []) → IsQueueOf types ty queue (read ++ rest) given rest
