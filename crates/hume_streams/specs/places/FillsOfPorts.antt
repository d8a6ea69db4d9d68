-- What a fill of a queue from the first port of a name does to all ports.
use Rattle.std.specs.Prelude.{◌≡◌, ⊤, ℕ, List, [], ◌∷◌, Option, None, Some, Result, Ok, Err}
use Rattle.hume_base.specs.declared.types.Ty.{Ty}
use Rattle.hume_base.specs.declared.types.Types.{Types}
use Rattle.hume_ports.specs.Port.{PortView}
use Rattle.hume_ports.specs.Ports.{of_first}
use Rattle.hume_ports.specs.Delivery.{Progress, ReadFailure}
use Rattle.hume_streams.specs.declared.queue.FillError.{FillError}
use Rattle.hume_streams.specs.declared.queue.FillError.TheVariants.{BadValue, Failed}
use Rattle.hume_streams.specs.Queues.{QueueView}
use Rattle.hume_streams.specs.Fills.{Fills}

-- the first port with that name, if there is one
abbrev pub first_port : List ℕ → List PortView → Option PortView
first_port name ports = of_first None (λ port. Some port) name ports

-- These bytes were read from the first port with that name, and no port was written to. No call has failed, or one read of that
-- port, the last.
abbrev pub ReadsBytes : List ℕ → List ℕ → List PortView → List PortView → Result (Unit {0}) FillError → Type 0
ReadsBytes name bytes olds news (Ok _) = Progress olds news ((name, bytes) ∷ []) []
ReadsBytes name bytes olds news (Err (BadValue line)) = Progress olds news ((name, bytes) ∷ []) []
ReadsBytes name bytes olds news (Err Failed) = ReadFailure name olds news ((name, bytes) ∷ []) []

-- A fill of the queue from the first port with that name: what it read, for the queue and in the list of all ports.
pub record FillsFrom (types : Types) (ty : Ty) (want : ℕ) (old new : QueueView) (name : List ℕ) (olds news : List PortView)
    (result : Result (Unit {0}) FillError) : Type 0 where
  pub before : PortView
  pub after : PortView
  pub was_first : first_port name olds ≡ Some before
  pub is_first : first_port name news ≡ Some after
  pub fills : Fills types ty want old new before after result
  pub reads : ReadsBytes name fills.bytes olds news result

-- The fill didn't end by a failed read.
abbrev pub NoReadFails : Result (Unit {0}) FillError → Type 0
NoReadFails (Ok _) = ⊤
NoReadFails (Err (BadValue line)) = ⊤
NoReadFails (Err Failed) = ⊥
