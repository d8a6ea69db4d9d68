-- How a session goes on where an exchange is asked for.
use Rattle.std.specs.Prelude.{◌≡◌, ℕ, Bool, true, false, List, [], ◌∷◌, Option, Some, Result, Ok, Err, slice_get}
use Rattle.hume_model.specs.declared.core_tree.NodeC.{NodeC}
use Rattle.hume_model.specs.declared.core_tree.NodeC.TheVariants.{From, To}
use Rattle.hume_model.specs.declared.core_tree.StreamC.{StreamC}
use Rattle.hume_model.specs.declared.core_tree.Core.{Core}
use Rattle.hume_streams.specs.Queues.{IsQueueOf}
use Rattle.port_acts.specs.Acts.{Act, finishes}
use Rattle.phase_workers.specs.StreamTypes.{type_at}
use Rattle.hume_ports.specs.declared.port.Failed.{Failed}
use Rattle.phase_workers.specs.Engines.{EngineView as Engine}
use Rattle.phase_workers.specs.Engines.{core_of, queue_at}
use Rattle.hume_console.specs.declared.ending.Ending.TheVariants.{Fault}
use Rattle.hume_console.specs.declared.places.Places.{Places}
use Rattle.hume_console.specs.Commands.{no_exchange_line}
use Rattle.hume_console.specs.Courses.{Course, first_do}
use Rattle.hume_console.specs.Hands.{Hands}
use Rattle.hume_console.specs.Serving.{exchange_course, tells}
use Rattle.hume_console.specs.Session.{Session, stream_named}
use Rattle.hume_console.specs.inner.Standing.{Call, Commands, EndsCall, GoesOn, Later}

-- the port of that name is finished, if it is that of an output stream
abbrev pub finish_of : List ℕ → Option NodeC → List Act
finish_of name (Some (To stream)) = finishes name ∷ []
finish_of name _ = []

-- If the node is an input stream, its queue is right for each text of a port of which nothing was read. The other queues stay.
pub record IsRebound (core : Core) (old new : Engine) (n : ℕ) : Type 0 where
  pub same_core : core_of new ≡ core_of old
  pub fresh : (stream : StreamC) → slice_get core.nodes n ≡ Some (From stream) → (queue_at new n).ended ≡ false
  pub right : (stream : StreamC) → slice_get core.nodes n ≡ Some (From stream) → (text : List ℕ)
      → IsQueueOf (core_of old).types (type_at (core_of old) n) (queue_at new n) text [] text
  pub others : (m : ℕ) (stream : StreamC) → slice_get core.nodes m ≡ Some (From stream) → (m ≡ n → ⊥) → queue_at new m ≡ queue_at old m

-- the exchange of the ports of these names is left to do, and then the rest
abbrev pub left_exchange : Call → ℕ → List ℕ → List ℕ → Later → Session → List ℕ → Course
left_exchange call number stream port later session rest =
    exchange_course call.core call.source session number (stream_named call.core stream) port (later rest)

-- only the rest is left to do
abbrev pub left_later : Later → Session → List ℕ → Course
left_later later session rest = later rest session

-- it is left to tell that there is no such exchange
abbrev pub left_refusal : ℕ → Later → Session → List ℕ → Course
left_refusal number later session rest = first_do (tells (no_exchange_line number)) (later rest session)

-- The exchange was made, or it can't be, or a finish failed.
abbrev pub EndsExchange : Call → ℕ → ℕ → Later → Engine → Commands → Places → Hands → Result Bool Failed → Type 0
EndsExchange call limit number later engine commands places now (Ok true) = GoesOn call limit (left_later later) engine commands places now
EndsExchange call limit number later engine commands places now (Ok false) = GoesOn call limit (left_refusal number later) engine commands places now
EndsExchange call limit number later engine commands places now (Err failed) = EndsCall call now Fault
