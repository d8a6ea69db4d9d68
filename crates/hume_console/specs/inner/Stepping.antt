-- How a session goes on where supersteps are asked for.
use Rattle.std.specs.Prelude.{◌≡◌, ◌⊎◌, ℕ, ◌+◌, ◌-◌, ◌<◌, ◌≤◌, List, [], ◌++◌, length, Option, None, Some, Result, Ok, Err, slice_get, slice_index_or, slice_set}
use Rattle.std.specs.List.{flat_map, range_with_len}
use Rattle.hume_base.specs.declared.types.Value.{Value}
use Rattle.hume_model.specs.declared.core_tree.NodeC.{NodeC}
use Rattle.hume_model.specs.declared.core_tree.NodeC.TheVariants.{From, To}
use Rattle.hume_model.specs.declared.core_tree.StreamC.{StreamC}
use Rattle.hume_model.specs.declared.core_tree.Core.{Core}
use Rattle.hume_net.specs.declared.state.State.{State}
use Rattle.hume_net.specs.Nodes.{IsInputStream, IsOutputStream}
use Rattle.hume_net.specs.Sides.{each_node, part_of}
use Rattle.hume_ports.specs.declared.port.Failed.{Failed}
use Rattle.hume_ports.specs.Port.{PortView}
use Rattle.hume_ports.specs.Ports.{place_of}
use Rattle.hume_ports.specs.Delivery.{Pairs, bytes_for}
use Rattle.hume_streams.specs.places.LineWrites.{line_writes}
use Rattle.port_acts.specs.Ends.{Made}
use Rattle.phase_workers.specs.Engines.{EngineView as Engine}
use Rattle.phase_workers.specs.Engines.{coming_at, core_of, span_of, state_of, ArePeaksKept}
use Rattle.phase_workers.specs.NodeFills.{HasEnough, HasReadAll}
use Rattle.phase_workers.specs.StreamTypes.{type_at}
use Rattle.run_rounds.specs.declared.bad_line.BadLine.{BadLine}
use Rattle.run_rounds.specs.declared.rounds.TheConstants.{SPAN}
use Rattle.run_rounds.specs.Writes.{bad_value_line, name_of}
use Rattle.hume_console.specs.declared.ending.Ending.TheVariants.{BadValue, Fault}
use Rattle.hume_console.specs.declared.places.Places.{Places}
use Rattle.hume_console.specs.Words.{std_in}
use Rattle.hume_console.specs.Courses.{Course, first_do}
use Rattle.hume_console.specs.Hands.{Hands}
use Rattle.hume_console.specs.Serving.{closed, step_course, step_wants, tells}
use Rattle.hume_console.specs.Session.{Session, Offer, blocked_by}
use Rattle.hume_console.specs.inner.Exchanging.{left_later}
use Rattle.hume_console.specs.inner.Standing.{AreRead, BeginsAsItIs, Bindings, Call, Commands, EndsCall, GoesOn, Later, MayHave, Stands, session_of}

-- the step is left to do, and then the rest
abbrev pub left_step : Call → ℕ → Later → Session → List ℕ → Course
left_step call steps later session rest = step_course call.core call.supplies session steps (blocked_by call.core call.supplies session steps) (later rest)

-- it is left to tell the bad line of the node's stream, and to end
abbrev pub left_bad : Call → ℕ → ℕ → Session → List ℕ → Course
left_bad call node line session rest =
    first_do (tells (bad_value_line (name_of (slice_get call.core.nodes node)) line)) (closed call.core session BadValue)

-- A step that is to be made: of how many supersteps, what is left to do behind it, and where the call stands before it.
pub record Step : Type 0 where
  pub call : Call
  pub limit : ℕ
  pub steps : ℕ
  pub later : Later
  pub engine : Engine
  pub commands : Commands
  pub places : Places
  pub before : Hands
  pub bindings : Bindings

-- the ports, with the same ones gone
abbrev pub hands_in : Step → List PortView → Hands
hands_in step ports = record { ports = ports; gone = step.before.gone }

-- The call stands before the step.
pub record StandsBefore (step : Step) : Type 0 where
  pub begins : BeginsAsItIs step.later
  pub stands : Stands step.call step.limit (left_step step.call step.steps step.later) step.engine step.commands step.places step.before step.bindings
  pub least : step.steps ≤ SPAN
  -- no port has brought so many values that the number of a bad line could not be told
  pub most : step.limit + 64 ≤ 2000000000

-- what was read once these pairs were, which brought these values
abbrev pub filled_bindings : Bindings → (ℕ → List Value) → Pairs → Bindings
filled_bindings b fed ts = record b { taken = b.taken ++ ts; came = λ n. b.came n ++ fed n; brought = λ n. b.brought n + length (fed n) }

-- the state in which these values come too
abbrev pub filled_state : Core → State → (ℕ → List Value) → State
filled_state core state fed = record state { coming = each_node core (λ n. (part_of state n).coming ++ fed n) }

-- The input streams among the first nodes were filled for the step, with these values, and nothing else was done.
pub record StandsFilling (step : Step) (count : ℕ) (engine : Engine) (ports : List PortView) : Type 0 where
  pub begun : StandsBefore step
  pub fed : ℕ → List Value
  pub ts : Pairs
  pub same_core : core_of engine ≡ step.call.core
  pub same_span : span_of engine ≡ SPAN
  pub peaks : ArePeaksKept step.engine engine
  pub state : state_of engine ≡ filled_state step.call.core (state_of step.engine) fed
  pub read : AreRead step.call.core step.call.source engine step.commands.ended ports (filled_bindings step.bindings fed ts)
  pub no_commands : bytes_for std_in ts ≡ []
  pub made : Made (step_wants step.call.core (session_of step.engine step.bindings []) step.steps count) ts step.before.ports ports
  pub few : (n : ℕ) → length (fed n) ≤ step.steps - length (coming_at step.engine n)
  pub none_later : (n : ℕ) → count ≤ n → fed n ≡ []
  pub none : (n : ℕ) → (IsInputStream step.call.core n → ⊥) → fed n ≡ []
  pub filled : (n : ℕ) (stream : StreamC) → n < count → slice_get step.call.core.nodes n ≡ Some (From stream)
      → HasEnough step.steps engine n ⊎ HasReadAll engine n
  pub earlier : (offers : List Offer) (rest : List ℕ) → MayHave step.call.core engine step.commands.ended (filled_bindings step.bindings fed ts) offers rest
      → MayHave step.call.core step.engine step.commands.ended step.bindings offers rest

-- The step is blocked by a bad line of that number.
abbrev pub IsBlockedAt : Step → ℕ → ℕ → Engine → List PortView → Type 0
IsBlockedAt step node line engine ports =
    GoesOn step.call (step.limit + 64) (left_bad step.call node line) engine step.commands step.places (hands_in step ports)

abbrev pub EndsNode : Step → ℕ → Engine → List PortView → Result (Option ℕ) Failed → Type 0
EndsNode step node engine ports (Ok None) = StandsFilling step (node + 1) engine ports
EndsNode step node engine ports (Ok (Some line)) = IsBlockedAt step node line engine ports
EndsNode step node engine ports (Err failed) = EndsCall step.call (hands_in step ports) Fault

abbrev pub EndsFills : Step → Engine → List PortView → Result (Option BadLine) Failed → Type 0
EndsFills step engine ports (Ok None) = StandsFilling step (length step.call.core.nodes) engine ports
EndsFills step engine ports (Ok (Some bad)) = IsBlockedAt step bad.node bad.line engine ports
EndsFills step engine ports (Err failed) = EndsCall step.call (hands_in step ports) Fault

-- The step was made, or a stream blocks it, or an act failed.
abbrev pub EndsStep : Step → Engine → List PortView → Result (Option BadLine) Failed → Type 0
EndsStep step engine ports (Ok None) = GoesOn step.call (step.limit + 64) (left_later step.later) engine step.commands step.places (hands_in step ports)
EndsStep step engine ports (Ok (Some bad)) = IsBlockedAt step bad.node bad.line engine ports
EndsStep step engine ports (Err failed) = EndsCall step.call (hands_in step ports) Fault

-- what output streams have taken

-- the lines of what the node has taken, if it is an output stream, to the port of that name
abbrev pub lines_at : Core → List ℕ → ℕ → Option NodeC → List Value → Pairs
lines_at core port n (Some (To stream)) values = line_writes port core.types (type_at core n) values
lines_at core port n _ values = []

-- those of all nodes, by the ports that they have
abbrev pub lines_of_all : Core → (ℕ → List ℕ) → State → Pairs
lines_of_all core port state =
    flat_map (λ n. lines_at core (port n) n (slice_get core.nodes n) (part_of state n).taken) (range_with_len 0 (length core.nodes))

-- the state in which the node has forgotten what it has taken, if it is an output stream
abbrev pub cleared_at : ℕ → Option NodeC → State → State
cleared_at n (Some (To stream)) state = record state { taken = slice_set state.taken n [] }
cleared_at n _ state = state

-- The supersteps were made and their lines written, or a write failed.
abbrev pub EndsMade : Step → Engine → List PortView → Result (Unit {0}) Failed → Type 0
EndsMade step engine ports (Ok done) = GoesOn step.call (step.limit + 64) (left_later step.later) engine step.commands step.places (hands_in step ports)
EndsMade step engine ports (Err failed) = EndsCall step.call (hands_in step ports) Fault

-- The streams among the first nodes were filled for the step, which is of that many supersteps and has the ports at these places.
pub record IsFilling (step : Step) (count steps : ℕ) (places : List ℕ) (engine : Engine) (ports : List PortView) : Type 0 where
  pub is_steps : step.steps ≡ steps
  pub are_places : step.places.streams.items ≡ places
  pub stands : StandsFilling step count engine ports

-- A step of that many supersteps is to be made by this engine, over these ports.
pub record IsBefore (step : Step) (steps : ℕ) (places : Places) (engine : Engine) (ports : List PortView) : Type 0 where
  pub is_steps : step.steps ≡ steps
  pub are_places : step.places ≡ places
  pub is_engine : step.engine ≡ engine
  pub are_ports : step.before.ports ≡ ports
  pub stands : StandsBefore step

-- Each node's place is that of a port.
pub record AreWithin (core : Core) (count : ℕ) (places : List ℕ) : Type 0 where
  pub long : length places ≡ length core.nodes
  pub each : (n : ℕ) (stream : StreamC) → slice_get core.nodes n ≡ Some (To stream) → slice_index_or places n 0 < count

-- The output streams have their ports at these places.
abbrev pub HavePlaces : Core → (ℕ → List ℕ) → List (List ℕ) → List ℕ → Type 0
HavePlaces core port names places = (n : ℕ) (stream : StreamC) → slice_get core.nodes n ≡ Some (To stream)
    → place_of (port n) names ≡ Some (slice_index_or places n 0)

-- no other node has taken anything
abbrev pub OnlyOutputsTook : Core → State → Type 0
OnlyOutputsTook core state = (n : ℕ) → (IsOutputStream core n → ⊥) → (part_of state n).taken ≡ []
