-- Where a call stands that serves a session.
use Rattle.std.specs.Prelude.{◌≡◌, ℕ, ◌≤◌, Bool, true, List, [], ◌++◌, length, Some, IfSome, slice_get}
use Rattle.hume_base.specs.declared.types.Value.{Value}
use Rattle.hume_model.specs.declared.core_tree.NodeC.TheVariants.{From}
use Rattle.hume_model.specs.declared.core_tree.StreamC.{StreamC}
use Rattle.hume_model.specs.declared.core_tree.Core.{Core}
use Rattle.hume_net.specs.Parts.{IsStateOf}
use Rattle.hume_net.specs.Start.{no_values}
use Rattle.hume_front.specs.declared.acceptance.Accepted.{Accepted}
use Rattle.hume_front.specs.Accepted.{IsAccepted}
use Rattle.hume_ports.specs.Port.{PortView}
use Rattle.hume_ports.specs.Ports.{names, left_of}
use Rattle.hume_ports.specs.Delivery.{Pairs, Drawn, bytes_for}
use Rattle.box_costs.specs.declared.cost.Cost.{Cost}
use Rattle.port_acts.specs.Early.{read_each}
use Rattle.phase_workers.specs.Engines.{EngineView as Engine}
use Rattle.phase_workers.specs.Engines.{core_of, heap_peak_at, queue_at, span_of, stack_peak_at, state_of, IsRight}
use Rattle.phase_workers.specs.Runnable.{IsRunnable}
use Rattle.run_rounds.specs.declared.rounds.TheConstants.{SPAN}
use Rattle.hume_calls.specs.Reading.{source_reads}
use Rattle.hume_console.specs.declared.ending.Ending.{Ending}
use Rattle.hume_console.specs.declared.places.Places.{Places}
use Rattle.hume_console.specs.Words.{std_in}
use Rattle.hume_console.specs.Courses.{Course, first_do, EndsCourse}
use Rattle.hume_console.specs.inner.Bounds.{bound_of}
use Rattle.hume_console.specs.Hands.{Hands}
use Rattle.hume_console.specs.Headline.{AreOffers, session_course, session_few}
use Rattle.hume_console.specs.Session.{Session, Supplies, AreSupplies, Offer, names_of, text_of}
use Rattle.hume_console.specs.inner.Placed.{ArePlaced}

-- the call

-- A call that has accepted its source: its core, what texts bring to it, the name and the text of the source, and the ports as they
-- were at first.
pub record Call : Type 0 where
  pub core : Core
  pub supplies : Supplies
  pub source : List ℕ
  pub text : List ℕ
  pub first : Hands

-- what it owes if the ports have these texts
abbrev pub owed_by : Call → List Offer → Course
owed_by call offers = first_do (read_each (source_reads call.source)) (session_course call.core call.supplies call.source offers)

-- It ends as a call that owes this, for some texts.
pub record EndsCall (call : Call) (new : Hands) (ending : Ending) : Type 0 where
  pub offers : List Offer
  pub told : AreOffers call.first.ports offers
  pub ends : EndsCourse (session_few call.source call.text) [] (owed_by call offers) call.first new ending

-- Its core is that of the source, and can be run. The source isn't in the port of the commands.
pub record IsServing (call : Call) : Type 0 where
  pub apart : call.source ≡ std_in → ⊥
  pub runnable : IsRunnable call.core
  pub supplies : AreSupplies call.core call.supplies
  pub one : (accepted : Accepted) → IsAccepted call.text accepted → accepted.core ≡ call.core

-- its streams

-- By the number of each stream's node: its present port, how many values that brought, and which. Also the most that each box took,
-- what was read of each port that is there, and what those ports were at first.
pub record Bindings : Type 0 where
  pub port : ℕ → List ℕ
  pub brought : ℕ → ℕ
  pub came : ℕ → List Value
  pub peaks : ℕ → Cost
  pub taken : Pairs
  pub firsts : List PortView

-- the session, where the ports that are there have these texts
abbrev pub session_of : Engine → Bindings → List Offer → Session
session_of engine b offers = record { net = state_of engine; peaks = b.peaks; port = b.port; brought = b.brought; ports = offers }

-- What was read of the present ports: the queue of each input stream is right behind it, and nothing was read of any other port but
-- that of the source and that of the commands, whose end was read if `ended`.
pub record AreRead (core : Core) (source : List ℕ) (engine : Engine) (ended : Bool) (ports : List PortView) (b : Bindings) : Type 0 where
  pub same_names : names ports ≡ names b.firsts
  pub drawn : Drawn b.firsts ports b.taken
  pub right : (n : ℕ) (stream : StreamC) → slice_get core.nodes n ≡ Some (From stream) → IsRight engine n (bytes_for (b.port n) b.taken) (b.came n)
  pub count : (n : ℕ) → b.brought n ≡ length (b.came n)
  pub told : (n : ℕ) (stream : StreamC) → slice_get core.nodes n ≡ Some (From stream) → (queue_at engine n).ended ≡ true
      → IfSome (left_of (b.port n) b.firsts) (λ left. left ≡ bytes_for (b.port n) b.taken)
  pub commands_told : ended ≡ true → IfSome (left_of std_in b.firsts) (λ left. left ≡ bytes_for std_in b.taken)
  pub others : (name : List ℕ) → (name ≡ source → ⊥) → (name ≡ std_in → ⊥)
      → ((n : ℕ) (stream : StreamC) → slice_get core.nodes n ≡ Some (From stream) → b.port n ≡ name → ⊥) → bytes_for name b.taken ≡ []

-- The ports that are there may have these texts, of which that of the commands has this rest: they go on as was read.
pub record MayHave (core : Core) (engine : Engine) (ended : Bool) (b : Bindings) (offers : List Offer) (rest : List ℕ) : Type 0 where
  pub told : AreOffers b.firsts offers
  pub commands : text_of std_in offers ≡ bytes_for std_in b.taken ++ rest
  pub over : ended ≡ true → rest ≡ []
  pub streams : (n : ℕ) (stream : StreamC) → slice_get core.nodes n ≡ Some (From stream)
      → (more : List ℕ) × ((queue_at engine n).ended ≡ true → more ≡ []) × (text_of (b.port n) offers ≡ bytes_for (b.port n) b.taken ++ more)

-- where the call stands

-- What was read of the commands, and whether their end was.
pub record Commands : Type 0 where
  pub bytes : List ℕ
  pub ended : Bool

-- The engine is that of the core, no output stream has taken anything that wasn't written, and the peaks are these.
pub record IsAtRest (core : Core) (engine : Engine) (peaks : ℕ → Cost) : Type 0 where
  pub is_core : core_of engine ≡ core
  pub is_span : span_of engine ≡ SPAN
  pub parts : IsStateOf core (state_of engine)
  pub cleared : (state_of engine).taken ≡ no_values core
  pub heap : (n : ℕ) → heap_peak_at engine n ≡ (peaks n).heap
  pub stack : (n : ℕ) → stack_peak_at engine n ≡ (peaks n).stack

-- All acts were made up to here, and this is left to do for the session and the rest of the commands. Whatever the ports that are there
-- have to read, if it goes on as was read, and however the call then goes on, it ends as one that owes that.
pub record Stands (call : Call) (limit : ℕ) (left : Session → List ℕ → Course) (engine : Engine) (commands : Commands) (places : Places) (now : Hands)
    (b : Bindings) : Type 0 where
  pub serving : IsServing call
  pub rests : IsAtRest call.core engine b.peaks
  pub read : AreRead call.core call.source engine commands.ended now.ports b
  pub are : bytes_for std_in b.taken ≡ commands.bytes
  pub placed : (offers : List Offer) → names_of offers ≡ names now.ports → ArePlaced call.core call.source (session_of engine b offers) (names now.ports) places
  -- no port has brought more values
  pub few : (n : ℕ) → b.brought n ≤ limit
  pub bounds : (session : Session) (rest : List ℕ) → bound_of (left session rest) ≡ session.port
  pub goes_on : (offers : List Offer) (rest : List ℕ) → MayHave call.core engine commands.ended b offers rest → (new : Hands) (ending : Ending)
      → EndsCourse (session_few call.source call.text) b.taken (left (session_of engine b offers) rest) now new ending → EndsCall call new ending

-- what is left to do behind something, by the rest of the commands and the session then
abbrev pub Later : Type 0
Later = List ℕ → Session → Course

-- it begins with the ports that the streams then have
abbrev pub BeginsAsItIs : Later → Type 0
BeginsAsItIs later = (rest : List ℕ) (session : Session) → bound_of (later rest session) ≡ session.port

-- The call stands somewhere with this left to do.
pub record GoesOn (call : Call) (limit : ℕ) (left : Session → List ℕ → Course) (engine : Engine) (commands : Commands) (places : Places)
    (now : Hands) : Type 0 where
  pub bindings : Bindings
  pub stands : Stands call limit left engine commands places now bindings
