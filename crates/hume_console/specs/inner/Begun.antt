-- How a call comes to the first act of its session.
use Rattle.std.specs.Prelude.{◌≡◌, ◌⊎◌, ℕ, List, [], Some, Result, Ok, Err, slice_get}
use Rattle.hume_model.specs.declared.core_tree.NodeC.TheVariants.{From}
use Rattle.hume_model.specs.declared.core_tree.StreamC.{StreamC}
use Rattle.hume_ports.specs.declared.port.Failed.{Failed}
use Rattle.hume_ports.specs.Port.{PortView}
use Rattle.hume_ports.specs.Ports.{names}
use Rattle.hume_ports.specs.Delivery.{Pairs}
use Rattle.port_acts.specs.Acts.{Act}
use Rattle.port_acts.specs.Early.{read_each}
use Rattle.port_acts.specs.Ends.{Fails, Made, never}
use Rattle.hume_calls.specs.Reading.{source_reads}
use Rattle.hume_console.specs.declared.ending.Ending.{Ending}
use Rattle.hume_console.specs.declared.ending.Ending.TheVariants.{Fault, NoMemory}
use Rattle.hume_console.specs.declared.places.Places.{Places}
use Rattle.hume_console.specs.Hands.{Hands}
use Rattle.hume_console.specs.Headline.{AnswersFrom, EndsUntold}
use Rattle.hume_console.specs.Session.{Offer, first_session, names_of, port_of_node}
use Rattle.hume_console.specs.declared.session.Session.{Session as Served}
use Rattle.hume_console.specs.inner.Answering.{StandsAt}
use Rattle.hume_console.specs.inner.Placed.{ArePlaced}
use Rattle.hume_console.specs.inner.Standing.{Call, EndsCall, IsServing}

-- Nothing was done but that the source of the call was read. Its ports have these places.
pub record HasBegun (call : Call) (places : Places) (now : Hands) : Type 0 where
  pub serving : IsServing call
  pub taken : Pairs
  pub made : Made (read_each (source_reads call.source)) taken call.first.ports now.ports
  pub stay : now.gone ≡ call.first.gone
  pub placed : (offers : List Offer) → names_of offers ≡ names now.ports
      → ArePlaced call.core call.source (first_session call.core offers) (names now.ports) places
  pub free : (n : ℕ) (stream : StreamC) → slice_get call.core.nodes n ≡ Some (From stream) → port_of_node (slice_get call.core.nodes n) ≡ call.source → ⊥

-- memory ran out and nothing was done, or the call ends as one that owes its course
abbrev pub EndsStarted : Call → Hands → Hands → Ending → Type 0
EndsStarted call old new ending = ((ending ≡ NoMemory) × (new ≡ old)) ⊎ EndsCall call new ending

-- the call ends with an answer, or an act failed
abbrev pub EndsServed : Call → Hands → Result Ending Failed → Type 0
EndsServed call new (Ok ending) = EndsCall call new ending
EndsServed call new (Err failed) = EndsCall call new Fault

-- memory ran out and nothing was done, or the acts were made, or one of them failed
abbrev pub EndsAlone : List Act → Ending → List PortView → List PortView → Ending → Type 0
EndsAlone acts answer old new ending =
    ((ending ≡ NoMemory) × (new ≡ old)) ⊎ (((ending ≡ answer) × Made acts [] old new) ⊎ ((ending ≡ Fault) × Fails never [] acts old new))

-- the call ends untold, or as its source and its commands say
abbrev pub EndsAnswered : List ℕ → Hands → Hands → Ending → Type 0
EndsAnswered source old new ending = EndsUntold source old new ending ⊎ AnswersFrom source old new ending

-- the session stands at its first line, or the call has ended, as an act failed
abbrev pub EndsTable : Call → Served → Hands → Result (Unit {0}) Failed → Type 0
EndsTable call session now (Ok done) = StandsAt call 1 session now
EndsTable call session now (Err failed) = EndsCall call now Fault
