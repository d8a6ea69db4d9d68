-- How the parts of a call end that come after its source was read.
use Rattle.std.specs.Prelude.{◌≡◌, ◌⊎◌, ℕ, Bool, false, List, [], ◌∷◌}
use Rattle.std.specs.Str.{bytes_eq}
use Rattle.hume_base.specs.declared.rule.Refusal.{Refusal}
use Rattle.port_acts.specs.Places.{IsPlaceOf}
use Rattle.hume_ports.specs.Port.{PortView}
use Rattle.hume_ports.specs.Ports.{names}
use Rattle.hume_ports.specs.Delivery.{Pairs}
use Rattle.port_acts.specs.Early.{Stops, read_each}
use Rattle.port_acts.specs.Ends.{Few, never, Made, Fails, Owed}
use Rattle.hume_model.specs.declared.core_tree.Core.{Core}
use Rattle.run_rounds.specs.RunActs.{run_few}
use Rattle.run_rounds.specs.Runs.{Comes}
use Rattle.hume_calls.specs.declared.status.Status.{Status}
use Rattle.hume_calls.specs.declared.status.Status.TheVariants.{Fault, NoMemory}
use Rattle.hume_calls.specs.declared.order.Order.{Order}
use Rattle.hume_front.specs.Accepted.{Breaks}
use Rattle.hume_calls.specs.Owed.{IsOwed, IsOwedDemo, owed_refused, owed_run}
use Rattle.hume_calls.specs.Few.{call_few}
use Rattle.hume_calls.specs.Words.{Named, further_of}
use Rattle.hume_calls.specs.Reading.{further_reads}
use Rattle.hume_calls.specs.Headline.{IsText}

-- Memory ran out, and no port was touched.
abbrev pub RunsOut : List PortView → List PortView → Status → Type 0
RunsOut old new status = (status ≡ NoMemory) × (new ≡ old)

-- The owed acts were made and the owed answer given, or one of the acts failed. The bytes of `earlier` were taken before.
abbrev pub EndsAfter : Few → Pairs → Owed Status → List PortView → List PortView → Status → Type 0
EndsAfter few earlier owed old new status =
    ((status ≡ owed.answer) × (taken : Pairs) × Made owed.acts taken old new) ⊎ ((status ≡ Fault) × Fails few earlier owed.acts old new)

-- Acts without wants are owed, or memory ran out before them.
abbrev pub EndsOwed : Owed Status → List PortView → List PortView → Status → Type 0
EndsOwed owed old new status = RunsOut old new status ⊎ EndsAfter never [] owed old new status

-- A rule that the source of that text breaks is told, or memory ran out.
abbrev pub EndsRefused : List ℕ → List PortView → List PortView → Status → Type 0
EndsRefused text old new status = RunsOut old new status ⊎ ((refusal : Refusal) × Breaks text refusal × EndsOwed (owed_refused refusal) old new status)

-- The call ends as one that owes what the source's text asks for.
pub record OwesFor (order : Order) (named : Named) (text : List ℕ) (old new : List PortView) (status : Status) : Type 0 where
  pub texts : List ℕ → List ℕ
  pub told : IsText named.source old texts
  pub owed : Owed Status
  pub owes : IsOwed order named text (names old) texts owed
  pub ends : EndsAfter (call_few order named text texts) ((named.source, text) ∷ []) owed old new status

-- So it ends, or memory ran out before, when nothing was touched but by further reads.
abbrev pub EndsText : Order → Named → List ℕ → List PortView → List PortView → Status → Type 0
EndsText order named text old new status =
    ((status ≡ NoMemory) × Stops (read_each (further_reads order named)) old new) ⊎ OwesFor order named text old new status

-- The demo ends as one that owes the lines of its net, or memory ran out before.
abbrev pub EndsDemo : ℕ → ℕ → List PortView → List PortView → Status → Type 0
EndsDemo number steps old new status =
    RunsOut old new status ⊎ ((owed : Owed Status) × IsOwedDemo number steps owed × EndsAfter never [] owed old new status)

-- The call ends as one that owes the run of what comes from its ports.
pub record RunsCore (traced : Bool) (steps : ℕ) (core : Core) (old new : List PortView) (status : Status) : Type 0 where
  pub comes : Comes core old
  pub ends : EndsAfter (run_few core) [] (owed_run traced steps core comes.inputs) old new status

-- The call names one further port, which stands at the place and isn't the source's.
pub record IsFurtherAt (named : Named) (names : List (List ℕ)) (at : ℕ) : Type 0 where
  pub only : named.others ≡ further_of named ∷ []
  pub place : IsPlaceOf (further_of named) names at
  pub apart : bytes_eq (further_of named) named.source ≡ false
