-- When a call that reads a port until it has a number of values has too few.
use Rattle.std.specs.Prelude.{◌≡◌, ◌<◌, ℕ, true, false, List, Ok, length}
use Rattle.std.specs.Str.{bytes_eq}
use Rattle.hume_model.specs.declared.core_tree.Core.{Core}
use Rattle.hume_ports.specs.Ports.{is_among}
use Rattle.port_acts.specs.Early.{Reads, names_read}
use Rattle.port_acts.specs.Ends.{Few}
use Rattle.hume_front.specs.declared.acceptance.Accepted.{Accepted}
use Rattle.hume_front.specs.declared.acceptance.Sound.{Sound}
use Rattle.hume_front.specs.Accepted.{IsAccepted, IsSound}
use Rattle.box_calculus.specs.Scripts.{scripted}
use Rattle.run_rounds.specs.RunActs.{run_few}
use Rattle.hume_calls.specs.declared.order.Order.{Order}
use Rattle.hume_calls.specs.declared.order.Order.TheVariants.{Calc, Union}
use Rattle.hume_calls.specs.Words.{Named, further_of}
use Rattle.hume_calls.specs.Reading.{compared_logs, further_reads, script_text}
use Rattle.hume_calls.specs.Unions.{AreAccepted, union_core, union_texts}

-- Of the source the values are bytes.
abbrev pub source_few : List ℕ → Few
source_few source name count bytes = bytes_eq name source ≡ true → length bytes < count

-- Of ports that are read whole, too.
abbrev pub whole_few : Reads → Few
whole_few reads name count bytes = is_among name (names_read reads) ≡ true → length bytes < count

-- Of a log that is compared, too.
abbrev pub log_few : List (List ℕ) → Few
log_few logs name count bytes = is_among name logs ≡ true → length bytes < count

-- The call runs this core: that of its source, the one that its script makes, or that of all its sources.
abbrev pub IsRunBy : Order → Named → List ℕ → (List ℕ → List ℕ) → Core → Type 0
IsRunBy (Calc steps workers place script) named text texts core =
    (sound : Sound) × IsSound text sound × (scripted sound.core (script_text (texts (further_of named))) ≡ Ok core)
IsRunBy (Union steps workers count place) named text texts core =
    (programs : List Accepted) × AreAccepted (union_texts text named texts) programs × (core ≡ union_core programs)
IsRunBy _ named text texts core = (accepted : Accepted) × IsAccepted text accepted × (core ≡ accepted.core)

-- Of a port that is read whole and of a log the values are bytes, and of an input stream of the core that is run those of its whole lines.
pub record CallFew (order : Order) (named : Named) (text : List ℕ) (texts : List ℕ → List ℕ) (name : List ℕ) (count : ℕ) (bytes : List ℕ) : Type 0 where
  pub of_source : source_few named.source name count bytes
  pub of_further : whole_few (further_reads order named) name count bytes
  pub of_log : log_few (compared_logs order named) name count bytes
  pub of_streams : is_among name (names_read (further_reads order named)) ≡ false → (core : Core) → IsRunBy order named text texts core
      → run_few core name count bytes

abbrev pub call_few : Order → Named → List ℕ → (List ℕ → List ℕ) → Few
call_few order named text texts name count bytes = CallFew order named text texts name count bytes
