-- What a session promises. The clauses of the call `console` cite this page.
use Rattle.std.specs.Prelude.{◌≡◌, ◌⊎◌, ⊤, ℕ, ◌<◌, List, [], ◌∷◌, length, Option, None, Some, IfSome, slice_get}
use Rattle.std.specs.List.{AllZip, slice_index_or}
use Rattle.std.specs.Option.{MatchOption}
use Rattle.hume_base.specs.declared.types.Value.{Value}
use Rattle.hume_base.specs.declared.rule.Refusal.{Refusal}
use Rattle.hume_base.specs.declared.rule.Rule.TheVariants.{C55}
use Rattle.hume_model.specs.declared.core_tree.NodeC.TheVariants.{From}
use Rattle.hume_model.specs.declared.core_tree.StreamC.{StreamC}
use Rattle.hume_model.specs.declared.core_tree.Core.{Core}
use Rattle.hume_front.specs.declared.acceptance.Accepted.{Accepted}
use Rattle.hume_front.specs.Accepted.{IsAccepted, Breaks}
use Rattle.hume_ports.specs.Port.{PortView}
use Rattle.hume_ports.specs.Ports.{names, place_of, left_of}
use Rattle.hume_streams.specs.Good.{IsGoodUntil}
use Rattle.hume_streams.specs.Lines.{lines_of, whole_lines}
use Rattle.port_acts.specs.Acts.{write_each}
use Rattle.port_acts.specs.Early.{Stops, read_each}
use Rattle.port_acts.specs.Ends.{Few}
use Rattle.phase_workers.specs.StreamTypes.{type_at}
use Rattle.run_rounds.specs.Streams.{std_out, streams}
use Rattle.hume_calls.specs.Few.{source_few}
use Rattle.hume_calls.specs.Owed.{owed_refused, table_writes}
use Rattle.hume_calls.specs.Reading.{source_reads, source_text}
use Rattle.hume_calls.specs.Streams.{unfit_line}
use Rattle.hume_console.specs.declared.ending.Ending.{Ending}
use Rattle.hume_console.specs.declared.ending.Ending.TheVariants.{Usage, Refused, Fault, NoMemory}
use Rattle.hume_console.specs.declared.words.Opening.{Opening}
use Rattle.hume_console.specs.Words.{opening_of, std_in}
use Rattle.hume_console.specs.Courses.{Bound, Course, ends, first_do, EndsCourse, FailsIn}
use Rattle.hume_console.specs.Hands.{Hands}
use Rattle.hume_console.specs.Session.{Offer, Supplies, AreSupplies, first_session, text_of}
use Rattle.hume_console.specs.Serving.{served}

-- usage

-- the name of the source's port
abbrev pub source_in : List (List ℕ) → Opening → List ℕ
source_in words opening = slice_index_or words opening.source []

-- The words have no form, or there is no port `std_in` or `std_out`, or none of the source's name.
abbrev pub IsUsage : List (List ℕ) → List (List ℕ) → Type 0
IsUsage words names = MatchOption (opening_of words) ⊤ (λ opening.
    (place_of (source_in words opening) names ≡ None) ⊎ ((place_of std_in names ≡ None) ⊎ (place_of std_out names ≡ None)))

-- what is owed

-- Each port has this text to read, where it tells what it has left.
abbrev pub AreOffers : List PortView → List Offer → Type 0
AreOffers ports offers = AllZip (λ port offer. (port.name ≡ offer.name) × IfSome port.left (λ left. offer.text ≡ left)) ports offers

-- The source isn't accepted for this rule, or a stream's port is missing, the source's, `std_in` or an earlier stream's.
pub data IsRefusal (text : List ℕ) (names : List (List ℕ)) (source : List ℕ) : Refusal → Type 0 where
  broken : (refusal : Refusal) → Breaks text refusal → IsRefusal text names source refusal
  unfit : (accepted : Accepted) → IsAccepted text accepted → (line : ℕ) → unfit_line names source (std_in ∷ []) (streams accepted.core) ≡ Some line
      → IsRefusal text names source (record { rule = C55; line = line })

-- the rule is told, and no stream has a port
abbrev pub refused : Refusal → Course
refused refusal = ends (λ n. []) (owed_refused refusal).acts Refused

-- the table, and then the commands of the text that `std_in` has
abbrev pub session_course : Core → Supplies → List ℕ → List Offer → Course
session_course core supplies source offers =
    first_do (write_each (table_writes core)) (served core supplies source (first_session core offers) 1 (lines_of (text_of std_in offers)))

-- What a session of the source of that text owes, over ports of these names of which each has that text to read.
abbrev pub IsOwed : List ℕ → List ℕ → List (List ℕ) → List Offer → Course → Type 0
IsOwed text source names offers course =
    ((refusal : Refusal) × IsRefusal text names source refusal × (course ≡ refused refusal))
    ⊎ ((accepted : Accepted) × IsAccepted text accepted × (unfit_line names source (std_in ∷ []) (streams accepted.core) ≡ None)
    × (supplies : Supplies) × AreSupplies accepted.core supplies × (course ≡ session_course accepted.core supplies source offers))

-- when too few values have come

-- Of the source the values are bytes, of the commands whole lines, and of an input stream those of the whole lines of its port.
pub record SessionFew (source text : List ℕ) (bound : Bound) (name : List ℕ) (count : ℕ) (bytes : List ℕ) : Type 0 where
  pub of_source : source_few source name count bytes
  pub of_commands : name ≡ std_in → length (lines_of (whole_lines bytes)) < count
  pub of_streams : (accepted : Accepted) → IsAccepted text accepted → (n : ℕ) (stream : StreamC)
      → slice_get accepted.core.nodes n ≡ Some (From stream) → bound n ≡ name → (good : List Value) (bad : Option ℕ)
      → IsGoodUntil accepted.core.types (type_at accepted.core n) (whole_lines bytes) good bad → length good < count

-- the same by source, text, bound ports, name, number and bytes
abbrev pub session_few : List ℕ → List ℕ → Bound → Few
session_few source text bound name count bytes = SessionFew source text bound name count bytes

-- the promise

-- The call reads its source, and ends as one that owes what its text asks for. Of a port that doesn't tell what it has left, some text
-- is spoken of.
pub record AnswersFrom (source : List ℕ) (old new : Hands) (ending : Ending) : Type 0 where
  pub text : List ℕ
  pub told : IfSome (left_of source old.ports) (λ left. text ≡ source_text left)
  pub offers : List Offer
  pub offers_told : AreOffers old.ports offers
  pub course : Course
  pub owes : IsOwed text source (names old.ports) offers course
  pub ends : EndsCourse (session_few source text) [] (first_do (read_each (source_reads source)) course) old new ending

-- The call ends when it has only read its source: memory ran out, or the read failed.
abbrev pub EndsUntold : List ℕ → Hands → Hands → Ending → Type 0
EndsUntold source old new ending = (new.gone ≡ old.gone)
    × (((ending ≡ NoMemory) × Stops (read_each (source_reads source)) old.ports new.ports)
    ⊎ ((ending ≡ Fault) × FailsIn (source_few source) [] (read_each (source_reads source)) old new))

-- Words with a form, over ports that are there, are answered as the source and the commands say, or not at all.
abbrev pub Headline : List (List ℕ) → Hands → Hands → Ending → Type 0
Headline words old new ending = IfSome (opening_of words) (λ opening. (ending ≡ Usage → ⊥)
    → EndsUntold (source_in words opening) old new ending ⊎ AnswersFrom (source_in words opening) old new ending)
