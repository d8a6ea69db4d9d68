-- What every call of the tool promises. The clauses of the call `hume` cite this page.
use Rattle.std.specs.Prelude.{◌≡◌, ◌⊎◌, ⊤, ℕ, false, List, [], Option, None, Some, IfSome, IsSomeAnd, IsTrue}
use Rattle.std.specs.List.{list_any}
use Rattle.std.specs.Option.{MatchOption, is_none}
use Rattle.std.specs.Str.{bytes_eq}
use Rattle.hume_ports.specs.Port.{PortView}
use Rattle.hume_ports.specs.Ports.{names, place_of, left_of}
use Rattle.port_acts.specs.Ends.{Owed, Fails, EndsAs, never}
use Rattle.port_acts.specs.Early.{Stops, after_reads, read_each}
use Rattle.run_rounds.specs.Streams.{std_out}
use Rattle.hume_calls.specs.declared.status.Status.{Status}
use Rattle.hume_calls.specs.declared.status.Status.TheVariants.{Usage, Fault, NoMemory}
use Rattle.hume_calls.specs.declared.order.Order.{Order}
use Rattle.hume_calls.specs.Words.{Named, named_by, order_of, source_alone}
use Rattle.hume_calls.specs.Reading.{source_text, source_reads, early_reads}
use Rattle.hume_calls.specs.Owed.{IsOwed}
use Rattle.hume_calls.specs.Few.{source_few, call_few}

-- A port that the words name is missing.
abbrev pub LacksPort : List (List ℕ) → Named → Type 0
LacksPort names named = (place_of named.source names ≡ None) ⊎ IsTrue (list_any (λ name. is_none (place_of name names)) named.others)

-- The words have no form, or there is no port `std_out`, or none of a name that they give.
abbrev pub IsUsage : List (List ℕ) → List (List ℕ) → Type 0
IsUsage words names = MatchOption (order_of words) ⊤ (λ order. (place_of std_out names ≡ None) ⊎ IsSomeAnd (named_by words order) (LacksPort names))

-- Each port but the source's has this text to read, where it tells what it has left.
abbrev pub IsText : List ℕ → List PortView → (List ℕ → List ℕ) → Type 0
IsText source ports texts =
    (name : List ℕ) → bytes_eq name source ≡ false → IfSome (left_of name ports) (λ left. texts name ≡ left)

-- The call reads its source from the port of that name, and ends as one that owes what its text asks for. Of a port that
-- doesn't tell what it has left, some text is spoken of.
pub record AnswersFrom (order : Order) (named : Named) (old new : List PortView) (status : Status) : Type 0 where
  pub text : List ℕ
  pub told : IfSome (left_of named.source old) (λ left. text ≡ source_text left)
  pub texts : List ℕ → List ℕ
  pub texts_told : IsText named.source old texts
  pub owed : Owed Status
  pub owes : IsOwed order named text (names old) texts owed
  pub ends : EndsAs (call_few order named text texts) (after_reads (source_reads named.source) owed) Fault old new status

-- what a call without a source owes: no text is spoken of
abbrev pub OwesAlone : Order → List PortView → Owed Status → Type 0
OwesAlone order ports owed = IsOwed order (source_alone []) [] (names ports) (λ name. []) owed

-- The call reads nothing, and ends as one that owes what the words ask for, or memory ran out and no port was touched.
abbrev pub AnswersAlone : Order → List PortView → List PortView → Status → Type 0
AnswersAlone order old new status =
    ((status ≡ NoMemory) × (new ≡ old)) ⊎ ((owed : Owed Status) × OwesAlone order old owed × EndsAs never owed Fault old new status)

-- The call ends when it has only read: memory ran out, or the read of its source failed.
abbrev pub EndsUntold : Order → Named → List PortView → List PortView → Status → Type 0
EndsUntold order named old new status =
    ((status ≡ NoMemory) × Stops (read_each (early_reads order named)) old new)
    ⊎ ((status ≡ Fault) × Fails (source_few named.source) [] (read_each (source_reads named.source)) old new)

-- A call with a source is answered as the source says, or ends before it has written anything. A demo has no source.
abbrev pub Answers : Order → Option Named → List PortView → List PortView → Status → Type 0
Answers order None old new status = AnswersAlone order old new status
Answers order (Some named) old new status = EndsUntold order named old new status ⊎ AnswersFrom order named old new status

-- Words with a form, over ports that are there, are answered by what they ask for.
abbrev pub Headline : List (List ℕ) → List PortView → List PortView → Status → Type 0
Headline words old new status = IfSome (order_of words) (λ order. (status ≡ Usage → ⊥) → Answers order (named_by words order) old new status)
