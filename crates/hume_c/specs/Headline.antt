-- What a call promises. The clauses of the call `hume_c` cite this page.
use Rattle.std.specs.Prelude.{◌≡◌, ◌⊎◌, ⊤, ℕ, List, [], ◌∷◌, Option, None, Some, IfSome}
use Rattle.std.specs.Option.{MatchOption}
use Rattle.hume_ports.specs.Port.{PortView}
use Rattle.hume_ports.specs.Ports.{left_of, place_of}
use Rattle.port_acts.specs.Ends.{EndsAs, Owed}
use Rattle.port_acts.specs.Early.{EndsEarly, after_reads}
use Rattle.run_rounds.specs.Streams.{std_out}
use Rattle.hume_calls.specs.declared.status.Status.{Status}
use Rattle.hume_calls.specs.declared.status.Status.TheVariants.{Usage, Fault, NoMemory}
use Rattle.hume_calls.specs.Few.{source_few}
use Rattle.hume_calls.specs.Reading.{source_reads, source_text}
use Rattle.hume_c.specs.Words.{Request, request_of}
use Rattle.hume_c.specs.Owed.{IsOwed}

-- The words have no form, or there is no port `std_out`, or none of the source's name.
abbrev pub IsUsage : List (List ℕ) → List (List ℕ) → Type 0
IsUsage words names =
    MatchOption (request_of words) ⊤ (λ request. (place_of std_out names ≡ None) ⊎ (place_of request.source names ≡ None))

-- The call reads its source from its port, and ends as one that owes what the source's text asks for. Of a port that doesn't tell what it
-- has left, some text is spoken of.
pub record AnswersFrom (request : Request) (old new : List PortView) (status : Status) : Type 0 where
  pub text : List ℕ
  pub told : IfSome (left_of request.source old) (λ left. text ≡ source_text left)
  pub owed : Owed Status
  pub owes : IsOwed request text owed
  pub ends : EndsAs (source_few request.source) (after_reads (source_reads request.source) owed) Fault old new status

-- It ends when it has only read, or is answered as the source says.
abbrev pub Answers : Request → List PortView → List PortView → Status → Type 0
Answers request old new status =
    EndsEarly (source_few request.source) (source_reads request.source) NoMemory Fault old new status ⊎ AnswersFrom request old new status

-- Words with a form, over ports that are there, are answered by what they ask for.
abbrev pub Headline : List (List ℕ) → List PortView → List PortView → Status → Type 0
Headline words old new status = IfSome (request_of words) (λ request. (status ≡ Usage → ⊥) → Answers request old new status)
