-- Two calls of the same words.
use Rattle.std.specs.Prelude.{◌≡◌, ◌↔◌, ℕ, List, ◌++◌, Some}
use Rattle.hume_ports.specs.Port.{PortView}
use Rattle.hume_ports.specs.Ports.{names}
use Rattle.port_acts.specs.Ends.{bytes_of}
use Rattle.hume_calls.specs.declared.status.Status.{Status}
use Rattle.hume_calls.specs.declared.status.Status.TheVariants.{Fault, NoMemory, Usage}
use Rattle.hume_calls.specs.Headline.{Headline, IsUsage}

-- A call of the tool, as its contract has it.
pub record IsCall (words : List (List ℕ)) (old new : List PortView) (status : Status) : Type 0 where
  pub usage : (status ≡ Usage) ↔ IsUsage words (names old)
  pub idle : status ≡ Usage → new ≡ old
  pub run : Headline words old new status

-- No call of a port failed, and memory didn't run out.
abbrev pub IsAnswered : Status → Type 0
IsAnswered status = (status ≡ Fault → ⊥) × (status ≡ NoMemory → ⊥)

-- Both calls gave the same answer, and wrote the same bytes to each port that tells them: whatever it had before.
pub record WriteAlike (old new others later : List PortView) (first second : Status) : Type 0 where
  pub answer : first ≡ second
  pub bytes : (name had given : List ℕ) → bytes_of name old ≡ Some had → bytes_of name others ≡ Some given
      → (wrote : List ℕ) × (bytes_of name new ≡ Some (had ++ wrote)) × (bytes_of name later ≡ Some (given ++ wrote))
