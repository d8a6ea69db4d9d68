-- To which ports a session writes, and which it finishes.
use Rattle.std.specs.Prelude.{◌≡◌, ◌⊎◌, ℕ, List, Some, slice_get}
use Rattle.std.specs.List.{All, remove}
use Rattle.hume_model.specs.declared.core_tree.NodeC.TheVariants.{To}
use Rattle.hume_model.specs.declared.core_tree.StreamC.{StreamC}
use Rattle.hume_model.specs.declared.core_tree.Core.{Core}
use Rattle.hume_ports.specs.Ports.{place_of}
use Rattle.hume_ports.specs.Delivery.{names_in}
use Rattle.port_acts.specs.Acts.{Act, written}
use Rattle.run_rounds.specs.Streams.{std_out}
use Rattle.hume_console.specs.Hands.{place_without}
use Rattle.hume_console.specs.Courses.{Bound, Course, ends, leaves}

-- An output stream has the port meanwhile.
pub record HasOutput (core : Core) (bound : Bound) (name : List ℕ) : Type 0 where
  pub node : ℕ
  pub stream : StreamC
  pub is : slice_get core.nodes node ≡ Some (To stream)
  pub port : bound node ≡ name

-- Acts write to no other ports than `std_out` and those that output streams have.
abbrev pub WriteToOutputs : Core → Bound → List Act → Type 0
WriteToOutputs core bound acts = All (λ name. (name ≡ std_out) ⊎ HasOutput core bound name) (names_in (written acts))

-- So do all acts of a course, by the ports that streams have at the time.
abbrev pub WritesToOutputs : Core → Course → Type 0
WritesToOutputs core (ends bound acts answer) = WriteToOutputs core bound acts
WritesToOutputs core (leaves bound acts at later) = WriteToOutputs core bound acts × WritesToOutputs core later

-- The port at a place is `std_out` or an output stream's in the end, or it was an output stream's when it left.
abbrev pub IsLastOutput : Core → ℕ → List (List ℕ) → Course → Type 0
IsLastOutput core at names (ends bound acts answer) =
    (name : List ℕ) × (place_of name names ≡ Some at) × ((name ≡ std_out) ⊎ HasOutput core bound name)
IsLastOutput core at names (leaves bound acts leaving later) =
    ((leaving ≡ at) × (name : List ℕ) × (place_of name names ≡ Some at) × HasOutput core bound name)
    ⊎ ((leaving ≡ at → ⊥) × IsLastOutput core (place_without leaving at) (remove names leaving) later)
