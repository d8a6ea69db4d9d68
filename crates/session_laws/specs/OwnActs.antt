-- What a session does to which port.
use Rattle.std.specs.Prelude.{◌≡◌, ◌⊎◌, ℕ, List, ◌∷◌, ◌++◌, Some, slice_get}
use Rattle.std.specs.List.{All}
use Rattle.hume_model.specs.declared.core_tree.NodeC.TheVariants.{From}
use Rattle.hume_model.specs.declared.core_tree.StreamC.{StreamC}
use Rattle.hume_model.specs.declared.core_tree.Core.{Core}
use Rattle.port_acts.specs.Acts.{Act, wants, writes, finishes}
use Rattle.run_rounds.specs.Streams.{std_out}
use Rattle.hume_console.specs.Courses.{Bound, Course, ends, leaves}
use Rattle.hume_console.specs.Outputs.{HasOutput}
use Rattle.hume_console.specs.Words.{std_in}

-- An input stream has the port meanwhile.
pub record HasInput (core : Core) (bound : Bound) (name : List ℕ) : Type 0 where
  pub node : ℕ
  pub stream : StreamC
  pub is : slice_get core.nodes node ≡ Some (From stream)
  pub port : bound node ≡ name

-- It is `std_in`, or an input stream has it.
abbrev pub MayRead : Core → Bound → List ℕ → Type 0
MayRead core bound name = (name ≡ std_in) ⊎ HasInput core bound name

-- It is `std_out`, or an output stream has it.
abbrev pub MayWrite : Core → Bound → List ℕ → Type 0
MayWrite core bound name = (name ≡ std_out) ⊎ HasOutput core bound name

-- The act reads the one kind of port, or writes to or finishes the other.
abbrev pub IsOwnAct : Core → Bound → Act → Type 0
IsOwnAct core bound (wants name count) = MayRead core bound name
IsOwnAct core bound (writes name bytes) = MayWrite core bound name
IsOwnAct core bound (finishes name) = MayWrite core bound name

-- So does each act of a course, by the ports that streams have at the time.
abbrev pub DoesOwnActs : Core → Course → Type 0
DoesOwnActs core (ends bound acts answer) = All (IsOwnAct core bound) acts
DoesOwnActs core (leaves bound acts at later) = All (IsOwnAct core bound) acts × DoesOwnActs core later

-- The act is one of these.
abbrev pub IsOneOf : List Act → Act → Type 0
IsOneOf acts act = (before : List Act) × (later : List Act) × (acts ≡ before ++ act ∷ later)

-- The course has the act while streams have these ports.
abbrev pub IsActOf : Course → Bound → Act → Type 0
IsActOf (ends meanwhile acts answer) bound act = (bound ≡ meanwhile) × IsOneOf acts act
IsActOf (leaves meanwhile acts at later) bound act = ((bound ≡ meanwhile) × IsOneOf acts act) ⊎ IsActOf later bound act
