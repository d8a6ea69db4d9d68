-- What is owed to ports of which some leave on the way: acts, then a port leaves, and so on, with an answer at the end.
use Rattle.std.specs.Prelude.{◌≡◌, ◌⊎◌, ℕ, List, ◌++◌}
use Rattle.hume_ports.specs.Delivery.{Pairs, without}
use Rattle.port_acts.specs.Acts.{Act}
use Rattle.port_acts.specs.Ends.{Few, Made, Fails}
use Rattle.hume_console.specs.Hands.{Hands, Leaves}
use Rattle.hume_console.specs.declared.ending.Ending.{Ending}
use Rattle.hume_console.specs.declared.ending.Ending.TheVariants.{Fault}

-- By the number of each stream's node, the name of the port that it has meanwhile.
abbrev pub Bound : Type 0
Bound = ℕ → List ℕ

-- What is owed: acts, then a port leaves, then acts again, and an answer at the end.
pub data Course : Type 0 where
  -- these acts, and this answer
  ends : (bound : Bound) (acts : List Act) (answer : Ending) → Course
  -- these acts, and then the port at the place leaves; a name then means the first port with it among those that are left
  leaves : (bound : Bound) (acts : List Act) (at : ℕ) (later : Course) → Course

-- these acts first, and then the others
abbrev pub first_do : List Act → Course → Course
first_do acts (ends bound others answer) = ends bound (acts ++ others) answer
first_do acts (leaves bound others at later) = leaves bound (acts ++ others) at later

-- All acts were made, and none of the ports has left.
pub record DoesAll (acts : List Act) (taken : Pairs) (old new : Hands) : Type 0 where
  pub made : Made acts taken old.ports new.ports
  pub stay : new.gone ≡ old.gone

-- One of the acts failed, and none of the ports has left. The call had taken the bytes of `earlier` before.
pub record FailsIn (few : Few) (earlier : Pairs) (acts : List Act) (old new : Hands) : Type 0 where
  pub fails : Fails few earlier acts old.ports new.ports
  pub stay : new.gone ≡ old.gone

-- The acts were made, and then the port has left.
pub record Goes (acts : List Act) (at : ℕ) (old new : Hands) : Type 0 where
  pub mid : Hands
  pub taken : Pairs
  pub does : DoesAll acts taken old mid
  pub leaves : Leaves at mid new

-- what the call has taken from the ports that are left
abbrev pub kept : {acts : List Act} {at : ℕ} {old new : Hands} → Pairs → Goes acts at old new → Pairs
kept earlier goes = without goes.leaves.port.name (earlier ++ goes.taken)

-- The call went through the course and gave its answer, or one of the acts failed. When too few values have come depends on the ports
-- that streams have meanwhile.
abbrev pub EndsCourse : (Bound → Few) → Pairs → Course → Hands → Hands → Ending → Type 0
EndsCourse few earlier (ends bound acts answer) old new ending =
    ((ending ≡ answer) × (taken : Pairs) × DoesAll acts taken old new) ⊎ ((ending ≡ Fault) × FailsIn (few bound) earlier acts old new)
EndsCourse few earlier (leaves bound acts at later) old new ending =
    ((mid : Hands) × (goes : Goes acts at old mid) × EndsCourse few (kept earlier goes) later mid new ending)
    ⊎ ((ending ≡ Fault) × FailsIn (few bound) earlier acts old new)
