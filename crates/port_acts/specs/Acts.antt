-- What a call owes to its ports, act by act.
use Rattle.std.specs.Prelude.{◌≡◌, ⊤, ℕ, Some, Bool, true, false, List, [], ◌∷◌, map, if◌then◌else◌}
use Rattle.std.specs.List.{flat_map}
use Rattle.std.specs.Str.{bytes_eq}
use Rattle.hume_ports.specs.Port.{PortView}
use Rattle.hume_ports.specs.Ports.{place_of}
use Rattle.hume_ports.specs.Delivery.{Pairs}

-- One thing that is done to the first port of a name.
pub data Act : Type 0 where
  -- it is read until that number of values has come, or its end
  wants : (name : List ℕ) (count : ℕ) → Act
  -- the bytes are written to it by one call
  writes : (name bytes : List ℕ) → Act
  -- it is finished
  finishes : (name : List ℕ) → Act

-- the name of the act's port
abbrev pub name_of : Act → List ℕ
name_of (wants name count) = name
name_of (writes name bytes) = name
name_of (finishes name) = name

-- the names of the ports that the acts touch
abbrev pub names_of : List Act → List (List ℕ)
names_of acts = map name_of acts

-- the count of faults that rises where the act fails
abbrev pub count_of : Act → PortView → ℕ
count_of (wants name count) = λ port. port.read_faults
count_of (writes name bytes) = λ port. port.write_faults
count_of (finishes name) = λ port. port.finish_faults

-- the act's name with the bytes that it writes, if it is a write
abbrev pub written_by : Act → Pairs
written_by (wants name count) = []
written_by (writes name bytes) = (name, bytes) ∷ []
written_by (finishes name) = []

-- the writes among the acts, in order
abbrev pub written : List Act → Pairs
written acts = flat_map written_by acts

-- the act's name, if it is a want
abbrev pub wanted_by : Act → List (List ℕ)
wanted_by (wants name count) = name ∷ []
wanted_by (writes name bytes) = []
wanted_by (finishes name) = []

-- the names of the ports that the acts read
abbrev pub wanted : List Act → List (List ℕ)
wanted acts = flat_map wanted_by acts

-- the act's name, if it is a finish
abbrev pub finished_by : Act → List (List ℕ)
finished_by (wants name count) = []
finished_by (writes name bytes) = []
finished_by (finishes name) = name ∷ []

-- the names of the ports that the acts finish
abbrev pub finished : List Act → List (List ℕ)
finished acts = flat_map finished_by acts

-- a write of its own for each pair
abbrev pub write_each : Pairs → List Act
write_each pairs = map (λ pair. writes pair.0 pair.1) pairs

-- a finish for each name
abbrev pub finish_each : List (List ℕ) → List Act
finish_each names = map (λ name. finishes name) names

-- At the places stand the ports that these names mean.
abbrev pub AreNamed : List (List ℕ) → List ℕ → List (List ℕ) → Type 0
AreNamed ports [] [] = ⊤
AreNamed ports (at ∷ places) (name ∷ names) = (place_of name ports ≡ Some at) × AreNamed ports places names
AreNamed ports places names = ⊥

-- whether all bytes of the name are out after the acts, given whether they were before
abbrev pub is_out_after : List ℕ → Bool → List Act → Bool
is_out_after name before [] = before
is_out_after name before (wants other count ∷ acts) = is_out_after name before acts
is_out_after name before (writes other bytes ∷ acts) = is_out_after name (if bytes_eq name other then false else before) acts
is_out_after name before (finishes other ∷ acts) = is_out_after name (if bytes_eq name other then true else before) acts

-- whether the acts finish the name, and don't write to it afterwards
abbrev pub is_finished : List ℕ → List Act → Bool
is_finished name acts = is_out_after name false acts

-- No write comes after a finish.
abbrev pub FinishesLast : List Act → Type 0
FinishesLast [] = ⊤
FinishesLast (wants name count ∷ acts) = FinishesLast acts
FinishesLast (writes name bytes ∷ acts) = FinishesLast acts
FinishesLast (finishes name ∷ acts) = (written acts ≡ []) × FinishesLast acts
