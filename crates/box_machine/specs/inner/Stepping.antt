-- The machine as registers, a row of words and a heap hold it.
use Rattle.std.specs.Prelude.{◌≡◌, ℕ, zero, suc, ◌+◌, ◌/◌, ◌%◌, ◌≤◌, List, [], ◌∷◌, ◌++◌, length, take, drop, Option, Some, None}
use Rattle.std.specs.Option.{IsSome, option_and_then}
use Rattle.hume_base.specs.declared.types.Types.{Types}
use Rattle.box_heap.specs.Heaps.{HeapView, HasObjects, Object, with_objects}
use Rattle.box_code.specs.declared.instr.Path.{Path}
use Rattle.box_code.specs.declared.instr.Instr.{Instr}
use Rattle.box_code.specs.declared.instr.Instr.TheVariants.{MatchWord, MatchTag, Field, Finish}
use Rattle.box_code.specs.declared.program.BoxProgram.{BoxProgram}
use Rattle.box_code.specs.Words.{fields_in}
use Rattle.box_code.specs.Machine.{Setting, setting_of, Machine, Next, Goes, Ends, Broken, act, at_path, step, used, word_at}
use Rattle.box_machine.specs.declared.registers.Registers.{Registers}
use Rattle.box_machine.specs.declared.registers.Turn.{Turn}
use Rattle.box_machine.specs.declared.registers.Turn.TheVariants as turn

-- the objects whose words these are; there are no more of them than words
unfoldable pub objects_from : ℕ → List ℕ → List Object
objects_from zero words = []
objects_from (suc most) [] = []
objects_from (suc most) (header ∷ words) = (header % 4294967296, take (header / 4294967296) words) ∷ objects_from most (drop (header / 4294967296) words)

abbrev pub objects_in : HeapView → List Object
objects_in heap = objects_from (length heap.words) heap.words

-- the heap's words are those of objects
pub record IsHeap (heap : HeapView) : Type 0 where
  pub held : HasObjects heap (objects_in heap)

-- the stack has the first words of the row
abbrev pub machine_of : Registers → List ℕ → List Object → Machine
machine_of r words objects = record { at = r.at; stack = take r.top words; peak = r.peak; objects = objects; outs = []; raised = r.raised }

abbrev pub machine_in : Registers → List ℕ → HeapView → Machine
machine_in r words heap = machine_of r words (objects_in heap)

-- a row of so many words and a heap have room for all of it, also for the word with which a handler begins
pub record Fits (m : Machine) (row room : ℕ) : Type 0 where
  pub stack : m.peak ≤ row
  pub heap : used m.objects ≤ room
  pub handler : IsSome m.raised → 1 ≤ row

-- there is room for what comes next
abbrev pub HasRoom : Next → ℕ → ℕ → Type 0
HasRoom (Goes m) row room = Fits m row room
HasRoom (Ends m) row room = Unit {0}
HasRoom Broken row room = ⊥

-- There is room for what the instruction does, whatever the heap has. The registers say where the code goes on after it.
pub record CanDo (setting : Setting) (instr : Instr) (r : Registers) (words : List ℕ) : Type 0 where
  pub objects : List Object
  pub room : ℕ
  pub fits : HasRoom (act setting instr r.at (machine_of r words objects)) (length words) room
  pub short : length setting.code ≤ 4294967295

-- the new registers and words are what the instruction makes of the old ones, whatever the heap has
pub record Does (setting : Setting) (instr : Instr) (old : Registers) (from : List ℕ) (new : Registers) (to : List ℕ) : Type 0 where
  pub step : (objects : List Object) → act setting instr old.at (machine_of old from objects) ≡ Goes (machine_of new to objects)
  pub top : new.top ≤ length to

-- There is room for what the instruction does with this heap, and where it goes on is in the code or at its end.
pub record CanDoOn (setting : Setting) (instr : Instr) (r : Registers) (words : List ℕ) (heap : HeapView) : Type 0 where
  pub fits : HasRoom (act setting instr r.at (machine_in r words heap)) (length words) heap.room
  pub lands : (new : Machine) → act setting instr r.at (machine_in r words heap) ≡ Goes new → new.at ≤ length setting.code
  pub short : length setting.code ≤ 4294967295

-- the heap has objects still, once some are put behind those that it had
pub record Keeps (old new : HeapView) : Type 0 where
  pub heap : IsHeap new
  pub more : List Object
  pub objects : objects_in new ≡ objects_in old ++ more
  pub put : new ≡ with_objects old more
  pub room : new.room ≡ old.room

-- the new registers, words and heap are what the instruction makes of the old ones
pub record DoesOn (setting : Setting) (instr : Instr) (old : Registers) (from : List ℕ) (before : HeapView) (new : Registers) (to : List ℕ)
    (after : HeapView) : Type 0 where
  pub step : act setting instr old.at (machine_in old from before) ≡ Goes (machine_in new to after)
  pub top : new.top ≤ length to
  pub kept : Keeps before after

-- the setting is one of the program
pub record IsOf (program : BoxProgram) (setting : Setting) : Type 0 where
  pub types : Types
  pub same : setting ≡ setting_of types program

-- the registers and words are these, by what they stand for
pub record Stacked (r : Registers) (words : List ℕ) (at : ℕ) (stack : List ℕ) (peak : ℕ) (raised : Option ℕ) : Type 0 where
  pub at_place : r.at ≡ at
  pub on_stack : take r.top words ≡ stack
  pub most : r.peak ≡ peak
  pub same_raised : r.raised ≡ raised
  pub within : r.top ≤ length words

-- the field numbers of the instruction's path, if it has one, are all there
abbrev pub PathWithin : ℕ → Instr → Type 0
PathWithin room (MatchWord depth path word to) = path.at + path.length ≤ room
PathWithin room (MatchTag depth path tag to) = path.at + path.length ≤ room
PathWithin room (Field depth path) = path.at + path.length ≤ room
PathWithin room _ = Unit {0}

-- the word at a path from the word at a depth on
abbrev pub found_in : List ℕ → List Object → ℕ → Path → List ℕ → Option ℕ
found_in code objects depth path stack = option_and_then (at_path objects (fields_in code path)) (word_at depth stack)

-- the instruction is the one that ends with the outputs of the mask, and nothing changed
pub record IsFinish (instr : Instr) (mask : ℕ) (r last : Registers) (from : List ℕ) (before : HeapView) (to : List ℕ) (after : HeapView) : Type 0 where
  pub finish : instr ≡ Finish mask
  pub registers : last ≡ r
  pub words : to ≡ from
  pub heap : after ≡ before

-- the turn is what the instruction leads to
abbrev pub IsTurn : Setting → Instr → Registers → List ℕ → HeapView → Turn → List ℕ → HeapView → Type 0
IsTurn setting instr r from before (turn.Goes new) to after = DoesOn setting instr r from before new to after
IsTurn setting instr r from before (turn.Ends last mask) to after = IsFinish instr mask r last from before to after

-- by what an instruction leads to, where so many are left
abbrev pub by_next : ℕ → Next → (Machine → Option (ℕ × Machine)) → Option (ℕ × Machine)
by_next left (Goes m) go = go m
by_next left (Ends m) go = Some (left, m)
by_next left Broken go = None

-- the machine at its end, with how many of so many instructions are left then, if it ends by them
unfoldable pub ended : Setting → ℕ → Machine → Option (ℕ × Machine)
ended setting zero m = None
ended setting (suc left) m = by_next left (step setting m) (ended setting left)

-- it ends, and there is room for all of it
abbrev pub EndsIn : Option (ℕ × Machine) → ℕ → ℕ → Type 0
EndsIn None row room = ⊥
EndsIn (Some end) row room = Fits end.1 row room

-- the machine at its end, if the last instruction is the one with the mask
abbrev pub finished : Setting → ℕ → ℕ → Machine → Option (ℕ × Machine)
finished setting left mask m = by_next left (act setting (Finish mask) 0 m) (λ n. None)
