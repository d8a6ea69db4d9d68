-- What a script makes of a core: its lines ask for steps, which are made one after the other.
use Rattle.std.specs.Prelude.{ℕ, ◌+◌, ◌==◌, nat_lt, ◌||◌, Bool, List, [], ◌∷◌, length, Option, Some, None, Result, Ok, Err, if◌then◌else◌}
use Rattle.std.specs.List.{slice_split}
use Rattle.hume_model.specs.declared.core_tree.Core.{Core}
use Rattle.calculus_laws.specs.declared.step.CalcError.{CalcError}
use Rattle.calculus_laws.specs.declared.step.Step.{Step}
use Rattle.calculus_laws.specs.Steps.{refusal, rewritten}
use Rattle.box_calculus.specs.declared.scripts.TheConstants.{MAX_SCRIPT_LINES, MAX_SCRIPT_LINE_BYTES}
use Rattle.box_calculus.specs.declared.scripts.ScriptError.{ScriptError}
use Rattle.box_calculus.specs.declared.scripts.ScriptError.TheVariants.{Bad, Refused}
use Rattle.box_calculus.specs.Lines.{step_of}

-- the byte that ends a line
abbrev pub is_newline : ℕ → Bool
is_newline byte = byte == 10

-- the lines, without an empty one after the last newline
abbrev pub without_empty_end : List (List ℕ) → List (List ℕ)
without_empty_end [] = []
without_empty_end ([] ∷ []) = []
without_empty_end (line ∷ lines) = line ∷ without_empty_end lines

-- the lines of a script
abbrev pub script_lines : List ℕ → List (List ℕ)
script_lines text = without_empty_end (slice_split is_newline text)

-- the step is made, or it is the refusal of its line
abbrev pub made_unless : ℕ → Core → Step → Option CalcError → Result Core ScriptError
made_unless number core step None = Ok (rewritten core step)
made_unless number core step (Some cause) = Err (Refused cause number)

-- the step that a line asks for is made
abbrev pub line_made : ℕ → Core → Option Step → Result Core ScriptError
line_made number core None = Err (Bad number)
line_made number core (Some step) = made_unless number core step (refusal core step)

-- what the line of the number makes of a core; there are no more lines than are allowed, and none is longer
abbrev pub line_scripted : ℕ → Core → List ℕ → Result Core ScriptError
line_scripted number core line =
    if nat_lt MAX_SCRIPT_LINES number || nat_lt MAX_SCRIPT_LINE_BYTES (length line) then Err (Bad number) else line_made number core (step_of core line)

-- the next lines, where there is a core for them
abbrev pub then_lines : Result Core ScriptError → (Core → Result Core ScriptError) → Result Core ScriptError
then_lines (Ok core) next = next core
then_lines (Err error) next = Err error

-- what lines make of a core, of which the first has the number
abbrev pub lines_scripted : ℕ → Core → List (List ℕ) → Result Core ScriptError
lines_scripted number core [] = Ok core
lines_scripted number core (line ∷ lines) = then_lines (line_scripted number core line) (λ new. lines_scripted (number + 1) new lines)

-- what a script makes of a core, or at which line it ends and why
abbrev pub scripted : Core → List ℕ → Result Core ScriptError
scripted core text = lines_scripted 1 core (script_lines text)
