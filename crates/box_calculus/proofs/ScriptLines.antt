-- A script is its first line and the lines after it.
use Rattle.std.proofs.Common.{◌≡◌, ℕ, ◌+◌, ◌-◌, ◌<◌, List, [], ◌∷◌, length, take, drop, Some, None, refl, ap, sym, ◌∙◌, arith}
use Rattle.std.specs.List.{position, slice_split}
use Rattle.std.proofs.lemmas.List.{take_rest}
use Rattle.std.proofs.lemmas.List.Splits.{length-slice_split}
use Rattle.box_calculus.specs.Scripts.{is_newline, script_lines, without_empty_end}
use Rattle.box_calculus.proofs.Cuts.{first_part, one_part, position_within}

some_lines : (bytes : List ℕ) → 0 < length (slice_split is_newline bytes)
some_lines bytes = let count = length-slice_split is_newline bytes in omega (arith, count)

line_before : (line : List ℕ) (lines : List (List ℕ)) → 0 < length lines → without_empty_end (line ∷ lines) ≡ line ∷ without_empty_end lines
line_before line [] some = absurd (omega arith)
line_before [] (next ∷ lines) some = refl
line_before (byte ∷ line) (next ∷ lines) some = refl

only_line : (line : List ℕ) → 0 < length line → without_empty_end (line ∷ []) ≡ line ∷ []
only_line [] some = absurd (omega arith)
only_line (byte ∷ line) some = refl

no_rest : (bytes : List ℕ) → take (length bytes - length bytes) (drop (length bytes) bytes) ≡ []
no_rest bytes = ap (λ n. take n (drop (length bytes) bytes)) (let none : length bytes - length bytes ≡ 0 = omega arith in none)

-- a script without a newline is one line
pub last_line : (bytes : List ℕ) → 0 < length bytes → position is_newline bytes ≡ None
    → script_lines bytes ≡ bytes ∷ script_lines (take (length bytes - length bytes) (drop (length bytes) bytes))
last_line bytes some none =
    ap without_empty_end (one_part is_newline bytes none) ∙ only_line bytes some ∙ ap (λ rest. bytes ∷ script_lines rest) (sym (no_rest bytes))

-- any other one has a line before its first newline
pub ended_line : (bytes : List ℕ) (at : ℕ) → position is_newline bytes ≡ Some at
    → script_lines bytes ≡ take at bytes ∷ script_lines (take (length bytes - (at + 1)) (drop (at + 1) bytes))
ended_line bytes at is =
    ap without_empty_end (first_part is_newline bytes at is)
    ∙ line_before (take at bytes) (slice_split is_newline (drop (at + 1) bytes)) (some_lines (drop (at + 1) bytes))
    ∙ ap (λ rest. take at bytes ∷ script_lines rest) (sym (take_rest bytes (at + 1)))

pub ruleset line_steps = (last_line, ended_line)
