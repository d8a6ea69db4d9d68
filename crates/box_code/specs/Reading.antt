-- Which instruction the words at a place of a code make up. It reads what stands there (`StandsAt`).
use Rattle.std.specs.Prelude.{ℕ, ◌+◌, ◌/◌, ◌%◌, ◌==◌, nat_le, List, length, Option, Some, None, if◌then◌else◌, slice_get}
use Rattle.box_code.specs.declared.instr.Path.{Path}
use Rattle.box_code.specs.declared.instr.Scalar.{Scalar}
use Rattle.box_code.specs.declared.instr.Scalar.TheVariants as scalar
use Rattle.box_code.specs.declared.instr.Comparison.{Comparison}
use Rattle.box_code.specs.declared.instr.Comparison.TheVariants as comparison
use Rattle.box_code.specs.declared.instr.Instr.{Instr}
use Rattle.box_code.specs.declared.instr.Instr.TheVariants.{Push, Load, Make, Add, Sub, Mul, Div, Mod, Neg, Not, Convert, Compare, Index, Update, Jump, JumpFalse, MatchWord, MatchTag, Field, Slide, Call, Return, Raise, Finish}

-- an instruction, and the place after it
abbrev pub Read : Type 0
Read = Option (Instr × ℕ)

abbrev pub scalar_of : ℕ → ℕ → Scalar
scalar_of number bits =
    if number == 0 then scalar.Bool else (if number == 1 then scalar.Char else (if number == 2 then scalar.Int (bits % 256) else scalar.Nat (bits % 256)))

abbrev pub comparison_of : ℕ → Comparison
comparison_of number =
    if number == 0 then comparison.Eq else (if number == 1 then comparison.Ne else (if number == 2 then comparison.Lt
    else (if number == 3 then comparison.Le else (if number == 4 then comparison.Gt else comparison.Ge))))

abbrev pub path_at : ℕ → ℕ → Path
path_at at length = record { at = at; length = length }

-- the path's field numbers are all there
abbrev pub with_path : ℕ → ℕ → ℕ → (Path → Instr) → Read
with_path room at length instr = if nat_le (at + length) room then Some (instr (path_at at length), at + length) else None

abbrev pub with_word : Option ℕ → (ℕ → Read) → Read
with_word None go = None
with_word (Some word) go = go word

-- by the kind, the operands, the two words after the first one, and the length of the code: the kinds from 12 on; there is none from 24 on
abbrev pub other_instr : ℕ → ℕ → ℕ → Option ℕ → Option ℕ → ℕ → ℕ → Read
other_instr kind low high second third room at =
    if kind == 12 then Some (Index high, at + 1)
    else (if kind == 13 then Some (Update high, at + 1)
    else (if kind == 14 then Some (Jump high, at + 1)
    else (if kind == 15 then Some (JumpFalse high, at + 1)
    else (if kind == 16 then with_word second (λ length. with_word third (λ word.
    with_path room (at + 3) (length % 4294967296) (λ path. MatchWord low path word high)))
    else (if kind == 17 then with_word second (λ length. with_word third (λ tag.
    with_path room (at + 3) (length % 4294967296) (λ path. MatchTag low path (tag % 4294967296) high)))
    else (if kind == 18 then with_path room (at + 1) high (λ path. Field low path)
    else (if kind == 19 then Some (Slide high, at + 1)
    else (if kind == 20 then Some (Call high low, at + 1)
    else (if kind == 21 then Some (Return low high, at + 1)
    else (if kind == 22 then Some (Raise high (low == 1), at + 1)
    else (if kind == 23 then Some (Finish high, at + 1)
    else None)))))))))))

-- the same for all kinds
abbrev pub instr_of : ℕ → ℕ → ℕ → Option ℕ → Option ℕ → ℕ → ℕ → Read
instr_of kind low high second third room at =
    if kind == 0 then with_word second (λ word. Some (Push word, at + 2))
    else (if kind == 1 then Some (Load high, at + 1)
    else (if kind == 2 then Some (Make high low, at + 1)
    else (if kind == 3 then Some (Add (scalar_of low high), at + 1)
    else (if kind == 4 then Some (Sub (scalar_of low high), at + 1)
    else (if kind == 5 then Some (Mul (scalar_of low high), at + 1)
    else (if kind == 6 then Some (Div (scalar_of low high), at + 1)
    else (if kind == 7 then Some (Mod (scalar_of low high), at + 1)
    else (if kind == 8 then Some (Neg (scalar_of low high), at + 1)
    else (if kind == 9 then Some (Not, at + 1)
    else (if kind == 10 then Some (Convert (scalar_of low high), at + 1)
    else (if kind == 11 then Some (Compare (comparison_of (low / 4)) (scalar_of (low % 4) high), at + 1)
    else other_instr kind low high second third room at)))))))))))

-- the operands of an instruction's first word
abbrev pub low_operand : ℕ → ℕ
low_operand head = head / 256 % 16777216

abbrev pub high_operand : ℕ → ℕ
high_operand head = head / 4294967296

abbrev pub at_head : Option ℕ → Option ℕ → Option ℕ → ℕ → ℕ → Read
at_head None second third room at = None
at_head (Some word) second third room at = instr_of (word % 256) (low_operand word) (high_operand word) second third room at

-- the instruction that begins at a place
abbrev pub instr_at : List ℕ → ℕ → Read
instr_at code at = at_head (slice_get code at) (slice_get code (at + 1)) (slice_get code (at + 2)) (length code) at
