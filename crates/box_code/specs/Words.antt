-- How instructions stand in the words of a code.
use Rattle.std.specs.Prelude.{◌≡◌, ℕ, ◌+◌, ◌*◌, ◌<◌, ◌≤◌, List, [], ◌∷◌, ◌++◌, length, take, drop, Option, Some, None, if◌then◌else◌}
use Rattle.box_code.specs.declared.instr.Path.{Path}
use Rattle.box_code.specs.declared.instr.Scalar.{Scalar}
use Rattle.box_code.specs.declared.instr.Scalar.TheVariants as scalar
use Rattle.box_code.specs.declared.instr.Comparison.{Comparison}
use Rattle.box_code.specs.declared.instr.Comparison.TheVariants as comparison
use Rattle.box_code.specs.declared.instr.Instr.{Instr}
use Rattle.box_code.specs.declared.instr.Instr.TheVariants.{Push, Load, Make, Add, Sub, Mul, Div, Mod, Neg, Not, Convert, Compare, Index, Update, Jump, JumpFalse, MatchWord, MatchTag, Field, Slide, Call, Return, Raise, Finish}

-- The first word of an instruction: its kind, and two operands.
pub record Head : Type 0 where
  pub kind : ℕ
  pub low : ℕ
  pub high : ℕ

abbrev pub head : ℕ → ℕ → ℕ → Head
head kind low high = record { kind = kind; low = low; high = high }

-- the kind has 8 bits, the low operand 24, and the high one 32
abbrev pub word_of_head : Head → ℕ
word_of_head head = (head.kind + 256 * head.low) + 4294967296 * head.high

abbrev pub number_of_scalar : Scalar → ℕ
number_of_scalar scalar.Bool = 0
number_of_scalar scalar.Char = 1
number_of_scalar (scalar.Int bits) = 2
number_of_scalar (scalar.Nat bits) = 3

abbrev pub bits_of_scalar : Scalar → ℕ
bits_of_scalar scalar.Bool = 0
bits_of_scalar scalar.Char = 0
bits_of_scalar (scalar.Int bits) = bits
bits_of_scalar (scalar.Nat bits) = bits

abbrev pub number_of_comparison : Comparison → ℕ
number_of_comparison comparison.Eq = 0
number_of_comparison comparison.Ne = 1
number_of_comparison comparison.Lt = 2
number_of_comparison comparison.Le = 3
number_of_comparison comparison.Gt = 4
number_of_comparison comparison.Ge = 5

abbrev pub at_scalar : ℕ → Scalar → Head
at_scalar kind ty = head kind (number_of_scalar ty) (bits_of_scalar ty)

abbrev pub head_of : Instr → Head
head_of (Push word) = head 0 0 0
head_of (Load depth) = head 1 0 depth
head_of (Make tag count) = head 2 count tag
head_of (Add ty) = at_scalar 3 ty
head_of (Sub ty) = at_scalar 4 ty
head_of (Mul ty) = at_scalar 5 ty
head_of (Div ty) = at_scalar 6 ty
head_of (Mod ty) = at_scalar 7 ty
head_of (Neg ty) = at_scalar 8 ty
head_of Not = head 9 0 0
head_of (Convert ty) = at_scalar 10 ty
head_of (Compare comparison ty) = head 11 (number_of_scalar ty + 4 * number_of_comparison comparison) (bits_of_scalar ty)
head_of (Index count) = head 12 0 count
head_of (Update count) = head 13 0 count
head_of (Jump to) = head 14 0 to
head_of (JumpFalse to) = head 15 0 to
head_of (MatchWord depth path word to) = head 16 depth to
head_of (MatchTag depth path tag to) = head 17 depth to
head_of (Field depth path) = head 18 depth path.length
head_of (Slide count) = head 19 0 count
head_of (Call to count) = head 20 count to
head_of (Return count variables) = head 21 count variables
head_of (Raise exn carried) = head 22 (if carried then 1 else 0) exn
head_of (Finish mask) = head 23 0 mask

-- the words between the first one and the field numbers of a path
abbrev pub operands_of : Instr → List ℕ
operands_of (Push word) = word ∷ []
operands_of (MatchWord depth path word to) = path.length ∷ word ∷ []
operands_of (MatchTag depth path tag to) = path.length ∷ tag ∷ []
operands_of _ = []

abbrev pub words_of : Instr → List ℕ
words_of instr = word_of_head (head_of instr) ∷ operands_of instr

abbrev pub path_of : Instr → Option Path
path_of (MatchWord depth path word to) = Some path
path_of (MatchTag depth path tag to) = Some path
path_of (Field depth path) = Some path
path_of _ = None

-- between the two places stand the path's field numbers, if there is a path
abbrev pub PathStands : Option Path → ℕ → ℕ → Type 0
PathStands None from to = to ≡ from
PathStands (Some path) from to = (path.at ≡ from) × (to ≡ from + path.length)

-- the bits of its type, if it has one
abbrev pub bits_of : Instr → ℕ
bits_of (Add ty) = bits_of_scalar ty
bits_of (Sub ty) = bits_of_scalar ty
bits_of (Mul ty) = bits_of_scalar ty
bits_of (Div ty) = bits_of_scalar ty
bits_of (Mod ty) = bits_of_scalar ty
bits_of (Neg ty) = bits_of_scalar ty
bits_of (Convert ty) = bits_of_scalar ty
bits_of (Compare comparison ty) = bits_of_scalar ty
bits_of _ = 0

abbrev pub path_length : Instr → ℕ
path_length (MatchWord depth path word to) = path.length
path_length (MatchTag depth path tag to) = path.length
path_length _ = 0

abbrev pub tag_wanted : Instr → ℕ
tag_wanted (MatchTag depth path tag to) = tag
tag_wanted _ = 0

-- each operand has no more bits than its part of a word
pub record OperandsFit (instr : Instr) : Type 0 where
  pub low : (head_of instr).low < 16777216
  pub high : (head_of instr).high < 4294967296
  pub bits : bits_of instr < 256
  pub length : path_length instr < 4294967296
  pub tag : tag_wanted instr < 4294967296

-- The instruction's words stand in the code from the place on, with the field numbers of its path behind them; and the
-- place after all of them.
pub record StandsAt (code : List ℕ) (at : ℕ) (instr : Instr) (next : ℕ) : Type 0 where
  pub before : List ℕ
  pub after : List ℕ
  pub words : code ≡ before ++ (words_of instr ++ after)
  pub begins : length before ≡ at
  pub path : PathStands (path_of instr) (at + length (words_of instr)) next
  pub ends : next ≤ length code
  pub fits : OperandsFit instr

-- the field numbers of a path
abbrev pub fields_in : List ℕ → Path → List ℕ
fields_in code path = take path.length (drop path.at code)
