-- Numbers of Hume in C: a word of `int` or `nat` with so many bits is a number of the C type of its width.
use Rattle.std.specs.Prelude.{◌≡◌, ℕ, ◌≤◌, ◌^◌, nat_lt, Bool, true, pos, Some, if◌then◌else◌}
use Rattle.hume_base.specs.declared.types.Ty.{Ty}
use Rattle.hume_base.specs.declared.types.Ty.TheOpen.{Ty-F}
use Rattle.hume_base.specs.declared.types.Value.TheVariants.{Word}
use Rattle.hume_base.specs.Values.{is_int_word}
use Rattle.hume_model.specs.declared.outcome.Outcome.{Outcome}
use Rattle.hume_model.specs.declared.outcome.Outcome.TheVariants.{Gives}
use Rattle.hume_model.specs.Operations.{number_at}
use Rattle.c_tree.specs.declared.tree.CExp.{CExp}
use Rattle.c_tree.specs.Words.{bits}
use Rattle.c_types.specs.Widths.{width_of}
use Rattle.c_arithmetic.specs.declared.functions.Numbers.{Numbers}
use Rattle.c_meaning.specs.Numbers.{NumberType, Truth, Signed, Unsigned, CNumber, of_type}
use Rattle.c_meaning.specs.Memories.{Numeric}
use Rattle.c_meaning.specs.Expressions.{Context, meant}

-- `int` has 16 to 32 bits
pub record IsTarget (int : ℕ) : Type 0 where
  pub least : 16 ≤ int
  pub most : int ≤ 32

-- a type of numbers has 1 to 64 bits
pub record AreNumbers (numbers : Numbers) : Type 0 where
  pub least : 1 ≤ numbers.bits
  pub most : numbers.bits ≤ 64

-- the type of Hume
abbrev pub hume_type : Numbers → Ty-F Ty
hume_type numbers = if numbers.signed then Ty-F.Int numbers.bits else Ty-F.Nat numbers.bits

-- the type of C
abbrev pub number_type : Numbers → NumberType
number_type numbers = if numbers.signed then Signed (bits (width_of numbers.bits)) else Unsigned (bits (width_of numbers.bits))

-- whether the word is one of the type of Hume
abbrev pub is_word : Numbers → ℕ → Bool
is_word numbers word = if numbers.signed then is_int_word numbers.bits word else nat_lt word (2 ^ numbers.bits)

-- what stands in C for a word
abbrev pub shown : Numbers → ℕ → CNumber
shown numbers word = of_type (number_type numbers) (number_at (hume_type numbers) word)

-- the expression gives what stands for the word, which is one of the type
pub record Shows (context : Context) (numbers : Numbers) (exp : CExp) (word : ℕ) : Type 0 where
  pub value : (meant exp).value context ≡ Some (Numeric (shown numbers word))
  pub is : is_word numbers word ≡ true

-- the expression gives the truth value of the word, as a `bool`
pub record ShowsTruth (context : Context) (exp : CExp) (word : ℕ) : Type 0 where
  pub value : (meant exp).value context ≡ Some (Numeric (of_type Truth (pos word)))

-- where an operation gives a word, the expression shows it
abbrev pub ShowsGiven : Context → Numbers → CExp → Outcome → Type 0
ShowsGiven context numbers exp outcome = (word : ℕ) → outcome ≡ Gives (Word word) → Shows context numbers exp word

abbrev pub ShowsTruthGiven : Context → CExp → Outcome → Type 0
ShowsTruthGiven context exp outcome = (word : ℕ) → outcome ≡ Gives (Word word) → ShowsTruth context exp word
