-- What it means that the form which is written for an operation on numbers gives what the operation gives.
use Rattle.std.specs.Prelude.{◌≡◌, ⊤, ℕ, pos, Option, Some, None}
use Rattle.hume_base.specs.declared.types.Ty.{Ty}
use Rattle.hume_base.specs.declared.types.Value.TheVariants.{Word}
use Rattle.hume_model.specs.declared.core_tree.Op.{Op}
use Rattle.hume_model.specs.declared.core_tree.Op.TheVariants.{Neg, Convert}
use Rattle.hume_model.specs.declared.outcome.Outcome.{Outcome}
use Rattle.hume_model.specs.declared.outcome.Outcome.TheVariants.{Gives}
use Rattle.hume_model.specs.Operations.{binary, unary}
use Rattle.c_tree.specs.declared.tree.CExp.{CExp}
use Rattle.c_names.specs.declared.names.Names.{Names}
use Rattle.c_arithmetic.specs.declared.functions.Numbers.{Numbers}
use Rattle.c_arithmetic.specs.Widths.{numbers_of}
use Rattle.c_arithmetic.specs.Operations.{operation_of, quotient, conversion}
use Rattle.c_meaning.specs.Numbers.{NumberType, of_type}
use Rattle.c_meaning.specs.Memories.{Numeric}
use Rattle.c_meaning.specs.Expressions.{Context, meant}
use Rattle.c_numbers.specs.Shown.{AreNumbers, IsTarget, hume_type, Shows, ShowsGiven}
use Rattle.c_numbers.specs.Declared.{AreDeclared}
use Rattle.c_numbers.specs.Agreeing.{Operands}

-- a type of these numbers, whose functions are declared
pub record IsReady (names : Names) (ty : Ty) (numbers : Numbers) (context : Context) : Type 0 where
  pub are : numbers_of ty ≡ Some numbers
  pub target : IsTarget context.int
  pub declared : AreDeclared names numbers context

-- the expression gives the truth value of the word, as a `bool` or as an `int`
pub record Tells (context : Context) (exp : CExp) (word : ℕ) : Type 0 where
  pub ty : NumberType
  pub value : (meant exp).value context ≡ Some (Numeric (of_type ty (pos word)))

-- where a comparison gives a word, the expression tells it
abbrev pub TellsGiven : Context → CExp → Outcome → Type 0
TellsGiven context exp outcome = (word : ℕ) → outcome ≡ Gives (Word word) → Tells context exp word

-- what is written for an operation on two numbers gives the number that the operation gives
abbrev pub WrittenGives : Op → Type 0
WrittenGives operator = (names : Names) (ty : Ty) (numbers : Numbers) (context : Context) (left right : CExp) (l r : ℕ) → IsReady names ty numbers context
    → Operands numbers context left right l r
    → ShowsGiven context numbers (operation_of names operator ty left (Some right)) (binary operator (hume_type numbers) l r)

-- what is written for a comparison tells what the comparison tells
abbrev pub WrittenTells : Op → Type 0
WrittenTells operator = (names : Names) (ty : Ty) (numbers : Numbers) (context : Context) (left right : CExp) (l r : ℕ) → IsReady names ty numbers context
    → Operands numbers context left right l r
    → TellsGiven context (operation_of names operator ty left (Some right)) (binary operator (hume_type numbers) l r)

-- what is written for negation
abbrev pub WrittenNegates : Type 0
WrittenNegates = (names : Names) (ty : Ty) (numbers : Numbers) (context : Context) (part : CExp) (word : ℕ) → IsReady names ty numbers context
    → AreNumbers numbers → Shows context numbers part word
    → ShowsGiven context numbers (operation_of names Neg ty part None) (unary Neg (hume_type numbers) word)

-- a literal that is told is the divisor's word
abbrev pub IsLiteral : Option ℕ → ℕ → Type 0
IsLiteral None divisor = ⊤
IsLiteral (Some word) divisor = word ≡ divisor

-- what is written for a quotient or a rest
abbrev pub WrittenDivides : Op → Type 0
WrittenDivides operator = (names : Names) (ty : Ty) (numbers : Numbers) (context : Context) (left right : CExp) (l r : ℕ) (literal : Option ℕ)
    → IsReady names ty numbers context → Operands numbers context left right l r → IsLiteral literal r
    → ShowsGiven context numbers (quotient names operator ty left right literal) (binary operator (hume_type numbers) l r)

-- what is written for a conversion to a type, from any numbers
abbrev pub WrittenConverts : Type 0
WrittenConverts = (names : Names) (source ty : Ty) (from to : Numbers) (context : Context) (part : CExp) (word : ℕ) → numbers_of source ≡ Some from
    → IsReady names ty to context → AreNumbers from → AreNumbers to → Shows context from part word
    → ShowsGiven context to (conversion names source ty part) (unary Convert (hume_type to) word)
