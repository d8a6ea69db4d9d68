-- What it means that a call of a function gives what an operation of Hume gives.
use Rattle.std.specs.Prelude.{◌≡◌, ℕ, ◌==◌, ◌&&◌, true, false, pos, [], ◌∷◌, Some}
use Rattle.hume_base.specs.declared.types.Value.TheVariants.{Word}
use Rattle.hume_model.specs.declared.core_tree.Op.{Op}
use Rattle.hume_model.specs.declared.core_tree.Op.TheVariants.{Neg, Convert}
use Rattle.hume_model.specs.declared.outcome.Outcome.TheVariants.{Gives}
use Rattle.hume_model.specs.Operations.{binary, unary}
use Rattle.c_tree.specs.declared.tree.CType.TheVariants.{Unsigned}
use Rattle.c_tree.specs.declared.tree.COp.{COp}
use Rattle.c_tree.specs.declared.tree.CExp.{CExp}
use Rattle.c_tree.specs.declared.tree.CExp.TheVariants.{Call, Cast, Binary}
use Rattle.c_names.specs.declared.names.Names.{Names}
use Rattle.c_arithmetic.specs.declared.functions.Helper.{Helper}
use Rattle.c_arithmetic.specs.declared.functions.Helper.TheVariants as helper
use Rattle.c_arithmetic.specs.declared.functions.Numbers.{Numbers}
use Rattle.c_arithmetic.specs.Widths.{c_type, work, greatest, is_within}
use Rattle.c_arithmetic.specs.Bodies.{helper_name}
use Rattle.c_meaning.specs.Numbers.{Signed, of_type}
use Rattle.c_meaning.specs.Memories.{Numeric}
use Rattle.c_meaning.specs.Expressions.{Context, meant}
use Rattle.c_numbers.specs.Shown.{AreNumbers, IsTarget, hume_type, Shows, ShowsGiven, ShowsTruthGiven}
use Rattle.c_numbers.specs.Declared.{IsDeclared}

-- two operands of the numbers, by what they show
pub record Operands (numbers : Numbers) (context : Context) (left right : CExp) (l r : ℕ) : Type 0 where
  pub fine : AreNumbers numbers
  pub first : Shows context numbers left l
  pub second : Shows context numbers right r

-- the call of a function with two operands gives the number that the operation gives
abbrev pub CallGives : Helper → Op → Type 0
CallGives which operator = (names : Names) (numbers : Numbers) (context : Context) (left right : CExp) (l r : ℕ) → Operands numbers context left right l r
    → IsDeclared names numbers which context
    → ShowsGiven context numbers (Call (helper_name names which numbers) (left ∷ right ∷ [])) (binary operator (hume_type numbers) l r)

-- so for numbers with a sign
abbrev pub SignedCallGives : Helper → Op → Type 0
SignedCallGives which operator = (names : Names) (numbers : Numbers) (context : Context) (left right : CExp) (l r : ℕ) → numbers.signed ≡ true
    → Operands numbers context left right l r → IsDeclared names numbers which context
    → ShowsGiven context numbers (Call (helper_name names which numbers) (left ∷ right ∷ [])) (binary operator (hume_type numbers) l r)

-- the call gives the truth value that a comparison gives
abbrev pub CallTells : Helper → Op → Type 0
CallTells which operator = (names : Names) (numbers : Numbers) (context : Context) (left right : CExp) (l r : ℕ) → Operands numbers context left right l r
    → IsDeclared names numbers which context
    → ShowsTruthGiven context (Call (helper_name names which numbers) (left ∷ right ∷ [])) (binary operator (hume_type numbers) l r)

-- the call for negation
abbrev pub CallNegates : Type 0
CallNegates = (names : Names) (numbers : Numbers) (context : Context) (part : CExp) (word : ℕ) → AreNumbers numbers → Shows context numbers part word
    → IsDeclared names numbers helper.Neg context
    → ShowsGiven context numbers (Call (helper_name names helper.Neg numbers) (part ∷ [])) (unary Neg (hume_type numbers) word)

-- the call for a conversion, from any numbers
abbrev pub CallConverts : Type 0
CallConverts = (names : Names) (from to : Numbers) (context : Context) (part : CExp) (word : ℕ) → IsTarget context.int → AreNumbers from → AreNumbers to
    → Shows context from part word → IsDeclared names to helper.To context
    → ShowsGiven context to (Call (helper_name names helper.To to) (Cast (Unsigned (work to)) part ∷ [])) (unary Convert (hume_type to) word)

-- ---- C's own operators

-- the operator tells what a comparison tells, as an `int`
abbrev pub OperatorTells : COp → Op → Type 0
OperatorTells operator operation = (numbers : Numbers) (context : Context) (left right : CExp) (l r : ℕ) → IsTarget context.int
    → Operands numbers context left right l r → (word : ℕ) → binary operation (hume_type numbers) l r ≡ Gives (Word word)
    → (meant (Binary operator left right)).value context ≡ Some (Numeric (of_type (Signed context.int) (pos word)))

-- the operator gives a quotient or a rest, unless a number with a sign is divided by -1
abbrev pub OperatorDivides : COp → Op → Type 0
OperatorDivides operator operation = (numbers : Numbers) (context : Context) (left right : CExp) (l r : ℕ) → IsTarget context.int
    → Operands numbers context left right l r → (numbers.signed && (r == greatest 64)) ≡ false
    → ShowsGiven context numbers (Cast (c_type numbers) (Binary operator left right)) (binary operation (hume_type numbers) l r)

-- a cast converts to numbers that have all those of the operand among them
abbrev pub CastConverts : Type 0
CastConverts = (from to : Numbers) (context : Context) (part : CExp) (word : ℕ) → AreNumbers from → AreNumbers to → is_within from to ≡ true
    → Shows context from part word → ShowsGiven context to (Cast (c_type to) part) (unary Convert (hume_type to) word)
