-- Where functions of arithmetic are declared.
use Rattle.std.specs.Prelude.{◌≡◌, ⊤, Bool, true, codes, Some, None}
use Rattle.c_names.specs.declared.names.Names.{Names}
use Rattle.c_arithmetic.specs.declared.functions.Helper.{Helper}
use Rattle.c_arithmetic.specs.declared.functions.Helper.TheVariants as helper
use Rattle.c_arithmetic.specs.declared.functions.Numbers.{Numbers}
use Rattle.c_arithmetic.specs.Bodies.{helper_name}
use Rattle.c_arithmetic.specs.Helpers.{helper_function}
use Rattle.c_meaning.specs.Memories.{named}
use Rattle.c_meaning.specs.Expressions.{Context}
use Rattle.c_meaning.specs.Calls.{function_of}
use Rattle.c_numbers.specs.Shown.{IsTarget}

-- what stands before the functions: nothing that is called like the variable in one of them
pub record IsFile (file : Context) : Type 0 where
  pub target : IsTarget file.int
  pub free : named (codes "low") file.scope ≡ None

-- a function for the numbers, declared behind something
pub record StandsBehind (names : Names) (numbers : Numbers) (which : Helper) (before : Context → Type 0) (context : Context) : Type 0 where
  pub file : Context
  pub fine : IsFile file
  pub first : before file
  pub is : context.functions (helper_name names which numbers) ≡ Some (function_of file (helper_function names which numbers))

abbrev pub nothing : Context → Type 0
nothing file = ⊤

-- the function that brings a number back to the bits of the type
abbrev pub ToStands : Names → Numbers → Context → Type 0
ToStands names numbers = StandsBehind names numbers helper.To nothing

abbrev pub NegStands : Names → Numbers → Context → Type 0
NegStands names numbers = StandsBehind names numbers helper.Neg (ToStands names numbers)

-- the function for the numbers is declared, behind those that it calls
abbrev pub IsDeclared : Names → Numbers → Helper → Context → Type 0
IsDeclared names numbers helper.To = ToStands names numbers
IsDeclared names numbers helper.Neg = NegStands names numbers
IsDeclared names numbers helper.Add = StandsBehind names numbers helper.Add (ToStands names numbers)
IsDeclared names numbers helper.Sub = StandsBehind names numbers helper.Sub (ToStands names numbers)
IsDeclared names numbers helper.Mul = StandsBehind names numbers helper.Mul (ToStands names numbers)
IsDeclared names numbers helper.Div = StandsBehind names numbers helper.Div (NegStands names numbers)
IsDeclared names numbers which = StandsBehind names numbers which nothing

-- whether there is such a function: C's own operators divide numbers without a sign
abbrev pub is_there : Numbers → Helper → Bool
is_there numbers helper.Div = numbers.signed
is_there numbers helper.Mod = numbers.signed
is_there numbers which = true

-- all functions for the numbers are declared, each behind those that it calls
abbrev pub AreDeclared : Names → Numbers → Context → Type 0
AreDeclared names numbers context = (which : Helper) → is_there numbers which ≡ true → IsDeclared names numbers which context
