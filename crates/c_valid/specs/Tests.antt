-- The tests whether an object of a C file holds a value of its type: a number is one of its bits, a letter a printed sign, a tab or a
-- newline, and a tag less than the number of constructors. A struct is tested by the function of its type.
use Rattle.std.specs.Prelude.{ℕ, ◌-◌, ◌^◌, ◌==◌, ◌||◌, nat_lt, nat_le, Bool, true, false, List, [], ◌∷◌, length, Option, Some, None, codes, if◌then◌else◌}
use Rattle.std.specs.List.{list_any}
use Rattle.hume_base.specs.declared.types.Ty.{Ty, out-Ty}
use Rattle.hume_base.specs.declared.types.Ty.TheOpen.{Ty-F}
use Rattle.c_tree.specs.declared.tree.Width.TheVariants.{W8}
use Rattle.c_tree.specs.declared.tree.CType.{CType}
use Rattle.c_tree.specs.declared.tree.CType.TheVariants as type
use Rattle.c_tree.specs.declared.tree.COp.{COp}
use Rattle.c_tree.specs.declared.tree.COp.TheVariants as op
use Rattle.c_tree.specs.declared.tree.CExp.{CExp}
use Rattle.c_tree.specs.declared.tree.CExp.TheVariants as exp
use Rattle.c_tree.specs.Words.{bits}
use Rattle.c_forms.specs.Expressions.{read_of}
use Rattle.c_names.specs.declared.names.Names.{Names}
use Rattle.c_names.specs.Names.{inner}
use Rattle.c_types.specs.Widths.{width_of}
use Rattle.c_types.specs.Shapes.{Form, Truth, Signed, Unsigned, Enumeration, form_of, tag_width}
use Rattle.c_types.specs.Gathered.{Gathered, c_type}
use Rattle.c_types.specs.inner.SameTypes.{is_same}

-- the types of a file, and those of them of which a function tells whether an object holds a value
pub record Known : Type 0 where
  pub all : Gathered
  pub with_function : List Ty

abbrev pub function_name : Names → CType → Option (List ℕ)
function_name names (type.Named name) = Some (inner names (codes "valid_") name)
function_name names _ = None

-- the name of the type's function, if it has one
abbrev pub function_of : Known → Ty → Option (List ℕ)
function_of it ty =
    if list_any (λ other. is_same other ty) it.with_function then function_name it.all.names (c_type it.all ty) else None

-- whether numbers of so many bits are fewer than those of their type of C
abbrev pub is_narrow : ℕ → Bool
is_narrow count = nat_lt count (bits (width_of count))

-- from the least number of so many bits, one of which is the sign, to the greatest
abbrev pub signed_range : ℕ → CExp → CExp
signed_range count object = exp.All (
    exp.Binary op.GreaterEqual object (exp.Signed (width_of count) true (2 ^ (count - 1)))
    ∷ exp.Binary op.LessEqual object (exp.Signed (width_of count) false (2 ^ (count - 1) - 1)) ∷ [])

abbrev pub signed_test : ℕ → CExp → Option CExp
signed_test count object = if count == 0 then None else (if is_narrow count then Some (signed_range count object) else None)

-- a character compared with a code
abbrev pub compared : CExp → COp → ℕ → CExp
compared object operator code = exp.Binary operator object (exp.Unsigned W8 code)

-- a printed sign of ASCII, a tab or a newline
abbrev pub letter_test : CExp → CExp
letter_test object = exp.Any (
    exp.All (compared object op.GreaterEqual 32 ∷ compared object op.LessEqual 126 ∷ [])
    ∷ compared object op.Equal 9 ∷ compared object op.Equal 10 ∷ [])

-- at most the greatest number of so many bits
abbrev pub number_test : ℕ → CExp → Option CExp
number_test count object =
    if is_narrow count then Some (exp.Binary op.LessEqual object (exp.Unsigned (width_of count) (2 ^ count - 1))) else None

abbrev pub unsigned_test : Ty-F Ty → ℕ → CExp → Option CExp
unsigned_test Ty-F.Char count object = Some (letter_test object)
unsigned_test _ count object = number_test count object

-- whether each number of the type of C is the tag of one of so many constructors
abbrev pub fill_their_width : ℕ → Bool
fill_their_width count = (count == 256) || nat_le 65536 count

-- a tag is less than the number of constructors
abbrev pub tag_test : ℕ → CExp → Option CExp
tag_test count object = if fill_their_width count then None else Some (exp.Binary op.Less object (exp.Unsigned (tag_width count) count))

abbrev pub call_test : Option (List ℕ) → CExp → Option CExp
call_test None object = None
call_test (Some name) object = Some (exp.Call name (read_of object ∷ []))

abbrev pub test_in : Known → Ty → CExp → Form → Option CExp
test_in it ty object Truth = None
test_in it ty object (Signed count) = signed_test count object
test_in it ty object (Unsigned count) = unsigned_test (out-Ty ty) count object
test_in it ty object (Enumeration sum) = tag_test (length sum.cons) object
test_in it ty object _ = call_test (function_of it ty) object

-- the test whether an object holds a value of the type; none where it always does
unfoldable pub test_of : Known → Ty → CExp → Option CExp
test_of it ty object = test_in it ty object (form_of it.all.types ty)
