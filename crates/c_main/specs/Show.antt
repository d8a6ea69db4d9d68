-- The functions of a main that write values.
use Rattle.std.specs.Prelude.{ℕ, ◌==◌, Bool, true, false, not, List, [], ◌∷◌, ◌++◌, codes, decimal, if◌then◌else◌}
use Rattle.hume_base.specs.declared.types.Types.{Types}
use Rattle.hume_base.specs.declared.types.Ty.{Ty, out-Ty}
use Rattle.hume_base.specs.declared.types.Ty.TheOpen.{Ty-F}
use Rattle.hume_base.specs.declared.types.ConDef.{ConDef}
use Rattle.c_tree.specs.Words.{type_text}
use Rattle.c_forms.specs.Expressions.{numbered}
use Rattle.c_types.specs.Shapes.{Form, Truth, Signed, Unsigned, Enumeration, Record, Tagged, Parts, Elements, form_of, has_some}
use Rattle.c_types.specs.Gathered.{Gathered, c_type}
use Rattle.c_main.specs.Texts.{each_from, filled, string_text}
use Rattle.c_main.specs.Found.{number_text}
use Rattle.c_main.specs.Streams.{field_word}
use Rattle.c_main.specs.declared.show.TheConstants.{FUNCTION, TRUTH, SIGNED, UNSIGNED, LETTER, PARTS, FIRST_PART, NEXT_PART, ELEMENTS, DATA, CONSTRUCTOR, WITHOUT_FIELDS, WITH_FIELDS, FIELD}

-- the call that writes a value of the type from a place, as one within another value or not
unfoldable pub call : List Ty → Ty → List ℕ → List ℕ → List ℕ
call found ty place inner =
    codes "show" ++ (number_text found ty ++ (codes "(file, &" ++ (place ++ (codes ", " ++ (inner ++ codes ");")))))

abbrev pub unsigned_body : Ty-F Ty → List ℕ
unsigned_body Ty-F.Char = filled LETTER []
unsigned_body _ = filled UNSIGNED []

-- a part of a tuple at a place
abbrev pub part : List Ty → ℕ → Ty → List ℕ
part found place ty =
    if place == 0 then filled FIRST_PART (call found ty (numbered (codes "v->f") place) (codes "false") ∷ [])
    else filled NEXT_PART (call found ty (numbered (codes "v->f") place) (codes "false") ∷ [])

abbrev pub parts : List Ty → List Ty → List ℕ
parts found tys = each_from (part found) 0 tys

-- a field of a constructor at a place
abbrev pub field : List Ty → List ℕ → ℕ → Ty → List ℕ
field found word place ty = filled FIELD (call found ty (numbered word place) (codes "true") ∷ [])

abbrev pub fields : List Ty → List ℕ → List Ty → List ℕ
fields found word tys = each_from (field found word) 0 tys

-- The name of a constructor with its fields, or alone. One with fields stands in parentheses within another one.
abbrev pub named : List ℕ → List ℕ → Bool → List ℕ
named name fields true = filled WITHOUT_FIELDS (string_text name ∷ [])
named name fields false = filled WITH_FIELDS (string_text name ∷ fields ∷ [])

-- the test of the tag, if there is one
abbrev pub tested : Form → ℕ → List ℕ
tested (Enumeration sum) place = codes "if (*v == " ++ (decimal place ++ codes "u) ")
tested (Tagged sum) place = codes "if (v->tag == " ++ (decimal place ++ codes "u) ")
tested _ place = []

-- a constructor at a place is written
abbrev pub constructor : List Ty → Form → ℕ → ConDef → List ℕ
constructor found form place con = filled CONSTRUCTOR (tested form place
    ∷ named con.name (fields found (field_word form con.name) con.fields) (not (has_some con.fields)) ∷ [])

abbrev pub constructors : List Ty → Form → List ConDef → List ℕ
constructors found form cons = each_from (constructor found form) 0 cons

abbrev pub data_body : List Ty → Form → List ConDef → List ℕ
data_body found form cons = filled DATA [] ++ constructors found form cons

abbrev pub body_in : List Ty → Ty-F Ty → Form → List ℕ
body_in found layer Truth = filled TRUTH []
body_in found layer (Signed bits) = filled SIGNED []
body_in found layer (Unsigned bits) = unsigned_body layer
body_in found layer (Enumeration sum) = data_body found (Enumeration sum) sum.cons
body_in found layer (Record sum) = data_body found (Record sum) sum.cons
body_in found layer (Tagged sum) = data_body found (Tagged sum) sum.cons
body_in found (Ty-F.Tuple tys) Parts = filled PARTS (parts found tys ∷ [])
body_in found (Ty-F.Vector many item) (Elements count) = filled ELEMENTS (decimal count ∷ call found item (codes "v->e[i]") (codes "false") ∷ [])
body_in found _ _ = []

-- the statements that write a value of a type
unfoldable pub body : Types → List Ty → Ty → List ℕ
body types found ty = body_in found (out-Ty ty) (form_of types ty)

-- the function that writes a value of a type, the one of that number among those found
abbrev pub show_function : Gathered → List Ty → ℕ → Ty → List ℕ
show_function all found number ty = filled FUNCTION (decimal number ∷ type_text (c_type all ty) ∷ body all.types found ty ∷ [])
