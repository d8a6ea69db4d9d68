-- The functions of a main that read values.
use Rattle.std.specs.Prelude.{ℕ, ◌==◌, List, [], ◌∷◌, ◌++◌, codes, decimal, if◌then◌else◌}
use Rattle.hume_base.specs.declared.types.Ty.{Ty, out-Ty}
use Rattle.hume_base.specs.declared.types.Ty.TheOpen.{Ty-F}
use Rattle.hume_base.specs.declared.types.ConDef.{ConDef}
use Rattle.c_tree.specs.Words.{type_text}
use Rattle.c_forms.specs.Expressions.{numbered}
use Rattle.c_types.specs.Shapes.{Form, Truth, Signed, Unsigned, Enumeration, Record, Tagged, Parts, Elements, form_of}
use Rattle.c_types.specs.Gathered.{Gathered, c_type}
use Rattle.c_main.specs.Texts.{each_from, filled, string_text}
use Rattle.c_main.specs.Found.{number_text}
use Rattle.c_main.specs.Streams.{field_word}
use Rattle.c_main.specs.declared.take.TheConstants.{FUNCTION, TRUTH, LETTER, WHOLE, PARTS, ELEMENTS, DATA, CONSTRUCTOR, WHOLE_TAG, OWN_TAG, WITHOUT_FIELDS, WITH_FIELDS}

-- the call that reads a value of the type to a place, as one within another value or not
unfoldable pub call : List Ty → Ty → List ℕ → List ℕ → List ℕ
call found ty place inner =
    codes "take" ++ (number_text found ty ++ (codes "(&" ++ (place ++ (codes ", " ++ (inner ++ codes ")")))))

abbrev pub whole : List ℕ → List ℕ → ℕ → List ℕ → List ℕ
whole wide read bits name = filled WHOLE (wide ∷ read ∷ decimal bits ∷ name ∷ [])

-- a number is read as one of 64 bits
abbrev pub number_body : Gathered → Ty → List ℕ → List ℕ → ℕ → List ℕ
number_body all ty wide read bits = whole wide read bits (type_text (c_type all ty))

abbrev pub unsigned_body : Gathered → Ty → ℕ → Ty-F Ty → List ℕ
unsigned_body all ty bits Ty-F.Char = filled LETTER []
unsigned_body all ty bits _ = number_body all ty (codes "uint64_t") (codes "takeNat") bits

-- a part of a tuple at a place
abbrev pub part : List Ty → ℕ → Ty → List ℕ
part found place ty =
    if place == 0 then codes " && " ++ call found ty (numbered (codes "v->f") place) (codes "false")
    else codes " && takeSign(\",\") && " ++ call found ty (numbered (codes "v->f") place) (codes "false")

abbrev pub parts : List Ty → List Ty → List ℕ
parts found tys = each_from (part found) 0 tys

-- a field of a constructor at a place
abbrev pub field : List Ty → List ℕ → ℕ → Ty → List ℕ
field found word place ty = codes " && " ++ call found ty (numbered word place) (codes "true")

abbrev pub fields : List Ty → List ℕ → List Ty → List ℕ
fields found word tys = each_from (field found word) 0 tys

-- What is given back behind the name of a constructor. One with fields stands in parentheses within another one.
abbrev pub given_back : List Ty → List ℕ → List Ty → List ℕ
given_back found word [] = filled WITHOUT_FIELDS []
given_back found word (ty ∷ tys) = filled WITH_FIELDS (fields found word (ty ∷ tys) ∷ [])

-- the tag is written, if there is one
abbrev pub tag_written : Form → ℕ → List ℕ
tag_written (Enumeration sum) place = filled WHOLE_TAG (decimal place ∷ [])
tag_written (Tagged sum) place = filled OWN_TAG (decimal place ∷ [])
tag_written _ place = []

-- a constructor at a place is read
abbrev pub constructor : List Ty → Form → ℕ → ConDef → List ℕ
constructor found form place con = filled CONSTRUCTOR
    (string_text con.name ∷ tag_written form place ∷ given_back found (field_word form con.name) con.fields ∷ [])

abbrev pub constructors : List Ty → Form → List ConDef → List ℕ
constructors found form cons = each_from (constructor found form) 0 cons

abbrev pub data_body : List Ty → Form → List ConDef → List ℕ
data_body found form cons = filled DATA (constructors found form cons ∷ [])

abbrev pub body_in : Gathered → List Ty → Ty → Ty-F Ty → Form → List ℕ
body_in all found ty layer Truth = filled TRUTH []
body_in all found ty layer (Signed bits) = number_body all ty (codes "int64_t") (codes "takeInt") bits
body_in all found ty layer (Unsigned bits) = unsigned_body all ty bits layer
body_in all found ty layer (Enumeration sum) = data_body found (Enumeration sum) sum.cons
body_in all found ty layer (Record sum) = data_body found (Record sum) sum.cons
body_in all found ty layer (Tagged sum) = data_body found (Tagged sum) sum.cons
body_in all found ty (Ty-F.Tuple tys) Parts = filled PARTS (parts found tys ∷ [])
body_in all found ty (Ty-F.Vector many item) (Elements count) =
    filled ELEMENTS (decimal count ∷ call found item (codes "v->e[i]") (codes "false") ∷ [])
body_in all found ty _ _ = []

-- the statements that read a value of a type
unfoldable pub body : Gathered → List Ty → Ty → List ℕ
body all found ty = body_in all found ty (out-Ty ty) (form_of all.types ty)

-- the function that reads a value of a type, the one of that number among those found
abbrev pub take_function : Gathered → List Ty → ℕ → Ty → List ℕ
take_function all found number ty = filled FUNCTION (decimal number ∷ type_text (c_type all ty) ∷ body all found ty ∷ [])
