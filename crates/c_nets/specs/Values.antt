-- The statements that write a value to an object, part by part.
use Rattle.std.specs.Prelude.{ℕ, ◌+◌, List, [], ◌∷◌, ◌++◌, Option, Some, None, codes, slice_get}
use Rattle.hume_base.specs.declared.types.Ty.{Ty, out-Ty}
use Rattle.hume_base.specs.declared.types.Ty.TheOpen.{Ty-F}
use Rattle.hume_base.specs.declared.types.Types.{Types}
use Rattle.hume_base.specs.declared.types.SumDef.{SumDef}
use Rattle.hume_base.specs.declared.types.ConDef.{ConDef}
use Rattle.hume_base.specs.declared.types.Value.{Value, fold-Value}
use Rattle.hume_base.specs.declared.types.Value.TheOpen.{Value-F}
use Rattle.c_tree.specs.declared.tree.Width.TheVariants.{W16}
use Rattle.c_tree.specs.declared.tree.CExp.{CExp}
use Rattle.c_tree.specs.declared.tree.CExp.TheVariants as exp
use Rattle.c_tree.specs.declared.tree.CStm.{CStm}
use Rattle.c_tree.specs.declared.tree.CStm.TheVariants as stm
use Rattle.c_names.specs.declared.names.Names.{Names}
use Rattle.c_forms.specs.Expressions.{numbered}
use Rattle.c_types.specs.Shapes.{Form, Enumeration, Record, Tagged, form_of, literal}
use Rattle.c_types.specs.Gathered.{Gathered, tag}

-- what writes a value, by the object and the type
abbrev pub Writes : Type 0
Writes = CExp → Ty → List CStm

abbrev pub field_of : CExp → ℕ → CExp
field_of object place = exp.Member object (numbered (codes "f") place)

abbrev pub field_written : CExp → ℕ → Writes → Option Ty → List CStm
field_written object place part None = []
field_written object place part (Some ty) = part (field_of object place) ty

-- the parts from a place on, each to the field of its place
abbrev pub fields_written : CExp → List Ty → ℕ → List Writes → List CStm
fields_written object tys place [] = []
fields_written object tys place (part ∷ parts) = field_written object place part (slice_get tys place) ++ fields_written object tys (place + 1) parts

abbrev pub element_of : CExp → ℕ → CExp
element_of object place = exp.Element (exp.Member object (codes "e")) (exp.Unsigned W16 place)

-- the parts from a place on, each to the element of its place
abbrev pub elements_written : CExp → Ty → ℕ → List Writes → List CStm
elements_written object item place [] = []
elements_written object item place (part ∷ parts) =
    part (element_of object place) item ++ elements_written object item (place + 1) parts

abbrev pub tuple_written : CExp → List Writes → Ty-F Ty → List CStm
tuple_written object parts (Ty-F.Tuple tys) = fields_written object tys 0 parts
tuple_written object parts _ = []

abbrev pub vector_written : CExp → List Writes → Ty-F Ty → List CStm
vector_written object parts (Ty-F.Vector count item) = elements_written object item 0 parts
vector_written object parts _ = []

-- the fields of a constructor
abbrev pub constructor_fields : CExp → List Writes → Option ConDef → List CStm
constructor_fields object parts None = []
constructor_fields object parts (Some con) = fields_written object con.fields 0 parts

-- where the fields of a constructor are in the union
abbrev pub union_member : CExp → ConDef → CExp
union_member object con = exp.Member (exp.Member object (codes "u")) (codes "c_" ++ con.name)

-- the fields of a constructor, in its member of the union
abbrev pub union_fields : CExp → List Writes → Option ConDef → List CStm
union_fields object parts None = []
union_fields object parts (Some con) = fields_written (union_member object con) con.fields 0 parts

abbrev pub tag_of : CExp → CExp
tag_of object = exp.Member object (codes "tag")

abbrev pub assigned : CExp → CExp → List CStm
assigned object value = stm.Assign object value ∷ []

-- the constant of a constructor, to the object of the tag
abbrev pub tag_written : Names → CExp → SumDef → ℕ → List CStm
tag_written names object sum place = assigned object (tag names sum place)

-- the tag, and then the fields of a constructor
abbrev pub tagged_written : Names → CExp → ℕ → List Writes → SumDef → List CStm
tagged_written names object place parts sum =
    tag_written names (tag_of object) sum place ++ union_fields object parts (slice_get sum.cons place)

abbrev pub constructor_written : Names → CExp → ℕ → List Writes → Form → List CStm
constructor_written names object place parts (Enumeration sum) = tag_written names object sum place
constructor_written names object place parts (Record sum) = constructor_fields object parts (slice_get sum.cons 0)
constructor_written names object place parts (Tagged sum) = tagged_written names object place parts sum
constructor_written names object place parts _ = []

-- the word of a scalar
abbrev pub word_written : CExp → Ty → ℕ → List CStm
word_written object ty word = assigned object (literal ty word)

-- one level of a value, with what writes its parts
abbrev pub write_step : Types → Names → Value-F Writes → Writes
write_step types names (Value-F.Word word) object ty = word_written object ty word
write_step types names (Value-F.Tuple parts) object ty = tuple_written object parts (out-Ty ty)
write_step types names (Value-F.Vector parts) object ty = vector_written object parts (out-Ty ty)
write_step types names (Value-F.Con place parts) object ty = constructor_written names object place parts (form_of types ty)

-- the statements that write a value
abbrev pub value_written : Types → Names → Value → Writes
value_written types names = fold-Value Writes (write_step types names)

-- the same, by what a file has gathered
abbrev pub writes : Gathered → Value → Writes
writes all = value_written all.types all.names
