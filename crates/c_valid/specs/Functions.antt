-- The functions that tell whether an object holds a value. A struct holds one where each part does: the fields of a tuple or of a
-- constructor, the tag and the fields of its constructor, each element of a vector.
use Rattle.std.specs.Prelude.{ℕ, ◌+◌, true, false, List, [], ◌∷◌, ◌++◌, length, Option, Some, None, codes}
use Rattle.std.specs.List.{flat_map}
use Rattle.hume_base.specs.declared.types.Ty.{Ty, out-Ty}
use Rattle.hume_base.specs.declared.types.Ty.TheOpen.{Ty-F}
use Rattle.hume_base.specs.declared.types.SumDef.{SumDef}
use Rattle.hume_base.specs.declared.types.ConDef.{ConDef}
use Rattle.c_tree.specs.declared.tree.Width.TheVariants.{W16}
use Rattle.c_tree.specs.declared.tree.CType.TheVariants as type
use Rattle.c_tree.specs.declared.tree.COp.TheVariants as op
use Rattle.c_tree.specs.declared.tree.CExp.{CExp}
use Rattle.c_tree.specs.declared.tree.CExp.TheVariants as exp
use Rattle.c_tree.specs.declared.tree.CCount.{CCount}
use Rattle.c_tree.specs.declared.tree.CStm.{CStm}
use Rattle.c_tree.specs.declared.tree.CStm.TheVariants as stm
use Rattle.c_tree.specs.declared.tree.Passing.TheVariants.{Read}
use Rattle.c_tree.specs.declared.tree.Linkage.{Linkage}
use Rattle.c_tree.specs.declared.tree.Linkage.TheVariants.{Static}
use Rattle.c_tree.specs.declared.tree.CHead.{CHead}
use Rattle.c_tree.specs.declared.tree.CItem.{CItem}
use Rattle.c_tree.specs.declared.tree.CItem.TheVariants as item
use Rattle.c_forms.specs.Expressions.{numbered}
use Rattle.c_forms.specs.Items.{function, parameter}
use Rattle.c_forms.specs.Statements.{one_if}
use Rattle.c_types.specs.Shapes.{Form, Record, Tagged, Parts, Elements, form_of}
use Rattle.c_types.specs.Gathered.{Gathered, c_type, tag}
use Rattle.c_valid.specs.Tests.{Known, function_of, tag_test, test_of}

-- what the function's parameter points to
abbrev pub value : CExp
value = exp.Pointed (codes "value")

-- the value of an expression is given back
abbrev pub given_back : CExp → List CStm
given_back answer = stm.Return (Some answer) ∷ []

-- whether all tests hold is given back
abbrev pub all_hold : List CExp → List CStm
all_hold tests = given_back (exp.All tests)

abbrev pub one_or_none : Option CExp → List CExp
one_or_none None = []
one_or_none (Some test) = test ∷ []

-- the test of a field of an object, if it has one
abbrev pub field_test : Known → CExp → ℕ → Ty → List CExp
field_test it object place ty = one_or_none (test_of it ty (exp.Member object (numbered (codes "f") place)))

-- the tests of fields of an object, the first of which is named by that place
abbrev pub tests_from : Known → CExp → ℕ → List Ty → List CExp
tests_from it object place [] = []
tests_from it object place (ty ∷ tys) = field_test it object place ty ++ tests_from it object (place + 1) tys

abbrev pub body_of_tests : List CExp → Option (List CStm)
body_of_tests [] = None
body_of_tests (test ∷ tests) = Some (all_hold (test ∷ tests))

-- the fields of a struct are tested
abbrev pub fields_body : Known → List Ty → Option (List CStm)
fields_body it tys = body_of_tests (tests_from it value 0 tys)

abbrev pub record_body : Known → List ConDef → Option (List CStm)
record_body it [] = None
record_body it (con ∷ cons) = fields_body it con.fields

-- the tag of a struct that has one
abbrev pub tag_member : CExp
tag_member = exp.Member value (codes "tag")

-- the fields of a constructor, in its member of the union
abbrev pub fields_of : ConDef → CExp
fields_of con = exp.Member (exp.Member value (codes "u")) (codes "c_" ++ con.name)

-- of a tag the tests, if there are some, are given back
abbrev pub case_of : CExp → List CExp → List CStm
case_of label [] = []
case_of label (test ∷ tests) = one_if (exp.Binary op.Equal tag_member label) (all_hold (test ∷ tests)) ∷ []

-- of the constructor at a place, the tests of its fields
abbrev pub case_at : Known → SumDef → ℕ → ConDef → List CStm
case_at it sum place con = case_of (tag it.all.names sum place) (tests_from it (fields_of con) 0 con.fields)

-- of the constructors from a place on
abbrev pub cases_from : Known → SumDef → ℕ → List ConDef → List CStm
cases_from it sum place [] = []
cases_from it sum place (con ∷ cons) = case_at it sum place con ++ cases_from it sum (place + 1) cons

-- what is given back of a tag whose fields have no tests
abbrev pub rest_of : Option CExp → List CStm
rest_of None = given_back (exp.Truth true)
rest_of (Some test) = given_back test

-- where no fields have tests, the tag alone is tested
abbrev pub tag_alone : Option CExp → Option (List CStm)
tag_alone None = None
tag_alone (Some test) = Some (given_back test)

-- The fields are tested by the tag, and the tag where its fields have no tests.
abbrev pub by_tag : Option CExp → List CStm → Option (List CStm)
by_tag test [] = tag_alone test
by_tag test (first ∷ others) = Some ((first ∷ others) ++ rest_of test)

abbrev pub tagged_body : Known → SumDef → Option (List CStm)
tagged_body it sum = by_tag (tag_test (length sum.cons) tag_member) (cases_from it sum 0 sum.cons)

-- the element at the index that is counted
abbrev pub one_element : CExp
one_element = exp.Element (exp.Member value (codes "e")) (exp.Name (codes "i"))

-- where the test doesn't hold, false is given back
abbrev pub failed : CExp → List CStm
failed test = one_if (exp.Not test) (given_back (exp.Truth false)) ∷ []

-- an index counts so many elements
abbrev pub counted : ℕ → CCount
counted count = record { ty = type.Unsigned W16; name = codes "i"; limit = exp.Unsigned W16 count }

-- of so many elements each is looked at
abbrev pub elements_body : ℕ → List CStm → List CStm
elements_body count body = stm.For (counted count) body ∷ given_back (exp.Truth true)

abbrev pub each_holds : ℕ → Option CExp → Option (List CStm)
each_holds count None = None
each_holds count (Some test) = Some (elements_body count (failed test))

abbrev pub body_in : Known → Ty-F Ty → Form → Option (List CStm)
body_in it layer (Record sum) = record_body it sum.cons
body_in it layer (Tagged sum) = tagged_body it sum
body_in it (Ty-F.Tuple tys) Parts = fields_body it tys
body_in it (Ty-F.Vector many item) (Elements count) = each_holds count (test_of it item one_element)
body_in it layer _ = None

-- the statements of a type's function; none where each object holds a value, or it is no struct
unfoldable pub body_of : Known → Ty → Option (List CStm)
body_of it ty = body_in it (out-Ty ty) (form_of it.all.types ty)

-- a type that has a function among those that have one
abbrev pub with_one : Known → Ty → Known
with_one it ty = record { all = it.all; with_function = it.with_function ++ ty ∷ [] }

abbrev pub known_by : Known → Ty → Option (List CStm) → Known
known_by it ty None = it
known_by it ty (Some body) = with_one it ty

-- what is known behind a type
abbrev pub known_behind : Known → Ty → Known
known_behind it ty = known_by it ty (body_of it ty)

-- what is known behind types one after another, each behind those that it is made of
abbrev pub known_behind_all : Known → List Ty → Known
known_behind_all it [] = it
known_behind_all it (ty ∷ tys) = known_behind_all (known_behind it ty) tys

-- before the first type
abbrev pub none_known : Gathered → Known
none_known all = record { all = all; with_function = [] }

-- what is known of the types of a file
abbrev pub known_of : Gathered → Known
known_of all = known_behind_all (none_known all) all.tys

-- the head of a function that tells whether an object of the type holds a value
abbrev pub head : Gathered → Linkage → List ℕ → Ty → CHead
head all linkage name ty = record {
  linkage = linkage;
  result = Some type.Bool;
  name = name;
  parameters = parameter (c_type all ty) Read (codes "value") ∷ [];
}

abbrev pub items_with : Gathered → List ℕ → Ty → Option (List CStm) → List CItem
items_with all name ty None = []
items_with all name ty (Some body) = item.Function (function (head all Static name ty) body) ∷ []

abbrev pub items_named : Known → Ty → Option (List ℕ) → List CItem
items_named it ty None = []
items_named it ty (Some name) = items_with it.all name ty (body_of it ty)

-- the function of a type, if it has one
abbrev pub items_of : Known → Ty → List CItem
items_of it ty = items_named it ty (function_of it ty)

-- the functions of the types of a file
abbrev pub type_functions : Known → List CItem
type_functions it = flat_map (items_of it) it.all.tys
