-- The tests that an object passes where its value matches a pattern, and the objects of the pattern's variables.
use Rattle.std.specs.Prelude.{ℕ, ◌+◌, ◌==◌, nat_lt, List, [], ◌∷◌, ◌++◌, codes, length, Option, Some, None, slice_get, if◌then◌else◌}
use Rattle.hume_base.specs.declared.types.Ty.{Ty, out-Ty}
use Rattle.hume_base.specs.declared.types.Ty.TheOpen.{Ty-F}
use Rattle.hume_base.specs.declared.types.ConDef.{ConDef}
use Rattle.hume_base.specs.declared.types.SumDef.{SumDef}
use Rattle.hume_model.specs.declared.core_tree.PatC.{PatC, fold-PatC}
use Rattle.hume_model.specs.declared.core_tree.PatC.TheOpen.{PatC-F}
use Rattle.c_tree.specs.declared.tree.CExp.{CExp}
use Rattle.c_tree.specs.declared.tree.CExp.TheVariants as exp
use Rattle.c_tree.specs.declared.tree.COp.TheVariants as op
use Rattle.c_forms.specs.Expressions.{numbered}
use Rattle.c_types.specs.Shapes.{Form, Enumeration, Record, Tagged, form_of, literal}
use Rattle.c_analysis.specs.Needs.{fields_of_first}
use Rattle.c_analysis.specs.Targets.{Target, tag}

-- tests, all of which hold where the value matches, and the objects of the variables
pub record Match : Type 0 where
  pub tests : List CExp
  pub objects : List CExp

abbrev pub matching : List CExp → List CExp → Match
matching tests objects = record { tests = tests; objects = objects }

abbrev pub both : Match → Match → Match
both first second = matching (first.tests ++ second.tests) (first.objects ++ second.objects)

abbrev pub Matching : Type 0
Matching = Ty → CExp → Match

-- the struct of the fields of a constructor within an object
abbrev pub fields_of : CExp → ConDef → CExp
fields_of object con = exp.Member (exp.Member object (codes "u")) (codes "c_" ++ con.name)

-- a field of a struct
abbrev pub field_of : CExp → ℕ → CExp
field_of object place = exp.Member object (numbered (codes "f") place)

abbrev pub truth_test : CExp → ℕ → CExp
truth_test object word = if word == 0 then exp.Not object else object

abbrev pub word_test_in : Ty-F Ty → Ty → CExp → ℕ → CExp
word_test_in Ty-F.Bool ty object word = truth_test object word
word_test_in _ ty object word = exp.Binary op.Equal object (literal ty word)

-- the test that an object has the word
abbrev pub word_test : Ty → CExp → ℕ → CExp
word_test ty object word = word_test_in (out-Ty ty) ty object word

-- the fields of an object from a place on, by their types
abbrev pub fields_match : CExp → ℕ → List Ty → List Matching → Match
fields_match object place tys [] = matching [] []
fields_match object place [] (part ∷ parts) = matching [] []
fields_match object place (ty ∷ tys) (part ∷ parts) = both (part ty (field_of object place)) (fields_match object (place + 1) tys parts)

abbrev pub is_tag : Target → SumDef → ℕ → CExp → Match
is_tag t sum place own = matching (exp.Binary op.Equal own (tag t sum place) ∷ []) []

abbrev pub inner_match : CExp → Option ConDef → List Matching → Match
inner_match object None parts = matching [] []
inner_match object (Some con) parts = fields_match (fields_of object con) 0 con.fields parts

abbrev pub con_match : Target → Form → ℕ → CExp → List Matching → Match
con_match t (Enumeration sum) place object parts = if nat_lt 1 (length sum.cons) then is_tag t sum place object else matching [] []
con_match t (Record sum) place object parts = fields_match object 0 (fields_of_first sum.cons) parts
con_match t (Tagged sum) place object parts =
    both (is_tag t sum place (exp.Member object (codes "tag"))) (inner_match object (slice_get sum.cons place) parts)
con_match t _ place object parts = matching [] []

abbrev pub tuple_match : Ty-F Ty → CExp → List Matching → Match
tuple_match (Ty-F.Tuple tys) object parts = fields_match object 0 tys parts
tuple_match _ object parts = matching [] []

abbrev pub match_step : Target → PatC-F Matching → Matching
match_step t PatC-F.Var ty object = matching [] (object ∷ [])
match_step t PatC-F.Any ty object = matching [] []
match_step t (PatC-F.Word word) ty object = matching (word_test ty object word ∷ []) []
match_step t (PatC-F.Con place parts) ty object = con_match t (form_of t.file.types ty) place object parts
match_step t (PatC-F.Tuple parts) ty object = tuple_match (out-Ty ty) object parts

-- a pattern for values of the type, matched with an object
abbrev pub matched : Target → PatC → Matching
matched t = fold-PatC Matching (match_step t)

-- all of the tests as one
abbrev pub conjunction : List CExp → CExp
conjunction (test ∷ []) = test
conjunction tests = exp.All tests
