-- What tests the words at the front of a list, by a pattern and the type of the value that has these words.
use Rattle.std.specs.Prelude.{ℕ, ◌==◌, ◌&&◌, Bool, true, false, List, [], ◌∷◌, drop, Option, Some, None, slice_get}
use Rattle.hume_base.specs.declared.types.Ty.{Ty, out-Ty}
use Rattle.hume_base.specs.declared.types.Ty.TheOpen.{Ty-F}
use Rattle.hume_base.specs.declared.types.SumDef.{SumDef}
use Rattle.hume_base.specs.declared.types.Types.{Types}
use Rattle.hume_base.specs.Sizes.{size_of, written_size}
use Rattle.hume_base.specs.Values.{fields_at}
use Rattle.hume_model.specs.declared.core_tree.PatC.{PatC, fold-PatC}
use Rattle.hume_model.specs.declared.core_tree.PatC.TheOpen.{PatC-F}
use Rattle.hume_model.specs.declared.core_tree.InPat.{InPat}
use Rattle.hume_model.specs.declared.core_tree.InPat.TheVariants.{Star, AnyStar, Any, Built}
use Rattle.hume_model.specs.declared.core_tree.RuleC.{RuleC}
use Rattle.wire_cells.specs.Cells.{CellView}

abbrev pub Test : Type 0
Test = Ty → List ℕ → Bool

abbrev pub begins_with : ℕ → List ℕ → Bool
begins_with word [] = false
begins_with word (first ∷ words) = first == word

abbrev pub fields_in : Option SumDef → ℕ → List Ty
fields_in None place = []
fields_in (Some sum) place = fields_at sum place

-- the types of the fields of a type's constructor
abbrev pub con_fields : Types → Ty-F Ty → ℕ → List Ty
con_fields types (Ty-F.Named number) place = fields_in (slice_get types.sums number) place
con_fields types _ place = []

-- the types of a tuple's parts
abbrev pub tuple_parts : Ty-F Ty → List Ty
tuple_parts (Ty-F.Tuple tys) = tys
tuple_parts _ = []

-- each part by its test, at the words behind those of the parts before it
abbrev pub tests_pass : Types → List Test → List Ty → List ℕ → Bool
tests_pass types [] tys words = true
tests_pass types (test ∷ tests) [] words = false
tests_pass types (test ∷ tests) (ty ∷ tys) words = test ty words && tests_pass types tests tys (drop (written_size (size_of types ty)) words)

-- one level of a pattern, with the tests of its parts in their places
abbrev pub test_step : Types → PatC-F Test → Test
test_step types PatC-F.Var ty words = true
test_step types PatC-F.Any ty words = true
test_step types (PatC-F.Word word) ty words = begins_with word words
test_step types (PatC-F.Con place tests) ty words = begins_with place words && tests_pass types tests (con_fields types (out-Ty ty) place) (drop 1 words)
test_step types (PatC-F.Tuple tests) ty words = tests_pass types tests (tuple_parts (out-Ty ty)) words

abbrev pub word_test : Types → PatC → Test
word_test types = fold-PatC Test (test_step types)

-- the words of the oldest value, if there is one, pass
abbrev pub first_passes : (List ℕ → Bool) → List (List ℕ) → Bool
first_passes test [] = false
first_passes test (words ∷ later) = test words

-- a position, by the type of its input
abbrev pub position_test : Types → InPat → Ty → CellView → Bool
position_test types Star ty cell = true
position_test types AnyStar ty cell = true
position_test types Any ty cell = first_passes (λ words. true) cell.values
position_test types (Built pattern) ty cell = first_passes (word_test types pattern ty) cell.values

-- each position
abbrev pub positions_test : Types → List InPat → List Ty → List CellView → Bool
positions_test types [] tys cells = true
positions_test types (pat ∷ pats) [] cells = false
positions_test types (pat ∷ pats) (ty ∷ tys) [] = false
positions_test types (pat ∷ pats) (ty ∷ tys) (cell ∷ cells) = position_test types pat ty cell && positions_test types pats tys cells

-- there is such a rule, and it passes
abbrev pub rule_test : Types → List Ty → List CellView → Option RuleC → Bool
rule_test types tys cells None = false
rule_test types tys cells (Some rule) = positions_test types rule.pats tys cells
