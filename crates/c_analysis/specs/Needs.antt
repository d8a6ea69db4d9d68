-- What patterns ask of the objects that they are matched with.
use Rattle.std.specs.Prelude.{ℕ, ◌+◌, nat_lt, ◌||◌, Bool, true, false, List, [], ◌∷◌, length, sum as total, Option, Some, None, slice_get}
use Rattle.hume_base.specs.declared.types.Ty.{Ty, out-Ty}
use Rattle.hume_base.specs.declared.types.Ty.TheOpen.{Ty-F}
use Rattle.hume_base.specs.declared.types.ConDef.{ConDef}
use Rattle.hume_model.specs.declared.core_tree.PatC.{PatC, fold-PatC}
use Rattle.hume_model.specs.declared.core_tree.PatC.TheOpen.{PatC-F}
use Rattle.c_types.specs.Shapes.{Form, Enumeration, Record, Tagged, form_of}
use Rattle.c_analysis.specs.Targets.{Target}

-- whether one of the fields is tested, by the types of the fields
abbrev pub some_field : List Ty → List (Ty → Bool) → Bool
some_field [] parts = false
some_field (ty ∷ tys) [] = false
some_field (ty ∷ tys) (part ∷ parts) = part ty || some_field tys parts

abbrev pub fields_of_first : List ConDef → List Ty
fields_of_first [] = []
fields_of_first (con ∷ others) = con.fields

abbrev pub con_needs : Form → List (Ty → Bool) → Bool
con_needs (Enumeration sum) parts = nat_lt 1 (length sum.cons)
con_needs (Record sum) parts = some_field (fields_of_first sum.cons) parts
con_needs _ parts = true

abbrev pub tuple_needs : Ty-F Ty → List (Ty → Bool) → Bool
tuple_needs (Ty-F.Tuple tys) parts = some_field tys parts
tuple_needs _ parts = false

abbrev pub needs_step : Target → PatC-F (Ty → Bool) → Ty → Bool
needs_step t PatC-F.Var ty = false
needs_step t PatC-F.Any ty = false
needs_step t (PatC-F.Word word) ty = true
needs_step t (PatC-F.Con place parts) ty = con_needs (form_of t.file.types ty) parts
needs_step t (PatC-F.Tuple parts) ty = tuple_needs (out-Ty ty) parts

-- whether a value is tested where it is matched with the pattern, by its type
abbrev pub needed : Target → PatC → Ty → Bool
needed t = fold-PatC (Ty → Bool) (needs_step t)

abbrev pub needs_test : Target → Ty → PatC → Bool
needs_test t ty pattern = needed t pattern ty

abbrev pub variables_step : PatC-F ℕ → ℕ
variables_step PatC-F.Var = 1
variables_step PatC-F.Any = 0
variables_step (PatC-F.Word word) = 0
variables_step (PatC-F.Con place parts) = total parts
variables_step (PatC-F.Tuple parts) = total parts

-- how many variables a pattern has
abbrev pub variables : PatC → ℕ
variables = fold-PatC ℕ variables_step
