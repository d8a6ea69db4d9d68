-- Which expressions may raise an exception, as far as their forms tell.
use Rattle.std.specs.Prelude.{ℕ, ◌==◌, nat_le, not, ◌&&◌, ◌||◌, Bool, true, false, List, [], ◌∷◌, Option, Some, None, map, slice_get}
use Rattle.std.specs.List.{filter_map}
use Rattle.hume_base.specs.declared.types.Ty.{Ty, out-Ty}
use Rattle.hume_base.specs.declared.types.Ty.TheOpen.{Ty-F}
use Rattle.hume_model.specs.declared.core_tree.Op.{Op}
use Rattle.hume_model.specs.declared.core_tree.Op.TheVariants.{Div, Mod}
use Rattle.hume_model.specs.declared.core_tree.PatC.{PatC}
use Rattle.typed_core.specs.declared.typed_tree.TypedExpr.{TypedExpr, out-TypedExpr}
use Rattle.typed_core.specs.declared.typed_tree.TypedExpr.TheOpen.{TypedExpr-F}
use Rattle.c_analysis.specs.declared.setting.Called.{Called}
use Rattle.hume_model.specs.Completeness.{are_complete}
use Rattle.hume_model.specs.Forms.{forms_of}
use Rattle.c_analysis.specs.Seen.{Seen, by_forms, tree_of}
use Rattle.c_analysis.specs.Targets.{Target}

abbrev pub word_in : TypedExpr-F TypedExpr → Option ℕ
word_in (TypedExpr-F.Word word) = Some word
word_in _ = None

-- the word of a literal
abbrev pub word_of : TypedExpr → Option ℕ
word_of e = word_in (out-TypedExpr e)

abbrev pub nonzero : Option ℕ → Bool
nonzero None = false
nonzero (Some word) = not (word == 0)

-- a literal other than 0
abbrev pub is_nonzero : TypedExpr → Bool
is_nonzero e = nonzero (word_of e)

abbrev pub divides_by_literal : Option TypedExpr → Bool
divides_by_literal None = false
divides_by_literal (Some divisor) = is_nonzero divisor

-- an operation that isn't a division, or one by a literal other than 0
abbrev pub is_zero_free : Op → List TypedExpr → Bool
is_zero_free Div parts = divides_by_literal (slice_get parts 1)
is_zero_free Mod parts = divides_by_literal (slice_get parts 1)
is_zero_free _ parts = true

abbrev pub inside : Ty-F Ty → Option ℕ → Bool
inside (Ty-F.Vector count item) (Some word) = nat_le 1 word && nat_le word count
inside _ _ = false

-- a place that is a literal within the length of the vectors of the type
abbrev pub is_inside : Ty → TypedExpr → Bool
is_inside of place = inside (out-Ty of) (word_of place)

abbrev pub some_raise : List (Seen Bool) → Bool
some_raise [] = false
some_raise (first ∷ others) = first.value || some_raise others

abbrev pub some_arms_raise : List (PatC × Seen Bool) → Bool
some_arms_raise [] = false
some_arms_raise (first ∷ others) = first.1.value || some_arms_raise others

-- whether a function may raise; one that isn't there does
abbrev pub raises_as : Option Called → Bool
raises_as None = true
raises_as (Some called) = called.raises

abbrev pub pattern_of : {A : Type 0} → PatC × A → Option PatC
pattern_of arm = Some arm.0

-- whether alternatives for values of the type leave none out
abbrev pub arms_complete : {A : Type 0} → Target → Ty → List (PatC × A) → Bool
arms_complete {A} t of arms = are_complete t.file.types (forms_of of) (filter_map (pattern_of {A = A}) arms)

abbrev pub raise_step : Target → TypedExpr-F (Seen Bool) → Bool
raise_step t (TypedExpr-F.Word word) = false
raise_step t (TypedExpr-F.Var number) = false
raise_step t (TypedExpr-F.Con place parts) = some_raise parts
raise_step t (TypedExpr-F.Tuple parts) = some_raise parts
raise_step t (TypedExpr-F.Vect parts) = some_raise parts
raise_step t (TypedExpr-F.Prim op of parts) = not (is_zero_free op (map tree_of parts)) || some_raise parts
raise_step t (TypedExpr-F.Convert from to part) = part.value
raise_step t (TypedExpr-F.Index of place_ty vector place) = not (is_inside of place.tree) || vector.value || place.value
raise_step t (TypedExpr-F.Update of place_ty vector place item) = not (is_inside of place.tree) || vector.value || place.value || item.value
raise_step t (TypedExpr-F.If test when_true when_false) = test.value || when_true.value || when_false.value
raise_step t (TypedExpr-F.Case of part arms) =
    not (arms_complete t of arms) || part.value || some_arms_raise arms
raise_step t (TypedExpr-F.Let of part body) = part.value || body.value
raise_step t (TypedExpr-F.Call function parts) = raises_as (slice_get t.called function) || some_raise parts
raise_step t (TypedExpr-F.Raise exn part) = true

-- whether the expression may raise
abbrev pub may_raise : Target → TypedExpr → Bool
may_raise t = by_forms (raise_step t)
