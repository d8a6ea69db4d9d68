-- Which expressions are expressions of C, with no statement before them.
use Rattle.std.specs.Prelude.{ℕ, ◌+◌, ◌==◌, not, ◌&&◌, ◌||◌, Bool, true, false, List, [], ◌∷◌, Option, Some, None, map, slice_get, if◌then◌else◌}
use Rattle.hume_base.specs.declared.types.Ty.{Ty, out-Ty}
use Rattle.hume_base.specs.declared.types.Ty.TheOpen.{Ty-F}
use Rattle.hume_base.specs.declared.types.Ty.TheVariants as shape
use Rattle.hume_model.specs.declared.core_tree.Op.{Op}
use Rattle.hume_model.specs.declared.core_tree.Op.TheVariants.{Div, Mod}
use Rattle.typed_core.specs.declared.typed_tree.TypedExpr.{TypedExpr}
use Rattle.typed_core.specs.declared.typed_tree.TypedExpr.TheOpen.{TypedExpr-F}
use Rattle.c_analysis.specs.declared.setting.Called.{Called}
use Rattle.c_analysis.specs.Raises.{is_inside, is_zero_free, may_raise, word_of}
use Rattle.c_analysis.specs.Seen.{Seen, by_forms, tree_of}
use Rattle.c_analysis.specs.Targets.{Target, Known, callee_of, gives_value, is_number}

-- whether a function uses its parameter of that place
abbrev pub used_at : Option Bool → Bool
used_at None = true
used_at (Some used) = used

abbrev pub uses_argument : Called → ℕ → Bool
uses_argument called place = used_at (slice_get called.used place)

abbrev pub is_division : Op → Bool
is_division Div = true
is_division Mod = true
is_division _ = false

abbrev pub word_is : Option ℕ → ℕ → Bool
word_is None word = false
word_is (Some other) word = other == word

-- the literal of the word
abbrev pub is_word : TypedExpr → ℕ → Bool
is_word e word = word_is (word_of e) word

abbrev pub connective_in : Ty-F Ty → TypedExpr → TypedExpr → Bool
connective_in Ty-F.Bool when_true when_false = is_word when_true 1 || is_word when_false 0
connective_in _ when_true when_false = false

-- an `if` that is an `and` or an `or`
abbrev pub is_connective : Ty → TypedExpr → TypedExpr → Bool
is_connective ty when_true when_false = connective_in (out-Ty ty) when_true when_false

abbrev pub all_plain : Ty → List (Seen (Ty → Bool)) → Bool
all_plain of [] = true
all_plain of (first ∷ others) = first.value of && all_plain of others

abbrev pub plain_at : Option Ty → Seen (Ty → Bool) → Bool
plain_at None part = false
plain_at (Some ty) part = part.value ty

-- an argument that the function doesn't use is left out, unless it may raise
abbrev pub argument_plain : Target → Known → ℕ → Seen (Ty → Bool) → Bool
argument_plain t callee place part =
    if uses_argument callee.called place then plain_at (slice_get callee.function.params place) part else not (may_raise t part.tree)

-- the arguments from a place on
abbrev pub arguments_plain : Target → Known → ℕ → List (Seen (Ty → Bool)) → Bool
arguments_plain t callee place [] = true
arguments_plain t callee place (first ∷ others) = argument_plain t callee place first && arguments_plain t callee (place + 1) others

abbrev pub call_plain : Target → Option Known → List (Seen (Ty → Bool)) → Bool
call_plain t None parts = false
call_plain t (Some callee) parts = gives_value t callee && arguments_plain t callee 0 parts

abbrev pub plain_step : Target → TypedExpr-F (Seen (Ty → Bool)) → Ty → Bool
plain_step t (TypedExpr-F.Word word) ty = true
plain_step t (TypedExpr-F.Var number) ty = true
plain_step t (TypedExpr-F.Con place parts) ty = is_number t ty
plain_step t (TypedExpr-F.Prim op of parts) ty = is_zero_free op (map tree_of parts) && all_plain of parts
plain_step t (TypedExpr-F.Convert from to part) ty = part.value from
plain_step t (TypedExpr-F.Index of place_ty vector place) ty = is_inside of place.tree && vector.value of
plain_step t (TypedExpr-F.If test when_true when_false) ty = is_number t ty && test.value shape.Bool && when_true.value ty && when_false.value ty
plain_step t (TypedExpr-F.Call function parts) ty = call_plain t (callee_of t function) parts
plain_step t _ ty = false

-- whether an expression of the type is one of C, with no statement before it
abbrev pub is_plain : Target → Ty → TypedExpr → Bool
is_plain t ty e = by_forms (plain_step t) e ty
