-- A `case` in a result: the object, and the alternatives behind it.
use Rattle.std.proofs.Common.{◌≡◌, ℕ, Bool, List, map, length, ap, sym, ◌∙◌}
use Rattle.hume_base.specs.declared.types.Ty.{Ty}
use Rattle.hume_model.specs.declared.core_tree.BoxC.{BoxC}
use Rattle.hume_model.specs.declared.core_tree.PatC.{PatC}
use Rattle.typed_core.specs.declared.typed_tree.TypedExpr.{TypedExpr}
use Rattle.typed_core.specs.declared.typed_tree.TypedResult.{TypedResult}
use Rattle.c_expressions.specs.declared.made.Code.{Code}
use Rattle.c_expressions.specs.Expressions.{Scope, part_of, subject}
use Rattle.c_analysis.specs.Raises.{arms_complete}
use Rattle.c_analysis.specs.Targets.{Target}
use Rattle.c_boxes.specs.Results.{arms_behind, case_made, is_looked_at}
use Rattle.c_boxes.specs.inner.Arms.{arm_given}
use Rattle.c_boxes.proofs.ResultForms.{complete_given}

module _ (t : Target) (of : Ty) (part : TypedExpr) (arms : List (PatC × TypedResult)) (b : BoxC) (scope : Scope) (next : ℕ) where
  pub case_is : (count : ℕ) (used : Bool) (object : Code) (now : Scope) → count ≡ length scope
      → used ≡ is_looked_at t of (arms_complete t of arms) (map (arm_given t) arms) count
      → object ≡ subject t (part_of t part) used scope of next → now ≡ scope
      → arms_behind t of object (arms_complete t of arms) (map (arm_given t) arms) b now ≡ case_made t of part (map (arm_given t) arms) b scope next
  case_is count used object now count_is used_is object_is now_is =
      λ i. arms_behind t of ((object_is ∙ ap (λ it. subject t (part_of t part) it scope of next) whole) i) (sym (complete_given t of arms) i) (map (arm_given t) arms) b (now_is i)
    where
      whole : used ≡ is_looked_at t of (arms_complete t of (map (arm_given t) arms)) (map (arm_given t) arms) (length scope)
      whole = used_is ∙ (λ i. is_looked_at t of (sym (complete_given t of arms) i) (map (arm_given t) arms) (count_is i))
