-- Which results give all outputs, form by form.
use Rattle.std.proofs.Common.{◌≡◌, ℕ, Bool, true, ◌&&◌, List, [], ◌∷◌, Option, map, is_some, refl, ap, sym, ◌∙◌}
use Rattle.std.specs.List.{list_all}
use Rattle.std.proofs.lemmas.Grind.{common_steps}
use Rattle.hume_base.specs.declared.types.Ty.{Ty}
use Rattle.hume_model.specs.declared.core_tree.PatC.{PatC}
use Rattle.typed_core.specs.declared.typed_tree.TypedExpr.{TypedExpr}
use Rattle.typed_core.specs.declared.typed_tree.TypedResult.{TypedResult, fold-roll-TypedResult, map-TypedResult, roll-TypedResult}
use Rattle.typed_core.specs.declared.typed_tree.TypedResult.TheOpen.{TypedResult-F}
use Rattle.typed_core.specs.declared.typed_tree.TypedResult.TheVariants as typed
use Rattle.c_nets.specs.GivenOutputs.{gives_all, gives_step}

form : (r : TypedResult) (x : TypedResult-F TypedResult) → roll-TypedResult x ≡ r → gives_all r ≡ gives_step (map-TypedResult TypedResult Bool gives_all x)
form r x is = ap gives_all (sym is) ∙ fold-roll-TypedResult Bool gives_step x

pub gives_outs : (outs : List (Option TypedExpr)) → gives_all (typed.Outs outs) ≡ list_all is_some outs
gives_outs outs = form _ (TypedResult-F.Outs outs) (typed.rolls-Outs outs)

pub gives_if : (test : TypedExpr) (when_true when_false : TypedResult) → gives_all (typed.If test when_true when_false) ≡ (gives_all when_true && gives_all when_false)
gives_if test when_true when_false = form _ (TypedResult-F.If test when_true when_false) (typed.rolls-If test when_true when_false)

arms_same : (arms : List (PatC × TypedResult))
    → list_all (λ (arm : PatC × TypedResult). gives_all arm.1) arms
    ≡ list_all (λ (arm : PatC × Bool). arm.1) (map (λ (arm : PatC × TypedResult). (arm.0, gives_all arm.1)) arms)
arms_same [] = refl
arms_same (arm ∷ arms) = ap (λ b. gives_all arm.1 && b) (arms_same arms)

pub gives_case : (of : Ty) (part : TypedExpr) (arms : List (PatC × TypedResult))
    → gives_all (typed.Case of part arms) ≡ list_all (λ (arm : PatC × TypedResult). gives_all arm.1) arms
gives_case of part arms = form _ (TypedResult-F.Case of part arms) (typed.rolls-Case of part arms) ∙ sym (arms_same arms)

pub gives_let : (of : Ty) (part : TypedExpr) (body : TypedResult) → gives_all (typed.Let of part body) ≡ gives_all body
gives_let of part body = form _ (TypedResult-F.Let of part body) (typed.rolls-Let of part body)

pub gives_raise : (exn : ℕ) (part : Option TypedExpr) → gives_all (typed.Raise exn part) ≡ true
gives_raise exn part = form _ (TypedResult-F.Raise exn part) (typed.rolls-Raise exn part)

pub ruleset given_forms = (common_steps, gives_outs, gives_if, gives_case, gives_let, gives_raise)
