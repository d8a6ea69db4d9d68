-- A typed expression or result gives the same by calls that agree on the functions that there are.
use Rattle.std.proofs.Common.{◌≡◌, ℕ, ◌==◌, List, [], ◌∷◌, ◌++◌, map, Option, Some, None, slice_get, refl, ap, sym, ◌∙◌, if◌then◌else◌}
use Rattle.std.specs.Option.{option_map}
use Rattle.hume_base.specs.declared.types.Ty.{Ty}
use Rattle.hume_base.specs.declared.types.Value.{Value}
use Rattle.hume_base.specs.declared.types.Value.TheVariants as value
use Rattle.hume_base.specs.Flat.{word_of_value}
use Rattle.hume_model.specs.declared.core_tree.Op.TheVariants.{Neg, Not, Convert}
use Rattle.hume_base.specs.declared.types.Ty.TheVariants as shape
use Rattle.hume_model.specs.declared.core_tree.PatC.{PatC}
use Rattle.hume_model.specs.declared.core_tree.Expr.{Expr}
use Rattle.hume_model.specs.declared.core_tree.Res.{Res}
use Rattle.hume_model.specs.declared.core_tree.FunC.{FunC}
use Rattle.hume_model.specs.declared.core_tree.Core.{Core}
use Rattle.hume_model.specs.declared.outcome.Outcome.TheVariants.{Gives, Raises}
use Rattle.hume_model.specs.Outcomes.{after_outputs, and_then, in_order, on_match, outs_in_order, then_outputs, then_outs, then_rest, thrown, with_all}
use Rattle.hume_model.specs.Operations.{item_of, prim, updated}
use Rattle.hume_model.specs.Patterns.{matches}
use Rattle.hume_model.specs.Meaning.{Calls, eval_with, first_arm}
use Rattle.hume_model.specs.Results.{first_result, meaning_in, result_of}
use Rattle.hume_model.specs.Typing.{HasType, HaveTypes, ArmsHaveType}
use Rattle.hume_model.specs.ResultTyping.{OutsHave, GivesOutputs, ArmsGiveOutputs}
use Rattle.hume_model.specs.inner.Arms.{arm_with, result_arm_with}
use Rattle.hume_model.proofs.Layers as layer
use Rattle.hume_model.proofs.ResultTypes.{result-outs, result-if, result-case, result-let, result-raise}

module _ (core : Core) (ca cb : Calls) (same : (f : ℕ) (function : FunC) → slice_get core.funs f ≡ Some function → (args : List Value) → ca f args ≡ cb f args) where
  mutual
    pub agrees : {vars : List Ty} {e : Expr} {ty : Ty} → HasType core vars e ty → (env : List Value) → eval_with ca e env ≡ eval_with cb e env
    agrees (HasType.word w is) env = layer.eval-word ca env w ∙ sym (layer.eval-word cb env w)
    agrees (HasType.variable n is) env = layer.eval-variable ca env n ∙ sym (layer.eval-variable cb env n)
    agrees (HasType.con number place sum {parts = es} known within parts) env =
        layer.eval-con ca env place es ∙ ap (λ s. with_all s (λ vs. Gives (value.Con place vs))) (all_agree parts env) ∙ sym (layer.eval-con cb env place es)
    agrees (HasType.tuple {parts = es} parts) env =
        layer.eval-tuple ca env es ∙ ap (λ s. with_all s (λ vs. Gives (value.Tuple vs))) (all_agree parts env) ∙ sym (layer.eval-tuple cb env es)
    agrees (HasType.vector count item {parts = es} parts) env =
        layer.eval-vector ca env es ∙ ap (λ s. with_all s (λ vs. Gives (value.Vector vs))) (all_agree parts env) ∙ sym (layer.eval-vector cb env es)
    agrees (HasType.arithmetic op ty {parts = es} is number parts) env =
        layer.eval-prim ca env op ty es ∙ ap (λ s. with_all s (prim op ty)) (all_agree parts env) ∙ sym (layer.eval-prim cb env op ty es)
    agrees (HasType.comparison op ty {parts = es} is parts) env =
        layer.eval-prim ca env op ty es ∙ ap (λ s. with_all s (prim op ty)) (all_agree parts env) ∙ sym (layer.eval-prim cb env op ty es)
    agrees (HasType.negation ty {parts = es} number parts) env =
        layer.eval-prim ca env Neg ty es ∙ ap (λ s. with_all s (prim Neg ty)) (all_agree parts env) ∙ sym (layer.eval-prim cb env Neg ty es)
    agrees (HasType.opposite {parts = es} parts) env =
        layer.eval-prim ca env Not shape.Bool es ∙ ap (λ s. with_all s (prim Not shape.Bool)) (all_agree parts env) ∙ sym (layer.eval-prim cb env Not shape.Bool es)
    agrees (HasType.conversion from to {parts = es} is are parts) env =
        layer.eval-prim ca env Convert to es ∙ ap (λ s. with_all s (prim Convert to)) (all_agree parts env) ∙ sym (layer.eval-prim cb env Convert to es)
    agrees (HasType.index count places item {vector = v} {place = k} is vec place) env =
        layer.eval-index ca env count v k
        ∙ (λ i. and_then (agrees vec env i) (λ a. and_then (agrees place env i) (item_of count a)))
        ∙ sym (layer.eval-index cb env count v k)
    agrees (HasType.update count places item {vector = v} {place = k} {new_item = e} is vec place new_item) env =
        layer.eval-update ca env count v k e
        ∙ (λ i. and_then (agrees vec env i) (λ a. and_then (agrees place env i) (λ p. and_then (agrees new_item env i) (updated count a p))))
        ∙ sym (layer.eval-update cb env count v k e)
    agrees (HasType.choice {test = t} {when_true = a} {when_false = b} test when_true when_false) env =
        layer.eval-choice ca env t a b
        ∙ (λ i. and_then (agrees test env i) (λ v. if word_of_value v == 0 then agrees when_false env i else agrees when_true env i))
        ∙ sym (layer.eval-choice cb env t a b)
    agrees (HasType.alternatives of {part = e} {forms = forms} {arms = ways} part is_of arms) env =
        layer.eval-case ca env e forms ways ∙ (λ i. and_then (agrees part env i) (λ v. arms_agree arms v env i)) ∙ sym (layer.eval-case cb env e forms ways)
    agrees (HasType.binding of {part = a} {body = b} part body) env =
        layer.eval-let ca env a b ∙ (λ i. and_then (agrees part env i) (λ v. agrees body (env ++ v ∷ []) i)) ∙ sym (layer.eval-let cb env a b)
    agrees (HasType.call number function {parts = es} known parts) env =
        layer.eval-call ca env number es ∙ (λ i. with_all (all_agree parts env i) (λ vs. same number function known vs i)) ∙ sym (layer.eval-call cb env number es)
    agrees (HasType.raise_alone number exn known nothing) env = layer.eval-raise-none ca env number ∙ sym (layer.eval-raise-none cb env number)
    agrees (HasType.raise_with number exn carried {part = e} known carries part) env =
        layer.eval-raise-some ca env number e ∙ ap (λ o. and_then o (λ v. Raises number (Some v))) (agrees part env) ∙ sym (layer.eval-raise-some cb env number e)

    all_agree : {vars : List Ty} {es : List Expr} {tys : List Ty} → HaveTypes core vars es tys → (env : List Value)
        → in_order (map (eval_with ca) es) env ≡ in_order (map (eval_with cb) es) env
    all_agree HaveTypes.none env = refl
    all_agree (HaveTypes.one first rest) env = λ i. then_rest (agrees first env i) (all_agree rest env i)

    arms_agree : {vars : List Ty} {of ty : Ty} {arms : List (PatC × Expr)} → ArmsHaveType core vars of arms ty → (v : Value) (env : List Value)
        → first_arm (map (arm_with (eval_with ca)) arms) v env ≡ first_arm (map (arm_with (eval_with cb)) arms) v env
    arms_agree ArmsHaveType.no_arm v env = refl
    arms_agree (ArmsHaveType.one_arm {p = p} pattern body rest) v env =
        λ i. on_match (matches p v) (λ vs. agrees body (env ++ vs) i) (arms_agree rest v env i)

-- the results of a core whose typed expressions mean the same in another one
module _ (core new : Core) (mean : (vars : List Ty) (e : Expr) (ty : Ty) → HasType core vars e ty → (env : List Value) → meaning_in new e env ≡ meaning_in core e env) where
  outs_agree : {vars tys : List Ty} {outs : List (Option Expr)} → OutsHave core vars outs tys → (env : List Value)
      → outs_in_order (map (option_map (meaning_in new)) outs) env ≡ outs_in_order (map (option_map (meaning_in core)) outs) env
  outs_agree OutsHave.none env = refl
  outs_agree (OutsHave.star rest) env = ap (after_outputs (None ∷ [])) (outs_agree rest env)
  outs_agree (OutsHave.value {e = e} {ty = ty} out rest) env = λ i. then_outs (mean _ e ty out env i) (outs_agree rest env i)

  module _ (tys : List Ty) where
    mutual
      pub results_agree : {vars : List Ty} {res : Res} → GivesOutputs core tys vars res → (env : List Value) → result_of new env res ≡ result_of core env res
      results_agree (GivesOutputs.outputs {outs = outs} have) env = result-outs new env outs ∙ outs_agree have env ∙ sym (result-outs core env outs)
      results_agree (GivesOutputs.choice {test = t} {when_true = a} {when_false = b} test when_true when_false) env =
          result-if new env t a b
          ∙ (λ i. then_outputs (mean _ t shape.Bool test env i) (λ v. if word_of_value v == 0 then results_agree when_false env i else results_agree when_true env i))
          ∙ sym (result-if core env t a b)
      results_agree (GivesOutputs.alternatives of {part = e} {forms = forms} {arms = ways} part is_of arms) env =
          result-case new env e forms ways ∙ (λ i. then_outputs (mean _ e of part env i) (λ v. result_arms_agree arms v env i)) ∙ sym (result-case core env e forms ways)
      results_agree (GivesOutputs.binding of {part = e} {body = b} part body) env =
          result-let new env e b ∙ (λ i. then_outputs (mean _ e of part env i) (λ v. results_agree body (env ++ v ∷ []) i)) ∙ sym (result-let core env e b)
      results_agree (GivesOutputs.raise_alone number exn known nothing) env = result-raise new env number None ∙ sym (result-raise core env number None)
      results_agree (GivesOutputs.raise_with number exn carried {part = e} known carries part) env =
          result-raise new env number (Some e)
          ∙ ap (λ o. thrown (and_then o (λ v. Raises number (Some v)))) (mean _ e carried part env)
          ∙ sym (result-raise core env number (Some e))

      result_arms_agree : {vars : List Ty} {of : Ty} {arms : List (PatC × Res)} → ArmsGiveOutputs core tys vars of arms → (v : Value) (env : List Value)
          → first_result (map (result_arm_with (λ r env. result_of new env r)) arms) v env
          ≡ first_result (map (result_arm_with (λ r env. result_of core env r)) arms) v env
      result_arms_agree ArmsGiveOutputs.no_arm v env = refl
      result_arms_agree (ArmsGiveOutputs.one_arm {p = p} pattern body rest) v env =
          λ i. on_match (matches p v) (λ vs. results_agree body (env ++ vs) i) (result_arms_agree rest v env i)
