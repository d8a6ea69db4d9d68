-- A box that handles what it raises has as many outputs when it fires as it has ports.
use Rattle.std.proofs.Common.{◌≡◌, ℕ, suc, ◌==◌, Bool, true, false, if◌then◌else◌, List, [], ◌∷◌, ◌++◌, length, map, Option, Some, None, slice_get, refl, ap, sym, ◌∙◌, subst}
use Rattle.std.specs.List.{find}
use Rattle.std.specs.Option.{option_map, option_and_then}
use Rattle.hume_base.specs.declared.types.Ty.{Ty}
use Rattle.hume_base.specs.declared.types.Value.{Value}
use Rattle.hume_model.specs.declared.core_tree.PatC.{PatC}
use Rattle.hume_model.specs.declared.core_tree.Expr.{Expr}
use Rattle.hume_model.specs.declared.core_tree.Res.{Res}
use Rattle.hume_model.specs.declared.core_tree.PortC.{PortC}
use Rattle.hume_model.specs.declared.core_tree.RuleC.{RuleC}
use Rattle.hume_model.specs.declared.core_tree.HandC.{HandC}
use Rattle.hume_model.specs.declared.core_tree.BoxC.{BoxC}
use Rattle.hume_model.specs.declared.core_tree.Core.{Core}
use Rattle.hume_model.specs.declared.outcome.Outcome.{Outcome}
use Rattle.hume_model.specs.declared.outcome.Outcome.TheVariants.{Gives, Raises}
use Rattle.hume_model.specs.declared.outcome.Outputs.{Outputs}
use Rattle.hume_model.specs.declared.outcome.Outputs.TheVariants.{Asserts, Throws}
use Rattle.hume_model.specs.declared.outcome.Firing.{Firing}
use Rattle.hume_model.specs.Outcomes.{on_match, then_outputs, then_outs, after_outputs, outs_in_order, raised, thrown}
use Rattle.hume_base.specs.Flat.{word_of_value}
use Rattle.hume_model.specs.Patterns.{matches}
use Rattle.hume_model.specs.Matching.{bound}
use Rattle.hume_model.specs.Results.{result_of, first_result, meaning_in}
use Rattle.hume_model.specs.inner.Arms.{result_arm_with}
use Rattle.hume_model.specs.Firing.{fire, firing_of, rule_fits, handled, handled_by, handler_env, outputs_or_none}
use Rattle.hume_model.specs.ResultTyping.{OutsHave, GivesOutputs, ArmsGiveOutputs, are_outputs}
use Rattle.hume_model.specs.BoxTyping.{BoxIsTyped, port_types}
use Rattle.hume_model.specs.Handling.{IsHandled, HandlesAll}
use Rattle.hume_model.proofs.ResultTypes.{result-outs, result-if, result-case, result-let, result-raise}
use Rattle.hume_model.proofs.FiringTypes.{found_in}

-- an output for each type, or an exception
abbrev pub HasAll : List Ty → Outputs → Type 0
HasAll tys (Asserts outs) = length outs ≡ length tys
HasAll tys (Throws exn carried) = Unit {0}

module _ (tys : List Ty) where
  one_more : (t : Ty) (out : Option Value) (rest : Outputs) → HasAll tys rest → HasAll (t ∷ tys) (after_outputs (out ∷ []) rest)
  one_more t out (Asserts outs) h = ap suc h
  one_more t out (Throws exn carried) h = tt

  then_more : (t : Ty) (o : Outcome) (rest : Outputs) → HasAll tys rest → HasAll (t ∷ tys) (then_outs o rest)
  then_more t (Gives v) rest h = one_more t (Some v) rest h
  then_more t (Raises exn carried) rest h = tt

  then_all : (o : Outcome) (go : Value → Outputs) → ((v : Value) → HasAll tys (go v)) → HasAll tys (then_outputs o go)
  then_all (Gives v) go h = h v
  then_all (Raises exn carried) go h = tt

  either_all : (b : Bool) (x y : Outputs) → HasAll tys x → HasAll tys y → HasAll tys (if b then x else y)
  either_all true x y h k = h
  either_all false x y h k = k

  matched_all : (m : Option (List Value)) (go : List Value → Outputs) (other : Outputs) → ((vs : List Value) → HasAll tys (go vs)) → HasAll tys other → HasAll tys (on_match m go other)
  matched_all None go other h k = k
  matched_all (Some vs) go other h k = h vs

  raised_all : (number : ℕ) (o : Outcome) → HasAll tys (thrown (raised number (Some (λ env. o)) []))
  raised_all number (Gives v) = tt
  raised_all number (Raises exn carried) = tt

module _ (core : Core) where
  outs_all : {vars tys : List Ty} {outs : List (Option Expr)} → OutsHave core vars outs tys → (env : List Value) → HasAll tys (outs_in_order (map (option_map (meaning_in core)) outs) env)
  outs_all OutsHave.none env = refl
  outs_all (OutsHave.star {ty = t} {tys = ts} rest) env = one_more ts t None _ (outs_all rest env)
  outs_all (OutsHave.value {ty = t} {tys = ts} first rest) env = then_more ts t _ _ (outs_all rest env)

  module _ (tys : List Ty) where
    mutual
      pub result_all : {vars : List Ty} {r : Res} → GivesOutputs core tys vars r → (env : List Value) → HasAll tys (result_of core env r)
      result_all (GivesOutputs.outputs {outs = outs} have) env = subst (HasAll tys) (sym (result-outs core env outs)) (outs_all have env)
      result_all (GivesOutputs.choice {test = c} {when_true = a} {when_false = b} test first second) env =
          subst (HasAll tys) (sym (result-if core env c a b)) (then_all tys _ _ (λ v. either_all tys (word_of_value v == 0) _ _ (result_all second env) (result_all first env)))
      result_all (GivesOutputs.alternatives of {part = e} {forms = forms} {arms = ways} part is_of arms) env =
          subst (HasAll tys) (sym (result-case core env e forms ways)) (then_all tys _ _ (λ v. arms_all arms env v))
      result_all (GivesOutputs.binding of {part = e} {body = b} part body) env =
          subst (HasAll tys) (sym (result-let core env e b)) (then_all tys _ _ (λ v. result_all body (env ++ v ∷ [])))
      result_all (GivesOutputs.raise_alone number exn found carries) env = subst (HasAll tys) (sym (result-raise core env number None)) tt
      result_all (GivesOutputs.raise_with number exn carried {part = e} found carries part) env =
          subst (HasAll tys) (sym (result-raise core env number (Some e))) (raised_all tys number (meaning_in core e env))

      pub arms_all : {vars : List Ty} {of : Ty} {arms : List (PatC × Res)} → ArmsGiveOutputs core tys vars of arms → (env : List Value)
          → (v : Value) → HasAll tys (first_result (map (result_arm_with (λ r env. result_of core env r)) arms) v env)
      arms_all ArmsGiveOutputs.no_arm env v = tt
      arms_all (ArmsGiveOutputs.one_arm {p = p} pattern body rest) env v = matched_all tys (matches p v) _ _ (λ vs. result_all body (env ++ vs)) (arms_all rest env v)

  module _ (b : BoxC) (typed : BoxIsTyped core b) (handles : HandlesAll core b) where
    abbrev AllOuts : List (Option Value) → Type 0
    AllOuts outs = length outs ≡ length (port_types b.outs)

    handler_all : (exn : ℕ) (carried : Option Value) → IsHandled core b exn carried → AllOuts (handled_by core carried (find (λ (handler : HandC). handler.exn == exn) b.handlers))
    handler_all exn carried h =
        let at = found_in (λ (handler : HandC). handler.exn == exn) b.handlers h.handler h.found in
        let all = result_all (port_types b.outs) (typed.handlers at.0 h.handler at.1).outputs (handler_env h.handler carried) in
        subst (λ o. AllOuts (handled_by core carried o)) (sym h.found)
        (subst (λ o. AllOuts (outputs_or_none o)) (sym h.gives) (subst (HasAll (port_types b.outs)) h.gives all))

    handled_all : (o : Outputs) → HasAll (port_types b.outs) o → ((exn : ℕ) (carried : Option Value) → o ≡ Throws exn carried → IsHandled core b exn carried) → AllOuts (handled core b.handlers o)
    handled_all (Asserts outs) all h = all
    handled_all (Throws exn carried) all h = handler_all exn carried (h exn carried refl)

    module _ (ins : List (Option Value)) (are : are_outputs core.types (port_types b.ins) ins ≡ true) where
      by_rule : (number : ℕ) (r : Option RuleC) → slice_get b.rules number ≡ r → rule_fits ins r ≡ true → (firing : Firing)
          → option_map (firing_of core b number ins) r ≡ Some firing → AllOuts firing.outs
      by_rule number None found fit firing h = cc
      by_rule number (Some rule) found fit firing h =
          let same : firing_of core b number ins rule ≡ firing = cc in
          subst (λ (f : Firing). AllOuts f.outs) same
          (handled_all (result_of core (bound rule.pats ins) rule.result)
          (result_all (port_types b.outs) (typed.rules number rule found).outputs (bound rule.pats ins))
          (handles number rule found ins are fit))

      by_number : (order : List ℕ) (n : Option ℕ) → find (λ number. rule_fits ins (slice_get b.rules number)) order ≡ n → (firing : Firing)
          → option_and_then (λ number. option_map (firing_of core b number ins) (slice_get b.rules number)) n ≡ Some firing → AllOuts firing.outs
      by_number order None found firing h = cc
      by_number order (Some number) found firing h =
          by_rule number (slice_get b.rules number) refl (found_in (λ number. rule_fits ins (slice_get b.rules number)) order number found).2 firing h

      fire_all : (order : List ℕ) (firing : Firing) → fire core b order ins ≡ Some firing → AllOuts firing.outs
      fire_all order firing h = by_number order (find (λ number. rule_fits ins (slice_get b.rules number)) order) refl firing h

ports_length : (ports : List PortC) → length (port_types ports) ≡ length ports
ports_length [] = refl
ports_length (port ∷ ports) = ap suc (ports_length ports)

pub all_outputs : (core : Core) (b : BoxC) → BoxIsTyped core b → HandlesAll core b → (ins : List (Option Value)) → are_outputs core.types (port_types b.ins) ins ≡ true
    → (order : List ℕ) (firing : Firing) → fire core b order ins ≡ Some firing → length firing.outs ≡ length b.outs
all_outputs core b typed handles ins are order firing h = fire_all core b typed handles ins are order firing h ∙ ports_length b.outs

pub each_output : (core : Core) (tys vars : List Ty) (r : Res) → GivesOutputs core tys vars r → (env : List Value) (outs : List (Option Value))
    → result_of core env r ≡ Asserts outs → length outs ≡ length tys
each_output core tys vars r gives env outs h = subst (HasAll tys) h (result_all core tys gives env)
