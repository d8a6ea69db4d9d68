use Rattle.std.proofs.Common.{◌≡◌, ◌∙◌, ◌-◌, List, ◌∷◌, Option, map, drop, sum, refl, sym, ap, subst, arith}
use Rattle.hume_model.specs.declared.core_tree.PatC.{PatC}
use Rattle.hume_model.specs.declared.core_tree.Expr.{Expr}
use Rattle.hume_model.specs.declared.core_tree.Res.{Res}
use Rattle.hume_model.specs.declared.core_tree.Res.TheOpen.{Res-F}
use Rattle.hume_model.specs.declared.core_tree.Res.TheVariants as res
use Rattle.box_costs.specs.declared.cost.Cost.{Cost}
use Rattle.box_costs.specs.Costs.{Way, in_order, any_of, one_way, tests_of_way, taken_by_way}
use Rattle.box_costs.specs.PatternTests.{tests_of, variables_of}
use Rattle.box_costs.specs.Bounds.{arm_way, expression_bound, given_outs, result_bound}
use Rattle.box_costs.proofs.CostSteps.{sum_more}
use Rattle.space_costs.specs.inner.Standing.{IsCostOf, counted}
use Rattle.space_costs.proofs.ResultForms.{by_form, of_same}
use Rattle.space_costs.proofs.Lists.{item_left, map_twice}
use Rattle.space_costs.proofs.results.+result.Goals as goal

pub result_cost-returns-in-Outs : goal.result_cost-returns-in-Outs
result_cost-returns-in-Outs t c =
    let core = c.args.core.now in
    let outs : List (Option Expr) = c.in-Outs.outs in
    let there : IsCostOf c.outs_cost.result (in_order (map (expression_bound core) (given_outs outs))) =
    subst (λ (l : List (Option Expr)). IsCostOf c.outs_cost.result (in_order (map (expression_bound core) (given_outs l)))) c.as_slice.ensures c.outs_cost.ensures in
    by_form core _ _ (Res-F.Outs outs) (res.rolls-Outs outs ∙ sym c.in-Outs.is) (c.both.ensures _ _ there (c.instructions.ensures 1 refl))

pub result_cost-returns-in-If : goal.result_cost-returns-in-If
result_cost-returns-in-If t c =
    let core = c.args.core.now in
    let e = c.in-If.test in
    let a = c.in-If.when_true in
    let b = c.in-If.when_false in
    by_form core _ _ (Res-F.If e a b) (res.rolls-If e a b ∙ sym c.in-If.is)
    (c.both-in-If-2.ensures _ _ c.part_cost-test.ensures
    (c.both-in-If.ensures _ _ (c.instructions-in-If.ensures 1 refl)
    (c.either.ensures _ _ (of_same core _ _ a c.deref.ensures c.result_cost-when_true.ensures) (of_same core _ _ b c.deref-in-If.ensures c.result_cost-when_false.ensures))))

pub result_cost-returns-in-Case : goal.result_cost-returns-in-Case
result_cost-returns-in-Case t c =
    let core = c.args.core.now in
    let e = c.in-Case.part in
    let arms : List (PatC × Res) = c.in-Case.arms in
    let with_bound : PatC × Res → PatC × Cost = λ arm. (arm.0, result_bound core arm.1) in
    let ways : map (arm_way 0) (map with_bound arms) ≡ map (λ (arm : PatC × Res). arm_way 0 (with_bound arm)) arms = map_twice with_bound (arm_way 0) arms in
    let all : IsCostOf c.arms_cost.result (one_way (map (λ (arm : PatC × Res). arm_way 0 (with_bound arm)) arms)) =
    subst (λ (l : List (PatC × Res)). IsCostOf c.arms_cost.result (one_way (map (λ (arm : PatC × Res). arm_way 0 (with_bound arm)) l))) c.as_slice-in-Case.ensures c.arms_cost.ensures in
    by_form core _ _ (Res-F.Case e c.in-Case.field-1 arms) (res.rolls-Case e c.in-Case.field-1 arms ∙ sym c.in-Case.is)
    (c.before-in-Case.ensures _ _ c.part_cost-part.ensures (subst (λ (l : List Way). IsCostOf c.arms_cost.result (one_way l)) (sym ways) all))

pub arms_cost-returns : goal.arms_cost-returns
arms_cost-returns t c =
    let core = c.args.core.now in
    let arms : List (PatC × Res) = c.args.arms.now in
    let way : PatC × Res → Way = λ arm. arm_way 0 (arm.0, result_bound core arm.1) in
    let none : drop c.loop-i.i arms ≡ arms = (let zero_left : c.loop-i.i ≡ 0 = omega (arith, c.loop-i-test.false) in ap (λ i. drop i arms) zero_left) in
    let tests : c.loop-i.all_tests ≡ counted (sum (map tests_of_way (map way arms))) =
    c.loop-i.invariant.tests ∙ ap (λ (l : List (PatC × Res)). counted (sum (map (λ (arm : PatC × Res). tests_of arm.0) l))) none ∙ ap (λ l. counted (sum l)) (sym (map_twice way tests_of_way arms)) in
    let taken : IsCostOf c.loop-i.taken (any_of (map taken_by_way (map way arms))) =
    subst (λ l. IsCostOf c.loop-i.taken (any_of l)) (sym (map_twice way taken_by_way arms))
    (subst (λ (l : List (PatC × Res)). IsCostOf c.loop-i.taken (any_of (map (λ (arm : PatC × Res). (way arm).taken) l))) none c.loop-i.invariant.taken) in
    c.one_way.ensures _ _ tests taken

pub arms_cost-loop-i-preserved : goal.arms_cost-loop-i-preserved
arms_cost-loop-i-preserved t c =
    let core = c.args.core.now in
    let arms : List (PatC × Res) = c.args.arms.now in
    let arm : PatC × Res = c.index-arms-i.result in
    let left : drop (c.loop-i.i - 1) arms ≡ arm ∷ drop c.loop-i.i arms = item_left arms c.loop-i.i arm (omega (arith, c.loop-i-test.true)) (omega (arith, c.loop-i.auto.i)) c.index-arms-i.is in
    record {
      tests = c.sum-all_tests.ensures (tests_of arm.0) (sum (map (λ (a : PatC × Res). tests_of a.0) (drop c.loop-i.i arms))) c.tests.ensures c.loop-i.invariant.tests
          ∙ ap counted (sym (sum_more (tests_of arm.0) (map (λ (a : PatC × Res). tests_of a.0) (drop c.loop-i.i arms))) ∙ ap (λ (l : List (PatC × Res)). sum (map (λ (a : PatC × Res). tests_of a.0) l)) (sym left));
      taken =
          subst (λ (l : List (PatC × Res)). IsCostOf c.either-taken.result (any_of (map (λ (a : PatC × Res). (arm_way 0 (a.0, result_bound core a.1)).taken) l))) (sym left)
          (c.either-taken.ensures _ _ (c.with_variables.ensures (variables_of arm.0) 0 _ c.variables.ensures refl c.result_cost-branch.ensures) c.loop-i.invariant.taken);
    }
