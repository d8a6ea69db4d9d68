use Rattle.std.proofs.Common.{◌≡◌, ◌∙◌, ◌-◌, List, ◌∷◌, map, drop, sum, refl, sym, ap, subst, arith}
use Rattle.hume_model.specs.declared.core_tree.EqC.{EqC}
use Rattle.box_costs.specs.Costs.{Way, any_of, tests_of_way, taken_by_way}
use Rattle.box_costs.specs.PatternTests.{tests_of_all, variables_of_all}
use Rattle.box_costs.specs.Bounds.{equation_way, bound_with}
use Rattle.box_costs.proofs.CostSteps.{sum_more}
use Rattle.space_costs.specs.inner.Standing.{IsCostOf, counted}
use Rattle.space_costs.proofs.Lists.{item_left, map_twice}
use Rattle.space_costs.proofs.functions.equations_cost.Goals as goal

pub returns : goal.returns
returns c = λ bounds h.
    let equations : List EqC = c.args.equations.now in
    let way : EqC → Way = equation_way (bound_with bounds) in
    let none : drop c.loop-i.i equations ≡ equations = (let zero_left : c.loop-i.i ≡ 0 = omega (arith, c.loop-i-test.false) in ap (λ i. drop i equations) zero_left) in
    let tests : c.loop-i.tests ≡ counted (sum (map tests_of_way (map way equations))) =
    c.loop-i.invariant.tests ∙ ap (λ (l : List EqC). counted (sum (map (λ (equation : EqC). tests_of_all equation.pats) l))) none ∙ ap (λ l. counted (sum l)) (sym (map_twice way tests_of_way equations)) in
    let taken : IsCostOf c.loop-i.taken (any_of (map taken_by_way (map way equations))) =
    subst (λ l. IsCostOf c.loop-i.taken (any_of l)) (sym (map_twice way taken_by_way equations))
    (subst (λ (l : List EqC). IsCostOf c.loop-i.taken (any_of (map (λ (equation : EqC). (way equation).taken) l))) none (c.loop-i.invariant.taken bounds h)) in
    c.one_way.ensures _ _ tests taken

pub loop-i-preserved : goal.loop-i-preserved
loop-i-preserved c =
    let equations : List EqC = c.args.equations.now in
    let equation : EqC = c.index-equations-i.result in
    let left : drop (c.loop-i.i - 1) equations ≡ equation ∷ drop c.loop-i.i equations = item_left equations c.loop-i.i equation (omega (arith, c.loop-i-test.true)) (omega (arith, c.loop-i.auto.i)) c.index-equations-i.is in
    let tests : c.all_tests.result ≡ counted (tests_of_all equation.pats) = c.all_tests.ensures ∙ ap (λ pats. counted (tests_of_all pats)) c.as_slice-pats.ensures in
    let variables : c.all_variables.result ≡ counted (variables_of_all equation.pats) = c.all_variables.ensures ∙ ap (λ pats. counted (variables_of_all pats)) c.as_slice-pats.ensures in
    record {
      tests = c.sum-tests.ensures (tests_of_all equation.pats) (sum (map (λ (e : EqC). tests_of_all e.pats) (drop c.loop-i.i equations))) tests c.loop-i.invariant.tests
          ∙ ap counted (sym (sum_more (tests_of_all equation.pats) (map (λ (e : EqC). tests_of_all e.pats) (drop c.loop-i.i equations))) ∙ ap (λ (l : List EqC). sum (map (λ (e : EqC). tests_of_all e.pats) l)) (sym left));
      taken = λ bounds h.
          subst (λ (l : List EqC). IsCostOf c.either-taken.result (any_of (map (λ (e : EqC). (equation_way (bound_with bounds) e).taken) l))) (sym left)
          (c.either-taken.ensures _ _ (c.with_variables.ensures (variables_of_all equation.pats) 1 _ variables refl (c.expression_cost-body.ensures bounds h)) (c.loop-i.invariant.taken bounds h));
    }
