use Rattle.std.proofs.Common.{◌≡◌, ◌∙◌, ◌+◌, ◌-◌, suc, arith, List, [], ◌∷◌, Option, map, length, drop, sum, refl, sym, ap, subst}
use Rattle.std.specs.Option.{option_map}
use Rattle.hume_model.specs.declared.core_tree.PatC.{PatC}
use Rattle.hume_model.specs.declared.core_tree.Expr.{Expr}
use Rattle.hume_model.specs.declared.core_tree.Expr.TheOpen.{Expr-F}
use Rattle.hume_model.specs.declared.core_tree.Expr.TheVariants as expr
use Rattle.box_costs.specs.declared.cost.Cost.{Cost}
use Rattle.box_costs.specs.Costs.{Way, in_order, any_of, one_way, tests_of_way, taken_by_way}
use Rattle.box_costs.specs.PatternTests.{tests_of, variables_of}
use Rattle.box_costs.specs.Bounds.{arm_way, raise_bound, bound_with}
use Rattle.box_costs.proofs.CostSteps.{sum_more}
use Rattle.space_costs.specs.inner.Standing.{IsCostOf, counted}
use Rattle.space_costs.proofs.Forms.{by_form, of_same}
use Rattle.space_costs.proofs.Lists.{item_left, map_twice}
use Rattle.space_costs.proofs.expressions.+expression.Goals as goal

pub expression_cost-returns-in-Index : goal.expression_cost-returns-in-Index
expression_cost-returns-in-Index t c = λ bounds h.
    let v = c.in-Index.vector in
    let p = c.in-Index.place in
    by_form bounds _ _ (Expr-F.Index c.in-Index.field-0 v p) (expr.rolls-Index c.in-Index.field-0 v p ∙ sym c.in-Index.is)
    (c.both-in-Index.ensures _ _
    (c.before-in-Index-2.ensures _ _ (of_same bounds _ _ v c.deref.ensures (c.expression_cost-vector.ensures bounds h))
    (c.before-in-Index.ensures _ _ (of_same bounds _ _ p c.deref-in-Index.ensures (c.expression_cost-place.ensures bounds h)) c.nothing.ensures))
    c.pushed-in-Index.ensures)

pub expression_cost-returns-in-Update : goal.expression_cost-returns-in-Update
expression_cost-returns-in-Update t c = λ bounds h.
    let n = c.in-Update.count in
    let v = c.in-Update.vector in
    let p = c.in-Update.place in
    let e = c.in-Update.item in
    by_form bounds _ _ (Expr-F.Update n v p e) (expr.rolls-Update n v p e ∙ sym c.in-Update.is)
    (c.both-in-Update.ensures _ _
    (c.before-parts.ensures _ _ (of_same bounds _ _ v c.deref-in-Update.ensures (c.expression_cost-vector-in-Update.ensures bounds h))
    (c.before-in-Update-2.ensures _ _ (of_same bounds _ _ p c.deref-in-Update-2.ensures (c.expression_cost-place-in-Update.ensures bounds h))
    (c.before-in-Update.ensures _ _ (of_same bounds _ _ e c.deref-in-Update-3.ensures (c.expression_cost-item.ensures bounds h)) c.nothing-in-Update.ensures)))
    (c.made.ensures n c.counted.ensures))

pub expression_cost-returns-in-If : goal.expression_cost-returns-in-If
expression_cost-returns-in-If t c = λ bounds h.
    let e = c.in-If.test in
    let a = c.in-If.when_true in
    let b = c.in-If.when_false in
    by_form bounds _ _ (Expr-F.If e a b) (expr.rolls-If e a b ∙ sym c.in-If.is)
    (c.both-in-If-2.ensures _ _ (of_same bounds _ _ e c.deref-in-If.ensures (c.expression_cost-test.ensures bounds h))
    (c.both-in-If.ensures _ _ (c.instructions-in-If.ensures 1 refl)
    (c.either.ensures _ _
    (c.both-when_true.ensures _ _ (of_same bounds _ _ a c.deref-in-If-2.ensures (c.expression_cost.ensures bounds h)) (c.instructions.ensures 1 refl))
    (of_same bounds _ _ b c.deref-in-If-3.ensures (c.expression_cost-when_false.ensures bounds h)))))

pub expression_cost-returns-in-Case : goal.expression_cost-returns-in-Case
expression_cost-returns-in-Case t c = λ bounds h.
    let e = c.in-Case.part in
    let arms : List (PatC × Expr) = c.in-Case.arms in
    let with_bound : PatC × Expr → PatC × Cost = λ arm. (arm.0, bound_with bounds arm.1) in
    let ways : map (arm_way 2) (map with_bound arms) ≡ map (λ (arm : PatC × Expr). arm_way 2 (with_bound arm)) arms = map_twice with_bound (arm_way 2) arms in
    let all : IsCostOf c.arms_cost.result (one_way (map (λ (arm : PatC × Expr). arm_way 2 (with_bound arm)) arms)) =
    subst (λ (l : List (PatC × Expr)). IsCostOf c.arms_cost.result (one_way (map (λ (arm : PatC × Expr). arm_way 2 (with_bound arm)) l))) c.as_slice-in-Case.ensures (c.arms_cost.ensures bounds h) in
    by_form bounds _ _ (Expr-F.Case e c.in-Case.field-1 arms) (expr.rolls-Case e c.in-Case.field-1 arms ∙ sym c.in-Case.is)
    (c.before-in-Case.ensures _ _ (of_same bounds _ _ e c.deref-in-Case.ensures (c.expression_cost-part.ensures bounds h))
    (subst (λ (l : List Way). IsCostOf c.arms_cost.result (one_way l)) (sym ways) all))

pub expression_cost-returns-in-Let : goal.expression_cost-returns-in-Let
expression_cost-returns-in-Let t c = λ bounds h.
    let e = c.in-Let.part in
    let b = c.in-Let.body in
    by_form bounds _ _ (Expr-F.Let e b) (expr.rolls-Let e b ∙ sym c.in-Let.is)
    (c.before-in-Let.ensures _ _ (of_same bounds _ _ e c.deref-in-Let.ensures (c.expression_cost-part-in-Let.ensures bounds h))
    (c.both-in-Let.ensures _ _ (of_same bounds _ _ b c.deref-in-Let-2.ensures (c.expression_cost-in-Let.ensures bounds h)) (c.instructions-in-Let.ensures 1 refl)))

mapped : {X Y : Type 0} (f : X → Y) (xs : List X) → length (map f xs) ≡ length xs
mapped f [] = refl
mapped f (x ∷ xs) = ap suc (mapped f xs)

pub expression_cost-returns-in-Call : goal.expression_cost-returns-in-Call
expression_cost-returns-in-Call t c = λ bounds h.
    let f = c.in-Call.function in
    let ps : List Expr = c.in-Call.parts in
    let there : IsCostOf c.parts_cost-in-Call.result (in_order (map (bound_with bounds) ps)) =
    subst (λ (l : List Expr). IsCostOf c.parts_cost-in-Call.result (in_order (map (bound_with bounds) l))) c.as_slice-parts.ensures (c.parts_cost-in-Call.ensures bounds h) in
    let count : c.counted-in-Call.result ≡ counted (length (map (bound_with bounds) ps)) =
    c.counted-in-Call.ensures ∙ ap (λ (l : List Expr). counted (length l)) c.as_slice-parts.ensures ∙ ap counted (sym (mapped (bound_with bounds) ps)) in
    let called : IsCostOf c.called_cost.result (bounds f) = subst (λ (x : Cost). IsCostOf x (bounds f)) (sym c.called_cost.ensures) (h.each f) in
    by_form bounds _ _ (Expr-F.Call f ps) (expr.rolls-Call f ps ∙ sym c.in-Call.is)
    (c.both-in-Call-2.ensures _ _ there
    (c.above-call.ensures (length (map (bound_with bounds) ps) + 2) _ (c.sum-words.ensures (length (map (bound_with bounds) ps)) 2 count refl)
    (c.both-in-Call.ensures _ _ (c.instructions-in-Call.ensures 1 refl) called)))

pub object_cost-returns : goal.object_cost-returns
object_cost-returns t c = λ bounds h.
    let ps : List Expr = c.args.parts.now in
    c.both.ensures _ _ (c.parts_cost.ensures bounds h)
    (c.made.ensures (length (map (bound_with bounds) ps)) (c.counted.ensures ∙ ap counted (sym (mapped (bound_with bounds) ps))))

pub raise_cost-returns-in-None : goal.raise_cost-returns-in-None
raise_cost-returns-in-None t c = λ bounds h.
    subst (λ (part : Option Expr). IsCostOf c.both.result (raise_bound (option_map (bound_with bounds) part))) (sym c.in-None.is)
    (c.both.ensures _ _ c.pushed.ensures (c.instructions.ensures 1 refl))

pub raise_cost-returns-in-Some : goal.raise_cost-returns-in-Some
raise_cost-returns-in-Some t c = λ bounds h.
    subst (λ (part : Option Expr). IsCostOf c.both-in-Some.result (raise_bound (option_map (bound_with bounds) part))) (sym c.in-Some.is)
    (c.both-in-Some.ensures _ _ (of_same bounds _ _ c.in-Some.part c.deref.ensures (c.expression_cost.ensures bounds h)) (c.instructions-in-Some.ensures 1 refl))

pub arms_cost-returns : goal.arms_cost-returns
arms_cost-returns t c = λ bounds h.
    let arms : List (PatC × Expr) = c.args.arms.now in
    let way : PatC × Expr → Way = λ arm. arm_way 2 (arm.0, bound_with bounds arm.1) in
    let none : drop c.loop-i.i arms ≡ arms = (let zero_left : c.loop-i.i ≡ 0 = omega (arith, c.loop-i-test.false) in ap (λ i. drop i arms) zero_left) in
    let tests : c.loop-i.all_tests ≡ counted (sum (map tests_of_way (map way arms))) =
    c.loop-i.invariant.tests ∙ ap (λ (l : List (PatC × Expr)). counted (sum (map (λ (arm : PatC × Expr). tests_of arm.0) l))) none ∙ ap (λ l. counted (sum l)) (sym (map_twice way tests_of_way arms)) in
    let taken : IsCostOf c.loop-i.taken (any_of (map taken_by_way (map way arms))) =
    subst (λ l. IsCostOf c.loop-i.taken (any_of l)) (sym (map_twice way taken_by_way arms))
    (subst (λ (l : List (PatC × Expr)). IsCostOf c.loop-i.taken (any_of (map (λ (arm : PatC × Expr). (way arm).taken) l))) none (c.loop-i.invariant.taken bounds h)) in
    c.one_way.ensures _ _ tests taken

pub arms_cost-loop-i-preserved : goal.arms_cost-loop-i-preserved
arms_cost-loop-i-preserved t c =
    let arms : List (PatC × Expr) = c.args.arms.now in
    let arm : PatC × Expr = c.index-arms-i.result in
    let left : drop (c.loop-i.i - 1) arms ≡ arm ∷ drop c.loop-i.i arms = item_left arms c.loop-i.i arm (omega (arith, c.loop-i-test.true)) (omega (arith, c.loop-i.auto.i)) c.index-arms-i.is in
    record {
      tests = c.sum-all_tests.ensures (tests_of arm.0) (sum (map (λ (a : PatC × Expr). tests_of a.0) (drop c.loop-i.i arms))) c.tests.ensures c.loop-i.invariant.tests
          ∙ ap counted (sym (sum_more (tests_of arm.0) (map (λ (a : PatC × Expr). tests_of a.0) (drop c.loop-i.i arms))) ∙ ap (λ (l : List (PatC × Expr)). sum (map (λ (a : PatC × Expr). tests_of a.0) l)) (sym left));
      taken = λ bounds h.
          subst (λ (l : List (PatC × Expr)). IsCostOf c.either-taken.result (any_of (map (λ (a : PatC × Expr). (arm_way 2 (a.0, bound_with bounds a.1)).taken) l))) (sym left)
          (c.either-taken.ensures _ _ (c.with_variables.ensures (variables_of arm.0) 2 _ c.variables.ensures refl (c.expression_cost-branch.ensures bounds h)) (c.loop-i.invariant.taken bounds h));
    }
