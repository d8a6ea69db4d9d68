use Rattle.std.proofs.Common.{◌≡◌, ◌∙◌, ◌+◌, IfOk, List, ap, drop, map, subst, sym}
use Rattle.c_analysis.specs.Targets.{target}
use Rattle.c_expressions.specs.declared.arms.Way.{Way}
use Rattle.c_expressions.specs.declared.made.Made.{Made}
use Rattle.c_expressions.specs.inner.Ways.{ways_before}
use Rattle.c_expressions.specs.Expressions.{Scope}
use Rattle.c_expressions.proofs.WaysForms.{anyway}
use Rattle.c_boxes.specs.Results.{arm_way, arms_made}
use Rattle.c_boxes.specs.inner.Arms.{arm_given}
use Rattle.c_boxes.proofs.CaseForms.{case_is}
use Rattle.c_boxes.proofs.ResultForms.{arms_end, ways_go_on}
use Rattle.c_boxes.proofs.results.+result_made.Goals as goal

pub arms_made-loop-place-preserved : goal.arms_made-loop-place-preserved
arms_made-loop-place-preserved t c =
    let s = target c.args.s in
    record {
      made = ap (λ (ways : List Way). ways_before ways (arms_made s c.args.of.now c.args.object.now c.args.complete (map (arm_given s) (drop (c.loop-place.place + 1) c.args.arms.now))
          c.args.b.now c.args.scope.now c.in_ok-way.way.made.next)) c.in_ok-push.ensures.ok
          ∙ ways_go_on s c.args.b.now c.args.scope.now c.args.of.now c.args.object.now c.args.complete c.args.arms.now c.loop-place.place c.index-arms-place.result c.loop-place.next c.in_ok-way.way c.loop-place.ways c.loop-place-test.true c.index-arms-place.is
          (c.in_ok-way.ensures.made
          ∙ ap (λ (scope : Scope). arm_way s c.args.of.now c.args.object.now (arm_given s c.index-arms-place.result) c.args.b.now scope c.loop-place.next) c.loop-place.invariant.scope)
          (sym c.is_last_way.ensures ∙ c.if-is_last_way.false)
          ∙ c.loop-place.invariant.made;
      scope = c.in_ok-way.ensures.scope ∙ c.loop-place.invariant.scope;
    }

pub arms_made-returns-then-is_last_way : goal.arms_made-returns-then-is_last_way
arms_made-returns-then-is_last_way t c =
    let s = target c.args.s in
    record {
      made = subst (λ (all : Made). IfOk c.ways_tried.result (λ it. it ≡ all))
          (ap (ways_before c.loop-place.ways)
          (sym (arms_end s c.args.b.now c.args.scope.now c.args.of.now c.args.object.now c.args.complete c.args.arms.now c.loop-place.place c.index-arms-place.result c.loop-place.next c.in_ok-way.way c.loop-place-test.true c.index-arms-place.is
          (c.in_ok-way.ensures.made
          ∙ ap (λ (scope : Scope). arm_way s c.args.of.now c.args.object.now (arm_given s c.index-arms-place.result) c.args.b.now scope c.loop-place.next) c.loop-place.invariant.scope)
          (sym c.is_last_way.ensures ∙ c.if-is_last_way.true)))
          ∙ c.loop-place.invariant.made) c.ways_tried.ensures;
      scope = anyway c.ways_tried.result (c.in_ok-way.ensures.scope ∙ c.loop-place.invariant.scope);
    }

pub case_made-returns-clause-made : goal.case_made-returns-clause-made
case_made-returns-clause-made t c =
    subst (λ (all : Made). IfOk c.arms_behind.result (λ it. it ≡ all))
    (case_is (target c.args.s) c.args.of.now c.args.part.now c.args.arms.now c.args.b.now c.args.scope.now c.args.next
    c.len.result c.in_ok-looked_at.looked_at c.in_ok-object.object c.subject.new.scope c.len.ensures c.in_ok-looked_at.ensures
    c.in_ok-object.ensures.made c.in_ok-object.ensures.scope)
    c.arms_behind.ensures.made
