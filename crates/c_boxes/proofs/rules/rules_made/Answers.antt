use Rattle.std.proofs.Common.{◌≡◌, ◌∙◌, ◌+◌, IfOk, List, ap, drop, subst, sym}
use Rattle.c_analysis.specs.Targets.{target}
use Rattle.c_expressions.specs.declared.arms.Way.{Way}
use Rattle.c_expressions.specs.declared.made.Made.{Made}
use Rattle.c_expressions.specs.inner.Ways.{ways_before}
use Rattle.c_boxes.specs.Rules.{rules_made}
use Rattle.c_boxes.specs.inner.Nodes.{shown}
use Rattle.c_boxes.proofs.RuleForms.{rules_end, rules_go_on}
use Rattle.c_boxes.proofs.rules.rules_made.Goals as goal

pub loop-place-preserved : goal.loop-place-preserved
loop-place-preserved c =
    let s = target c.args.s in
    let node = shown c.args.node in
    ap (λ (ways : List Way). ways_before ways (rules_made s node (c.loop-place.place + 1) (drop (c.loop-place.place + 1) c.args.rules.now) c.in_ok-way.way.made.next)) c.in_ok-push.ensures.ok
    ∙ rules_go_on s node c.args.rules.now c.loop-place.place c.index-rules-place.result c.loop-place.next c.in_ok-way.way c.loop-place.ways c.loop-place-test.true c.index-rules-place.is
    c.in_ok-way.ensures (sym c.is_last_way.ensures ∙ c.if-is_last_way.false)
    ∙ c.loop-place.invariant

pub returns-then-is_last_way : goal.returns-then-is_last_way
returns-then-is_last_way c =
    let s = target c.args.s in
    let node = shown c.args.node in
    subst (λ (all : Made). IfOk c.ways_tried.result (λ it. it ≡ all))
    (ap (ways_before c.loop-place.ways)
    (sym (rules_end s node c.args.rules.now c.loop-place.place c.index-rules-place.result c.loop-place.next c.in_ok-way.way c.loop-place-test.true c.index-rules-place.is
    c.in_ok-way.ensures (sym c.is_last_way.ensures ∙ c.if-is_last_way.true)))
    ∙ c.loop-place.invariant) c.ways_tried.ensures
