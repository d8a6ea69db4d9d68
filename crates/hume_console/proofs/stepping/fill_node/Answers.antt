use Rattle.std.proofs.Common.{◌∙◌, ap, sym, subst, refl, Err}
use Rattle.hume_net.specs.Nodes.{IsInputStream}
use Rattle.hume_console.proofs.StepFills.{node_blocked, node_failed, node_filled, node_within, other_node, within_seen}
use Rattle.hume_console.proofs.stepping.fill_node.Goals as goal

pub returns-then-not-is_input-clause-ends : goal.returns-then-not-is_input-clause-ends
returns-then-not-is_input-clause-ends g c step places at filling =
    other_node step places c.args.node c.args.at c.args.want c.args.engine.now _ at filling
    (λ input. c.if-not-is_input.ensures.no refl (subst (λ core. IsInputStream core c.args.node) (sym c.core.ensures) input))

pub fill-requires-clause-place : goal.fill-requires-clause-place
fill-requires-clause-place g c =
    let its = c.requires.filling in
    let input = subst (λ core. IsInputStream core c.args.node) c.core.ensures (c.if-not-is_input.ensures.yes refl) in
    within_seen _ _ c.args.at (node_within its.0 its.1 c.args.node c.args.at c.args.want c.args.engine.now _ its.2 its.3 input)

pub returns-in-Ok-clause-ends : goal.returns-in-Ok-clause-ends
returns-in-Ok-clause-ends g c step places at filling =
    let input = subst (λ core. IsInputStream core c.args.node) c.core.ensures (c.if-not-is_input.ensures.yes refl) in
    node_filled step places c.args.node c.args.at c.args.want c.args.engine.now _ at filling input c.fill.new.self _ c.fill.ensures.core c.fill.ensures.span
    c.fill.ensures.peaks c.fill.ensures.same_names c.fill.ensures.untouched _ c.fill.ensures.fills c.in-Ok.is

pub returns-in-Err-BadValue-clause-ends : goal.returns-in-Err-BadValue-clause-ends
returns-in-Err-BadValue-clause-ends g c step places at filling =
    let input = subst (λ core. IsInputStream core c.args.node) c.core.ensures (c.if-not-is_input.ensures.yes refl) in
    node_blocked step places c.args.node c.args.at c.args.want c.args.engine.now _ at filling input c.fill.new.self _ c.fill.ensures.core c.fill.ensures.span
    c.fill.ensures.peaks c.fill.ensures.same_names c.fill.ensures.untouched _ c.fill.ensures.fills _ (c.in-Err-BadValue.is ∙ ap Err c.in-Err-BadValue.field-0-is)

pub returns-in-Err-Failed-clause-ends : goal.returns-in-Err-Failed-clause-ends
returns-in-Err-Failed-clause-ends g c step places at filling =
    let is = c.in-Err-Failed.is ∙ ap Err c.in-Err-Failed.field-0-is in
    let input = subst (λ core. IsInputStream core c.args.node) c.core.ensures (c.if-not-is_input.ensures.yes refl) in
    node_failed step places c.args.node c.args.at c.args.want c.args.engine.now _ at filling input c.fill.new.self _ c.fill.ensures.core c.fill.ensures.span
    c.fill.ensures.peaks c.fill.ensures.same_names c.fill.ensures.untouched _ c.fill.ensures.fills is (λ roomy. c.fill.ensures.roomy roomy is)
