use Rattle.std.proofs.Common.{◌≡◌, ◌∙◌, List, map, length, refl, ap, subst}
use Rattle.hume_model.specs.declared.core_tree.InPat.{InPat}
use Rattle.hume_model.specs.declared.core_tree.PortC.{PortC}
use Rattle.hume_model.specs.declared.core_tree.HandC.{HandC}
use Rattle.hume_model.specs.BoxTyping.{port_types}
use Rattle.box_costs.specs.Costs.{any_of}
use Rattle.box_costs.specs.PatternTests.{variables_of_all}
use Rattle.box_costs.specs.Bounds.{built_patterns, inputs_build, handler_if_raised}
use Rattle.space_costs.specs.inner.Standing.{IsCostOf, counted}
use Rattle.space_costs.proofs.boxes.rule_cost.Goals as goal

pub returns : goal.returns
returns c =
    let core = c.args.core.now in
    let b = c.args.b.now in
    let rule = c.args.rule.now in
    let count : c.built_count.result ≡ counted (length (built_patterns rule.pats)) = c.built_count.ensures ∙ ap (λ (pats : List InPat). counted (length (built_patterns pats))) c.as_slice-pats.ensures in
    let variables : c.positions_variables.result ≡ counted (variables_of_all (built_patterns rule.pats)) =
    c.positions_variables.ensures ∙ ap (λ (pats : List InPat). counted (variables_of_all (built_patterns pats))) c.as_slice-pats.ensures in
    let words : c.inputs_build.result ≡ counted (inputs_build core.types (port_types b.ins) rule.pats) =
    c.inputs_build.ensures ∙ ap (λ (ins : List PortC). counted (inputs_build core.types (port_types ins) c.as_slice-pats.result.now)) c.as_slice.ensures
    ∙ ap (λ (pats : List InPat). counted (inputs_build core.types (port_types b.ins) pats)) c.as_slice-pats.ensures in
    let handlers : IsCostOf c.handlers_cost-handlers.result (any_of (map (handler_if_raised core rule.result) b.handlers)) =
    subst (λ (l : List HandC). IsCostOf c.handlers_cost-handlers.result (any_of (map (handler_if_raised core rule.result) l))) c.as_slice-2.ensures c.handlers_cost-handlers.ensures in
    c.both-2.ensures _ _
    (c.both.ensures _ _ (c.objects-inputs.ensures _ words)
    (c.above-result.ensures _ _ count (c.with_variables.ensures _ 0 _ variables refl c.result_cost-result.ensures)))
    handlers
