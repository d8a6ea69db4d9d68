use Rattle.std.proofs.Common.{◌∙◌, ap, sym, subst, refl, [], ◌∷◌, Err}
use Rattle.hume_net.specs.Nodes.{IsInputStream}
use Rattle.hume_ports.specs.Ports.{Untouched}
use Rattle.phase_workers.specs.Engines.{core_of}
use Rattle.phase_workers.specs.NodeFills.{FillsNode}
use Rattle.run_rounds.proofs.FillingInputs.{stream_there, fill_as, for_port, other_node, node_filled, node_lacks}
use Rattle.run_rounds.proofs.Wanting.{want_failed}
use Rattle.run_rounds.proofs.filling.fill_node.Goals as goal

pub returns-then-not-is_input-clause-ends : goal.returns-then-not-is_input-clause-ends
returns-then-not-is_input-clause-ends g c traced steps done olds filling =
    other_node (core_of c.args.engine.now) traced steps done c.args.want olds _ c.args.engine.now c.args.node
    (λ input. c.if-not-is_input.ensures.no refl (subst (λ core. IsInputStream core c.args.node) (sym c.core.ensures) input)) filling

pub returns-in-Ok-clause-ends : goal.returns-in-Ok-clause-ends
returns-in-Ok-clause-ends g c traced steps done olds filling =
    let input = subst (λ core. IsInputStream core c.args.node) c.core.ensures (c.if-not-is_input.ensures.yes refl) in
    let s = stream_there (core_of c.args.engine.now) c.args.node input in
    let place = c.requires.place s.0 s.1 in
    let untouched = for_port (λ name. Untouched (name ∷ []) _ _) s.0 _ c.args.at place c.fill.ensures.untouched in
    let fill = for_port (λ name. FillsNode c.args.want c.args.engine.now c.fill.new.self c.args.node name _ _ _) s.0 _ c.args.at place c.in-Ok.ensures.fills in
    node_filled traced steps done c.args.want olds _ _ c.args.engine.now c.fill.new.self c.args.node s.0 s.1 c.requires.runnable c.requires.apart filling
    c.fill.ensures.core c.fill.ensures.span c.fill.ensures.peaks untouched fill

pub returns-in-Err-BadValue-clause-ends : goal.returns-in-Err-BadValue-clause-ends
returns-in-Err-BadValue-clause-ends g c traced steps done olds filling =
    let is = c.in-Err-BadValue.is ∙ ap Err c.in-Err-BadValue.field-0-is in
    let input = subst (λ core. IsInputStream core c.args.node) c.core.ensures (c.if-not-is_input.ensures.yes refl) in
    let s = stream_there (core_of c.args.engine.now) c.args.node input in
    let place = c.requires.place s.0 s.1 in
    let untouched = for_port (λ name. Untouched (name ∷ []) _ _) s.0 _ c.args.at place c.fill.ensures.untouched in
    let some = for_port (λ name. FillsNode c.args.want c.args.engine.now c.fill.new.self c.args.node name _ _ c.fill.result) s.0 _ c.args.at place c.fill.ensures.fills in
    let fill = fill_as _ _ _ _ _ _ _ _ _ is some in
    node_lacks traced steps done c.args.want olds _ _ c.args.engine.now c.fill.new.self c.args.node s.0 s.1 c.requires.runnable c.requires.apart filling
    c.fill.ensures.core c.fill.ensures.span c.fill.ensures.peaks untouched _ fill

pub returns-in-Err-Failed-clause-ends : goal.returns-in-Err-Failed-clause-ends
returns-in-Err-Failed-clause-ends g c traced steps done olds filling =
    let is = c.in-Err-Failed.is ∙ ap Err c.in-Err-Failed.field-0-is in
    let input = subst (λ core. IsInputStream core c.args.node) c.core.ensures (c.if-not-is_input.ensures.yes refl) in
    let s = stream_there (core_of c.args.engine.now) c.args.node input in
    let place = c.requires.place s.0 s.1 in
    let untouched = for_port (λ name. Untouched (name ∷ []) _ _) s.0 _ c.args.at place c.fill.ensures.untouched in
    let some = for_port (λ name. FillsNode c.args.want c.args.engine.now c.fill.new.self c.args.node name _ _ c.fill.result) s.0 _ c.args.at place c.fill.ensures.fills in
    let fill = fill_as _ _ _ _ _ _ _ _ _ is some in
    want_failed traced steps done c.args.want olds _ _ c.args.engine.now c.fill.new.self c.args.node s.0 s.1 c.requires.runnable c.requires.apart filling fill untouched
    (λ roomy. c.fill.ensures.roomy roomy is) c.requires.within
