use Rattle.std.proofs.Common.{◌∙◌, ap, sym, subst, refl, [], ◌∷◌, Err}
use Rattle.hume_net.specs.Nodes.{IsInputStream}
use Rattle.hume_ports.specs.Ports.{Untouched}
use Rattle.phase_workers.specs.NodeFills.{FillsNode}
use Rattle.run_log.specs.Moments.{core_in, engine_of}
use Rattle.run_rounds.proofs.FillingInputs.{stream_there, fill_as, for_port}
use Rattle.log_rounds.proofs.FillingInputs.{other_node, node_filled, node_lacks}
use Rattle.log_rounds.proofs.Wanting.{want_failed}
use Rattle.log_rounds.proofs.filling.fill_node.Goals as goal

pub returns-then-not-is_input-clause-ends : goal.returns-then-not-is_input-clause-ends
returns-then-not-is_input-clause-ends g c steps done deeds olds so_far =
    other_node (core_in c.args.run.now) steps done deeds olds _ c.args.run.now c.args.node
    (λ input. c.if-not-is_input.ensures.no refl (subst (λ core. IsInputStream core c.args.node) (sym c.core.ensures) input)) so_far

pub returns-in-Ok-clause-ends : goal.returns-in-Ok-clause-ends
returns-in-Ok-clause-ends g c steps done deeds olds so_far =
    let input = subst (λ core. IsInputStream core c.args.node) c.core.ensures (c.if-not-is_input.ensures.yes refl) in
    let s = stream_there (core_in c.args.run.now) c.args.node input in
    let place = c.requires.place s.0 s.1 in
    let untouched = for_port (λ name. Untouched (name ∷ []) _ _) s.0 _ c.args.at place c.fill.ensures.untouched in
    let fill = for_port (λ name. FillsNode 1 (engine_of c.args.run.now) (engine_of c.fill.new.self) c.args.node name _ _ _) s.0 _ c.args.at place c.in-Ok.ensures.fills in
    node_filled steps done deeds olds _ _ c.args.run.now c.fill.new.self c.args.node s.0 s.1 c.requires.runnable c.requires.apart so_far
    c.fill.ensures.core c.fill.ensures.half c.fill.ensures.superstep untouched fill

pub returns-in-Err-BadValue-clause-ends : goal.returns-in-Err-BadValue-clause-ends
returns-in-Err-BadValue-clause-ends g c steps done deeds olds so_far =
    let is = c.in-Err-BadValue.is ∙ ap Err c.in-Err-BadValue.field-0-is in
    let input = subst (λ core. IsInputStream core c.args.node) c.core.ensures (c.if-not-is_input.ensures.yes refl) in
    let s = stream_there (core_in c.args.run.now) c.args.node input in
    let place = c.requires.place s.0 s.1 in
    let untouched = for_port (λ name. Untouched (name ∷ []) _ _) s.0 _ c.args.at place c.fill.ensures.untouched in
    let some = for_port (λ name. FillsNode 1 (engine_of c.args.run.now) (engine_of c.fill.new.self) c.args.node name _ _ c.fill.result) s.0 _ c.args.at place c.fill.ensures.fills in
    let fill = fill_as _ _ _ _ _ _ _ _ _ is some in
    node_lacks steps done deeds olds _ _ c.args.run.now c.fill.new.self c.args.node s.0 s.1 c.requires.runnable c.requires.apart so_far
    c.fill.ensures.core c.fill.ensures.half c.fill.ensures.superstep untouched _ fill

pub returns-in-Err-Failed-clause-ends : goal.returns-in-Err-Failed-clause-ends
returns-in-Err-Failed-clause-ends g c steps done deeds olds so_far =
    let is = c.in-Err-Failed.is ∙ ap Err c.in-Err-Failed.field-0-is in
    let input = subst (λ core. IsInputStream core c.args.node) c.core.ensures (c.if-not-is_input.ensures.yes refl) in
    let s = stream_there (core_in c.args.run.now) c.args.node input in
    let place = c.requires.place s.0 s.1 in
    let untouched = for_port (λ name. Untouched (name ∷ []) _ _) s.0 _ c.args.at place c.fill.ensures.untouched in
    let some = for_port (λ name. FillsNode 1 (engine_of c.args.run.now) (engine_of c.fill.new.self) c.args.node name _ _ c.fill.result) s.0 _ c.args.at place c.fill.ensures.fills in
    let fill = fill_as _ _ _ _ _ _ _ _ _ is some in
    want_failed steps done deeds olds _ _ c.args.run.now c.fill.new.self c.args.node s.0 s.1 c.requires.runnable c.requires.apart so_far fill untouched
    (λ roomy. c.fill.ensures.roomy roomy is) c.requires.within
