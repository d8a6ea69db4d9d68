use Rattle.std.proofs.Common.{◌≡◌, Some, map, sym, ap, ◌∙◌, subst}
use Rattle.hume_base.specs.Flat.{flat}
use Rattle.hume_net.specs.Nodes.{IsOutputStream}
use Rattle.hume_net.specs.Sides.{part_of}
use Rattle.hume_streams.specs.declared.log.OutLog.{OutLog}
use Rattle.hume_streams.specs.Logs.{log_view}
use Rattle.box_step.specs.declared.nodes.cell.BoxCell.{BoxCell}
use Rattle.box_step.specs.nodes.Lends.{log_in}
use Rattle.phase_workers.specs.Engines.{EngineView, core_of, state_of}
use Rattle.phase_workers.specs.StreamTypes.{type_at}
use Rattle.phase_workers.proofs.AtRest.{log_there}
use Rattle.phase_workers.proofs.Indexes.{index_at}
use Rattle.phase_workers.proofs.engine.Engine.log.Goals as goal

pub returns : goal.returns
returns c =
    let inside = c.self.inside in
    let is = subst (λ (v : EngineView). IsOutputStream (core_of v) c.args.node) (sym c.self.view_is) c.requires in
    let its = log_there _ _ _ _ _ _ _ c.self.invariant c.args.node is in
    let cell = index_at inside.nodes.items c.args.node its.0 c.index.result.now its.1 c.index.ensures in
    let logs : c.in-Some.log.now ≡ its.2 =
    (let both : Some c.in-Some.log.now ≡ Some its.2 = sym c.in-Some.ensures ∙ ap (λ (k : BoxCell). log_in k.kind) cell ∙ its.3 in cc) in
    ap (λ (l : OutLog). (log_view l).values) logs ∙ its.4
    ∙ ap (λ (v : EngineView). map (flat (core_of v).types (type_at (core_of v) c.args.node)) (part_of (state_of v) c.args.node).taken) c.self.view_is
