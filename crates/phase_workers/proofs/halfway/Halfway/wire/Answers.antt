use Rattle.std.proofs.Common.{◌≡◌, ◌<◌, length, Option, None, Some, sym, ap, ◌∙◌, subst, slice_get}
use Rattle.hume_model.specs.declared.core_tree.WireC.{WireC}
use Rattle.hume_net.specs.Lockstep.{mid}
use Rattle.hume_net.specs.Sides.{on_wire}
use Rattle.wire_cells.specs.Cells.{CellView, Holds}
use Rattle.phase_workers.specs.Engines.{EngineView, core_of, state_of}
use Rattle.phase_workers.proofs.Halving.{wire_midst}
use Rattle.phase_workers.proofs.Indexes.{index_at}
use Rattle.phase_workers.proofs.halfway.Halfway.wire.Goals as goal

pub unreachable-requires : goal.unreachable-requires
unreachable-requires c =
    let less = subst (λ (v : EngineView). c.args.wire < length (core_of v).wires) (sym c.self.view_is) c.requires in
    let its = wire_midst _ _ _ _ _ _ _ c.self.invariant c.args.wire less in
    let both : ◌≡◌ {A = Option CellView} None (Some its.0) =
    sym c.in-None.is ∙ index_at c.self.inside.home.items c.args.wire (Some its.0) c.index.result.now its.1 c.index.ensures in
    cc

pub returns-clause-number : goal.returns-clause-number
returns-clause-number c =
    let less = subst (λ (v : EngineView). c.args.wire < length (core_of v).wires) (sym c.self.view_is) c.requires in
    let its = wire_midst _ _ _ _ _ _ _ c.self.invariant c.args.wire less in
    let both : ◌≡◌ {A = Option CellView} (Some c.in-Some.cell) (Some its.0) =
    sym c.in-Some.is ∙ index_at c.self.inside.home.items c.args.wire (Some its.0) c.index.result.now its.1 c.index.ensures in
    let same : c.in-Some.cell ≡ its.0 = cc in
    ap (λ (cell : CellView). cell.number) same ∙ its.2

pub returns-clause-holds : goal.returns-clause-holds
returns-clause-holds c =
    let less = subst (λ (v : EngineView). c.args.wire < length (core_of v).wires) (sym c.self.view_is) c.requires in
    let its = wire_midst _ _ _ _ _ _ _ c.self.invariant c.args.wire less in
    let both : ◌≡◌ {A = Option CellView} (Some c.in-Some.cell) (Some its.0) =
    sym c.in-Some.is ∙ index_at c.self.inside.home.items c.args.wire (Some its.0) c.index.result.now its.1 c.index.ensures in
    let same : its.0 ≡ c.in-Some.cell = cc in
    subst (λ (v : EngineView). (it : WireC) → slice_get (core_of v).wires c.args.wire ≡ Some it
    → Holds (core_of v).types it c.in-Some.cell (on_wire (state_of v) c.args.wire)) c.self.view_is
    (λ it at. subst (λ cell. Holds c.self.inside.core.types it cell (on_wire (mid c.self.inside.core c.self.inside.seen.state) c.args.wire)) same (its.3 it at))
