use Rattle.std.proofs.Common.{◌+◌, map, drop, refl, sym, ◌∙◌, subst}
use Rattle.hume_streams.specs.declared.log.OutLog.{OutLog}
use Rattle.hume_streams.specs.Queues.{queue_view}
use Rattle.hume_streams.specs.Logs.{log_view}
use Rattle.wire_cells.specs.Cells.{CellView}
use Rattle.wire_cells.proofs.AtHome.{others_same, same_cells}
use Rattle.box_step.specs.Views.{CompiledView}
use Rattle.box_step.specs.nodes.Right.{AreRightWires, IsRightBox, IsRightLog, IsRightNode}
use Rattle.box_step.specs.nodes.Sides.{ticked}
use Rattle.box_step.specs.inner.HalfSteps.{CanExecute}
use Rattle.box_step.proofs.nodes_lemmas.Executed.{queue_next, queue_wires, log_long, log_whole, log_next, log_wires, less_kept}
use Rattle.box_step.proofs.nodes.executing.execute_kind.Goals as goal

pub execute_box-requires-clause-can : goal.execute_box-requires-clause-can
execute_box-requires-clause-can c =
    let opening = c.requires.can.2 in
    let time = c.requires.can.3 in (
      c.requires.can.0,
      c.requires.can.1,
      opening,
      time,
      c.requires.can.4,
      subst (λ (box : CompiledView). IsRightBox opening c.args.number time box) (sym c.deref_mut.ensures.value)
          (subst (IsRightNode opening c.args.number time) c.in-Coded.is c.requires.can.5),
    )

pub returns-in-Coded-clause-node : goal.returns-in-Coded-clause-node
returns-in-Coded-clause-node c = λ opening time ins at can right.
    c.execute_box.ensures.node opening time ins at can
    (subst (λ (box : CompiledView). IsRightBox opening c.args.number time box) (sym c.deref_mut.ensures.value)
    (subst (IsRightNode opening c.args.number time) c.in-Coded.is right))

pub returns-in-Coded-clause-wires : goal.returns-in-Coded-clause-wires
returns-in-Coded-clause-wires c = λ opening time ins after at can right now.
    c.execute_box.ensures.wires opening time ins after at can
    (subst (λ (box : CompiledView). IsRightBox opening c.args.number time box) (sym c.deref_mut.ensures.value)
    (subst (IsRightNode opening c.args.number time) c.in-Coded.is right)) now

pub take_value-requires-clause-one : goal.take_value-requires-clause-one
take_value-requires-clause-one c =
    let opening = c.requires.can.2 in
    let time = c.requires.can.3 in
    sym c.requires.can.1.long
    ∙ log_long opening c.args.core.now c.args.number time c.requires.can.0 (log_view c.in-Logged.log.value) c.requires.can.4
    (subst (IsRightNode opening c.args.number time) c.in-Logged.is c.requires.can.5)

pub take_value-requires-clause-home : goal.take_value-requires-clause-home
take_value-requires-clause-home c = (c.requires.can.0, c.requires.can.1)

pub take_value-requires-clause-whole : goal.take_value-requires-clause-whole
take_value-requires-clause-whole c = λ ins at.
    let opening = c.requires.can.2 in
    let time = c.requires.can.3 in
    log_whole opening c.args.core.now c.args.number time ins (log_view c.deref_mut-in-Logged.result.now)
    (subst (CanExecute opening c.args.core.now c.args.number time) (same_cells c.args.side.now c.args.home.now c.requires.can.0 ins c.requires.can.1 at)
    c.requires.can.4)
    (subst (λ (log : OutLog). IsRightLog opening c.args.number time (log_view log)) (sym c.deref_mut-in-Logged.ensures.value)
    (subst (IsRightNode opening c.args.number time) c.in-Logged.is c.requires.can.5))

pub returns-in-Queued-clause-others : goal.returns-in-Queued-clause-others
returns-in-Queued-clause-others c = others_same c.args.side.now c.args.home.now

pub returns-in-Queued-clause-rest : goal.returns-in-Queued-clause-rest
returns-in-Queued-clause-rest c = λ ins at. (ins, at, refl)

pub returns-in-Queued-clause-node : goal.returns-in-Queued-clause-node
returns-in-Queued-clause-node c = λ opening time ins at can right.
    subst (IsRightNode opening c.args.number (time + 1)) (sym c.in-Queued.is)
    (queue_next opening c.args.core.now c.args.number time ins (queue_view c.in-Queued.field-0.value) can
    (subst (IsRightNode opening c.args.number time) c.in-Queued.is right))

pub returns-in-Queued-clause-wires : goal.returns-in-Queued-clause-wires
returns-in-Queued-clause-wires c = λ opening time ins after at can right now.
    subst (λ cs. AreRightWires opening (map ticked cs)) (same_cells c.args.side.now c.args.home.now ins after at now)
    (queue_wires opening c.args.core.now c.args.number time ins (queue_view c.in-Queued.field-0.value) can
    (subst (IsRightNode opening c.args.number time) c.in-Queued.is right))

pub returns-in-Logged-clause-rest : goal.returns-in-Logged-clause-rest
returns-in-Logged-clause-rest c = λ ins at.
    (map (λ (cell : CellView). record cell { values = drop 1 cell.values }) ins, c.take_value.ensures.ins ins at, less_kept ins)

pub returns-in-Logged-clause-node : goal.returns-in-Logged-clause-node
returns-in-Logged-clause-node c = λ opening time ins at can right.
    log_next opening c.args.core.now c.args.number time ins (log_view c.deref_mut-in-Logged.result.now) can
    (subst (λ (log : OutLog). IsRightLog opening c.args.number time (log_view log)) (sym c.deref_mut-in-Logged.ensures.value)
    (subst (IsRightNode opening c.args.number time) c.in-Logged.is right)) (log_view c.take_value.new.log) (c.take_value.ensures.log ins at)

pub returns-in-Logged-clause-wires : goal.returns-in-Logged-clause-wires
returns-in-Logged-clause-wires c = λ opening time ins after at can right now.
    let left = map (λ (cell : CellView). record cell { values = drop 1 cell.values }) ins in
    subst (λ cs. AreRightWires opening (map ticked cs)) (same_cells c.args.side.now c.take_value.new.home left after (c.take_value.ensures.ins ins at) now)
    (log_wires opening c.args.core.now c.args.number time ins (log_view c.in-Logged.log.value) can
    (subst (IsRightNode opening c.args.number time) c.in-Logged.is right) left refl)
