use Rattle.std.proofs.Common.{◌+◌, map, refl, sym, ◌∙◌, subst, arith}
use Rattle.hume_streams.specs.declared.queue.InQueue.{InQueue}
use Rattle.hume_streams.specs.Queues.{queue_view}
use Rattle.hume_streams.specs.Logs.{log_view}
use Rattle.match_rules.specs.Outputs.{FitCells, asserted_in}
use Rattle.match_rules.proofs.Asserting.{asserted_kept}
use Rattle.wire_cells.proofs.AtHome.{same_cells}
use Rattle.box_step.specs.Views.{CompiledView, pending_words}
use Rattle.box_step.specs.nodes.Right.{AreRightWires, IsRightBox, IsRightQueue, IsRightNode}
use Rattle.box_step.specs.nodes.Sides.{ticked}
use Rattle.box_step.specs.inner.HalfSteps.{AreEarly, next_row}
use Rattle.box_step.proofs.nodes_lemmas.Asserted.{few_outputs, as_many_sizes, outputs_fit_cells, box_asserted, box_outputs, from_long, row_fits, queue_asserted, queue_outputs, log_stays, log_outputs}
use Rattle.box_step.proofs.nodes_lemmas.SideCells.{all_ticked}
use Rattle.box_step.proofs.nodes.asserting.assert_kind.Goals as goal

pub assert_pending-requires-clause-few : goal.assert_pending-requires-clause-few
assert_pending-requires-clause-few c =
    let long = c.requires.can.1.long in
    let few = few_outputs c.requires.can.3 c.requires.can.4 c.args.number c.requires.can.5 c.requires.can.0 c.in-Coded.compiled.value c.requires.can.6
    (subst (IsRightNode c.requires.can.3 c.args.number c.requires.can.5) c.in-Coded.is c.requires.can.7) in
    omega (arith, long, few)

pub assert_pending-requires-clause-long : goal.assert_pending-requires-clause-long
assert_pending-requires-clause-long c =
    sym c.requires.can.1.long
    ∙ as_many_sizes c.requires.can.3 c.requires.can.4 c.args.number c.requires.can.5 c.requires.can.0 c.deref_mut.result.now c.requires.can.6
    (subst (λ (box : CompiledView). IsRightBox c.requires.can.3 c.args.number c.requires.can.5 box) (sym c.deref_mut.ensures.value)
    (subst (IsRightNode c.requires.can.3 c.args.number c.requires.can.5) c.in-Coded.is c.requires.can.7))

pub assert_pending-requires-clause-home : goal.assert_pending-requires-clause-home
assert_pending-requires-clause-home c = (c.requires.can.0, c.requires.can.1)

pub assert_pending-requires-clause-early : goal.assert_pending-requires-clause-early
assert_pending-requires-clause-early c = λ outs at.
    subst AreEarly (same_cells c.args.side.now c.args.home.now c.requires.can.0 outs c.requires.can.1 at) c.requires.can.2

pub assert_pending-requires-clause-fit : goal.assert_pending-requires-clause-fit
assert_pending-requires-clause-fit c = λ outs at.
    subst (FitCells (pending_words c.deref_mut.result.now) 0) (same_cells c.args.side.now c.args.home.now c.requires.can.0 outs c.requires.can.1 at)
    (outputs_fit_cells c.requires.can.3 c.requires.can.4 c.args.number c.requires.can.5 c.requires.can.0 c.deref_mut.result.now c.requires.can.6
    (subst (λ (box : CompiledView). IsRightBox c.requires.can.3 c.args.number c.requires.can.5 box) (sym c.deref_mut.ensures.value)
    (subst (IsRightNode c.requires.can.3 c.args.number c.requires.can.5) c.in-Coded.is c.requires.can.7)))

pub assert_next-requires-clause-one : goal.assert_next-requires-clause-one
assert_next-requires-clause-one c =
    sym c.requires.can.1.long
    ∙ from_long c.requires.can.3 c.requires.can.4 c.args.number c.requires.can.5 c.requires.can.0 (queue_view c.in-Queued.queue.value) c.requires.can.6
    (subst (IsRightNode c.requires.can.3 c.args.number c.requires.can.5) c.in-Queued.is c.requires.can.7)

pub assert_next-requires-clause-home : goal.assert_next-requires-clause-home
assert_next-requires-clause-home c = (c.requires.can.0, c.requires.can.1)

pub assert_next-requires-clause-early : goal.assert_next-requires-clause-early
assert_next-requires-clause-early c = λ outs at.
    subst AreEarly (same_cells c.args.side.now c.args.home.now c.requires.can.0 outs c.requires.can.1 at) c.requires.can.2

pub assert_next-requires-clause-fit : goal.assert_next-requires-clause-fit
assert_next-requires-clause-fit c = λ outs at.
    subst (FitCells (next_row (queue_view c.deref_mut-in-Queued.result.now).values) 0)
    (same_cells c.args.side.now c.args.home.now c.requires.can.0 outs c.requires.can.1 at)
    (row_fits c.requires.can.3 c.requires.can.4 c.args.number c.requires.can.5 c.requires.can.0 (queue_view c.deref_mut-in-Queued.result.now) c.requires.can.6
    (subst (λ (queue : InQueue). IsRightQueue c.requires.can.3 c.args.number c.requires.can.5 (queue_view queue)) (sym c.deref_mut-in-Queued.ensures.value)
    (subst (IsRightNode c.requires.can.3 c.args.number c.requires.can.5) c.in-Queued.is c.requires.can.7)))

pub tick_all-requires-clause-home : goal.tick_all-requires-clause-home
tick_all-requires-clause-home c = (c.requires.can.0, c.requires.can.1)

pub tick_all-requires-clause-early : goal.tick_all-requires-clause-early
tick_all-requires-clause-early c = λ outs at.
    subst AreEarly (same_cells c.args.side.now c.args.home.now c.requires.can.0 outs c.requires.can.1 at) c.requires.can.2

pub returns-in-Coded-clause-rest : goal.returns-in-Coded-clause-rest
returns-in-Coded-clause-rest c = λ outs at.
    let words = pending_words c.deref_mut.result.now in
    (map ticked (asserted_in words outs), c.assert_pending.ensures.outs outs at, all_ticked (asserted_in words outs) outs (asserted_kept words outs))

pub returns-in-Coded-clause-node : goal.returns-in-Coded-clause-node
returns-in-Coded-clause-node c = λ opening bare time outs at can right.
    box_asserted opening bare c.args.number time outs c.deref_mut.result.now can
    (subst (λ (box : CompiledView). IsRightBox opening c.args.number time box) (sym c.deref_mut.ensures.value)
    (subst (IsRightNode opening c.args.number time) c.in-Coded.is right)) c.assert_pending.new.compiled (c.assert_pending.ensures.compiled outs at)

pub returns-in-Coded-clause-wires : goal.returns-in-Coded-clause-wires
returns-in-Coded-clause-wires c = λ opening bare time outs after at can right now.
    let left = asserted_in (pending_words c.deref_mut.result.now) outs in
    subst (AreRightWires opening) (same_cells c.args.side.now c.assert_pending.new.home (map ticked left) after (c.assert_pending.ensures.outs outs at) now)
    (box_outputs opening bare c.args.number time outs c.deref_mut.result.now can
    (subst (λ (box : CompiledView). IsRightBox opening c.args.number time box) (sym c.deref_mut.ensures.value)
    (subst (IsRightNode opening c.args.number time) c.in-Coded.is right)) left refl)

pub returns-in-Queued-clause-rest : goal.returns-in-Queued-clause-rest
returns-in-Queued-clause-rest c = λ outs at.
    let row = next_row (queue_view c.deref_mut-in-Queued.result.now).values in
    (map ticked (asserted_in row outs), c.assert_next.ensures.outs outs at, all_ticked (asserted_in row outs) outs (asserted_kept row outs))

pub returns-in-Queued-clause-node : goal.returns-in-Queued-clause-node
returns-in-Queued-clause-node c = λ opening bare time outs at can right.
    queue_asserted opening bare c.args.number time outs (queue_view c.deref_mut-in-Queued.result.now) can
    (subst (λ (queue : InQueue). IsRightQueue opening c.args.number time (queue_view queue)) (sym c.deref_mut-in-Queued.ensures.value)
    (subst (IsRightNode opening c.args.number time) c.in-Queued.is right)) (queue_view c.assert_next.new.queue) (c.assert_next.ensures.queue outs at)

pub returns-in-Queued-clause-wires : goal.returns-in-Queued-clause-wires
returns-in-Queued-clause-wires c = λ opening bare time outs after at can right now.
    let left = asserted_in (next_row (queue_view c.deref_mut-in-Queued.result.now).values) outs in
    subst (AreRightWires opening) (same_cells c.args.side.now c.assert_next.new.home (map ticked left) after (c.assert_next.ensures.outs outs at) now)
    (queue_outputs opening bare c.args.number time outs (queue_view c.deref_mut-in-Queued.result.now) can
    (subst (λ (queue : InQueue). IsRightQueue opening c.args.number time (queue_view queue)) (sym c.deref_mut-in-Queued.ensures.value)
    (subst (IsRightNode opening c.args.number time) c.in-Queued.is right)) left refl)

pub returns-in-Logged-clause-rest : goal.returns-in-Logged-clause-rest
returns-in-Logged-clause-rest c = λ outs at. (map ticked outs, c.tick_all.ensures.cells outs at, all_ticked outs outs refl)

pub returns-in-Logged-clause-node : goal.returns-in-Logged-clause-node
returns-in-Logged-clause-node c = λ opening bare time outs at can right.
    subst (IsRightNode opening c.args.number (time + 1)) (sym c.in-Logged.is)
    (log_stays opening bare c.args.number time outs (log_view c.in-Logged.field-0.value) can
    (subst (IsRightNode opening c.args.number time) c.in-Logged.is right))

pub returns-in-Logged-clause-wires : goal.returns-in-Logged-clause-wires
returns-in-Logged-clause-wires c = λ opening bare time outs after at can right now.
    subst (AreRightWires opening) (same_cells c.args.side.now c.tick_all.new.home (map ticked outs) after (c.tick_all.ensures.cells outs at) now)
    (log_outputs opening bare c.args.number time outs (log_view c.in-Logged.field-0.value) can
    (subst (IsRightNode opening c.args.number time) c.in-Logged.is right))
