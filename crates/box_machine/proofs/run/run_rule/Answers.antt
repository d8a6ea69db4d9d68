use Rattle.std.proofs.Common.{◌≡◌, ◌-◌, ◌++◌, length, take, Some, slice_get, ap, sym, ◌∙◌, subst, arith, rules}
use Rattle.box_heap.specs.Heaps.{HasObjects}
use Rattle.box_machine.specs.Running.{answer_of}
use Rattle.box_machine.proofs.Rules.{each_ended, holds_heap, same_objects, stack_refilled, start_reaches}
use Rattle.box_machine.proofs.run.run_rule.Goals as goal

pub run_on-halted-requires-clause-held : goal.run_on-halted-requires-clause-held
run_on-halted-requires-clause-held c = holds_heap c.args.types.now c.args.program.now c.args.rule c.args.heap.now c.args.stack.now c.args.out.now
    c.requires.ends

pub run_on-halted-requires-clause-ends : goal.run_on-halted-requires-clause-ends
run_on-halted-requires-clause-ends c =
    let begins : slice_get c.args.program.now.rules c.args.rule ≡ Some c.in-Some.place.now = search rules in
    start_reaches c.args.types.now c.args.program.now c.args.rule c.args.heap.now c.args.stack.now c.in-Some.place.now begins c.len.result c.peak.result
    c.len.ensures c.peak.ensures
    c.lend.result.now c.lend.ensures.front c.args.out.now c.requires.ends c.lend.ensures.whole

pub set-requires-clause-peak : goal.set-requires-clause-peak
set-requires-clause-peak c =
    let begins : slice_get c.args.program.now.rules c.args.rule ≡ Some c.in-Some.place.now = search rules in
    let each = each_ended c.args.types.now c.args.program.now c.args.rule c.args.heap.now c.args.stack.now c.in-Some.place.now begins c.len.result
    c.peak.result c.len.ensures c.peak.ensures
    c.lend.result.now c.lend.ensures.front c.args.out.now c.requires.ends c.requires.ends.count c.requires.ends.final c.requires.ends.runs in
    let holds = c.run_on-halted.ensures.end (c.args.program.now.work - c.requires.ends.count, c.requires.ends.final) each.2 in
    omega (arith, holds.peak, each.1)

pub overflow_sub-work : goal.overflow_sub-work
overflow_sub-work c =
    let begins : slice_get c.args.program.now.rules c.args.rule ≡ Some c.in-Some.place.now = search rules in
    let each = each_ended c.args.types.now c.args.program.now c.args.rule c.args.heap.now c.args.stack.now c.in-Some.place.now begins c.len.result
    c.peak.result c.len.ensures c.peak.ensures
    c.lend.result.now c.lend.ensures.front c.args.out.now c.requires.ends c.requires.ends.count c.requires.ends.final c.requires.ends.runs in
    let holds = c.run_on-halted.ensures.end (c.args.program.now.work - c.requires.ends.count, c.requires.ends.final) each.2 in
    omega (arith, holds.left_is)

pub returns-clause-answer : goal.returns-clause-answer
returns-clause-answer c = λ count final runs.
    let begins : slice_get c.args.program.now.rules c.args.rule ≡ Some c.in-Some.place.now = search rules in
    let each = each_ended c.args.types.now c.args.program.now c.args.rule c.args.heap.now c.args.stack.now c.in-Some.place.now begins c.len.result
    c.peak.result c.len.ensures c.peak.ensures
    c.lend.result.now c.lend.ensures.front c.args.out.now c.requires.ends count final runs in
    let holds = c.run_on-halted.ensures.end (c.args.program.now.work - count, final) each.2 in
    c.answer.ensures ∙ sym (ap answer_of holds.raised)

pub returns-clause-work : goal.returns-clause-work
returns-clause-work c = λ count final runs.
    let begins : slice_get c.args.program.now.rules c.args.rule ≡ Some c.in-Some.place.now = search rules in
    let each = each_ended c.args.types.now c.args.program.now c.args.rule c.args.heap.now c.args.stack.now c.in-Some.place.now begins c.len.result
    c.peak.result c.len.ensures c.peak.ensures
    c.lend.result.now c.lend.ensures.front c.args.out.now c.requires.ends count final runs in
    let holds = c.run_on-halted.ensures.end (c.args.program.now.work - count, final) each.2 in
    omega (arith, holds.left_is, each.0)

pub returns-clause-stack : goal.returns-clause-stack
returns-clause-stack c = λ count final runs.
    let begins : slice_get c.args.program.now.rules c.args.rule ≡ Some c.in-Some.place.now = search rules in
    let each = each_ended c.args.types.now c.args.program.now c.args.rule c.args.heap.now c.args.stack.now c.in-Some.place.now begins c.len.result
    c.peak.result c.len.ensures c.peak.ensures
    c.lend.result.now c.lend.ensures.front c.args.out.now c.requires.ends count final runs in
    let holds = c.run_on-halted.ensures.end (c.args.program.now.work - count, final) each.2 in
    let long : length c.run_on-halted.new.words ≡ length c.lend.result.now = search rules in
    let written = stack_refilled c.args.stack.now.room c.lend.result.now c.run_on-halted.new.words c.lend.ensures.whole long in
    c.set.ensures ∙ (λ i. record {
      words = take c.run_on-halted.result.registers.top
          (written i);
      peak = c.run_on-halted.result.registers.peak;
      room = c.args.stack.now.room;
    })
    ∙ (λ i. record { words = sym holds.stack i; peak = sym holds.peak i; room = c.args.stack.now.room })

pub returns-clause-heap : goal.returns-clause-heap
returns-clause-heap c = λ count final runs.
    let begins : slice_get c.args.program.now.rules c.args.rule ≡ Some c.in-Some.place.now = search rules in
    let each = each_ended c.args.types.now c.args.program.now c.args.rule c.args.heap.now c.args.stack.now c.in-Some.place.now begins c.len.result
    c.peak.result c.len.ensures c.peak.ensures
    c.lend.result.now c.lend.ensures.front c.args.out.now c.requires.ends count final runs in
    let holds = c.run_on-halted.ensures.end (c.args.program.now.work - count, final) each.2 in
    let kept = c.run_on-halted.ensures.kept in
    let before = same_objects c.args.types.now c.args.program.now c.args.rule c.args.heap.now c.args.stack.now count final runs in
    record {
      more = kept.more;
      added = holds.objects ∙ kept.objects ∙ ap (λ os. os ++ kept.more) before;
      put = kept.put;
      held = subst (λ os. HasObjects c.run_on-halted.new.heap os) (sym holds.objects) kept.heap.held;
    }

pub returns-clause-outputs : goal.returns-clause-outputs
returns-clause-outputs c = λ count final runs.
    let begins : slice_get c.args.program.now.rules c.args.rule ≡ Some c.in-Some.place.now = search rules in
    let each = each_ended c.args.types.now c.args.program.now c.args.rule c.args.heap.now c.args.stack.now c.in-Some.place.now begins c.len.result
    c.peak.result c.len.ensures c.peak.ensures
    c.lend.result.now c.lend.ensures.front c.args.out.now c.requires.ends count final runs in
    let holds = c.run_on-halted.ensures.end (c.args.program.now.work - count, final) each.2 in
    holds.outputs
