-- How a rule has run, once its machine has ended.
use Rattle.std.proofs.Common.{◌≡◌, ◌+◌, ℕ, List, length, Option, ap, ◌∙◌, arith}
use Rattle.hume_base.specs.declared.types.Types.{Types}
use Rattle.hume_base.specs.declared.types.Value.{Value}
use Rattle.hume_model.specs.declared.core_tree.RuleC.{RuleC}
use Rattle.hume_model.specs.declared.core_tree.BoxC.{BoxC}
use Rattle.hume_model.specs.declared.core_tree.Core.{Core}
use Rattle.box_heap.specs.Heaps.{HeapView}
use Rattle.box_heap.specs.Stacks.{StackView}
use Rattle.box_heap.specs.Outputs.{OutputView}
use Rattle.box_code.specs.declared.program.BoxProgram.{BoxProgram}
use Rattle.box_code.specs.Machine.{Machine, used}
use Rattle.box_machine.specs.declared.ran.Ran.{Ran}
use Rattle.box_machine.specs.Running.{RunsTo, HasPut, answer_of, with_outputs}
use Rattle.box_step.specs.runs.Runs.{Memory, memory, IsReadyToRun, HasRun, cost_with}
use Rattle.code_laws.proofs.Heaps.{used-append}
use Rattle.box_step.proofs.runs_lemmas.HeapPeaks.{room_stays, peak_after}
use Rattle.box_step.proofs.runs_lemmas.Ends.{runs, runs_to, end_size, end_outs, stack_fits}

module _ {core : Core} {b : BoxC} {rule : RuleC} {ins : List (Option Value)} {types : Types} {program : BoxProgram} {number : ℕ} {m : Memory}
    (ready : IsReadyToRun core b rule ins types program number m)
    (heap : HeapView) (stack : StackView) (outputs : List OutputView) (work : ℕ) (answer : Ran) where
  -- what holds of each machine at its end
  abbrev Each : (ℕ → Machine → Type 0) → Type 0
  Each P = (count : ℕ) (final : Machine) → RunsTo types program number m.heap m.stack count final → P count final

  pub has_run : ((count : ℕ) (final : Machine) (runs : RunsTo types program number m.heap m.stack count final) → HasPut m.heap heap runs.objects final.objects)
      → Each (λ count final. stack ≡ record m.stack { words = final.stack; peak = final.peak })
      → Each (λ count final. outputs ≡ with_outputs m.outputs final.outs)
      → Each (λ count final. work ≡ count) → Each (λ count final. answer ≡ answer_of final.raised)
      → HasRun core b rule ins m (memory heap stack outputs) work answer
  has_run on_heap on_stack on_outputs on_work on_answer =
      let count = (cost_with core b rule ins).work in
      let final = (runs ready).end in
      let ends = runs_to ready in
      let put = on_heap count final ends in
      let size = end_size ready in
      let words : length heap.words ≡ used final.objects = ap length put.held.words in
      let before : length m.heap.words ≡ used ends.objects = ap length ends.held.words in
      let after : used final.objects ≡ used ends.objects + used put.more = ap used put.added ∙ used-append ends.objects put.more in
      let most = ap (λ (h : HeapView). h.peak) put.put ∙ peak_after m.heap put.more ready.holds.heap_counted in
      let stack_is = on_stack count final ends in
      let room : stack.room ≡ m.stack.room = ap (λ (s : StackView). s.room) stack_is in
      let same_peak : stack.peak ≡ final.peak = ap (λ (s : StackView). s.peak) stack_is in
      let fits = stack_fits ready in
      record {
        gives = on_outputs count final ends ∙ ap (with_outputs m.outputs) (end_outs ready);
        answers = on_answer count final ends ∙ ap answer_of (runs ready).raised;
        heap_words = words ∙ size;
        heap_peak = omega (arith, most, size, before, after);
        heap_room = ap (λ (h : HeapView). h.room) put.put ∙ room_stays m.heap put.more;
        stack_peak = same_peak ∙ (runs ready).peak;
        stack_room = room;
        stack_within = omega (arith, room, same_peak, fits);
        worked = on_work count final ends;
      }
