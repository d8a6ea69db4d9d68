-- What a box leaves that fires.
use Rattle.std.proofs.Common.{◌≡◌, ℕ, Bool, false, List, map, length, Option, Some, None, ap, sym, ◌∙◌, subst, slice_get, arith, if◌then◌else◌}
use Rattle.std.specs.Option.{is_some, option_map, option_and_then}
use Rattle.std.proofs.lemmas.List.{length-map}
use Rattle.hume_base.specs.declared.types.Value.{Value}
use Rattle.hume_model.specs.declared.core_tree.RuleC.{RuleC}
use Rattle.hume_model.specs.declared.core_tree.BoxC.{BoxC}
use Rattle.hume_model.specs.declared.core_tree.PortC.{PortC}
use Rattle.hume_model.specs.declared.core_tree.NodeC.TheVariants.{Rules}
use Rattle.hume_model.specs.declared.core_tree.Core.{Core}
use Rattle.hume_model.specs.BoxTyping.{port_types}
use Rattle.hume_model.specs.Firing.{fire, firing_of, handled}
use Rattle.hume_model.specs.Matching.{taken_at}
use Rattle.hume_net.specs.declared.state.HalfStep.{HalfStep}
use Rattle.hume_net.specs.HalfSteps.{execute, fired, idle, moved_last, oldest}
use Rattle.box_costs.specs.declared.cost.Cost.{Cost}
use Rattle.box_costs.specs.Costs.{nothing}
use Rattle.box_costs.specs.ResultSpending.{box_spent, built_values, cost_if_fits, rule_spent}
use Rattle.box_heap.specs.Heaps.{HeapView}
use Rattle.box_heap.specs.Stacks.{StackView}
use Rattle.box_heap.specs.Outputs.{OutputView}
use Rattle.box_machine.specs.declared.ran.Ran.{Ran}
use Rattle.box_machine.specs.Running.{with_outputs}
use Rattle.code_laws.specs.Ending.{flat_outputs}
use Rattle.wire_cells.specs.Cells.{CellView}
use Rattle.match_rules.specs.Inputs.{left_in}
use Rattle.match_rules.proofs.Taking.{left_held}
use Rattle.box_step.specs.runs.Runs.{HasRun, cost_with, memory, result_with}
use Rattle.box_step.proofs.runs_lemmas.Ends.{outputs_many}
use Rattle.box_step.specs.Boxes.{HasExecuted, HasSpent, IsAt}
use Rattle.match_rules.specs.Choosing.{first_fitting}
use Rattle.box_step.specs.Steps.{execute_answer, execute_spent, rule_answer}
use Rattle.box_step.specs.Views.{CompiledView}
use Rattle.box_step.specs.inner.Buffers.{sizes_in, words_in}
use Rattle.box_step.specs.inner.Firing.{AreBuiltAnew, Fires, HasFired}
use Rattle.box_step.proofs.Ready.{can_fire, heap_peak, heap_room, least_heap, least_stack, stack_peak, stack_room}
use Rattle.box_step.proofs.Rooms.{given_sizes, given_words}

module _ {core : Core} {b : BoxC} {before : HalfStep} {box : CompiledView} {cells : List CellView} {bare : Core} {fair : Bool} {number : ℕ} {pats_of : RuleC}
    (fires : Fires core b before box cells bare fair number pats_of) where
  abbrev ins : List (Option Value)
  ins = map oldest before.side

  abbrev cost : Cost
  cost = cost_with core b fires.rule ins

  abbrev outs : List (Option Value)
  outs = handled core b.handlers (result_with core fires.rule ins)

  unblocked : is_some before.part.pending ≡ false
  unblocked = ap is_some fires.unblocked

  -- what the box is said to fire, and where that leaves it
  firing_is : fire core b before.part.order ins ≡ Some (firing_of core b number ins fires.rule)
  firing_is =
      ap (option_and_then (λ n. option_map (firing_of core b n ins) (slice_get b.rules n))) fires.found
      ∙ ap (option_map (firing_of core b number ins)) fires.there

  left : execute core (Rules b) before.part before.side ≡ fired b before.part before.side (Some (firing_of core b number ins fires.rule))
  left =
      ap (λ t. if t then idle before.part before.side else fired b before.part before.side (fire core b before.part.order ins)) unblocked
      ∙ ap (fired b before.part before.side) firing_is

  spent_is : execute_spent core b before.part before.side ≡ cost
  spent_is =
      ap (λ t. if t then nothing else box_spent core b before.part.order ins) unblocked
      ∙ ap (λ n. cost_if_fits (option_and_then (λ n. option_map (rule_spent core b ins) (slice_get b.rules n)) n)) fires.found
      ∙ ap (λ r. cost_if_fits (option_map (rule_spent core b ins) r)) fires.there

  pub answer_is : execute_answer core b before.part before.side ≡ Some (rule_answer core ins fires.rule)
  answer_is =
      ap (λ t. if t then None else option_map (rule_answer core ins) (option_and_then (slice_get b.rules) (first_fitting b before.part.order ins))) unblocked
      ∙ ap (λ n. option_map (rule_answer core ins) (option_and_then (slice_get b.rules) n)) fires.found
      ∙ ap (option_map (rule_answer core ins)) fires.there

  many_outs : length outs ≡ length (port_types b.outs)
  many_outs = outputs_many (can_fire fires) ∙ sym (length-map b.outs (λ (port : PortC). port.ty))

  module _ (built_heap : HeapView) (built_stack : StackView)
      (built : AreBuiltAnew (built_values fires.rule.pats ins) box.heap built_heap box.stack built_stack)
      (buffer : List OutputView) (sized : sizes_in buffer ≡ box.sizes)
      (heap : HeapView) (stack : StackView) (outputs : List OutputView) (work : ℕ) (answer : Ran)
      (run : HasRun core b fires.rule ins (memory built_heap built_stack buffer) (memory heap stack outputs) work answer)
      (order : List ℕ) (order_is : order ≡ (if fair then moved_last number box.order else box.order)) where
    abbrev new : CompiledView
    new = record box { order = order; heap = heap; stack = stack; sizes = sizes_in outputs; pending = Some (words_in outputs); work = work }

    given : outputs ≡ with_outputs buffer (flat_outputs core.types (port_types b.outs) outs)
    given = run.gives

    ordered : order ≡ (if b.fair then moved_last number before.part.order else before.part.order)
    ordered = order_is ∙ λ i. if fires.fair_is i then moved_last number (fires.at.box_at.order i) else fires.at.box_at.order i

    leaves : IsAt core b (fired b before.part before.side (Some (firing_of core b number ins fires.rule))) new
        (left_in (taken_at fires.rule.pats ins) cells)
    leaves =
        let stack_same = run.stack_room in
        let stack_before = stack_room fires built_heap built_stack built in
        let heap_same = run.heap_room in
        let heap_before = heap_room fires built_heap built_stack built in
        record {
          box_at = record {
            represents = fires.at.box_at.represents;
            room = record {
              heap_room = heap_same ∙ heap_before ∙ fires.at.box_at.room.heap_room;
              stack_room = stack_same ∙ stack_before ∙ fires.at.box_at.room.stack_room;
              within = run.stack_within;
            };
            order = ordered;
            sizes = ap sizes_in given ∙ given_sizes core.types (port_types b.outs) buffer outs (sized ∙ fires.at.box_at.sizes) many_outs;
            pending = ap (λ os. Some (words_in os)) given
                ∙ ap (λ ws. Some ws) (given_words core.types (port_types b.outs) buffer outs (sized ∙ fires.at.box_at.sizes) many_outs);
            plain = fires.at.box_at.plain;
          };
          inputs = left_held core (taken_at fires.rule.pats ins) fires.at.inputs;
        }

    spends : HasSpent cost box new
    spends =
        let heap_is = run.heap_peak in
        let heap_was = heap_peak fires built_heap built_stack built in
        let heap_least = least_heap core b fires.rule ins in
        let stack_is = run.stack_peak in
        let stack_was = stack_peak fires built_heap built_stack built in
        let stack_least = least_stack core b fires.rule ins in
        record { heap = omega (arith, heap_is, heap_was, heap_least); stack = omega (arith, stack_is, stack_was, stack_least); work = run.worked }

    pub has_fired : HasFired core b before number box new (left_in (taken_at fires.rule.pats ins) cells) answer
    has_fired = record {
      at = subst (λ half. IsAt core b half new (left_in (taken_at fires.rule.pats ins) cells)) (sym left) leaves;
      spent = subst (λ c. HasSpent c box new) (sym spent_is) spends;
      answered = λ rule there.
          let same : fires.rule ≡ rule = (let both : Some fires.rule ≡ Some rule = sym fires.there ∙ there in cc) in
          run.answers ∙ ap (rule_answer core ins) same;
    }

-- a box that fired has made its execute step
pub executes : {core : Core} {b : BoxC} {before : HalfStep} {old : CompiledView} {cells : List CellView} {bare : Core} {fair : Bool}
    {number : ℕ} {pats_of : RuleC}
    → (fires : Fires core b before (record old { work = 0 }) cells bare fair number pats_of) → {new : CompiledView} {left : List CellView} {answer : Ran}
    → HasFired core b before number (record old { work = 0 }) new left answer → HasExecuted core b before old new left (Some answer)
executes fires has = record {
  at = has.at;
  spent = record { heap = has.spent.heap; stack = has.spent.stack; work = has.spent.work };
  answered = ap (λ r. Some r) (has.answered fires.rule fires.there) ∙ sym (answer_is fires);
}
