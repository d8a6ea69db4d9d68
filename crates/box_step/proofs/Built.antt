-- A box whose rule fires, once its inputs are built.
use Rattle.std.proofs.Common.{◌≡◌, ℕ, Bool, true, if◌then◌else◌, List, map, Option, Some, slice_get, ap, sym, ◌∙◌, subst}
use Rattle.hume_base.specs.declared.types.Value.{Value}
use Rattle.hume_model.specs.declared.core_tree.RuleC.{RuleC}
use Rattle.hume_model.specs.declared.core_tree.BoxC.{BoxC}
use Rattle.hume_model.specs.declared.core_tree.Core.{Core}
use Rattle.hume_model.specs.Firing.{rule_fits}
use Rattle.hume_model.specs.Matching.{fits, taken_at}
use Rattle.hume_net.specs.declared.state.HalfStep.{HalfStep}
use Rattle.hume_net.specs.HalfSteps.{moved_last, oldest}
use Rattle.box_costs.specs.ResultSpending.{built_values}
use Rattle.box_heap.specs.Heaps.{HeapView}
use Rattle.box_heap.specs.Stacks.{StackView}
use Rattle.box_heap.specs.Outputs.{OutputView}
use Rattle.box_machine.specs.declared.ran.Ran.{Ran}
use Rattle.wire_cells.specs.Cells.{CellView}
use Rattle.match_rules.specs.Inputs.{left_in}
use Rattle.box_step.specs.runs.Runs.{HasRun, IsReadyToRun, memory}
use Rattle.box_step.specs.Views.{CompiledView}
use Rattle.box_step.specs.inner.Buffers.{sizes_in, words_in}
use Rattle.box_step.specs.inner.Firing.{AreBuiltAnew, Fires, HasFired}
use Rattle.box_step.proofs.Firing.{has_fired}
use Rattle.box_step.proofs.Orders.{stands}
use Rattle.box_step.proofs.Ready.{fits_it, ready, same_patterns}

module _ {core : Core} {b : BoxC} {before : HalfStep} {box : CompiledView} {cells : List CellView} {bare : Core} {fair : Bool} {number : ℕ} {pats_of : RuleC}
    (fires : Fires core b before box cells bare fair number pats_of) where
  abbrev ins : List (Option Value)
  ins = map oldest before.side

  pub bare_fits : fits pats_of.pats ins ≡ true
  bare_fits = subst (λ pats. fits pats ins ≡ true) (sym (same_patterns fires)) (fits_it fires)

  pub stands_there : (place : ℕ) × (slice_get box.order place ≡ Some number)
  stands_there =
      let found = stands (λ n. rule_fits ins (slice_get b.rules n)) before.part.order number fires.found in
      (found.0, ap (λ order. slice_get order found.0) fires.at.box_at.order ∙ found.1)

  -- the inputs are built
  module _ (heap : HeapView) (stack : StackView) (built : AreBuiltAnew (built_values pats_of.pats ins) box.heap heap box.stack stack)
      (buffer : List OutputView) (sized : sizes_in buffer ≡ box.sizes) where
    whole_built : AreBuiltAnew (built_values fires.rule.pats ins) box.heap heap box.stack stack
    whole_built = subst (λ pats. AreBuiltAnew (built_values pats ins) box.heap heap box.stack stack) (same_patterns fires) built

    pub its_ready : IsReadyToRun core b fires.rule ins bare.types box.program number (memory heap stack buffer)
    its_ready = ready fires heap stack whole_built buffer sized

    pub it_has_fired : (after : HeapView) (top : StackView) (outputs : List OutputView) (work : ℕ) (answer : Ran)
        → HasRun core b fires.rule ins (memory heap stack buffer) (memory after top outputs) work answer
        → (order : List ℕ) → order ≡ (if fair then moved_last number box.order else box.order)
        → (left : List CellView) → left ≡ left_in (taken_at pats_of.pats ins) cells
        → HasFired core b before number box
        (record box { order = order; heap = after; stack = top; sizes = sizes_in outputs; pending = Some (words_in outputs); work = work }) left answer
    it_has_fired after top outputs work answer run order order_is left left_is =
        subst (λ cs. HasFired core b before number box
        (record box { order = order; heap = after; stack = top; sizes = sizes_in outputs; pending = Some (words_in outputs); work = work }) cs answer)
        (sym (left_is ∙ ap (λ pats. left_in (taken_at pats ins) cells) (same_patterns fires)))
        (has_fired fires heap stack whole_built buffer sized after top outputs work answer run order order_is)
