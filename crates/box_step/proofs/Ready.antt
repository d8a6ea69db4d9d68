-- Once the inputs of a rule that fires are built, the rule is ready to run.
use Rattle.std.proofs.Common.{◌≡◌, ℕ, ◌≤◌, ◌<◌, ◌+◌, max, Bool, true, false, cond, List, [], ◌∷◌, length, map, Option, Some}
use Rattle.std.proofs.Common.{slice_get, refl, ap, sym, ◌∙◌, subst, arith}
use Rattle.std.specs.List.{find, flat_map}
use Rattle.std.proofs.lemmas.List.Elements.{All-nil}
use Rattle.hume_base.specs.declared.types.Value.{Value}
use Rattle.hume_base.specs.Sizes.{HaveTheirSizes}
use Rattle.hume_model.specs.declared.core_tree.RuleC.{RuleC}
use Rattle.hume_model.specs.declared.core_tree.BoxC.{BoxC}
use Rattle.hume_model.specs.declared.core_tree.Core.{Core}
use Rattle.hume_model.specs.Firing.{rule_fits}
use Rattle.hume_model.specs.Matching.{bound, fits}
use Rattle.hume_model.specs.Reading.{HaveReadableSizes}
use Rattle.hume_model.proofs.WellFormedCores.{readable_sizes, sound_parts}
use Rattle.hume_net.specs.declared.state.HalfStep.{HalfStep}
use Rattle.hume_net.specs.HalfSteps.{oldest}
use Rattle.box_costs.specs.Bounds.{built_patterns}
use Rattle.box_costs.specs.ResultSpending.{built_values, handled, inputs_built, result_spent, result_taken, rule_result_spent}
use Rattle.box_heap.specs.Heaps.{HeapView, HasObjects, Object, words_of_object}
use Rattle.box_heap.specs.Outputs.{OutputView}
use Rattle.box_heap.specs.Stacks.{StackView}
use Rattle.box_heap.specs.Standing.{AllStand}
use Rattle.wire_cells.specs.Cells.{CellView}
use Rattle.match_rules.proofs.InputsBuilt.{same_room, same_stack_room, values_takes, values_many}
use Rattle.box_step.specs.runs.Runs.{CanFire, HasRoomToRun, HoldsInputs, IsReadyToRun, cost_with, memory}
use Rattle.box_step.proofs.runs_lemmas.Ends.{within_bound}
use Rattle.box_step.proofs.runs_lemmas.HeapPeaks.{peak_after}
use Rattle.box_step.specs.Views.{CompiledView}
use Rattle.box_step.specs.inner.Buffers.{sizes_in}
use Rattle.box_step.specs.inner.Firing.{AreBuiltAnew, Fires}
use Rattle.box_step.proofs.InputValues.{inputs_typed}
use Rattle.box_step.proofs.Rooms.{pushed_words, pushed_peak}

-- what is found passes
pub found_passes : {X : Type 0} (test : X → Bool) (xs : List X) (x : X) → find test xs ≡ Some x → test x ≡ true
found_passes test [] x found = cc
found_passes test (y ∷ ys) x found = by (test y) refl (found_passes test ys x)
  where
    by : (t : Bool) → test y ≡ t → (find test ys ≡ Some x → test x ≡ true) → test x ≡ true
    by true is later =
        let both : Some y ≡ Some x = sym (ap (λ t. cond t (Some y) (find test ys)) is) ∙ found in
        let same : y ≡ x = cc in
        ap test (sym same) ∙ is
    by false is later = later (sym (ap (λ t. cond t (Some y) (find test ys)) is) ∙ found)

no_objects : (heap : HeapView) → HasObjects (record heap { words = [] }) []
no_objects heap = record { words = refl; tags = All-nil (λ (object : Object). object.0 < 4294967296) }

-- a rule spends at least what builds its inputs, and a word of stack for each
pub least_heap : (core : Core) (b : BoxC) (rule : RuleC) (ins : List (Option Value)) → inputs_built rule.pats ins ≤ (cost_with core b rule ins).heap
least_heap core b rule ins =
    let result = (result_taken (λ values. result_spent core values rule.result) (bound rule.pats ins)).cost.heap in
    let handler = (handled core b.handlers (rule_result_spent core ins rule).outcome).cost.heap in
    let is : (cost_with core b rule ins).heap ≡ (inputs_built rule.pats ins + result) + handler = refl in
    omega (arith, is)

pub least_stack : (core : Core) (b : BoxC) (rule : RuleC) (ins : List (Option Value)) → length (built_patterns rule.pats) ≤ (cost_with core b rule ins).stack
least_stack core b rule ins =
    let result = (result_taken (λ values. result_spent core values rule.result) (bound rule.pats ins)).cost.stack in
    let handler = (handled core b.handlers (rule_result_spent core ins rule).outcome).cost.stack in
    let is : (cost_with core b rule ins).stack ≡ max (max 0 (length (built_patterns rule.pats) + result)) handler = refl in
    omega (arith, is)

module _ {core : Core} {b : BoxC} {before : HalfStep} {box : CompiledView} {cells : List CellView} {bare : Core} {fair : Bool} {number : ℕ} {pats_of : RuleC}
    (fires : Fires core b before box cells bare fair number pats_of) where
  abbrev pub ins : List (Option Value)
  ins = map oldest before.side

  pub fits_it : fits fires.rule.pats ins ≡ true
  fits_it = sym (ap (rule_fits ins) fires.there) ∙ found_passes (λ n. rule_fits ins (slice_get b.rules n)) before.part.order number fires.found

  pub can_fire : CanFire core b number fires.rule ins
  can_fire = record {
    sound = sound_parts core fires.sound.formed;
    typed = fires.sound.formed.boxes fires.sound.node b fires.sound.there;
    handles = fires.sound.handles;
    there = fires.there;
    inputs = inputs_typed core fires.at.inputs;
    fit = fits_it;
  }

  pub same_patterns : pats_of.pats ≡ fires.rule.pats
  same_patterns = ap (λ (r : RuleC). r.pats) fires.rule_is

  pub heap_fits : inputs_built fires.rule.pats ins ≤ box.heap.room
  heap_fits =
      let least = least_heap core b fires.rule ins in
      let most = (within_bound can_fire).heap in
      let bounded = fires.at.box_at.represents.heap in
      let room = fires.at.box_at.room.heap_room in
      omega (arith, least, most, bounded, room)

  pub stack_fits : length (built_patterns fires.rule.pats) ≤ box.stack.room
  stack_fits =
      let least = least_stack core b fires.rule ins in
      let most = (within_bound can_fire).stack in
      let bounded = fires.at.box_at.represents.stack in
      let room = fires.at.box_at.room.stack_room in
      omega (arith, least, most, bounded, room)

  -- heap and stack once the inputs are built
  module _ (heap : HeapView) (stack : StackView) (built : AreBuiltAnew (built_values fires.rule.pats ins) box.heap heap box.stack stack) where
    holds_objects : HasObjects heap built.objects
    holds_objects = built.has [] (no_objects box.heap)

    pub heap_long : length heap.words ≡ inputs_built fires.rule.pats ins
    heap_long =
        let words : length heap.words ≡ length (flat_map words_of_object built.objects) = ap (λ ws. length ws) holds_objects.words in
        words ∙ built.takes ∙ values_takes fires.rule.pats ins

    pub heap_peak : heap.peak ≡ max box.heap.peak (inputs_built fires.rule.pats ins)
    heap_peak =
        let put = ap (λ (h : HeapView). h.peak) built.put in
        let most = peak_after (record box.heap { words = [] }) built.objects (omega arith) in
        let takes = built.takes in
        let all = values_takes fires.rule.pats ins in
        omega (arith, put, most, takes, all)

    stack_words : stack.words ≡ built.words
    stack_words = ap (λ (s : StackView). s.words) built.pushed ∙ pushed_words (record box.stack { words = [] }) built.words

    many_words : length built.words ≡ length (built_patterns fires.rule.pats)
    many_words = built.each ∙ values_many fires.rule.pats ins fits_it

    pub stack_peak : stack.peak ≡ max box.stack.peak (length (built_patterns fires.rule.pats))
    stack_peak =
        let pushed = ap (λ (s : StackView). s.peak) built.pushed in
        let most = pushed_peak (record box.stack { words = [] }) built.words (omega arith) in
        let many = many_words in
        omega (arith, pushed, most, many)

    pub heap_room : heap.room ≡ box.heap.room
    heap_room = same_room _ _ _ _ _ built

    pub stack_room : stack.room ≡ box.stack.room
    stack_room = same_stack_room _ _ _ _ _ built

    holds_inputs : HoldsInputs fires.rule ins heap stack
    holds_inputs =
        let long = heap_long in
        let peak = heap_peak in
        let high = ap (λ ws. length ws) stack_words in
        let many = many_words in
        let top = stack_peak in
        record {
          objects = built.objects;
          held = holds_objects;
          built = long;
          stand = subst (AllStand built.objects (built_values fires.rule.pats ins)) (sym stack_words)
              (built.stand [] (no_objects box.heap));
          heap_counted = omega (arith, long, peak);
          stack_counted = omega (arith, high, many, top);
        }

    -- and outputs of the sizes of the box's
    module _ (outputs : List OutputView) (sized : sizes_in outputs ≡ box.sizes) where
      has_room : HasRoomToRun core b box.program (memory heap stack outputs)
      has_room =
          let room = stack_room in
          let top = stack_peak in
          let fit = stack_fits in
          let within = fires.at.box_at.room.within in
          record {
            heap_room = heap_room ∙ fires.at.box_at.room.heap_room;
            stack_room = stack_room ∙ fires.at.box_at.room.stack_room;
            within = omega (arith, room, top, fit, within);
            output_sizes = sized ∙ fires.at.box_at.sizes;
          }

      pub ready : IsReadyToRun core b fires.rule ins bare.types box.program number (memory heap stack outputs)
      ready = record {
        fires = can_fire;
        types_are = record {
          same = ap (λ (c : Core). c.types) fires.core_is;
          sizes = subst (λ (c : Core). HaveTheirSizes c.types) (sym fires.core_is) fires.sound.formed.frame.sizes;
          readable = subst (λ (c : Core). HaveReadableSizes c.types) (sym fires.core_is) (readable_sizes core fires.sound.formed);
        };
        represents = fires.at.box_at.represents;
        room = has_room;
        holds = holds_inputs;
      }
