-- A rule that is ready to run ends in the room that there is.
use Rattle.std.proofs.Common.{◌≡◌, ℕ, ◌≤◌, true, List, [], ◌∷◌, length, Option, Some, None, if◌then◌else◌, slice_get, refl, ap, sym, ◌∙◌, subst, arith}
use Rattle.std.specs.Option.{IsSome, option_map, option_and_then}
use Rattle.hume_base.specs.declared.types.Types.{Types}
use Rattle.hume_base.specs.declared.types.Value.{Value}
use Rattle.hume_model.specs.declared.core_tree.RuleC.{RuleC}
use Rattle.hume_model.specs.declared.core_tree.BoxC.{BoxC}
use Rattle.hume_model.specs.declared.core_tree.Core.{Core}
use Rattle.hume_model.specs.Firing.{fire, firing_of, rule_fits, handled}
use Rattle.hume_model.specs.ResultTyping.{are_outputs}
use Rattle.hume_model.specs.BoxTyping.{port_types}
use Rattle.hume_model.specs.declared.core_tree.PortC.{PortC}
use Rattle.std.proofs.lemmas.List.{length-map}
use Rattle.hume_model.proofs.FiringTypes.{fire_typed}
use Rattle.hume_model.proofs.AllOutputs.{all_outputs}
use Rattle.box_costs.specs.Costs.{IsAtMost}
use Rattle.box_costs.specs.Bounds.{box_bound}
use Rattle.box_costs.specs.ResultSpending.{rule_spent, box_spent, cost_if_fits}
use Rattle.box_costs.proofs.Rules.{box_within}
use Rattle.box_code.specs.declared.program.BoxProgram.{BoxProgram}
use Rattle.box_code.specs.Machine.{setting_of, Machine, used}
use Rattle.box_machine.specs.Running as machine
use Rattle.code_laws.specs.Ending as meaning
use Rattle.code_laws.specs.RuleEnding.{RuleRuns}
use Rattle.code_laws.proofs.Heaps.{used-append}
use Rattle.code_laws.proofs.WholeRules.{rule_runs}
use Rattle.box_step.specs.runs.Runs.{Memory, CanFire, IsReadyToRun, result_with, cost_with}
use Rattle.box_step.proofs.runs_lemmas.OutputRoom.{outputs_fit}

module _ {core : Core} {b : BoxC} {number : ℕ} {rule : RuleC} {ins : List (Option Value)} (fires : CanFire core b number rule ins) where
  fits_here : rule_fits ins (slice_get b.rules number) ≡ true
  fits_here = ap (rule_fits ins) fires.there ∙ fires.fit

  -- the box alone with this rule fires it
  fired : fire core b (number ∷ []) ins ≡ Some (firing_of core b number ins rule)
  fired =
      ap (λ t. option_and_then (λ n. option_map (firing_of core b n ins) (slice_get b.rules n)) (if t then Some number else None)) fits_here
      ∙ ap (option_map (firing_of core b number ins)) fires.there

  pub outputs_typed : are_outputs core.types (port_types b.outs) (handled core b.handlers (result_with core rule ins)) ≡ true
  outputs_typed = fire_typed core fires.sound b fires.typed ins fires.inputs (number ∷ []) (firing_of core b number ins rule) fired

  pub outputs_many : length (handled core b.handlers (result_with core rule ins)) ≡ length b.outs
  outputs_many = all_outputs core b fires.typed fires.handles ins fires.inputs (number ∷ []) (firing_of core b number ins rule) fired

  spent_here : box_spent core b (number ∷ []) ins ≡ cost_with core b rule ins
  spent_here =
      ap (λ t. cost_if_fits (option_and_then (λ n. option_map (rule_spent core b ins) (slice_get b.rules n)) (if t then Some number else None))) fits_here
      ∙ ap (λ r. cost_if_fits (option_map (rule_spent core b ins) r)) fires.there

  pub within_bound : IsAtMost (cost_with core b rule ins) (box_bound core b)
  within_bound = subst (λ c. IsAtMost c (box_bound core b)) spent_here (box_within core fires.sound b fires.typed ins fires.inputs (number ∷ []))

-- a rule that is ready to run
module _ {core : Core} {b : BoxC} {rule : RuleC} {ins : List (Option Value)} {types : Types} {program : BoxProgram} {number : ℕ} {m : Memory}
    (ready : IsReadyToRun core b rule ins types program number m) where
  abbrev place : ℕ
  place = (ready.represents.rules number rule ready.fires.there).place

  abbrev start : Machine
  start = machine.machine_at place m.stack ready.holds.objects

  begins : slice_get program.rules number ≡ Some place
  begins = (ready.represents.rules number rule ready.fires.there).begins

  -- the code of the rule comes to its end
  pub runs : RuleRuns (setting_of core.types program) core b rule ins start
  runs =
      rule_runs core ready.fires.sound b ready.fires.typed ready.fires.handles program ready.represents number rule ready.fires.there
      ins ready.fires.inputs ready.fires.fit start
      (record { begins = begins; inputs = ready.holds.stand; low = ready.holds.stack_counted; unraised = refl })

  pub runs_to : machine.RunsTo types program number m.heap m.stack (cost_with core b rule ins).work runs.end
  runs_to =
      subst (λ t. machine.RunsTo t program number m.heap m.stack (cost_with core b rule ins).work runs.end) (sym ready.types_are.same)
      (record { place = place; begins = begins; objects = ready.holds.objects; held = ready.holds.held; ends = runs.comes })

  -- what its objects take at the end is what the rule spends
  pub end_size : used runs.end.objects ≡ (cost_with core b rule ins).heap
  end_size =
      let built : used ready.holds.objects ≡ length m.heap.words = ap length (sym ready.holds.held.words) in
      let counted = ready.holds.built in
      let total = used-append ready.holds.objects runs.more in
      let spent = runs.heap in
      ap used runs.objects ∙ omega (arith, built, counted, total, spent)

  pub end_outs : runs.end.outs ≡ meaning.flat_outputs core.types (port_types b.outs) (handled core b.handlers (result_with core rule ins))
  end_outs = runs.gives ∙ ap (λ tys. meaning.flat_outputs core.types tys (handled core b.handlers (result_with core rule ins))) ready.represents.outs

  bound_is : IsAtMost (cost_with core b rule ins) (box_bound core b)
  bound_is = within_bound ready.fires

  pub stack_fits : runs.end.peak ≤ m.stack.room
  stack_fits =
      let peak = runs.peak in
      let most = bound_is.stack in
      let room = ready.room.stack_room in
      let as_box = ready.represents.stack in
      let before = ready.room.within in
      omega (arith, peak, most, room, as_box, before)

  handler_fits : (raised : Option ℕ) → runs.end.raised ≡ raised → IsSome raised → 1 ≤ m.stack.room
  handler_fits None is some = cc
  handler_fits (Some exn) is some = let word = runs.handler_word exn is in omega (arith, word, stack_fits)

  outs_fit : machine.HaveRoom m.outputs runs.end.outs
  outs_fit =
      let many : length (handled core b.handlers (result_with core rule ins)) ≡ length (port_types b.outs) =
      outputs_many ready.fires ∙ sym (length-map b.outs (λ (port : PortC). port.ty)) in
      subst (machine.HaveRoom m.outputs) (sym end_outs)
      (outputs_fit core.types (port_types b.outs) m.outputs (handled core b.handlers (result_with core rule ins)) ready.room.output_sizes
      (outputs_typed ready.fires) many)

  pub ends_in_room : machine.EndsInRoom types program number m.heap m.stack m.outputs
  ends_in_room =
      let most = bound_is in
      let work = most.work in
      let heap = most.heap in
      let work_as_box = ready.represents.work in
      let heap_as_box = ready.represents.heap in
      let room = ready.room.heap_room in
      let size = end_size in
      record {
        count = (cost_with core b rule ins).work;
        final = runs.end;
        runs = runs_to;
        soon = omega (arith, work, work_as_box);
        heap_room = omega (arith, heap, heap_as_box, room, size);
        stack_room = stack_fits;
        handler_room = handler_fits runs.end.raised refl;
        outputs_room = outs_fit;
      }
