-- Cells of boxes have the memory that is printed, and the machine of a cell keeps it.
use Rattle.std.proofs.Common.{◌≡◌, ◌<◌, ◌≤◌, ℕ, max, true, List, [], ◌∷◌, length, map, Option, None, Some, slice_get, refl, ap, sym, ◌∙◌, subst, arith}
use Rattle.std.specs.List.{flat_map}
use Rattle.std.proofs.lemmas.List.Elements.{All-nil}
use Rattle.hume_base.specs.declared.types.Value.{Value}
use Rattle.hume_model.specs.declared.core_tree.BoxC.{BoxC}
use Rattle.hume_model.specs.declared.core_tree.Core.{Core}
use Rattle.hume_model.specs.declared.core_tree.NodeC.TheVariants.{Rules}
use Rattle.hume_model.specs.Firing.{rule_fits}
use Rattle.hume_model.specs.Matching.{fits}
use Rattle.hume_model.specs.WellFormed.{IsWellFormed}
use Rattle.hume_model.specs.Wiring.{WiresAgree}
use Rattle.hume_model.proofs.WellFormedCores.{readable_sizes, sound_parts}
use Rattle.hume_net.specs.declared.state.State.{State}
use Rattle.hume_net.specs.Lockstep.{at_time, executes}
use Rattle.hume_net.specs.Sides.{part_of}
use Rattle.hume_net.specs.StateTyping.{ComingAreTyped, InitialsAreTyped, IsTypedNet, IsTypedState}
use Rattle.hume_net.specs.StatePlaces.{BoxesHandleAll}
use Rattle.hume_net.proofs.AtTimes.{types_after, types_at}
use Rattle.hume_net.proofs.StartTypes.{lockstep_typed}
use Rattle.hume_net.proofs.StateTypes.{inputs_typed}
use Rattle.hume_net.proofs.WellFormedNets.{typed_net}
use Rattle.hume_streams.specs.Logs.{LogView}
use Rattle.hume_streams.specs.Queues.{QueueView}
use Rattle.box_costs.specs.Bounds.{box_bound, built_patterns}
use Rattle.box_costs.specs.Costs.{IsAtMost}
use Rattle.box_costs.specs.ResultSpending.{built_values, inputs_built}
use Rattle.net_costs.specs.Steps.{peaks}
use Rattle.net_costs.proofs.StepBounds.{peaks_within, typed_peaks_within}
use Rattle.box_heap.specs.Heaps.{HasObjects, HeapView, Object, words_of_object}
use Rattle.box_heap.specs.Outputs.{OutputView}
use Rattle.box_heap.specs.Stacks.{StackView}
use Rattle.box_heap.specs.Standing.{AllStand}
use Rattle.box_code.specs.Machine.{Machine, Setting, setting_of, used}
use Rattle.box_machine.specs.Running.{EndsInRoom, machine_at}
use Rattle.box_machine.specs.inner.Stepping.{EndsIn, ended}
use Rattle.box_machine.proofs.Held.{only_these}
use Rattle.box_machine.proofs.Rules.{ended_after}
use Rattle.match_rules.proofs.InputsBuilt.{same_room, same_stack_room, values_many, values_takes}
use Rattle.box_step.specs.Views.{CompiledView}
use Rattle.box_step.specs.nodes.Openings.{Opening, opening_after}
use Rattle.box_step.specs.nodes.Right.{IsRightBox}
use Rattle.box_step.specs.runs.Runs.{CanFire, HoldsInputs, IsReadyToRun, memory}
use Rattle.box_step.specs.inner.Buffers.{sizes_in}
use Rattle.box_step.proofs.Ready.{found_passes, least_heap, least_stack}
use Rattle.box_step.proofs.Rooms.{pushed_peak, pushed_words}
use Rattle.box_step.proofs.runs_lemmas.Ends.{ends_in_room, within_bound}
use Rattle.box_step.proofs.runs_lemmas.HeapPeaks.{peak_after}
use Rattle.call_laws.specs.Memory.{HasItsMemory, IsBuiltFor, IsInRoom, IsReached, OpensWithin, run_opening, seen}
use Rattle.call_laws.proofs.Instructions.{EndsWithin, reached_within}

-- openings

pub run_opens : (core : Core) → IsWellFormed core → WiresAgree core → BoxesHandleAll core → (coming : List (List Value)) → ComingAreTyped core coming
    → (steps : ℕ) (queues : ℕ → QueueView) (logs : ℕ → LogView) → OpensWithin (run_opening core coming steps queues logs)
run_opens core formed agree handles coming typed steps queues logs =
    let net : IsTypedNet core × InitialsAreTyped core = typed_net core formed agree in
    record {
      opens = record {
        core_is = refl;
        formed = formed;
        agree = agree;
        handles = handles;
        typed = lockstep_typed core net.0 net.1 coming typed steps;
      };
      peaks = peaks_within core net.0 net.1 coming typed steps;
    }

module _ (opening : Opening) (w : OpensWithin opening) where
  net : IsTypedNet opening.core
  net = (typed_net opening.core w.opens.formed w.opens.agree).0

  taken_within : (steps n : ℕ) (b : BoxC) → slice_get opening.core.nodes n ≡ Some (Rules b)
      → IsAtMost (peaks opening.core opening.state steps n) (box_bound opening.core b)
  taken_within = typed_peaks_within opening.core net opening.state w.opens.typed

  pub round_opens : (steps : ℕ) → OpensWithin (opening_after opening steps)
  round_opens steps = record {
    opens = record {
      core_is = refl;
      formed = w.opens.formed;
      agree = w.opens.agree;
      handles = w.opens.handles;
      typed = types_after opening.core net opening.state w.opens.typed steps;
    };
    peaks = λ n b is.
        let before = w.peaks n b is in
        let since = taken_within steps n b is in
        record {
          heap = omega (arith, before.heap, since.heap);
          stack = omega (arith, before.stack, since.stack);
          work = omega (arith, before.work, since.work);
        };
  }

  pub cell_memory : (n time : ℕ) (box : CompiledView) → IsRightBox opening n time box
      → (b : BoxC) → slice_get opening.core.nodes n ≡ Some (Rules b) → HasItsMemory (box_bound opening.core b) box
  cell_memory n time box right b there =
      let both : Some (Rules right.b) ≡ Some (Rules b) = sym right.there ∙ there in
      let same : right.b ≡ b = cc in
      let before = w.peaks n right.b right.there in
      let since = taken_within (executes time) n right.b right.there in
      let heap : box.heap.peak ≡ max (opening.peaks n).heap (peaks opening.core opening.state (executes time) n).heap = right.heap in
      let heap_room : box.heap.room ≡ (box_bound opening.core right.b).heap = right.at.room.heap_room ∙ right.at.represents.heap in
      subst (λ (its : BoxC). HasItsMemory (box_bound opening.core its) box) same (record {
        heap_room = heap_room;
        stack_room = right.at.room.stack_room ∙ right.at.represents.stack;
        heap_within = omega (arith, heap, heap_room, before.heap, since.heap);
        stack_within = right.at.room.within;
      })

-- instructions

no_words : (sizes : List ℕ) → sizes_in (map (λ (size : ℕ). (let output : OutputView = record { size = size; words = None } in output)) sizes) ≡ sizes
no_words [] = refl
no_words (size ∷ sizes) = ap (λ (others : List ℕ). size ∷ others) (no_words sizes)

module _ (opening : Opening) (w : OpensWithin opening) (n time : ℕ) (box : CompiledView) (right : IsRightBox opening n time box)
    (number : ℕ) (heap : HeapView) (stack : StackView)
    (fires : IsBuiltFor opening.core (at_time opening.core opening.state time) n right.b number box heap stack) where
  abbrev core : Core
  core = opening.core

  abbrev state : State
  state = at_time opening.core opening.state time

  abbrev b : BoxC
  b = right.b

  abbrev ins : List (Option Value)
  ins = seen core state n b

  typed_state : IsTypedState core state
  typed_state = types_at core (net opening w) opening.state w.opens.typed time

  fits_it : fits fires.rule.pats ins ≡ true
  fits_it = sym (ap (rule_fits ins) fires.is) ∙ found_passes (λ n. rule_fits ins (slice_get b.rules n)) (part_of state n).order number fires.found

  can_fire : CanFire core b number fires.rule ins
  can_fire = record {
    sound = sound_parts core w.opens.formed;
    typed = w.opens.formed.boxes n b right.there;
    handles = w.opens.handles n b right.there;
    there = fires.is;
    inputs = inputs_typed core (net opening w) state typed_state n b right.there;
    fit = fits_it;
  }

  heap_fits : inputs_built fires.rule.pats ins ≤ box.heap.room
  heap_fits =
      let least = least_heap core b fires.rule ins in
      let most = (within_bound can_fire).heap in
      let bounded = right.at.represents.heap in
      let room = right.at.room.heap_room in
      omega (arith, least, most, bounded, room)

  stack_fits : length (built_patterns fires.rule.pats) ≤ box.stack.room
  stack_fits =
      let least = least_stack core b fires.rule ins in
      let most = (within_bound can_fire).stack in
      let bounded = right.at.represents.stack in
      let room = right.at.room.stack_room in
      omega (arith, least, most, bounded, room)

  no_objects : HasObjects (record box.heap { words = [] }) []
  no_objects = record { words = refl; tags = All-nil (λ (object : Object). object.0 < 4294967296) }

  holds_objects : HasObjects heap fires.built.objects
  holds_objects = fires.built.has [] no_objects

  heap_long : length heap.words ≡ inputs_built fires.rule.pats ins
  heap_long =
      let words : length heap.words ≡ length (flat_map words_of_object fires.built.objects) = ap (λ (ws : List ℕ). length ws) holds_objects.words in
      words ∙ fires.built.takes ∙ values_takes fires.rule.pats ins

  heap_peak : heap.peak ≡ max box.heap.peak (inputs_built fires.rule.pats ins)
  heap_peak =
      let put = ap (λ (h : HeapView). h.peak) fires.built.put in
      let most = peak_after (record box.heap { words = [] }) fires.built.objects (omega arith) in
      let takes = fires.built.takes in
      let all = values_takes fires.rule.pats ins in
      omega (arith, put, most, takes, all)

  stack_words : stack.words ≡ fires.built.words
  stack_words = ap (λ (s : StackView). s.words) fires.built.pushed ∙ pushed_words (record box.stack { words = [] }) fires.built.words

  many_words : length fires.built.words ≡ length (built_patterns fires.rule.pats)
  many_words = fires.built.each ∙ values_many fires.rule.pats ins fits_it

  stack_long : length stack.words ≡ length (built_patterns fires.rule.pats)
  stack_long = ap (λ (ws : List ℕ). length ws) stack_words ∙ many_words

  stack_peak : stack.peak ≡ max box.stack.peak (length (built_patterns fires.rule.pats))
  stack_peak =
      let pushed = ap (λ (s : StackView). s.peak) fires.built.pushed in
      let most = pushed_peak (record box.stack { words = [] }) fires.built.words (omega arith) in
      let many = many_words in
      omega (arith, pushed, most, many)

  heap_room : heap.room ≡ box.heap.room
  heap_room = same_room _ _ _ _ _ fires.built

  stack_room : stack.room ≡ box.stack.room
  stack_room = same_stack_room _ _ _ _ _ fires.built

  holds_inputs : HoldsInputs fires.rule ins heap stack
  holds_inputs = record {
    objects = fires.built.objects;
    held = holds_objects;
    built = heap_long;
    stand = subst (AllStand fires.built.objects (built_values fires.rule.pats ins)) (sym stack_words) (fires.built.stand [] no_objects);
    heap_counted = (let long = heap_long in let peak = heap_peak in omega (arith, long, peak));
    stack_counted = (let long = stack_long in let peak = stack_peak in omega (arith, long, peak));
  }

  top_within : stack.peak ≤ stack.room
  top_within =
      let room = stack_room in
      let top = stack_peak in
      let fit = stack_fits in
      let before = right.at.room.within in
      omega (arith, room, top, fit, before)

  abbrev outputs : List OutputView
  outputs = map (λ (size : ℕ). (let output : OutputView = record { size = size; words = None } in output)) box.sizes

  ready : IsReadyToRun core b fires.rule ins core.types box.program number (memory heap stack outputs)
  ready = record {
    fires = can_fire;
    types_are = record { same = refl; sizes = w.opens.formed.frame.sizes; readable = readable_sizes core w.opens.formed };
    represents = right.at.represents;
    room = record {
      heap_room = heap_room ∙ right.at.room.heap_room;
      stack_room = stack_room ∙ right.at.room.stack_room;
      within = top_within;
      output_sizes = no_words box.sizes ∙ right.at.sizes;
    };
    holds = holds_inputs;
  }

  module _ (place : ℕ) (begins : slice_get box.program.rules number ≡ Some place) (objects : List Object) (held : HasObjects heap objects) where
    abbrev setting : Setting
    setting = setting_of core.types box.program

    abbrev first : Machine
    first = machine_at place stack objects

    ends : EndsInRoom core.types box.program number heap stack outputs
    ends = ends_in_room ready

    same_start : machine_at ends.runs.place stack ends.runs.objects ≡ first
    same_start =
        let at : ends.runs.place ≡ place = (let both : Some ends.runs.place ≡ Some place = sym ends.runs.begins ∙ begins in cc) in
        let kept : ends.runs.objects ≡ objects = sym (only_these heap ends.runs.objects ends.runs.held) ∙ only_these heap objects held in
        λ i. machine_at (at i) stack (kept i)

    first_ends : EndsIn (ended setting box.program.work first) stack.room heap.room
    first_ends =
        let is = ended_after setting ends.count box.program.work (machine_at ends.runs.place stack ends.runs.objects) ends.final ends.runs.ends ends.soon in
        subst (λ (m : Machine). EndsIn (ended setting box.program.work m) stack.room heap.room) same_start
        (subst (λ (o : Option (ℕ × Machine)). EndsIn o stack.room heap.room) (sym is)
        (record { stack = ends.stack_room; heap = ends.heap_room; handler = ends.handler_room }))

    first_within : EndsWithin setting stack.room heap.room box.program.work first
    first_within =
        let words : length heap.words ≡ used objects = ap (λ (ws : List ℕ). length ws) held.words in
        let long = heap_long in
        let fit = heap_fits in
        let room = heap_room in
        let low = stack_long in
        let top = stack_peak in
        let within = top_within in
        record {
          ends = first_ends;
          fits = record { stack = within; heap = omega (arith, words, long, fit, room); handler = λ raised. cc };
          low = omega (arith, low, top, within);
        }

    pub all_within : (count : ℕ) (m : Machine) → IsReached setting first count m → IsInRoom box m
    all_within count m reached =
        let is = reached_within setting stack.room heap.room count box.program.work first m first_within reached in
        record {
          heap = subst (λ (room : ℕ). used m.objects ≤ room) heap_room is.heap;
          stack = subst (λ (room : ℕ). length m.stack ≤ room) stack_room is.stack;
        }

pub instruction_memory : (opening : Opening) → OpensWithin opening → (n time : ℕ) (box : CompiledView) → IsRightBox opening n time box
    → (b : BoxC) (number place : ℕ) (heap : HeapView) (stack : StackView)
    → IsBuiltFor opening.core (at_time opening.core opening.state time) n b number box heap stack → slice_get box.program.rules number ≡ Some place
    → (objects : List Object) → HasObjects heap objects
    → (count : ℕ) (m : Machine) → IsReached (setting_of opening.core.types box.program) (machine_at place stack objects) count m → IsInRoom box m
instruction_memory opening w n time box right b number place heap stack fires begins objects held count m reached =
    let both : Some (Rules b) ≡ Some (Rules right.b) = sym fires.there ∙ right.there in
    let same : b ≡ right.b = cc in
    let its : IsBuiltFor opening.core (at_time opening.core opening.state time) n right.b number box heap stack =
    subst (λ (b : BoxC). IsBuiltFor opening.core (at_time opening.core opening.state time) n b number box heap stack) same fires in
    all_within opening w n time box right number heap stack its place begins objects held count m reached
