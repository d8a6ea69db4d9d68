-- A run of a rule, as registers, a row of words and a heap hold it.
use Rattle.std.proofs.Common.{◌≡◌, ℕ, zero, suc, ◌+◌, ◌-◌, ◌≤◌, List, [], ◌++◌, length, take, drop, Option, Some, None, slice_get, refl, ap, sym, ◌∙◌, subst, arith}
use Rattle.std.specs.List.{refill}
use Rattle.std.proofs.lemmas.List.{length-take}
use Rattle.std.proofs.Math.Seq.{take-append_seam}
use Rattle.hume_base.specs.declared.types.Types.{Types}
use Rattle.box_heap.specs.Heaps.{HeapView}
use Rattle.box_heap.specs.Stacks.{StackView}
use Rattle.box_heap.specs.Outputs.{OutputView}
use Rattle.box_code.specs.declared.program.BoxProgram.{BoxProgram}
use Rattle.box_code.specs.Machine.{Setting, setting_of, Machine, EndsAfter, Next, Goes, Ends, Broken, follow, run, step}
use Rattle.box_machine.specs.declared.registers.Registers.{Registers}
use Rattle.box_machine.specs.Running.{EndsInRoom, RunsTo, machine_at}
use Rattle.box_machine.specs.inner.Stepping.{IsHeap, by_next, ended, machine_in, objects_in}
use Rattle.box_machine.specs.inner.PutOutputs.{Reaches}
use Rattle.box_machine.proofs.Held.{is_heap, only_these}
use Rattle.box_machine.proofs.Ending.{ended-more}

-- from so many instructions to how many are left

run-none : (s : Setting) (m : Machine) → run s zero m ≡ Goes m
unfolding run
run-none s m = refl

run-more : (s : Setting) (count : ℕ) (m : Machine) → run s (suc count) m ≡ follow (step s m) (run s count)
unfolding run
run-more s count m = refl

goes_first : (next : Next) (go : Machine → Next) (last : Machine) → follow next go ≡ Goes last → (k : Machine) × (next ≡ Goes k) × (go k ≡ Goes last)
goes_first (Goes k) go last is = (k, refl, is)
goes_first (Ends k) go last is = cc
goes_first Broken go last is = cc

ended_before : (s : Setting) (before most : ℕ) (m last final : Machine) → run s before m ≡ Goes last → step s last ≡ Ends final → before + 1 ≤ most
    → ended s most m ≡ Some (most - (before + 1), final)
ended_before s zero zero m last final goes ends soon = absurd (omega arith)
ended_before s zero (suc most) m last final goes ends soon =
    let same : last ≡ m = let e : Goes last ≡ Goes m = sym goes ∙ run-none s m in cc in
    let left : most ≡ suc most - (0 + 1) = omega arith in
    ended-more s most m ∙ ap (λ k. by_next most (step s k) (ended s most)) (sym same) ∙ ap (λ x. by_next most x (ended s most)) ends
    ∙ (λ i. Some (left i, final))
ended_before s (suc before) zero m last final goes ends soon = absurd (omega arith)
ended_before s (suc before) (suc most) m last final goes ends soon =
    let first = goes_first (step s m) (run s before) last (sym (run-more s before m) ∙ goes) in
    let left : most - (before + 1) ≡ suc most - (suc before + 1) = omega arith in
    ended-more s most m ∙ ap (λ x. by_next most x (ended s most)) first.1
    ∙ ended_before s before most first.0 last final first.2 ends (omega (arith, soon)) ∙ (λ i. Some (left i, final))

pub ended_after : (s : Setting) (count most : ℕ) (m final : Machine) → EndsAfter s m final count → count ≤ most → ended s most m ≡ Some (most - count, final)
ended_after s count most m final ends soon =
    ended_before s ends.before most m ends.last final ends.goes ends.ends (omega (arith, ends.counted, soon)) ∙ (λ i. Some (most - sym ends.counted i, final))

same_end : (s : Setting) (one two : ℕ) (m first second : Machine) → EndsAfter s m first one → EndsAfter s m second two → (one ≡ two) × (first ≡ second)
same_end s one two m first second e f =
    let a = ended_after s one (one + two) m first e (omega arith) in
    let b = ended_after s two (one + two) m second f (omega arith) in
    let both : ◌≡◌ {A = Option (ℕ × Machine)} (Some (one + two - one, first)) (Some (one + two - two, second)) = sym a ∙ b in
    let pairs : ◌≡◌ {A = ℕ × Machine} (one + two - one, first) (one + two - two, second) = cc in
    let left : one + two - one ≡ one + two - two = ap (λ (p : ℕ × Machine). p.0) pairs in
    (omega (arith, left), ap (λ (p : ℕ × Machine). p.1) pairs)

-- a run is told by where it begins

module _ (types : Types) (program : BoxProgram) (rule : ℕ) (heap : HeapView) (stack : StackView) where
  pub same_objects : (count : ℕ) (final : Machine) (runs : RunsTo types program rule heap stack count final) → objects_in heap ≡ runs.objects
  same_objects count final runs = only_these heap runs.objects runs.held

  same_place : (one two : ℕ) (first second : Machine) (e : RunsTo types program rule heap stack one first)
      (f : RunsTo types program rule heap stack two second) → e.place ≡ f.place
  same_place one two first second e f = let same : ◌≡◌ {A = Option ℕ} (Some e.place) (Some f.place) = sym e.begins ∙ f.begins in cc

  pub same_run : (one two : ℕ) (first second : Machine) → RunsTo types program rule heap stack one first → RunsTo types program rule heap stack two second
      → (one ≡ two) × (first ≡ second)
  same_run one two first second e f =
      let objects : e.objects ≡ f.objects = sym (same_objects one first e) ∙ same_objects two second f in
      let start : machine_at e.place stack e.objects ≡ machine_at f.place stack f.objects = (λ i. machine_at (same_place one two first second e f i) stack
      (objects i)) in
      same_end (setting_of types program) one two (machine_at f.place stack f.objects) first second
      (subst (λ m. EndsAfter (setting_of types program) m first one) start e.ends) f.ends

  -- the registers and words with which it begins
  module _ (place : ℕ) (begins : slice_get program.rules rule ≡ Some place) (top peak : ℕ) (top_is : top ≡ length stack.words) (peak_is : peak ≡ stack.peak)
      (words : List ℕ) (front : take (length stack.words) words ≡ stack.words) where
    abbrev start : Registers
    start = record { at = place; top = top; peak = peak; raised = None }

    start_ended : (count : ℕ) (final : Machine) → RunsTo types program rule heap stack count final → count ≤ program.work
        → ended (setting_of types program) program.work (machine_in start words heap) ≡ Some (program.work - count, final)
    start_ended count final runs soon =
        let at : runs.place ≡ place = let same : ◌≡◌ {A = Option ℕ} (Some runs.place) (Some place) = sym runs.begins ∙ begins in cc in
        let held : take top words ≡ stack.words = ap (λ n. take n words) top_is ∙ front in
        let same : machine_at runs.place stack runs.objects ≡ machine_in start words heap =
        (λ i. record { at = at i; stack = sym held i; peak = sym peak_is i; objects = sym (same_objects count final runs) i; outs = []; raised = None }) in
        ap (ended (setting_of types program) program.work) (sym same)
        ∙ ended_after (setting_of types program) count program.work (machine_at runs.place stack runs.objects) final runs.ends soon

    pub start_reaches : (outputs : List OutputView) → EndsInRoom types program rule heap stack outputs → length words ≡ stack.room
        → Reaches (ended (setting_of types program) program.work (machine_in start words heap)) (length words) heap.room outputs
    start_reaches outputs e whole = record {
      end = (program.work - e.count, e.final);
      is = start_ended e.count e.final e.runs e.soon;
      fits = record {
        stack = omega (arith, whole, e.stack_room);
        heap = e.heap_room;
        handler = λ raised. let some = e.handler_room raised in omega (arith, whole, some);
      };
      outputs_room = e.outputs_room;
    }

    -- each run of the rule ends so
    pub each_ended : (outputs : List OutputView) → EndsInRoom types program rule heap stack outputs → (count : ℕ) (final : Machine)
        → RunsTo types program rule heap stack count final
        → (count ≤ program.work) × (final.peak ≤ stack.room) × (ended (setting_of types program) program.work (machine_in start words heap) ≡ Some
        (program.work - count, final))
    each_ended outputs e count final runs =
        let same = same_run e.count count e.final final e.runs runs in
        let soon : count ≤ program.work = omega (arith, same.0, e.soon) in
        (soon, subst (λ (m : Machine). m.peak ≤ stack.room) same.1 e.stack_room, start_ended count final runs soon)

  pub holds_heap : (outputs : List OutputView) → EndsInRoom types program rule heap stack outputs → IsHeap heap
  holds_heap outputs e = is_heap heap e.runs.objects e.runs.held

pub front_short : (stack : StackView) (words : List ℕ) → take (length stack.words) words ≡ stack.words → length stack.words ≤ length words
front_short stack words front =
    let e : length (take (length stack.words) words) ≡ length stack.words = ap (λ ws. length ws) front in
    let f = length-take (length stack.words) words in
    omega (arith, e, f)

-- what is lent of a stack is what is written, where that fills it
pub stack_refilled : (room : ℕ) (lent written : List ℕ) → length lent ≡ room → length written ≡ length lent → refill room lent written ≡ written
stack_refilled room lent written whole long =
    let size : room ≡ length written = omega (arith, whole, long) in
    ap (λ n. take n (written ++ drop (length written) lent)) size ∙ take-append_seam written (drop (length written) lent)
