-- Streams take and assert one value a superstep at most.
use Rattle.std.proofs.Common.{◌≡◌, ◌≤◌, ◌+◌, ◌-◌, ◌*◌, ◌/◌, ◌%◌, ◌==◌, ◌⊎◌, inl, inr, ℕ, zero, suc, Bool, true, false, if◌then◌else◌, List, [], ◌∷◌, ◌++◌, length, map, Option, Some, None, slice_get, refl, ap, sym, ◌∙◌, subst, length-append, arith}
use Rattle.std.proofs.lemmas.Bool.{eqb-true, eqb-false}
use Rattle.std.proofs.lemmas.List.{append_assoc, append-nil}
use Rattle.std.specs.Option.{is_some}
use Rattle.hume_base.specs.declared.types.Value.{Value}
use Rattle.hume_model.specs.declared.core_tree.BoxC.{BoxC}
use Rattle.hume_model.specs.declared.core_tree.NodeC.{NodeC}
use Rattle.hume_model.specs.declared.core_tree.NodeC.TheVariants.{Rules, From, To}
use Rattle.hume_model.specs.declared.core_tree.Core.{Core}
use Rattle.hume_model.specs.declared.outcome.Firing.{Firing}
use Rattle.hume_model.specs.Firing.{fire}
use Rattle.hume_net.specs.declared.state.Part.{Part}
use Rattle.hume_net.specs.declared.state.State.{State}
use Rattle.hume_net.specs.declared.state.HalfStep.{HalfStep}
use Rattle.hume_net.specs.HalfSteps.{oldest, values_there, idle, fired, have_room, with_asserted, assert_pending, assert_next}
use Rattle.hume_net.specs.Lockstep.{mid, up, lockstep, at_time, node_at, executes, supers}
use Rattle.hume_net.specs.Sides.{part_of, on_found, wire_to, inputs, outputs, rooms, executed_at, stepped_at}
use Rattle.hume_net.specs.StreamSteps.{HasGrown, HasShrunk}
use Rattle.hume_net.proofs.Gathered.{mid_part, up_part}
use Rattle.hume_net.proofs.Times.{after_even, after_odd, even_state}

-- lists that grow and shrink

same_grown : {before after : List Value} → after ≡ before → HasGrown 0 before after
same_grown {before = before} same = record { more = []; is = same ∙ sym (append-nil before); few = omega arith }

same_shrunk : {before after : List Value} → after ≡ before → HasShrunk 0 before after
same_shrunk same = record { gone = []; is = sym same; few = omega arith }

grown_on : {first second : ℕ} {before between after : List Value} → HasGrown first before between → HasGrown second between after
    → HasGrown (first + second) before after
grown_on {before = before} one two =
    let few = one.few in
    let others = two.few in
    let long = length-append one.more two.more in
    record {
      more = one.more ++ two.more;
      is = two.is ∙ ap (λ values. values ++ two.more) one.is ∙ append_assoc before one.more two.more;
      few = omega (arith, few, others, long);
    }

shrunk_on : {first second : ℕ} {before between after : List Value} → HasShrunk first before between → HasShrunk second between after
    → HasShrunk (first + second) before after
shrunk_on {after = after} one two =
    let few = one.few in
    let others = two.few in
    let long = length-append one.gone two.gone in
    record {
      gone = one.gone ++ two.gone;
      is = one.is ∙ ap (λ values. one.gone ++ values) two.is ∙ sym (append_assoc one.gone two.gone after);
      few = omega (arith, few, others, long);
    }

-- the execute step

one_at_most : (held : List Value) → length (values_there (oldest held ∷ [])) ≤ 1
one_at_most [] = omega arith
one_at_most (v ∷ later) = omega arith

module _ (b : BoxC) (part : Part) (wires : List (List Value)) where
  box_takes_none : (busy : Bool) (firing : Option Firing) → (if busy then idle part wires else fired b part wires firing).part.taken ≡ part.taken
  box_takes_none true firing = refl
  box_takes_none false None = refl
  box_takes_none false (Some firing) = refl

  box_keeps_coming : (busy : Bool) (firing : Option Firing) → (if busy then idle part wires else fired b part wires firing).part.coming ≡ part.coming
  box_keeps_coming true firing = refl
  box_keeps_coming false None = refl
  box_keeps_coming false (Some firing) = refl

-- the super step

module _ (part : Part) (rooms : List Bool) (wires : List (List Value)) where
  taken_when : (room : Bool) (next : Part) (values : List (Option Value)) → next.taken ≡ part.taken
      → (if room then (let half : HalfStep = record { part = next; side = with_asserted values wires } in half) else idle part wires).part.taken ≡ part.taken
  taken_when true next values same = same
  taken_when false next values same = refl

  coming_when : (room : Bool) (next : Part) (values : List (Option Value)) → HasShrunk 1 part.coming next.coming
      → HasShrunk 1 part.coming
      (if room then (let half : HalfStep = record { part = next; side = with_asserted values wires } in half) else idle part wires).part.coming
  coming_when true next values shrunk = shrunk
  coming_when false next values shrunk = record { gone = []; is = refl; few = omega arith }

  pending_takes_none : (pending : Option (List (Option Value))) → (assert_pending part rooms wires pending).part.taken ≡ part.taken
  pending_takes_none None = refl
  pending_takes_none (Some values) = taken_when (have_room values rooms) (record part { pending = None }) values refl

  pending_keeps_coming : (pending : Option (List (Option Value))) → HasShrunk 1 part.coming (assert_pending part rooms wires pending).part.coming
  pending_keeps_coming None = record { gone = []; is = refl; few = omega arith }
  pending_keeps_coming (Some values) =
      coming_when (have_room values rooms) (record part { pending = None }) values (record { gone = []; is = refl; few = omega arith })

  next_takes_none : (coming : List Value) → (assert_next part rooms wires coming).part.taken ≡ part.taken
  next_takes_none [] = refl
  next_takes_none (v ∷ later) = taken_when (have_room (Some v ∷ []) rooms) (record part { coming = later }) (Some v ∷ []) refl

  next_shrinks : (coming : List Value) → part.coming ≡ coming → HasShrunk 1 part.coming (assert_next part rooms wires coming).part.coming
  next_shrinks [] is = record { gone = []; is = refl; few = omega arith }
  next_shrinks (v ∷ later) is =
      coming_when (have_room (Some v ∷ []) rooms) (record part { coming = later }) (Some v ∷ []) (record { gone = v ∷ []; is = is; few = omega arith })

-- states

module _ (core : Core) (s : State) (n : ℕ) (node : NodeC) (there : slice_get core.nodes n ≡ Some node) where
  taken_in_execute : (is : NodeC) → HasGrown 1 (part_of s n).taken (executed_at core s n (Some is)).part.taken
  taken_in_execute (Rules b) =
      let same = box_takes_none b (part_of s n) (inputs core s n (Rules b)) (is_some (part_of s n).pending)
      (fire core b (part_of s n).order (map oldest (inputs core s n (Rules b)))) in
      record { more = []; is = same ∙ sym (append-nil (part_of s n).taken); few = omega arith }
  taken_in_execute (From stream) = record { more = []; is = sym (append-nil (part_of s n).taken); few = omega arith }
  taken_in_execute (To stream) =
      let held = on_found s (wire_to core n 0) in
      record { more = values_there (oldest held ∷ []); is = refl; few = one_at_most held }

  coming_in_execute : (is : NodeC) → (executed_at core s n (Some is)).part.coming ≡ (part_of s n).coming
  coming_in_execute (Rules b) =
      box_keeps_coming b (part_of s n) (inputs core s n (Rules b)) (is_some (part_of s n).pending)
      (fire core b (part_of s n).order (map oldest (inputs core s n (Rules b))))
  coming_in_execute (From stream) = refl
  coming_in_execute (To stream) = refl

  taken_in_super : (is : NodeC) → (stepped_at core s n (Some is)).part.taken ≡ (part_of s n).taken
  taken_in_super (Rules b) = pending_takes_none (part_of s n) (rooms core s n (Rules b)) (outputs core s n (Rules b)) (part_of s n).pending
  taken_in_super (From stream) = next_takes_none (part_of s n) (rooms core s n (From stream)) (outputs core s n (From stream)) (part_of s n).coming
  taken_in_super (To stream) = refl

  coming_in_super : (is : NodeC) → HasShrunk 1 (part_of s n).coming (stepped_at core s n (Some is)).part.coming
  coming_in_super (Rules b) = pending_keeps_coming (part_of s n) (rooms core s n (Rules b)) (outputs core s n (Rules b)) (part_of s n).pending
  coming_in_super (From stream) = next_shrinks (part_of s n) (rooms core s n (From stream)) (outputs core s n (From stream)) (part_of s n).coming refl
  coming_in_super (To stream) = record { gone = []; is = refl; few = omega arith }

  mid_is : part_of (mid core s) n ≡ (executed_at core s n (Some node)).part
  mid_is = mid_part core s n node there ∙ ap (λ o. (executed_at core s n o).part) there

  up_is : part_of (up core s) n ≡ (stepped_at core s n (Some node)).part
  up_is = up_part core s n node there ∙ ap (λ o. (stepped_at core s n o).part) there

  mid_grown : HasGrown 1 (part_of s n).taken (part_of (mid core s) n).taken
  mid_grown = subst (λ (p : Part). HasGrown 1 (part_of s n).taken p.taken) (sym mid_is) (taken_in_execute node)

  mid_coming : (part_of (mid core s) n).coming ≡ (part_of s n).coming
  mid_coming = ap (λ (p : Part). p.coming) mid_is ∙ coming_in_execute node

  up_taken : (part_of (up core s) n).taken ≡ (part_of s n).taken
  up_taken = ap (λ (p : Part). p.taken) up_is ∙ taken_in_super node

  up_shrunk : HasShrunk 1 (part_of s n).coming (part_of (up core s) n).coming
  up_shrunk = subst (λ (p : Part). HasShrunk 1 (part_of s n).coming p.coming) (sym up_is) (coming_in_super node)

-- times

parity : (time : ℕ) → (time % 2 ≡ 0) ⊎ (time % 2 ≡ 1)
parity time = by (time % 2 == 0) refl
  where
    by : (even : Bool) → (time % 2 == 0) ≡ even → (time % 2 ≡ 0) ⊎ (time % 2 ≡ 1)
    by true e = inl (eqb-true (time % 2) 0 e)
    by false e = let other = eqb-false (time % 2) 0 e in inr (omega (arith, other))

module _ (core : Core) (s : State) (n : ℕ) (node : NodeC) (there : slice_get core.nodes n ≡ Some node) where
  taken_next : (time : ℕ) → HasGrown (executes (time + 1) - executes time) (node_at core s n time).taken (node_at core s n (time + 1)).taken
  taken_next time = elim (parity time) [
    | inl even ↦ (let one : executes (time + 1) - executes time ≡ 1 = omega (arith, even) in
        subst (λ k. HasGrown k (node_at core s n time).taken (node_at core s n (time + 1)).taken) (sym one)
        (subst (λ t. HasGrown 1 (node_at core s n time).taken (part_of t n).taken) (sym (after_even core s time even))
        (mid_grown core (at_time core s time) n node there)))
    | inr odd ↦ (let none : executes (time + 1) - executes time ≡ 0 = omega (arith, odd) in
        subst (λ k. HasGrown k (node_at core s n time).taken (node_at core s n (time + 1)).taken) (sym none)
        (same_grown (ap (λ t. (part_of t n).taken) (after_odd core s time odd) ∙ up_taken core (at_time core s time) n node there)))
  ]

  coming_next : (time : ℕ) → HasShrunk (supers (time + 1) - supers time) (node_at core s n time).coming (node_at core s n (time + 1)).coming
  coming_next time = elim (parity time) [
    | inl even ↦ (let none : supers (time + 1) - supers time ≡ 0 = omega (arith, even) in
        subst (λ k. HasShrunk k (node_at core s n time).coming (node_at core s n (time + 1)).coming) (sym none)
        (same_shrunk (ap (λ t. (part_of t n).coming) (after_even core s time even) ∙ mid_coming core (at_time core s time) n node there)))
    | inr odd ↦ (let one : supers (time + 1) - supers time ≡ 1 = omega (arith, odd) in
        subst (λ k. HasShrunk k (node_at core s n time).coming (node_at core s n (time + 1)).coming) (sym one)
        (subst (λ t. HasShrunk 1 (node_at core s n time).coming (part_of t n).coming) (sym (after_odd core s time odd))
        (up_shrunk core (at_time core s time) n node there)))
  ]

  pub taken_until : (time count : ℕ)
      → HasGrown (executes (time + count) - executes time) (node_at core s n time).taken (node_at core s n (time + count)).taken
  taken_until time zero =
      let none : executes (time + 0) - executes time ≡ 0 = omega arith in
      let same : time + 0 ≡ time = omega arith in
      subst (λ k. HasGrown k (node_at core s n time).taken (node_at core s n (time + 0)).taken) (sym none) (same_grown (ap
      (λ t. (node_at core s n t).taken) same))
  taken_until time (suc count) =
      let next : time + suc count ≡ (time + count) + 1 = omega arith in
      let steps : (executes (time + count) - executes time) + (executes ((time + count) + 1) - executes (time + count))
      ≡ executes ((time + count) + 1) - executes time = omega arith in
      subst (λ t. HasGrown (executes t - executes time) (node_at core s n time).taken (node_at core s n t).taken) (sym next)
      (subst (λ k. HasGrown k (node_at core s n time).taken (node_at core s n ((time + count) + 1)).taken) steps
      (grown_on (taken_until time count) (taken_next (time + count))))

  pub coming_until : (time count : ℕ)
      → HasShrunk (supers (time + count) - supers time) (node_at core s n time).coming (node_at core s n (time + count)).coming
  coming_until time zero =
      let none : supers (time + 0) - supers time ≡ 0 = omega arith in
      let same : time + 0 ≡ time = omega arith in
      subst (λ k. HasShrunk k (node_at core s n time).coming (node_at core s n (time + 0)).coming) (sym none) (same_shrunk (ap
      (λ t. (node_at core s n t).coming) same))
  coming_until time (suc count) =
      let next : time + suc count ≡ (time + count) + 1 = omega arith in
      let steps : (supers (time + count) - supers time) + (supers ((time + count) + 1) - supers (time + count))
      ≡ supers ((time + count) + 1) - supers time = omega arith in
      subst (λ t. HasShrunk (supers t - supers time) (node_at core s n time).coming (node_at core s n t).coming) (sym next)
      (subst (λ k. HasShrunk k (node_at core s n time).coming (node_at core s n ((time + count) + 1)).coming) steps
      (shrunk_on (coming_until time count) (coming_next (time + count))))

  -- the state after so many supersteps is that at twice as many
  at_twice : (k : ℕ) → at_time core s (2 * k) ≡ lockstep core s k
  at_twice k =
      let even : 2 * k % 2 ≡ 0 = omega arith in
      let half : 2 * k / 2 ≡ k = omega arith in
      even_state core s (2 * k) even ∙ ap (lockstep core s) half

  pub taken_after : (j k : ℕ) → HasGrown k (part_of (lockstep core s j) n).taken (part_of (lockstep core s (j + k)) n).taken
  taken_after j k =
      let twice : 2 * j + 2 * k ≡ 2 * (j + k) = omega arith in
      let steps : executes (2 * j + 2 * k) - executes (2 * j) ≡ k = omega arith in
      subst (λ t. HasGrown k (part_of t n).taken (part_of (lockstep core s (j + k)) n).taken) (at_twice j)
      (subst (λ t. HasGrown k (node_at core s n (2 * j)).taken (part_of t n).taken) (ap (at_time core s) twice ∙ at_twice (j + k))
      (subst (λ m. HasGrown m (node_at core s n (2 * j)).taken (node_at core s n (2 * j + 2 * k)).taken) steps (taken_until (2 * j) (2 * k))))

  pub coming_after : (j k : ℕ) → HasShrunk k (part_of (lockstep core s j) n).coming (part_of (lockstep core s (j + k)) n).coming
  coming_after j k =
      let twice : 2 * j + 2 * k ≡ 2 * (j + k) = omega arith in
      let steps : supers (2 * j + 2 * k) - supers (2 * j) ≡ k = omega arith in
      subst (λ t. HasShrunk k (part_of t n).coming (part_of (lockstep core s (j + k)) n).coming) (at_twice j)
      (subst (λ t. HasShrunk k (node_at core s n (2 * j)).coming (part_of t n).coming) (ap (at_time core s) twice ∙ at_twice (j + k))
      (subst (λ m. HasShrunk m (node_at core s n (2 * j)).coming (node_at core s n (2 * j + 2 * k)).coming) steps (coming_until (2 * j) (2 * k))))
