-- Values to come are not seen before their superstep: two states that differ only in what is to come after so many
-- values differ, after so many supersteps, only in what is left of these.
use Rattle.std.proofs.Common.{◌≡◌, ℕ, zero, suc, Bool, true, false, cond, List, [], ◌∷◌, map, take, Option, Some, None, refl, ap, sym, ◌∙◌, slice_get, subst, ◌+◌, zero-add, length, arith}
use Rattle.std.specs.Option.{is_some, option_flatten, unwrap_or}
use Rattle.std.specs.List.{range_with_len}
use Rattle.std.proofs.lemmas.Simd.{map-map}
use Rattle.hume_base.specs.declared.types.Value.{Value}
use Rattle.hume_model.specs.declared.core_tree.BoxC.{BoxC}
use Rattle.hume_model.specs.declared.core_tree.NodeC.{NodeC}
use Rattle.hume_model.specs.declared.core_tree.NodeC.TheVariants.{Rules, From, To}
use Rattle.hume_model.specs.declared.core_tree.Core.{Core}
use Rattle.hume_net.specs.declared.state.Part.{Part}
use Rattle.hume_net.specs.declared.state.State.{State}
use Rattle.hume_net.specs.declared.state.HalfStep.{HalfStep}
use Rattle.hume_model.specs.declared.outcome.Firing.{Firing}
use Rattle.hume_net.specs.HalfSteps.{execute, super_step, fired, idle, asserted, assert_pending, assert_next, have_room, with_asserted}
use Rattle.hume_net.specs.Sides.{numbered, part_of, inputs, outputs, rooms, executed, executed_at, stepped, stepped_at, left_on, gathered}
use Rattle.hume_net.specs.Lockstep.{mid, up, superstep, lockstep}

-- The two parts differ only in what is to come after so many values.
pub record AlikeParts (count : ℕ) (p q : Part) : Type 0 where
  pub pending : q.pending ≡ p.pending
  pub order : q.order ≡ p.order
  pub taken : q.taken ≡ p.taken
  pub coming : take count q.coming ≡ take count p.coming

pub record AlikeHalves (count : ℕ) (g h : HalfStep) : Type 0 where
  pub side : h.side ≡ g.side
  pub part : AlikeParts count g.part h.part

abbrev pub with_coming : Part → List Value → Part
with_coming part coming = record part { coming = coming }

-- what is to come doesn't matter to an execute step
abbrev pub half_with : HalfStep → List Value → HalfStep
half_with half coming = record { part = with_coming half.part coming; side = half.side }

fired-with : (b : BoxC) (part : Part) (wires : List (List Value)) (firing : Option Firing) (coming : List Value)
    → fired b (with_coming part coming) wires firing ≡ half_with (fired b part wires firing) coming
fired-with b part wires None coming = refl
fired-with b part wires (Some firing) coming = refl

cond-with : (test : Bool) (g h g' h' : HalfStep) (coming : List Value) → g' ≡ half_with g coming → h' ≡ half_with h coming
    → cond test g' h' ≡ half_with (cond test g h) coming
cond-with true g h g' h' coming e f = e
cond-with false g h g' h' coming e f = f

execute-with : (core : Core) (node : NodeC) (part : Part) (wires : List (List Value)) (coming : List Value)
    → execute core node (with_coming part coming) wires ≡ half_with (execute core node part wires) coming
execute-with core (Rules b) part wires coming = cond-with (is_some part.pending) (idle part wires) _ (idle (with_coming part coming) wires) _ coming refl (fired-with b part wires _ coming)
execute-with core (From stream) part wires coming = refl
execute-with core (To stream) part wires coming = refl

-- nor does it change it
execute-coming : (core : Core) (node : NodeC) (part : Part) (wires : List (List Value)) → (execute core node part wires).part.coming ≡ part.coming
execute-coming core node part wires = ap (λ half. half.part.coming) (execute-with core node part wires part.coming)

same_part : (count : ℕ) (p q : Part) → AlikeParts count p q → q ≡ with_coming p q.coming
same_part count p q a = λ i. record { pending = a.pending i; order = a.order i; coming = q.coming; taken = a.taken i }

pub executes_alike : (count : ℕ) (core : Core) (node : NodeC) (p q : Part) (wires : List (List Value)) → AlikeParts count p q → AlikeHalves count (execute core node p wires) (execute core node q wires)
executes_alike count core node p q wires a =
    let e : execute core node q wires ≡ half_with (execute core node p wires) q.coming =
    ap (λ part. execute core node part wires) (same_part count p q a) ∙ execute-with core node p wires q.coming in
    record {
      side = ap (λ half. half.side) e;
      part = record {
        pending = ap (λ half. half.part.pending) e;
        order = ap (λ half. half.part.order) e;
        taken = ap (λ half. half.part.taken) e;
        coming = ap (λ half. take count half.part.coming) e ∙ a.coming ∙ ap (take count) (sym (execute-coming core node p wires));
      };
    }

take-less : {X : Type 0} (count : ℕ) (xs ys : List X) → take (suc count) xs ≡ take (suc count) ys → take count xs ≡ take count ys
take-less zero xs ys same = refl
take-less (suc count) [] [] same = refl
take-less (suc count) [] (y ∷ ys) same = cc
take-less (suc count) (x ∷ xs) [] same = cc
take-less (suc count) (x ∷ xs) (y ∷ ys) same =
    let rest : take (suc count) xs ≡ take (suc count) ys = cc in
    let head : x ≡ y = cc in
    ap (λ zs. x ∷ zs) (take-less count xs ys rest) ∙ ap (λ z. z ∷ take count ys) head

fewer : (count : ℕ) (p q : Part) → AlikeParts (suc count) p q → AlikeParts count p q
fewer count p q a = record { pending = a.pending; order = a.order; taken = a.taken; coming = take-less count q.coming p.coming a.coming }

idle_alike : (count : ℕ) (p q : Part) (side : List (List Value)) → AlikeParts count p q → AlikeHalves count (idle p side) (idle q side)
idle_alike count p q side a = record { side = refl; part = a }

-- a box's super step doesn't see what is to come
pending-with : (part : Part) (rooms : List Bool) (wires : List (List Value)) (pending : Option (List (Option Value))) (coming : List Value)
    → assert_pending (with_coming part coming) rooms wires pending ≡ half_with (assert_pending part rooms wires pending) coming
pending-with part rooms wires None coming = refl
pending-with part rooms wires (Some values) coming = cond-with (have_room values rooms) _ (idle part wires) _ (idle (with_coming part coming) wires) coming refl refl

pending-coming : (part : Part) (rooms : List Bool) (wires : List (List Value)) (pending : Option (List (Option Value))) → (assert_pending part rooms wires pending).part.coming ≡ part.coming
pending-coming part rooms wires pending = ap (λ half. half.part.coming) (pending-with part rooms wires pending part.coming)

pending_alike : (count : ℕ) (p q : Part) (rooms : List Bool) (wires : List (List Value)) → AlikeParts count p q → AlikeHalves count (assert_pending p rooms wires p.pending) (assert_pending q rooms wires q.pending)
pending_alike count p q rooms wires a =
    let e : assert_pending q rooms wires q.pending ≡ half_with (assert_pending p rooms wires p.pending) q.coming =
    ap (λ part. assert_pending part rooms wires part.pending) (same_part count p q a) ∙ pending-with p rooms wires p.pending q.coming in
    record {
      side = ap (λ half. half.side) e;
      part = record {
        pending = ap (λ half. half.part.pending) e;
        order = ap (λ half. half.part.order) e;
        taken = ap (λ half. half.part.taken) e;
        coming = ap (λ half. take count half.part.coming) e ∙ a.coming ∙ ap (take count) (sym (pending-coming p rooms wires p.pending));
      };
    }

asserted_alike : (count : ℕ) (before after before' after' : Part) (values : List (Option Value)) (rooms : List Bool) (wires : List (List Value)) → AlikeParts count before before' → AlikeParts count after after'
    → AlikeHalves count (asserted before after values rooms wires) (asserted before' after' values rooms wires)
asserted_alike count before after before' after' values rooms wires b a =
    elim (have_room values rooms) as (λ test. AlikeHalves count
    (cond test (record { part = after; side = with_asserted values wires }) (idle before wires))
    (cond test (record { part = after'; side = with_asserted values wires }) (idle before' wires))) [
      | true ↦ record { side = refl; part = a }
      | false ↦ record { side = refl; part = b }
    ]

next_alike : (count : ℕ) (p q : Part) (rooms : List Bool) (wires : List (List Value)) (ps qs : List Value) → AlikeParts (suc count) p q → take (suc count) qs ≡ take (suc count) ps
    → AlikeHalves count (assert_next p rooms wires ps) (assert_next q rooms wires qs)
next_alike count p q rooms wires [] [] a same = idle_alike count p q wires (fewer count p q a)
next_alike count p q rooms wires [] (w ∷ qs) a same = cc
next_alike count p q rooms wires (v ∷ ps) [] a same = cc
next_alike count p q rooms wires (v ∷ ps) (w ∷ qs) a same =
    let first : w ≡ v = cc in
    let rest : take count qs ≡ take count ps = cc in
    let P : Value → Type 0 = λ value. AlikeHalves count (assert_next p rooms wires (v ∷ ps)) (asserted q (record q { coming = qs }) (Some value ∷ []) rooms wires) in
    subst P (sym first)
    (asserted_alike count p (record p { coming = ps }) q (record q { coming = qs }) (Some v ∷ []) rooms wires (fewer count p q a)
    (record { pending = a.pending; order = a.order; taken = a.taken; coming = rest }))

pub asserts_alike : (count : ℕ) (node : NodeC) (p q : Part) (rooms : List Bool) (wires : List (List Value)) → AlikeParts (suc count) p q → AlikeHalves count (super_step node p rooms wires) (super_step node q rooms wires)
asserts_alike count (Rules b) p q rooms wires a = pending_alike count p q rooms wires (fewer count p q a)
asserts_alike count (From stream) p q rooms wires a = next_alike count p q rooms wires p.coming q.coming a a.coming
asserts_alike count (To stream) p q rooms wires a = idle_alike count p q wires (fewer count p q a)

-- all nodes

-- The two states differ only in what is to come after so many values.
pub record Alike (count : ℕ) (s t : State) : Type 0 where
  pub wires : t.wires ≡ s.wires
  pub pending : t.pending ≡ s.pending
  pub orders : t.orders ≡ s.orders
  pub taken : t.taken ≡ s.taken
  pub coming : (node : ℕ) → take count (unwrap_or (slice_get t.coming node) []) ≡ take count (unwrap_or (slice_get s.coming node) [])

parts_alike : (count : ℕ) (s t : State) (node : ℕ) → Alike count s t → AlikeParts count (part_of s node) (part_of t node)
parts_alike count s t node a = record {
  pending = ap (λ pending. option_flatten (slice_get pending node)) a.pending;
  order = ap (λ orders. unwrap_or (slice_get orders node) []) a.orders;
  taken = ap (λ taken. unwrap_or (slice_get taken node) []) a.taken;
  coming = a.coming node;
}

executed_alike : (count : ℕ) (core : Core) (s t : State) (number : ℕ) (node : Option NodeC) → Alike count s t → AlikeHalves count (executed_at core s number node) (executed_at core t number node)
executed_alike count core s t number None a = idle_alike count (part_of s number) (part_of t number) [] (parts_alike count s t number a)
executed_alike count core s t number (Some node) a =
    let P : List (List Value) → Type 0 = λ seen. AlikeHalves count (execute core node (part_of s number) (inputs core s number node)) (execute core node (part_of t number) seen) in
    let seen : inputs core s number node ≡ inputs core t number node = ap (λ wires. inputs core (record s { wires = wires }) number node) (sym a.wires) in
    subst P seen (executes_alike count core node (part_of s number) (part_of t number) (inputs core s number node) (parts_alike count s t number a))

stepped_alike : (count : ℕ) (core : Core) (s t : State) (number : ℕ) (node : Option NodeC) → Alike (suc count) s t → AlikeHalves count (stepped_at core s number node) (stepped_at core t number node)
stepped_alike count core s t number None a = idle_alike count (part_of s number) (part_of t number) [] (fewer count (part_of s number) (part_of t number) (parts_alike (suc count) s t number a))
stepped_alike count core s t number (Some node) a =
    let P : List Bool → List (List Value) → Type 0 = λ room seen.
    AlikeHalves count (super_step node (part_of s number) (rooms core s number node) (outputs core s number node)) (super_step node (part_of t number) room seen) in
    let roomy : rooms core s number node ≡ rooms core t number node = ap (λ wires. rooms core (record s { wires = wires }) number node) (sym a.wires) in
    let seen : outputs core s number node ≡ outputs core t number node = ap (λ wires. outputs core (record s { wires = wires }) number node) (sym a.wires) in
    subst (λ room. P room (outputs core t number node)) roomy (subst (P (rooms core s number node)) seen
    (asserts_alike count node (part_of s number) (part_of t number) (rooms core s number node) (outputs core s number node) (parts_alike (suc count) s t number a)))

-- what the half steps leave at the places of sides depends on the sides alone
abbrev of_side : Option (List (List Value)) → ℕ → List Value
of_side None place = []
of_side (Some side) place = unwrap_or (slice_get side place) []

left_on-sides : (halves : List HalfStep) (node place : ℕ) → left_on halves node place ≡ of_side (slice_get (map (λ half. half.side) halves) node) place
left_on-sides [] node place = refl
left_on-sides (half ∷ halves) zero place = refl
left_on-sides (half ∷ halves) (suc node) place = left_on-sides halves node place

same_field : {X : Type 0} (field : HalfStep → X) (bound : ℕ) (g h : ℕ → HalfStep) → ((node : ℕ) → field (h node) ≡ field (g node)) → map field (numbered bound h) ≡ map field (numbered bound g)
same_field field bound g h same =
    map-map field h (range_with_len 0 bound)
    ∙ ap (λ f. map f (range_with_len 0 bound)) (λ i node. same node i)
    ∙ sym (map-map field g (range_with_len 0 bound))

same_left : (bound : ℕ) (g h : ℕ → HalfStep) → ((node : ℕ) → (h node).side ≡ (g node).side) → (node place : ℕ) → left_on (numbered bound h) node place ≡ left_on (numbered bound g) node place
same_left bound g h same node place =
    left_on-sides (numbered bound h) node place
    ∙ ap (λ sides. of_side (slice_get sides node) place) (same_field (λ half. half.side) bound g h same)
    ∙ sym (left_on-sides (numbered bound g) node place)

same_coming : {X : Type 0} (count : ℕ) (f g : X → List Value) → ((x : X) → take count (g x) ≡ take count (f x)) → (xs : List X) (node : ℕ)
    → take count (unwrap_or (slice_get (map g xs) node) []) ≡ take count (unwrap_or (slice_get (map f xs) node) [])
same_coming count f g same [] node = refl
same_coming count f g same (x ∷ xs) zero = same x
same_coming count f g same (x ∷ xs) (suc node) = same_coming count f g same xs node

coming_alike : (count bound : ℕ) (g h : ℕ → HalfStep) → ((node : ℕ) → AlikeHalves count (g node) (h node)) → (node : ℕ)
    → take count (unwrap_or (slice_get (map (λ half. half.part.coming) (numbered bound h)) node) []) ≡ take count (unwrap_or (slice_get (map (λ half. half.part.coming) (numbered bound g)) node) [])
coming_alike count bound g h alike node =
    let coming : HalfStep → List Value = λ half. half.part.coming in
    let at : List (List Value) → List Value = λ lists. take count (unwrap_or (slice_get lists node) []) in
    ap at (map-map coming h (range_with_len 0 bound))
    ∙ same_coming count (λ n. (g n).part.coming) (λ n. (h n).part.coming) (λ n. (alike n).part.coming) (range_with_len 0 bound) node
    ∙ sym (ap at (map-map coming g (range_with_len 0 bound)))

gathered_alike : (count bound : ℕ) (g h : ℕ → HalfStep) (ws vs : List (List Value)) → ((node : ℕ) → AlikeHalves count (g node) (h node)) → vs ≡ ws
    → Alike count (gathered (numbered bound g) ws) (gathered (numbered bound h) vs)
gathered_alike count bound g h ws vs alike same = record {
  wires = same;
  pending = same_field (λ half. half.part.pending) bound g h (λ node. (alike node).part.pending);
  orders = same_field (λ half. half.part.order) bound g h (λ node. (alike node).part.order);
  taken = same_field (λ half. half.part.taken) bound g h (λ node. (alike node).part.taken);
  coming = coming_alike count bound g h alike;
}

pub mid_alike : (count : ℕ) (core : Core) (s t : State) → Alike count s t → Alike count (mid core s) (mid core t)
mid_alike count core s t a =
    let alike : (node : ℕ) → AlikeHalves count (executed core s node) (executed core t node) = λ node. executed_alike count core s t node (slice_get core.nodes node) a in
    gathered_alike count (length core.nodes) (executed core s) (executed core t) _ _ alike
    (ap (λ f. map f core.wires) (λ i wire. same_left (length core.nodes) (executed core s) (executed core t) (λ node. (alike node).side) wire.to wire.to_port i))

pub up_alike : (count : ℕ) (core : Core) (s t : State) → Alike (suc count) s t → Alike count (up core s) (up core t)
up_alike count core s t a =
    let alike : (node : ℕ) → AlikeHalves count (stepped core s node) (stepped core t node) = λ node. stepped_alike count core s t node (slice_get core.nodes node) a in
    gathered_alike count (length core.nodes) (stepped core s) (stepped core t) _ _ alike
    (ap (λ f. map f core.wires) (λ i wire. same_left (length core.nodes) (stepped core s) (stepped core t) (λ node. (alike node).side) wire.from wire.from_port i))

superstep_alike : (count : ℕ) (core : Core) (s t : State) → Alike (suc count) s t → Alike count (superstep core s) (superstep core t)
unfolding superstep
superstep_alike count core s t a = up_alike count core (mid core s) (mid core t) (mid_alike (suc count) core s t a)

-- as many supersteps as values that are alike, and more values that are alike still
pub lockstep_alike : (count steps : ℕ) (core : Core) (s t : State) → Alike (steps + count) s t → Alike count (lockstep core s steps) (lockstep core t steps)
unfolding lockstep
lockstep_alike count zero core s t a = let P : ℕ → Type 0 = λ n. Alike n s t in subst P (zero-add count) a
lockstep_alike count (suc steps) core s t a =
    let P : ℕ → Type 0 = λ n. Alike n s t in
    let e : suc steps + count ≡ steps + suc count = omega arith in
    superstep_alike count core (lockstep core s steps) (lockstep core t steps) (lockstep_alike (suc count) steps core s t (subst P e a))
