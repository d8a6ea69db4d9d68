-- Two cores whose nodes make the same half steps make the same supersteps.
use Rattle.std.proofs.Common.{◌≡◌, ℕ, zero, suc, Bool, true, false, List, [], map, length, Option, Some, None, slice_get, refl, ap, ◌∙◌, if◌then◌else◌}
use Rattle.std.specs.List.{position, range_with_len}
use Rattle.std.specs.Bool.{⊤}
use Rattle.std.specs.Option.{is_some, option_map, unwrap_or}
use Rattle.std.proofs.lemmas.Option.{slice_get-map}
use Rattle.hume_base.specs.declared.types.Value.{Value}
use Rattle.hume_model.specs.declared.core_tree.BoxC.{BoxC}
use Rattle.hume_model.specs.declared.core_tree.NodeC.{NodeC}
use Rattle.hume_model.specs.declared.core_tree.NodeC.TheVariants.{Rules, From, To}
use Rattle.hume_model.specs.declared.core_tree.WireC.{WireC}
use Rattle.hume_model.specs.declared.core_tree.Core.{Core}
use Rattle.hume_model.specs.declared.outcome.Firing.{Firing}
use Rattle.hume_model.specs.Firing.{fire}
use Rattle.hume_model.specs.Wiring.{leads_to, comes_from}
use Rattle.hume_net.specs.declared.state.Part.{Part}
use Rattle.hume_net.specs.declared.state.State.{State}
use Rattle.hume_net.specs.declared.state.HalfStep.{HalfStep}
use Rattle.hume_net.specs.HalfSteps.{oldest, idle, fired, execute, asserted, assert_pending, assert_next, have_room}
use Rattle.hume_net.specs.Sides.{numbered, on_found, has_room, on_wire, room_on, wire_from, wire_to, inputs, outputs, rooms, part_of, executed, executed_at, stepped, stepped_at, gathered, left_on}
use Rattle.hume_net.specs.Lockstep.{mid, up, superstep, lockstep}
use Rattle.hume_net.specs.Start.{start, written_order}
use Rattle.hume_net.proofs.Gathered.{mid_part, up_part}
use Rattle.calculus_laws.specs.Orders.{HasWrittenOrders}
use Rattle.calculus_laws.proofs.ChangedBox.{BothAt}

-- The second box makes of each part in the written order what the first one makes of it.
pub record SameBoxes (core new : Core) (b c : BoxC) : Type 0 where
  pub ins : length c.ins ≡ length b.ins
  pub outs : length c.outs ≡ length b.outs
  pub fires : (part : Part) (wires : List (List Value)) → (b.fair ≡ false → part.order ≡ range_with_len 0 (length b.rules))
      → fired c part wires (fire new c part.order (map oldest wires)) ≡ fired b part wires (fire core b part.order (map oldest wires))

-- two streams of one kind, or two such boxes
abbrev pub SameNodes : Core → Core → NodeC → NodeC → Type 0
SameNodes core new (Rules b) (Rules c) = SameBoxes core new b c
SameNodes core new (From stream) (From other) = ⊤
SameNodes core new (To stream) (To other) = ⊤
SameNodes core new _ _ = ⊥

pub record SameNets (core new : Core) : Type 0 where
  pub wires : new.wires ≡ core.wires
  pub count : length new.nodes ≡ length core.nodes
  pub nodes : (n : ℕ) → BothAt (SameNodes core new) (slice_get core.nodes n) (slice_get new.nodes n)

module _ (core new : Core) (net : SameNets core new) (s : State) where
  seen : (n a b : ℕ) → a ≡ b → numbered a (λ input. on_found s (wire_to new n input)) ≡ numbered b (λ input. on_found s (wire_to core n input))
  seen n a b same = λ i. numbered (same i) (λ input. on_found s (position (leads_to n input) (net.wires i)))

  written : (n a b : ℕ) → a ≡ b → numbered a (λ output. on_found s (wire_from new n output)) ≡ numbered b (λ output. on_found s (wire_from core n output))
  written n a b same = λ i. numbered (same i) (λ output. on_found s (position (comes_from n output) (net.wires i)))

  room_same : (wire : Option ℕ) → room_on new s wire ≡ room_on core s wire
  room_same None = refl
  room_same (Some w) = ap (λ wires. has_room (slice_get wires w) (on_wire s w)) net.wires

  roomy : (n a b : ℕ) → a ≡ b → numbered a (λ output. room_on new s (wire_from new n output)) ≡ numbered b (λ output. room_on core s (wire_from core n output))
  roomy n a b same =
      (λ i. numbered (same i) (λ output. room_on new s (position (comes_from n output) (net.wires i))))
      ∙ (λ i. numbered b (λ output. room_same (wire_from core n output) i))

  module _ (order : HasWrittenOrders core s) where
    executed_same_at : (n : ℕ) (o p : Option NodeC) → slice_get core.nodes n ≡ o → BothAt (SameNodes core new) o p → executed_at new s n p ≡ executed_at core s n o
    executed_same_at n None None is same = refl
    executed_same_at n None (Some p) is same = absurd same
    executed_same_at n (Some o) None is same = absurd same
    executed_same_at n (Some (Rules b)) (Some (Rules c)) is same =
        let part = part_of s n in
        let wires = inputs core s n (Rules b) in
        ap (execute new (Rules c) part) (seen n (length c.ins) (length b.ins) same.ins)
        ∙ ap (λ half. if is_some part.pending then idle part wires else half) (same.fires part wires (order.written n b is))
    executed_same_at n (Some (Rules b)) (Some (From t)) is same = absurd same
    executed_same_at n (Some (Rules b)) (Some (To t)) is same = absurd same
    executed_same_at n (Some (From t)) (Some (Rules b)) is same = absurd same
    executed_same_at n (Some (From t)) (Some (From u)) is same = ap (idle (part_of s n)) (seen n 0 0 refl)
    executed_same_at n (Some (From t)) (Some (To u)) is same = absurd same
    executed_same_at n (Some (To t)) (Some (Rules b)) is same = absurd same
    executed_same_at n (Some (To t)) (Some (From u)) is same = absurd same
    executed_same_at n (Some (To t)) (Some (To u)) is same = ap (execute core (To t) (part_of s n)) (seen n 1 1 refl)

    pub executed_same : (n : ℕ) → executed new s n ≡ executed core s n
    executed_same n = executed_same_at n (slice_get core.nodes n) (slice_get new.nodes n) refl (net.nodes n)

    pub mid_same : mid new s ≡ mid core s
    mid_same = λ i.
        let halves = numbered (net.count i) (λ n. executed_same n i) in
        gathered halves (map (λ (wire : WireC). left_on halves wire.to wire.to_port) (net.wires i))

  stepped_same_at : (n : ℕ) (o p : Option NodeC) → BothAt (SameNodes core new) o p → stepped_at new s n p ≡ stepped_at core s n o
  stepped_same_at n None None same = refl
  stepped_same_at n None (Some p) same = absurd same
  stepped_same_at n (Some o) None same = absurd same
  stepped_same_at n (Some (Rules b)) (Some (Rules c)) same = λ i.
      assert_pending (part_of s n) (roomy n (length c.outs) (length b.outs) same.outs i) (written n (length c.outs) (length b.outs) same.outs i) (part_of s n).pending
  stepped_same_at n (Some (Rules b)) (Some (From t)) same = absurd same
  stepped_same_at n (Some (Rules b)) (Some (To t)) same = absurd same
  stepped_same_at n (Some (From t)) (Some (Rules b)) same = absurd same
  stepped_same_at n (Some (From t)) (Some (From u)) same = λ i. assert_next (part_of s n) (roomy n 1 1 refl i) (written n 1 1 refl i) (part_of s n).coming
  stepped_same_at n (Some (From t)) (Some (To u)) same = absurd same
  stepped_same_at n (Some (To t)) (Some (Rules b)) same = absurd same
  stepped_same_at n (Some (To t)) (Some (From u)) same = absurd same
  stepped_same_at n (Some (To t)) (Some (To u)) same = λ i. idle (part_of s n) (written n 0 0 refl i)

  pub stepped_same : (n : ℕ) → stepped new s n ≡ stepped core s n
  stepped_same n = stepped_same_at n (slice_get core.nodes n) (slice_get new.nodes n) (net.nodes n)

  pub up_same : up new s ≡ up core s
  up_same = λ i.
      let halves = numbered (net.count i) (λ n. stepped_same n i) in
      gathered halves (map (λ (wire : WireC). left_on halves wire.from wire.from_port) (net.wires i))

-- the order of a box that isn't fair stays the same

fired_order : (b : BoxC) (part : Part) (wires : List (List Value)) (firing : Option Firing) → b.fair ≡ false → (fired b part wires firing).part.order ≡ part.order
fired_order b part wires None unfair = refl
fired_order b part wires (Some firing) unfair = rw unfair refl

executed_order : (core : Core) (b : BoxC) (part : Part) (wires : List (List Value)) → b.fair ≡ false → (execute core (Rules b) part wires).part.order ≡ part.order
executed_order core b part wires unfair = by (is_some part.pending)
  where
    by : (pending : Bool)
        → (if pending then idle part wires else fired b part wires (fire core b part.order (map oldest wires))).part.order ≡ part.order
    by true = refl
    by false = fired_order b part wires (fire core b part.order (map oldest wires)) unfair

chosen_order : (roomy : Bool) (asserted kept : HalfStep) (order : List ℕ) → asserted.part.order ≡ order → kept.part.order ≡ order
    → (if roomy then asserted else kept).part.order ≡ order
chosen_order true asserted kept order first second = first
chosen_order false asserted kept order first second = second

asserted_order : (before next : Part) (values : List (Option Value)) (room : List Bool) (wires : List (List Value)) → next.order ≡ before.order
    → (asserted before next values room wires).part.order ≡ before.order
asserted_order before next values room wires same = chosen_order (have_room values room) _ _ before.order same refl

stepped_order : (part : Part) (room : List Bool) (wires : List (List Value)) (pending : Option (List (Option Value)))
    → (assert_pending part room wires pending).part.order ≡ part.order
stepped_order part room wires None = refl
stepped_order part room wires (Some values) = asserted_order part (record part { pending = None }) values room wires refl

module _ (core : Core) where
  mid_written : (s : State) → HasWrittenOrders core s → HasWrittenOrders core (mid core s)
  mid_written s order = record {
    written = λ n b at unfair.
        ap (λ (part : Part). part.order) (mid_part core s n (Rules b) at)
        ∙ ap (λ o. (executed_at core s n o).part.order) at
        ∙ executed_order core b (part_of s n) (inputs core s n (Rules b)) unfair
        ∙ order.written n b at unfair;
  }

  up_written : (s : State) → HasWrittenOrders core s → HasWrittenOrders core (up core s)
  up_written s order = record {
    written = λ n b at unfair.
        ap (λ (part : Part). part.order) (up_part core s n (Rules b) at)
        ∙ ap (λ o. (stepped_at core s n o).part.order) at
        ∙ stepped_order (part_of s n) (rooms core s n (Rules b)) (outputs core s n (Rules b)) (part_of s n).pending
        ∙ order.written n b at unfair;
  }

  pub superstep_written : (s : State) → HasWrittenOrders core s → HasWrittenOrders core (superstep core s)
  unfolding superstep
  superstep_written s order = up_written (mid core s) (mid_written s order)

  pub lockstep_written : (s : State) → HasWrittenOrders core s → (k : ℕ) → HasWrittenOrders core (lockstep core s k)
  unfolding lockstep
  lockstep_written s order zero = order
  lockstep_written s order (suc k) = superstep_written (lockstep core s k) (lockstep_written s order k)

pub start_written : (core : Core) (coming : List (List Value)) → HasWrittenOrders core (start core coming)
start_written core coming = record {
  written = λ n b at unfair.
      ap (λ o. unwrap_or o []) (slice_get-map written_order core.nodes n ∙ ap (option_map written_order) at);
}

module _ (core new : Core) (net : SameNets core new) where
  superstep_same : (s : State) → HasWrittenOrders core s → superstep new s ≡ superstep core s
  unfolding superstep
  superstep_same s order = ap (up new) (mid_same core new net s order) ∙ up_same core new net (mid core s)

  -- and so the same after any number of supersteps
  pub lockstep_same : (s : State) → HasWrittenOrders core s → (k : ℕ) → lockstep new s k ≡ lockstep core s k
  unfolding lockstep
  lockstep_same s order zero = refl
  lockstep_same s order (suc k) =
      ap (superstep new) (lockstep_same s order k) ∙ superstep_same (lockstep core s k) (lockstep_written core s order k)
