-- Each wire and each node has its place in the states of a lockstep.
use Rattle.std.proofs.Common.{◌≡◌, ℕ, zero, suc, ◌<◌, Bool, true, false, if◌then◌else◌, List, [], map, length, Option, Some, None, slice_get, refl, ap, sym, ◌∙◌, subst}
use Rattle.std.proofs.lemmas.List.{length-map}
use Rattle.std.proofs.lemmas.Option.{slice_get-map, slice_get_within}
use Rattle.std.specs.List.{find}
use Rattle.std.specs.Option.{option_map, option_and_then, option_to_list, unwrap_or, is_some}
use Rattle.hume_base.specs.declared.types.Value.{Value}
use Rattle.hume_model.specs.declared.core_tree.RuleC.{RuleC}
use Rattle.hume_model.specs.declared.core_tree.BoxC.{BoxC}
use Rattle.hume_model.specs.declared.core_tree.NodeC.TheVariants.{Rules}
use Rattle.hume_model.specs.declared.core_tree.WireC.{WireC}
use Rattle.hume_model.specs.declared.core_tree.Core.{Core}
use Rattle.hume_model.specs.declared.outcome.Firing.{Firing}
use Rattle.hume_model.specs.Firing.{fire, firing_of, rule_fits}
use Rattle.hume_net.specs.declared.state.HalfStep.{HalfStep}
use Rattle.hume_net.specs.declared.state.Part.{Part}
use Rattle.hume_net.specs.declared.state.State.{State}
use Rattle.hume_net.specs.HalfSteps.{oldest, moved_last, fired, idle, with_asserted, have_room, assert_pending}
use Rattle.hume_net.specs.Parts.{IsStateOf}
use Rattle.hume_net.specs.Sides.{part_of, inputs, outputs, rooms, each_node, executed, executed_at, stepped, stepped_at, left_on, gathered}
use Rattle.hume_net.specs.Lockstep.{mid, up, superstep, lockstep}
use Rattle.hume_net.specs.Start.{start, written_order}
use Rattle.hume_net.specs.StatePlaces.{IsOrder, HasPlaces}
use Rattle.hume_net.proofs.Gathered.{mid_part, up_part}
use Rattle.hume_net.proofs.Orders.{moved_order, first_order}
use Rattle.hume_net.proofs.Starts.{length-numbered}

-- orders

module _ (b : BoxC) where
  abbrev IsBoxOrder : List ℕ → Type 0
  IsBoxOrder order = IsOrder (length b.rules) order

  order_after : (fair : Bool) (rule : ℕ) (order : List ℕ) → IsBoxOrder order → rule < length b.rules → IsBoxOrder (if fair then moved_last rule order else order)
  order_after true rule order is within = moved_order (length b.rules) rule order is within
  order_after false rule order is within = is

  module _ (core : Core) (seen : List (Option Value)) where
    rule_there : (number : ℕ) (r : Option RuleC) → slice_get b.rules number ≡ r → (firing : Firing) → option_map (firing_of core b number seen) r ≡ Some firing
        → firing.rule < length b.rules
    rule_there number None found firing h = cc
    rule_there number (Some rule) found firing h =
        let same : number ≡ firing.rule = (let f : firing_of core b number seen rule ≡ firing = cc in ap (λ (x : Firing). x.rule) f) in
        subst (λ n. n < length b.rules) same (slice_get_within b.rules number rule found)

    fired_there : (n : Option ℕ) (firing : Firing) → option_and_then (λ number. option_map (firing_of core b number seen) (slice_get b.rules number)) n ≡ Some firing
        → firing.rule < length b.rules
    fired_there None firing h = cc
    fired_there (Some number) firing h = rule_there number (slice_get b.rules number) refl firing h

  module _ (core : Core) (part : Part) (is : IsBoxOrder part.order) (wires : List (List Value)) where
    fired_order : (f : Option Firing) → fire core b part.order (map oldest wires) ≡ f → IsBoxOrder (fired b part wires f).part.order
    fired_order None h = is
    fired_order (Some firing) h =
        order_after b.fair firing.rule part.order is
        (fired_there core (map oldest wires) (find (λ number. rule_fits (map oldest wires) (slice_get b.rules number)) part.order) firing h)

    execute_order : (busy : Bool) → IsBoxOrder (if busy then idle part wires else fired b part wires (fire core b part.order (map oldest wires))).part.order
    execute_order true = is
    execute_order false = fired_order (fire core b part.order (map oldest wires)) refl

    order_when : (room : Bool) (next : Part) (values : List (Option Value)) → IsBoxOrder next.order
        → IsBoxOrder (if room then (let half : HalfStep = record { part = next; side = with_asserted values wires } in half) else idle part wires).part.order
    order_when true next values all = all
    order_when false next values all = is

    assert_order : (rooms : List Bool) (p : Option (List (Option Value))) → IsBoxOrder (assert_pending part rooms wires p).part.order
    assert_order rooms None = is
    assert_order rooms (Some values) = order_when (have_room values rooms) (record part { pending = None }) values is

-- states

gathered_length : {X : Type 0} (core : Core) (says : ℕ → HalfStep) (f : HalfStep → X) → length (map f (each_node core says)) ≡ length core.nodes
gathered_length core says f = length-map (each_node core says) f ∙ length-numbered (length core.nodes) says

-- what is gathered from a half step of each node has a place for each
gathered_state : (core : Core) (says : ℕ → HalfStep) (values : WireC → List Value) → IsStateOf core (gathered (each_node core says) (map values core.wires))
gathered_state core says values = record {
  wires = length-map core.wires values;
  pending = gathered_length core says (λ (half : HalfStep). half.part.pending);
  orders = gathered_length core says (λ (half : HalfStep). half.part.order);
  coming = gathered_length core says (λ (half : HalfStep). half.part.coming);
  taken = gathered_length core says (λ (half : HalfStep). half.part.taken);
}

module _ (core : Core) (s : State) where
  mid_state : IsStateOf core (mid core s)
  mid_state = gathered_state core (executed core s) (λ (wire : WireC). left_on (each_node core (executed core s)) wire.to wire.to_port)

  up_state : IsStateOf core (up core s)
  up_state = gathered_state core (stepped core s) (λ (wire : WireC). left_on (each_node core (stepped core s)) wire.from wire.from_port)

pub lockstep_state : (core : Core) (s : State) → IsStateOf core s → (k : ℕ) → IsStateOf core (lockstep core s k)
unfolding lockstep superstep
lockstep_state core s is zero = is
lockstep_state core s is (suc k) = up_state core (mid core (lockstep core s k))

module _ (core : Core) (s : State) (places : HasPlaces core s) where
  executed_order : (n : ℕ) (b : BoxC) → slice_get core.nodes n ≡ Some (Rules b) → IsOrder (length b.rules) (part_of (mid core s) n).order
  executed_order n b is_box =
      subst (λ (p : Part). IsOrder (length b.rules) p.order) (sym (mid_part core s n (Rules b) is_box))
      (subst (λ o. IsOrder (length b.rules) (executed_at core s n o).part.order) (sym is_box)
      (execute_order b core (part_of s n) (places.rules n b is_box) (inputs core s n (Rules b)) (is_some (part_of s n).pending)))

  stepped_order : (n : ℕ) (b : BoxC) → slice_get core.nodes n ≡ Some (Rules b) → IsOrder (length b.rules) (part_of (up core s) n).order
  stepped_order n b is_box =
      subst (λ (p : Part). IsOrder (length b.rules) p.order) (sym (up_part core s n (Rules b) is_box))
      (subst (λ o. IsOrder (length b.rules) (stepped_at core s n o).part.order) (sym is_box)
      (assert_order b core (part_of s n) (places.rules n b is_box) (outputs core s n (Rules b)) (rooms core s n (Rules b)) (part_of s n).pending))

  pub mid_places : HasPlaces core (mid core s)
  mid_places = record { places = mid_state core s; rules = executed_order }

  up_places : HasPlaces core (up core s)
  up_places = record { places = up_state core s; rules = stepped_order }

pub superstep_places : (core : Core) (s : State) → HasPlaces core s → HasPlaces core (superstep core s)
unfolding superstep
superstep_places core s places = up_places core (mid core s) (mid_places core s places)

start_places : (core : Core) (coming : List (List Value)) → length coming ≡ length core.nodes → HasPlaces core (start core coming)
start_places core coming many = record {
  places = record {
    wires = length-map core.wires (λ (wire : WireC). option_to_list wire.initial);
    pending = length-numbered (length core.nodes) _;
    orders = length-map core.nodes written_order;
    coming = many;
    taken = length-numbered (length core.nodes) _;
  };
  rules = λ n b is_box.
      subst (λ o. IsOrder (length b.rules) (unwrap_or o [])) (sym (slice_get-map written_order core.nodes n ∙ ap (option_map written_order) is_box))
      (first_order (length b.rules));
}

pub lockstep_places : (core : Core) (coming : List (List Value)) → length coming ≡ length core.nodes → (k : ℕ) → HasPlaces core (lockstep core (start core coming) k)
unfolding lockstep
lockstep_places core coming many zero = start_places core coming many
lockstep_places core coming many (suc k) = superstep_places core (lockstep core (start core coming) k) (lockstep_places core coming many k)
