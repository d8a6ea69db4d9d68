-- The plan of a core knows where its wires come from and lead, and joins nodes where each wire has its ends.
use Rattle.std.proofs.Common.{◌≡◌, ◌<◌, ℕ, List, length, Some, slice_get, ap, sym, ◌∙◌, inl, inr, arith}
use Rattle.std.proofs.lemmas.List.{length-map}
use Rattle.std.proofs.lemmas.Option.{slice_get-map, slice_get_within, slice_get_cases, get_or_from_slice_get}
use Rattle.std.specs.Option.{option_map}
use Rattle.hume_model.specs.declared.core_tree.WireC.{WireC}
use Rattle.hume_model.specs.declared.core_tree.Core.{Core}
use Rattle.hume_model.specs.WireEnds.{HasEnds}
use Rattle.hume_net.specs.Plan.{plan_of, wires_of, producer_of, consumer_of, IsPlan}

-- the element at a place below the length of a list
pub there : {X : Type 0} (xs : List X) (i : ℕ) → i < length xs → (x : X) × (slice_get xs i ≡ Some x)
there xs i less = elim ((slice_get_cases xs i).1) [ inl it ↦ (it.0, it.2) | inr it ↦ absurd (omega (arith, it.0)) ]

module _ (core : Core) where
  pub wires_counted : wires_of (plan_of core) ≡ length core.wires
  wires_counted = length-map core.wires (λ (wire : WireC). wire.from)

  module _ (w : ℕ) (wire : WireC) (is : slice_get core.wires w ≡ Some wire) where
    pub producer_there : slice_get (plan_of core).producer w ≡ Some wire.from
    producer_there = slice_get-map (λ (it : WireC). it.from) core.wires w ∙ ap (option_map (λ (it : WireC). it.from)) is

    pub consumer_there : slice_get (plan_of core).consumer w ≡ Some wire.to
    consumer_there = slice_get-map (λ (it : WireC). it.to) core.wires w ∙ ap (option_map (λ (it : WireC). it.to)) is

    pub producer_is : producer_of (plan_of core) w ≡ wire.from
    producer_is = get_or_from_slice_get (plan_of core).producer w wire.from 0 producer_there

    pub consumer_is : consumer_of (plan_of core) w ≡ wire.to
    consumer_is = get_or_from_slice_get (plan_of core).consumer w wire.to 0 consumer_there

  pub plan_joins : ((w : ℕ) (wire : WireC) → slice_get core.wires w ≡ Some wire → HasEnds core wire) → IsPlan (plan_of core)
  plan_joins has = record {
    both_ends = length-map core.wires (λ (wire : WireC). wire.to) ∙ sym wires_counted;
    producers = λ w less.
        let wire = there core.wires w (omega (arith, less, wires_counted)) in
        let ends = has w wire.0 wire.1 in
        let within = slice_get_within core.nodes wire.0.from ends.producer ends.from in
        let is = producer_is w wire.0 wire.1 in
        omega (arith, within, is);
    consumers = λ w less.
        let wire = there core.wires w (omega (arith, less, wires_counted)) in
        let ends = has w wire.0 wire.1 in
        let within = slice_get_within core.nodes wire.0.to ends.consumer ends.to in
        let is = consumer_is w wire.0 wire.1 in
        omega (arith, within, is);
  }
