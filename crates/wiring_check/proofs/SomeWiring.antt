-- A core that is wired has a wiring.
use Rattle.std.proofs.Common.{◌≡◌, ℕ, zero, suc, ◌+◌, ◌<◌, Bool, true, false, List, [], ◌∷◌, Option, Some, None, map, slice_get, refl, sym, ap, ◌∙◌, subst, if◌then◌else◌, arith}
use Rattle.std.specs.List.{range_with_len}
use Rattle.std.specs.Option.{option_map}
use Rattle.std.proofs.lemmas.List.FromFn.{length-map-range_with_len, get_or-map-range_with_len}
use Rattle.std.proofs.lemmas.Option.{same_Some, slice_get_within, slice_get-get_or}
use Rattle.hume_model.specs.declared.core_tree.NodeC.{NodeC}
use Rattle.hume_model.specs.declared.core_tree.WireC.{WireC}
use Rattle.hume_model.specs.declared.core_tree.Core.{Core}
use Rattle.hume_model.specs.Wiring.{leads_to, comes_from, inputs_of, outputs_of, IsTheWire, IsWired}
use Rattle.wiring_check.specs.Wires.{Wires, AreTheWires, IsWiringOf, wire_at, wire_in}

-- the number of the first wire that passes the test
abbrev number_of : (WireC → Bool) → List WireC → ℕ
number_of test [] = 0
number_of test (wire ∷ wires) = if test wire then 0 else suc (number_of test wires)

abbrev Passes : (WireC → Bool) → List WireC → ℕ → Type 0
Passes test wires w = (found : WireC) × (slice_get wires w ≡ Some found) × (test found ≡ true)

number_passes : (test : WireC → Bool) (wires : List WireC) (w : ℕ) (wire : WireC) → slice_get wires w ≡ Some wire → test wire ≡ true
    → Passes test wires (number_of test wires)
number_passes test [] w wire there passes = cc
number_passes test (first ∷ wires) zero wire there passes =
    let same : first ≡ wire = same_Some first wire there in
    let is : test first ≡ true = ap test same ∙ passes in
    rw is (first, refl, is)
number_passes test (first ∷ wires) (suc w) wire there passes = by (test first) refl (number_passes test wires w wire there passes)
  where
    by : (b : Bool) → test first ≡ b → Passes test wires (number_of test wires) → Passes test (first ∷ wires) (if b then 0 else suc (number_of test wires))
    by true is later = (first, refl, is)
    by false off later = later

module _ (core : Core) (ports : NodeC → ℕ) (ends_at : ℕ → ℕ → WireC → Bool)
    (one : (n i : ℕ) (node : NodeC) → slice_get core.nodes n ≡ Some node → i < ports node → (w : ℕ) × IsTheWire (ends_at n i) core.wires w) where
  abbrev row : ℕ → ℕ → List ℕ
  row n count = map (λ i. number_of (ends_at n i) core.wires) (range_with_len 0 count)

  abbrev rows : ℕ → List NodeC → List (List ℕ)
  rows n [] = []
  rows n (node ∷ nodes) = row n (ports node) ∷ rows (suc n) nodes

  rows_at : (n k : ℕ) (nodes : List NodeC) → slice_get (rows n nodes) k ≡ option_map (λ node. row (n + k) (ports node)) (slice_get nodes k)
  rows_at n k [] = refl
  rows_at n zero (node ∷ nodes) = ap (λ m. Some (row m (ports node))) (let e : n ≡ n + 0 = omega arith in e)
  rows_at n (suc k) (node ∷ nodes) =
      rows_at (suc n) k nodes ∙ ap (λ m. option_map (λ (node : NodeC). row m (ports node)) (slice_get nodes k)) (let e : suc n + k ≡ n + suc k = omega arith in e)

  row_at : (n count i : ℕ) → i < count → slice_get (row n count) i ≡ Some (number_of (ends_at n i) core.wires)
  row_at n count i lt =
      slice_get-get_or (row n count) i 0 (let long = length-map-range_with_len (λ i. number_of (ends_at n i) core.wires) 0 count in omega arith)
      ∙ ap (λ w. Some w) (get_or-map-range_with_len (λ i. number_of (ends_at n i) core.wires) 0 count i i 0 lt (omega arith))

  wires_at : (n i : ℕ) → wire_at (rows 0 core.nodes) n i ≡ wire_in (option_map (λ node. row n (ports node)) (slice_get core.nodes n)) i
  wires_at n i =
      ap (λ r. wire_in r i) (rows_at 0 n core.nodes) ∙ ap (λ m. wire_in (option_map (λ (node : NodeC). row m (ports node)) (slice_get core.nodes n)) i) (let e : 0 + n ≡ n = omega arith in e)

  -- what stands at a port is its wire
  its_number : (n i : ℕ) (node : NodeC) → slice_get core.nodes n ≡ Some node → i < ports node → IsTheWire (ends_at n i) core.wires (number_of (ends_at n i) core.wires)
  its_number n i node at lt =
      let w = one n i node at lt in
      let found = number_passes (ends_at n i) core.wires w.0 w.1.wire w.1.there w.1.passes in
      subst (IsTheWire (ends_at n i) core.wires) (sym (w.1.alone (number_of (ends_at n i) core.wires) found.0 found.1 found.2)) w.1

  stands : (n i w : ℕ) (o : Option NodeC) → slice_get core.nodes n ≡ o → wire_in (option_map (λ node. row n (ports node)) o) i ≡ Some w → IsTheWire (ends_at n i) core.wires w
  stands n i w None at shows = cc
  stands n i w (Some node) at shows =
      let long = length-map-range_with_len (λ i. number_of (ends_at n i) core.wires) 0 (ports node) in
      let within = slice_get_within (row n (ports node)) i w shows in
      let lt : i < ports node = omega arith in
      subst (IsTheWire (ends_at n i) core.wires) (same_Some _ w (sym (row_at n (ports node) i lt) ∙ shows)) (its_number n i node at lt)

  their_rows : (wires : List (List ℕ)) × AreTheWires core ports ends_at wires
  their_rows = (
    rows 0 core.nodes,
    record {
      positions = λ n i node at lt. record {
        wire = number_of (ends_at n i) core.wires;
        there = wires_at n i ∙ ap (λ o. wire_in (option_map (λ (node : NodeC). row n (ports node)) o) i) at ∙ row_at n (ports node) i lt;
      };
      each = λ n i w shows. stands n i w _ refl (sym (wires_at n i) ∙ shows);
    },
  )

pub some_wiring : (core : Core) → IsWired core → (wiring : Wires) × IsWiringOf core wiring
some_wiring core wired =
    let ins = their_rows core inputs_of leads_to wired.inputs in
    let outs = their_rows core outputs_of comes_from wired.outputs in
    (record { inputs = ins.0; outputs = outs.0 }, record { inputs = ins.1; outputs = outs.1 })
