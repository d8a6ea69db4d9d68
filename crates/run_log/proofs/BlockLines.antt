-- The lines of a block.
use Rattle.std.proofs.Common.{◌≡◌, ℕ, zero, suc, ◌+◌, ◌-◌, ◌<◌, List, [], ◌∷◌, length, Some, slice_get, refl, ap, ◌∙◌, arith}
use Rattle.hume_base.specs.declared.types.Value.{Value}
use Rattle.hume_model.specs.declared.core_tree.WireC.{WireC}
use Rattle.hume_model.specs.declared.core_tree.Core.{Core}
use Rattle.hume_net.specs.declared.state.State.{State}
use Rattle.hume_net.specs.Sides.{on_wire}
use Rattle.trace_print.specs.TraceLines.{line_there, wire_line, wire_lines}
use Rattle.run_log.specs.declared.half.Half.{Half}
use Rattle.run_log.specs.Logs.{block}
use Rattle.run_log.proofs.Lists.{single_at, single_count}

pub item_in : {X : Type 0} (xs : List X) (n : ℕ) → n < length xs → (x : X) × (slice_get xs n ≡ Some x)
item_in [] n within = absurd (omega (arith, within))
item_in (x ∷ xs) zero within = (x, refl)
item_in (x ∷ xs) (suc n) within = item_in xs n (omega (arith, within))

module _ (core : Core) (held : ℕ → List Value) where
  abbrev of : ℕ → List (List ℕ)
  of w = line_there core (held w) (slice_get core.wires w)

  line_is : (w : ℕ) (wire : WireC) → slice_get core.wires w ≡ Some wire → of w ≡ wire_line core wire (held w) ∷ []
  line_is w wire there = ap (line_there core (held w)) there

  each_line : (w : ℕ) → w < length core.wires → (line : List ℕ) × (of (0 + w) ≡ line ∷ [])
  each_line w less =
      let wire = item_in core.wires w less in
      let here : 0 + w ≡ w = omega arith in
      (wire_line core wire.0 (held w), ap of here ∙ line_is w wire.0 wire.1)

  pub wire_at_line : (w : ℕ) (wire : WireC) → w < length core.wires → slice_get core.wires w ≡ Some wire
      → slice_get (wire_lines core held) w ≡ Some (wire_line core wire (held w))
  wire_at_line w wire less there =
      let here : 0 + w ≡ w = omega arith in
      single_at of 0 (length core.wires) each_line w (wire_line core wire (held w)) less (ap of here ∙ line_is w wire there)

  pub lines_counted : length (wire_lines core held) ≡ length core.wires
  lines_counted = single_count of 0 (length core.wires) each_line

pub block_counted : (core : Core) (half : Half) (superstep : ℕ) (state : State) → length (block core half superstep state) ≡ length core.wires + 1
block_counted core half superstep state = (let lines = lines_counted core (on_wire state) in omega (arith, lines))

-- the line of a wire stands behind the heading
pub wire_in_block : (core : Core) (half : Half) (superstep : ℕ) (state : State) (place w : ℕ) (wire : WireC) → place ≡ suc w → w < length core.wires
    → slice_get core.wires w ≡ Some wire → slice_get (block core half superstep state) place ≡ Some (wire_line core wire (on_wire state w))
wire_in_block core half superstep state place w wire behind less there =
    ap (slice_get (block core half superstep state)) behind ∙ wire_at_line core (on_wire state) w wire less there

-- a place that isn't that of the heading
pub behind_heading : (place : ℕ) → (place ≡ 0 → ⊥) → place ≡ suc (place - 1)
behind_heading zero other = absurd (other refl)
behind_heading (suc w) other = omega arith
