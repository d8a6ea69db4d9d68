-- A swap of two rules that are apart keeps every run.
use Rattle.std.proofs.Common.{◌≡◌, ℕ, suc, ◌+◌, Bool, true, false, List, map, length, Option, Some, None, slice_get, refl, ap, sym, ◌∙◌, arith, if◌then◌else◌}
use Rattle.std.specs.List.{find, range_with_len}
use Rattle.std.specs.Option.{option_map}
use Rattle.hume_base.specs.declared.types.Value.{Value}
use Rattle.hume_model.specs.declared.core_tree.RuleC.{RuleC}
use Rattle.hume_model.specs.declared.core_tree.BoxC.{BoxC}
use Rattle.hume_model.specs.declared.core_tree.NodeC.{NodeC}
use Rattle.hume_model.specs.declared.core_tree.NodeC.TheVariants.{Rules, From, To}
use Rattle.hume_model.specs.declared.core_tree.Core.{Core}
use Rattle.hume_model.specs.declared.outcome.Firing.{Firing}
use Rattle.hume_model.specs.Matching.{taken_at, bound}
use Rattle.hume_model.specs.Firing.{fire}
use Rattle.hume_net.specs.declared.state.Part.{Part}
use Rattle.hume_net.specs.declared.state.HalfStep.{HalfStep}
use Rattle.hume_net.specs.HalfSteps.{oldest, idle, fired, without_taken}
use Rattle.calculus_laws.specs.declared.step.CalcError.{CalcError}
use Rattle.calculus_laws.specs.declared.step.CalcError.TheVariants.{CannotSwap, NotApart}
use Rattle.calculus_laws.specs.Apart.{some_apart_at}
use Rattle.calculus_laws.specs.Boxes.{box_at, with_box}
use Rattle.calculus_laws.specs.Swapping.{exchanged, pair_refusal, swap_refusal, swapped_box}
use Rattle.calculus_laws.proofs.Clashes.{rules_clash}
use Rattle.calculus_laws.proofs.Exchanged.{find-exchanged, length-exchanged}
use Rattle.calculus_laws.proofs.FirstRules.{Effect, effect, effect_of, fires_first, fits_rule}
use Rattle.calculus_laws.proofs.Kept.{fire_kept, outs_kept, result_kept}
use Rattle.calculus_laws.proofs.SameNets.{SameBoxes, SameNodes, SameNets}
use Rattle.calculus_laws.proofs.ChangedBox.{box_there, length-set_node, related_at}

-- when a swap isn't refused
pub record MaySwap (b : BoxC) (rule : ℕ) : Type 0 where
  pub unfair : b.fair ≡ false
  pub apart : (x y : RuleC) → slice_get b.rules rule ≡ Some x → slice_get b.rules (suc rule) ≡ Some y → some_apart_at x.pats y.pats ≡ true

unfair_only : (fair : Bool) (other : Option CalcError) → (if fair then Some CannotSwap else other) ≡ None → (fair ≡ false) × (other ≡ None)
unfair_only true other none = cc
unfair_only false other none = (refl, none)

tested : (apart : Bool) → (if apart then None else Some NotApart) ≡ None → apart ≡ true
tested true none = refl
tested false none = cc

pair_apart : (o p : Option RuleC) → pair_refusal o p ≡ None → (x y : RuleC) → o ≡ Some x → p ≡ Some y → some_apart_at x.pats y.pats ≡ true
pair_apart None p none x y first next = cc
pair_apart (Some u) None none x y first next = cc
pair_apart (Some u) (Some v) none x y first next =
    let one : u ≡ x = cc in
    let two : v ≡ y = cc in
    ap (λ (r : RuleC). some_apart_at r.pats y.pats) (sym one) ∙ ap (λ (r : RuleC). some_apart_at u.pats r.pats) (sym two)
    ∙ tested (some_apart_at u.pats v.pats) none

pub may_swap : (b : BoxC) (rule : ℕ) → swap_refusal b rule ≡ None → MaySwap b rule
may_swap b rule none =
    let both = unfair_only b.fair _ none in
    record {
      unfair = both.0;
      apart = λ x y first next.
          let at : rule + 1 ≡ suc rule = omega arith in
          pair_apart (slice_get b.rules rule) (slice_get b.rules (rule + 1)) both.1 x y first (ap (slice_get b.rules) at ∙ next);
    }

-- what a box that isn't fair makes of a part, by the effect of what fires
made : Part → List (List Value) → Option Effect → HalfStep
made part wires None = idle part wires
made part wires (Some effect) = record { part = record part { pending = Some effect.outs }; side = without_taken effect.taken wires }

fired_made : (b : BoxC) (part : Part) (wires : List (List Value)) → b.fair ≡ false → (firing : Option Firing)
    → fired b part wires firing ≡ made part wires (option_map effect firing)
unfolding made
fired_made b part wires unfair None = refl
fired_made b part wires unfair (Some firing) = rw unfair refl

module _ (core : Core) (n rule : ℕ) (b : BoxC) (may : MaySwap b rule) where
  abbrev new : Core
  new = with_box core n (swapped_box rule b)

  abbrev other : BoxC
  other = swapped_box rule b

  effect_kept : (ins : List (Option Value)) (x : RuleC) → effect_of new other ins x ≡ effect_of core b ins x
  effect_kept ins x = λ i. record {
    taken = taken_at x.pats ins;
    outs = outs_kept core new (result_kept core new refl) b.handlers (bound x.pats ins) x.result i;
  }

  same_rule : (ins : List (Option Value)) → find (fits_rule ins) (exchanged rule b.rules) ≡ find (fits_rule ins) b.rules
  same_rule ins = find-exchanged (fits_rule ins) rule b.rules
      (λ x y first next fits_x fits_y. rules_clash x.pats y.pats (may.apart x y first next) ins fits_x fits_y)

  same_effect : (ins : List (Option Value)) (order : List ℕ) → order ≡ range_with_len 0 (length b.rules)
      → option_map effect (fire new other order ins) ≡ option_map effect (fire core b order ins)
  same_effect ins order written =
      ap (λ ns. option_map effect (fire new other ns ins)) (written ∙ ap (range_with_len 0) (sym (length-exchanged rule b.rules)))
      ∙ fires_first new other ins
      ∙ (λ i. option_map (λ x. effect_kept ins x i) (same_rule ins i))
      ∙ sym (fires_first core b ins)
      ∙ ap (λ ns. option_map effect (fire core b ns ins)) (sym written)

  same_boxes : SameBoxes core new b other
  same_boxes = record {
    ins = refl;
    outs = refl;
    fires = λ part wires written.
        fired_made other part wires may.unfair (fire new other part.order (map oldest wires))
        ∙ ap (made part wires) (same_effect (map oldest wires) part.order (written may.unfair))
        ∙ sym (fired_made b part wires may.unfair (fire core b part.order (map oldest wires)));
  }

  same_node : (node : NodeC) → SameNodes core new node node
  same_node (Rules c) = record {
    ins = refl;
    outs = refl;
    fires = λ part wires written. ap (fired c part wires) (fire_kept core new (result_kept core new refl) c part.order (map oldest wires));
  }
  same_node (From stream) = tt
  same_node (To stream) = tt

  pub swap_same : box_at core n ≡ Some b → SameNets core new
  swap_same there = record {
    wires = refl;
    count = length-set_node core.nodes n (Rules other);
    nodes = related_at (SameNodes core new) core.nodes (λ m node is. same_node node) n (Rules b) (Rules other) (box_there core n b there) same_boxes;
  }
