-- A box that doesn't fire stays as it is.
use Rattle.std.proofs.Common.{◌≡◌, ℕ, true, List, Option, Some, None, refl, ap, sym, ◌∙◌, subst, slice_get, map, arith, if◌then◌else◌}
use Rattle.std.specs.Option.{is_some, option_map, option_and_then}
use Rattle.hume_model.specs.declared.core_tree.BoxC.{BoxC}
use Rattle.hume_model.specs.declared.core_tree.NodeC.TheVariants.{Rules}
use Rattle.hume_model.specs.declared.core_tree.Core.{Core}
use Rattle.hume_model.specs.Firing.{fire, firing_of}
use Rattle.hume_net.specs.declared.state.HalfStep.{HalfStep}
use Rattle.hume_net.specs.HalfSteps.{execute, fired, idle, oldest}
use Rattle.box_costs.specs.Costs.{nothing}
use Rattle.box_costs.specs.ResultSpending.{box_spent, cost_if_fits, rule_spent}
use Rattle.wire_cells.specs.Cells.{CellView}
use Rattle.box_step.specs.Views.{CompiledView}
use Rattle.box_step.specs.Boxes.{HasExecuted, HasItsRoom, HasSpent, IsAt}
use Rattle.match_rules.specs.Choosing.{first_fitting}
use Rattle.box_step.specs.Steps.{execute_spent, execute_answer, rule_answer}

none_left : {A B : Type 0} (get : ℕ → Option A) (make : ℕ → A → B) (first : Option ℕ) → option_and_then get first ≡ None
    → option_and_then (λ n. option_map (make n) (get n)) first ≡ None
none_left get make None is = refl
none_left get make (Some n) is = ap (option_map (make n)) is

module _ {core : Core} {b : BoxC} {before : HalfStep} {box : CompiledView} {cells : List CellView} (at : IsAt core b before box cells) where
  same_room : HasItsRoom box → HasItsRoom (record box { work = 0 })
  same_room has = record { heap_room = has.heap_room; stack_room = has.stack_room; within = has.within }

  pub idle_at : IsAt core b before (record box { work = 0 }) cells
  idle_at = record {
    box_at = record {
      represents = at.box_at.represents;
      room = same_room at.box_at.room;
      order = at.box_at.order;
      sizes = at.box_at.sizes;
      pending = at.box_at.pending;
      plain = at.box_at.plain;
    };
    inputs = at.inputs;
  }

  -- nothing changes, and nothing is taken
  stays : execute core (Rules b) before.part before.side ≡ before → execute_spent core b before.part before.side ≡ nothing
      → execute_answer core b before.part before.side ≡ None → HasExecuted core b before box (record box { work = 0 }) cells None
  stays same spent none = record {
    at = subst (λ half. IsAt core b half (record box { work = 0 }) cells) (sym same) idle_at;
    spent = subst (λ cost. HasSpent cost box (record box { work = 0 })) (sym spent) (record { heap = omega arith; stack = omega arith; work = refl });
    answered = sym none;
  }

  pub blocked : is_some before.part.pending ≡ true → HasExecuted core b before box (record box { work = 0 }) cells None
  blocked is = stays
      (ap (λ t. if t then idle before.part before.side else fired b before.part before.side (fire core b before.part.order (map oldest before.side))) is)
      (ap (λ t. if t then nothing else box_spent core b before.part.order (map oldest before.side)) is)
      (ap (λ t. if t then None else option_map (rule_answer core (map oldest before.side))
      (option_and_then (slice_get b.rules) (first_fitting b before.part.order (map oldest before.side)))) is)

  -- no rule fits, or there is none of the number
  pub none_fits : before.part.pending ≡ None → option_and_then (slice_get b.rules) (first_fitting b before.part.order (map oldest before.side)) ≡ None
      → HasExecuted core b before box (record box { work = 0 }) cells None
  none_fits free none =
      let ins = map oldest before.side in
      let first = first_fitting b before.part.order ins in
      let is = ap is_some free in
      stays
      (ap (λ t. if t then idle before.part before.side else fired b before.part before.side (fire core b before.part.order ins)) is
      ∙ ap (fired b before.part before.side) (none_left (slice_get b.rules) (λ n. firing_of core b n ins) first none))
      (ap (λ t. if t then nothing else box_spent core b before.part.order ins) is
      ∙ ap cost_if_fits (none_left (slice_get b.rules) (λ n. rule_spent core b ins) first none))
      (ap (λ t. if t then None else option_map (rule_answer core ins) (option_and_then (slice_get b.rules) first)) is
      ∙ ap (option_map (rule_answer core ins)) none)
