-- Items are put home from the last one down.
use Rattle.std.proofs.Common.{◌≡◌, ℕ, suc, ◌+◌, List, [], ◌∷◌, ◌++◌, length, Option, None, Some, slice_get, slice_set, ap, sym, ◌∙◌, arith}
use mathlib.Core.Option.{some}
use Rattle.std.proofs.lemmas.Option.{slice_get_within}
use Rattle.hume_net.specs.declared.plan.Plan.{Plan}
use Rattle.superstep_core.specs.declared.grouping.Grouping.{Grouping}
use Rattle.superstep_core.specs.Groups.{IsGrouping}
use Rattle.wire_cells.specs.Cells.{CellView}
use Rattle.wire_cells.proofs.AtHome.{set_elsewhere}
use Rattle.box_step.specs.nodes.Openings.{Opening}
use Rattle.step_turns.proofs.Lists.{last_get, front_get}
use Rattle.turn_locker.specs.declared.view.View.{View}
use Rattle.turn_locker.specs.Held.{held_at, without}
use Rattle.turn_locker.specs.Views.{held_at_first, newcomer, puts_back}
use Rattle.turn_locker.proofs.Callers.{last_held, without_last}
use Rattle.turn_workers.specs.declared.cells.Group.{Group}
use Rattle.turn_workers.specs.inner.Placed.{AreCrossingAtRest, AreGroupsAtRest, IsGroupAtRest, still_holds}

pub still_held : (plan : Plan) (n m : ℕ) (v : View) → v ≡ still_holds plan m → m ≡ n + 1 → held_at n v.held ≡ some 0
still_held plan n m v is e = let longer : m ≡ suc n = omega (arith, e) in
    ap (λ (w : View). held_at n w.held) is ∙ ap (λ k. held_at n (held_at_first k)) longer ∙ last_held n

pub none_passed : (plan : Plan) (m : ℕ) (v : View) → v ≡ still_holds plan m → v.passed ≡ []
none_passed plan m v is = ap (λ (w : View). w.passed) is

pub one_home : (plan : Plan) (n m : ℕ) (v : View) → v ≡ still_holds plan m → m ≡ n + 1 → puts_back n v ≡ still_holds plan n
one_home plan n m v is e = let longer : m ≡ suc n = omega (arith, e) in
    ap (puts_back n) is ∙ (λ i. record (newcomer plan) { held = without n (held_at_first (longer i)) })
    ∙ (λ i. record (newcomer plan) { held = without_last n i })

-- the crossing wires below the one that was taken are still at rest
pub crossing_less : (opened : Opening → Type 0) (plan : Plan) (g : Grouping) → IsGrouping plan g → (steps c w : ℕ) (home : List (Option CellView))
    → slice_get g.crossing c ≡ Some w → AreCrossingAtRest opened g steps (c + 1) home → AreCrossingAtRest opened g steps c (slice_set home w None)
crossing_less opened plan g grouping steps c w home at are = record {
  each = λ d v less there.
      let it = are.each d v (omega (arith, less)) there in
      (it.0, set_elsewhere home w v None (λ e. absurd (let same = grouping.once c d w at (there ∙ ap (λ x. Some x) (sym e)) in omega (arith, same, less))) ∙ it.1, it.2);
}

-- the last group and those before it
module _ (opened : Opening → Type 0) (plan : Plan) (g : Grouping) (steps : ℕ) (groups : List Group) (group : Group)
    (are : AreGroupsAtRest opened plan g steps (groups ++ group ∷ [])) where
  pub groups_less : AreGroupsAtRest opened plan g steps groups
  groups_less = record { each = λ i other at. are.each i other (front_get groups (group ∷ []) i (slice_get_within groups i other at) ∙ at) }

  pub last_group : IsGroupAtRest opened plan g steps (length groups) group
  last_group = are.each (length groups) group (last_get groups group)
