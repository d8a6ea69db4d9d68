-- A worker on its way through the side of a group: what its seat holds after each call, and what it may pass and put back.
use Rattle.std.proofs.Common.{◌≡◌, ℕ, ◌+◌, ◌-◌, ◌<◌, List, [], ◌∷◌, drop, length, Some, slice_get, refl, sym, ap, ◌∙◌, subst, arith}
use Rattle.std.specs.Prelude.{slice_index}
use Rattle.hume_net.specs.declared.plan.Plan.{Plan}
use Rattle.superstep_core.specs.declared.grouping.Grouping.{Grouping}
use Rattle.superstep_core.specs.Groups.{quotient}
use Rattle.superstep_core.proofs.Grouped.{crossing_at, crossings_counted}
use Rattle.turn_locker.specs.declared.view.View.{View}
use Rattle.turn_locker.specs.Asking.{MayPassNode, MayPassWire, MayPutBack}
use Rattle.turn_locker.specs.Seats.{LockerView}
use Rattle.turn_locker.specs.Views.{HoldsNothing, passes, puts_back}
use Rattle.turn_workers.specs.inner.Rounds.{IsOfGroups}
use Rattle.turn_workers.specs.inner.Stacks.{IsSide, stack, pairs_of}
use Rattle.turn_workers.proofs.Stacks.{one_may_pass, held_one_passed, pairs_one_passed, one_put_back, held_put_back, nothing_held, node_may_go, no_pairs}

module _ (plan : Plan) (g : Grouping) (locker : LockerView) (of : IsOfGroups plan g locker) (number t : ℕ) (side : List ℕ)
    (is : IsSide locker.plan t number side) where
  same_count : g.count ≡ locker.plan.nodes
  same_count = ap (λ (p : Plan). p.nodes) (sym of.is)

  pub side_of_groups : IsSide (quotient plan g) t number side
  side_of_groups = subst (λ (p : Plan). IsSide p t number side) of.is is

  pub crosses_at : (k : ℕ) → k < length side → (w : ℕ) × (slice_get g.crossing (slice_index side k) ≡ Some w)
  crosses_at k near = crossing_at plan g (slice_index side k) (side_of_groups.of_side k near).0

  pub wire_within : (k : ℕ) → k < length side → slice_index side k < length g.crossing
  wire_within k near = let less = (side_of_groups.of_side k near).0 in let counted = crossings_counted plan g in omega (arith, less, counted)

  module _ (lt : number < g.count) where
    less : number < locker.plan.nodes
    less = let c = same_count in omega (arith, lt, c)

    module _ (k : ℕ) (near : k < length side) (v : View) (held : v.held ≡ stack g.count number t side (k + 1)) where
      held_of_plan : v.held ≡ stack locker.plan.nodes number t side (k + 1)
      held_of_plan = held ∙ ap (λ n. stack n number t side (k + 1)) same_count

      back_of_plan : (new : View) → new.held ≡ stack locker.plan.nodes number t side k → new.held ≡ stack g.count number t side k
      back_of_plan new below = below ∙ ap (λ n. stack n number t side k) (sym same_count)

      pub top_put_back : v.passed ≡ [] → (time : ℕ) → time ≡ t → MayPutBack locker.plan (g.count + slice_index side k) time v
      top_put_back none_passed time still = subst (λ (y : ℕ × ℕ). MayPutBack locker.plan (y.0 + slice_index side k) y.1 v) (λ i. (sym same_count i, sym still i))
          (one_put_back locker.plan number t side less is k (k + 1) near refl v held_of_plan (slice_index side k) refl none_passed)

      pub below_put_back : (new : View) → new ≡ puts_back (g.count + slice_index side k) v → new.held ≡ stack g.count number t side k
      below_put_back new view = back_of_plan new (held_put_back locker.plan number t side less is k (k + 1) near refl v held_of_plan (slice_index side k) refl new
          (view ∙ ap (λ n. puts_back (n + slice_index side k) v) same_count))

      module _ (passed : v.passed ≡ pairs_of number (drop (k + 1) side)) (time : ℕ) (later : time ≡ t + 1) where
        pub top_may_pass : MayPassWire locker.plan (slice_index side k) (time - 1) v
        top_may_pass = one_may_pass locker.plan number t side less is k (k + 1) near refl v held_of_plan (slice_index side k) refl passed time later

        module _ (new : View) (view : new ≡ passes locker.plan (g.count + slice_index side k) (time - 1) v) where
          view_of_plan : new ≡ passes locker.plan (locker.plan.nodes + slice_index side k) (time - 1) v
          view_of_plan = view ∙ ap (λ n. passes locker.plan (n + slice_index side k) (time - 1) v) same_count

          pub below_passed : new.held ≡ stack g.count number t side k
          below_passed = back_of_plan new (held_one_passed locker.plan number t side less is k (k + 1) near refl v held_of_plan (slice_index side k) refl
              passed time later new view_of_plan)

          pub pairs_more : new.passed ≡ pairs_of number (drop k side)
          pairs_more = pairs_one_passed locker.plan number t side less is k (k + 1) near refl v held_of_plan (slice_index side k) refl passed time later new
              view_of_plan

    -- the group, behind all wires of its side
    module _ (v : View) (held : v.held ≡ (number, t) ∷ []) (passed : v.passed ≡ pairs_of number side) (now time : ℕ) (same : now ≡ number)
        (later : time ≡ t + 1) where
      pub group_may_pass : MayPassNode locker.plan now (time - 1) v
      group_may_pass = subst (λ n. MayPassNode locker.plan n (time - 1) v) (sym same) (node_may_go locker.plan number t side less is v held passed time later)

      pub all_gone : (new : View) → new ≡ passes locker.plan now (time - 1) v → HoldsNothing new
      all_gone new view = let view_of_node = view ∙ ap (λ n. passes locker.plan n (time - 1) v) same in (
        nothing_held locker.plan number t side less is v held new (ap (λ (x : View). x.held) view_of_node),
        no_pairs locker.plan number t side less is v held passed time later new view_of_node,
      )
