-- One wire more is looked at: an inner one comes out of its group's home.
use Rattle.std.proofs.Common.{◌≡◌, ◌+◌, ◌<◌, ℕ, List, length, Option, None, Some, slice_get, slice_set, refl, ap, sym, ◌∙◌, subst, inl, inr, arith}
use Rattle.std.proofs.lemmas.Bool.{cases_eq}
use Rattle.std.proofs.lemmas.List.{length-set}
use Rattle.std.proofs.lemmas.Option.{slice_get_within}
use Rattle.hume_net.specs.declared.plan.Plan.{Plan}
use Rattle.hume_net.specs.Plan.{producer_of, wires_of}
use Rattle.superstep_core.specs.declared.grouping.Grouping.{Grouping}
use Rattle.superstep_core.specs.Groups.{group_of, IsInner}
use Rattle.wire_cells.specs.Cells.{CellView}
use Rattle.wire_cells.proofs.AtHome.{set_here, set_elsewhere}
use Rattle.turn_workers.specs.declared.cells.Group.{Group}
use Rattle.turn_workers.specs.inner.Unstowed.{AreUnstowed, HaveInner}

pub none_back : (plan : Plan) (g : Grouping) (home : List (Option CellView)) (groups : List Group) → AreUnstowed plan g 0 home home groups groups
none_back plan g home groups = record {
  back = λ v was less. absurd (omega (arith, less));
  left = λ i group at. (group, at, λ v out. refl);
  kept = λ v out. refl;
  count = refl;
  long = refl;
}

module _ (plan : Plan) (g : Grouping) (w : ℕ) (old home : List (Option CellView)) (before groups : List Group)
    (so_far : AreUnstowed plan g w old home before groups) where
  pub one_stays : (IsInner plan g w → ⊥) → AreUnstowed plan g (w + 1) old home before groups
  one_stays crosses = record {
    back = λ v was less inner at. elim (cases_eq v w) [
      | inl same ↦ absurd (crosses (subst (IsInner plan g) same inner))
      | inr other ↦ so_far.back v was (omega (arith, less, other)) inner at
    ];
    left = λ i group at. (let it = so_far.left i group at in (it.0, it.1, λ v out. it.2 v (λ less. out (omega (arith, less)))));
    kept = so_far.kept;
    count = so_far.count;
    long = so_far.long;
  }

  module _ (inner : IsInner plan g w) (less : w < wires_of plan) (a : ℕ) (mine : group_of g (producer_of plan w) ≡ a) (group new : Group)
      (there : slice_get groups a ≡ Some group) where
    was_of : (was : Group) × (slice_get before a ≡ Some was) × ((v : ℕ) → (v < w → ⊥) → slice_get group.home.items v ≡ slice_get was.home.items v)
    was_of = so_far.left a group there

    still_there : slice_get group.home.items w ≡ slice_get was_of.0.home.items w
    still_there = was_of.2 w (λ below. omega (arith, below))

    pub cell_there : HaveInner plan g before → (cell : CellView) × (slice_get group.home.items w ≡ Some (Some cell))
    cell_there have = let it = have.each w was_of.0 less inner (ap (slice_get before) mine ∙ was_of.1) in (it.0, still_there ∙ it.1)

    module _ (cell : CellView) (at : slice_get group.home.items w ≡ Some (Some cell)) (inside : w < length home) where
      pub one_back : new.home.items ≡ slice_set group.home.items w None
          → AreUnstowed plan g (w + 1) old (slice_set home w (Some cell)) before (slice_set groups a new)
      one_back lifted = record {
        back = λ v was low in_group found. elim (cases_eq v w) [
          | inl same ↦ (
              let both : Some was_of.0 ≡ Some was = sym was_of.1 ∙ ap (slice_get before) (sym mine ∙ ap (λ u. group_of g (producer_of plan u)) (sym same)) ∙ found in
              let is : was_of.0 ≡ was = cc in
              ap (slice_get (slice_set home w (Some cell))) same ∙ set_here home w (Some cell) inside ∙ sym at ∙ still_there
              ∙ ap (λ (x : Group). slice_get x.home.items w) is ∙ ap (slice_get was.home.items) (sym same))
          | inr other ↦ set_elsewhere home w v (Some cell) (λ e. other (sym e)) ∙ so_far.back v was (omega (arith, low, other)) in_group found
        ];
        left = λ i other found. elim (cases_eq i a) [
          | inl same ↦ (
              let both : Some new ≡ Some other = sym (set_here groups a new (slice_get_within groups a group there))
              ∙ ap (slice_get (slice_set groups a new)) (sym same) ∙ found in
              let is : new ≡ other = cc in (
                was_of.0,
                ap (slice_get before) same ∙ was_of.1,
                λ v out.
                    ap (λ (x : Group). slice_get x.home.items v) (sym is) ∙ ap (λ xs. slice_get xs v) lifted
                    ∙ set_elsewhere group.home.items w v None (λ e. out (omega (arith, e))) ∙ was_of.2 v (λ low. out (omega (arith, low))),
              ))
          | inr apart ↦ (let it = so_far.left i other (sym (set_elsewhere groups a i new (λ e. apart (sym e))) ∙ found) in
              (it.0, it.1, λ v out. it.2 v (λ low. out (omega (arith, low)))))
        ];
        kept = λ v out. set_elsewhere home w v (Some cell) (λ e. out (subst (IsInner plan g) e inner)) ∙ so_far.kept v out;
        count = length-set groups a new ∙ so_far.count;
        long = length-set home w (Some cell) ∙ so_far.long;
      }
