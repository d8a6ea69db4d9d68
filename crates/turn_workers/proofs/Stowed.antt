-- One wire more is looked at: an inner one goes into its group's home, and a crossing one stays.
use Rattle.std.proofs.Common.{◌≡◌, ◌+◌, ◌<◌, ℕ, List, length, Option, None, Some, slice_get, slice_set, ap, sym, ◌∙◌, subst, inl, inr, arith}
use Rattle.std.proofs.lemmas.Bool.{cases_eq}
use Rattle.std.proofs.lemmas.List.{length-set}
use Rattle.std.proofs.lemmas.Option.{slice_get_within}
use Rattle.hume_net.specs.declared.plan.Plan.{Plan}
use Rattle.hume_net.specs.Plan.{producer_of, wires_of}
use Rattle.superstep_core.specs.declared.grouping.Grouping.{Grouping}
use Rattle.superstep_core.specs.Groups.{group_of, IsInner}
use Rattle.wire_cells.specs.Cells.{CellView}
use Rattle.wire_cells.proofs.AtHome.{set_here, set_elsewhere}
use Rattle.turn_workers.specs.declared.cells.Group.{Group}
use Rattle.turn_workers.specs.inner.Gathered.{AreStowed, IsSameBut, IsStowed}

module _ (plan : Plan) (g : Grouping) (w : ℕ) (old home : List (Option CellView)) (before groups : List Group)
    (so_far : AreStowed plan g w old home before groups) where
  pub cell_at : slice_get home w ≡ slice_get old w
  cell_at = so_far.kept w (λ less. absurd (omega (arith, less)))

  pub one_left : (IsInner plan g w → ⊥) → AreStowed plan g (w + 1) old home before groups
  one_left crosses = record {
    each = λ i group at. let is = so_far.each i group at in record {
      there = λ v less inner mine. elim (cases_eq v w) [
        | inl same ↦ absurd (crosses (subst (IsInner plan g) same inner))
        | inr other ↦ is.there v (omega (arith, less, other)) inner mine
      ];
      from = is.from;
      long = is.long;
    };
    same = so_far.same;
    kept = λ v out. so_far.kept v (λ less. out (omega (arith, less)));
    count = so_far.count;
    long = so_far.long;
  }

  module _ (inner : IsInner plan g w) (less : w < wires_of plan) (a : ℕ) (mine : group_of g (producer_of plan w) ≡ a) (group new : Group)
      (there : slice_get groups a ≡ Some group) (cell : CellView) (at : slice_get home w ≡ Some (Some cell)) where
    pub inside : w < length group.home.items
    inside = let long = (so_far.each a group there).long in omega (arith, long, less)

    here_is : (other : Group) → slice_get (slice_set groups a new) a ≡ Some other → new ≡ other
    here_is other found = (let both : Some new ≡ Some other = sym (set_here groups a new (slice_get_within groups a group there)) ∙ found in cc)

    pub one_stowed : new.home.items ≡ slice_set group.home.items w (Some cell) → new.number ≡ group.number → new.time ≡ group.time
        → new.members ≡ group.members → AreStowed plan g (w + 1) old (slice_set home w None) before (slice_set groups a new)
    one_stowed laid number time members = record {
      each = λ i other found. elim (cases_eq i a) [
        | inl same ↦ subst (λ (q : ℕ × Group). IsStowed plan g (w + 1) q.0 old q.1)
            (λ p. (sym same p, here_is other (ap (slice_get (slice_set groups a new)) (sym same) ∙ found) p)) now
        | inr apart ↦ (
            let is = so_far.each i other (sym (set_elsewhere groups a i new (λ e. apart (sym e))) ∙ found) in
            record {
              there = λ v low in_group owner. elim (cases_eq v w) [
                | inl same ↦ absurd (apart (sym owner ∙ ap (λ u. group_of g (producer_of plan u)) same ∙ mine))
                | inr differs ↦ is.there v (omega (arith, low, differs)) in_group owner
              ];
              from = is.from;
              long = is.long;
            })
      ];
      same = λ i other found. elim (cases_eq i a) [
        | inl same ↦ (
            let was = so_far.same a group there in
            let is = was.2 in (
              was.0,
              ap (slice_get before) same ∙ was.1,
              subst (λ (x : Group). IsSameBut x was.0)
                  (here_is other (ap (slice_get (slice_set groups a new)) (sym same) ∙ found))
                  (record { number = number ∙ is.number; time = time ∙ is.time; members = members ∙ is.members }),
            ))
        | inr apart ↦ so_far.same i other (sym (set_elsewhere groups a i new (λ e. apart (sym e))) ∙ found)
      ];
      kept = λ v out. set_elsewhere home w v None (λ e. out (omega (arith, e)) (subst (IsInner plan g) e inner))
          ∙ so_far.kept v (λ low. out (omega (arith, low)));
      count = length-set groups a new ∙ so_far.count;
      long = length-set home w None ∙ so_far.long;
    }
      where
        now : IsStowed plan g (w + 1) a old new
        now = let is = so_far.each a group there in record {
          there = λ v low in_group owner. elim (cases_eq v w) [
            | inl same ↦ ap (λ xs. slice_get xs v) laid ∙ ap (slice_get (slice_set group.home.items w (Some cell))) same
                ∙ set_here group.home.items w (Some cell) inside ∙ sym at ∙ cell_at ∙ ap (slice_get old) (sym same)
            | inr differs ↦ ap (λ xs. slice_get xs v) laid ∙ set_elsewhere group.home.items w v (Some cell) (λ e. differs (sym e))
                ∙ is.there v (omega (arith, low, differs)) in_group owner
          ];
          from = λ v c found. elim (cases_eq v w) [
            | inl same ↦ (
                let both : Some (Some cell) ≡ Some (Some c) = sym (set_here group.home.items w (Some cell) inside)
                ∙ ap (slice_get (slice_set group.home.items w (Some cell))) (sym same) ∙ ap (λ xs. slice_get xs v) (sym laid) ∙ found in
                ap (slice_get old) same ∙ sym cell_at ∙ at ∙ both)
            | inr differs ↦ is.from v c (sym (set_elsewhere group.home.items w v (Some cell) (λ e. differs (sym e)))
                ∙ ap (λ xs. slice_get xs v) (sym laid) ∙ found)
          ];
          long = ap length laid ∙ length-set group.home.items w (Some cell) ∙ is.long;
        }
