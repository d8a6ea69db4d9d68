-- One member more has made its half step.
use Rattle.std.proofs.Common.{◌≡◌, ◌+◌, ◌<◌, ℕ, List, Option, Some, slice_get, slice_set, ap, sym, ◌∙◌, subst, inl, inr, arith}
use Rattle.std.specs.Option.{option_map}
use Rattle.std.proofs.lemmas.Bool.{cases_eq}
use Rattle.std.proofs.lemmas.Option.{slice_get-map, slice_get_within, get_or_from_slice_get}
use Rattle.std.proofs.Math.Seq.{map-set_same}
use Rattle.hume_model.specs.declared.core_tree.Core.{Core}
use Rattle.hume_net.specs.Plan.{plan_of}
use Rattle.hume_net.specs.Times.{mover}
use Rattle.wire_cells.specs.Cells.{CellView}
use Rattle.wire_cells.specs.Homes.{IsOutside}
use Rattle.wire_cells.proofs.AtHome.{set_here, set_elsewhere}
use Rattle.box_step.specs.nodes.Openings.{Opening}
use Rattle.box_step.specs.nodes.Right.{IsRightNode}
use Rattle.box_step.specs.declared.nodes.cell.BoxCell.{BoxCell}
use Rattle.step_turns.specs.Homes.{AreRightThere, IsHome}
use Rattle.step_turns.specs.Rounds.{IsWholeSide}
use Rattle.step_turns.proofs.OneTurn.{is_of_side}
use Rattle.turn_workers.specs.inner.Halves.{IsMidway}

pub home_by : (w time : ℕ) (old new : List (Option CellView)) → slice_get new w ≡ slice_get old w → IsHome w time old → IsHome w time new
home_by w time old new same is = record { cell = is.cell; there = same ∙ is.there; number = is.number; at = is.at }

module _ (opened : Opening → Type 0) (core : Core) (time k room : ℕ) (numbers : List ℕ) (members : List BoxCell) (home : List (Option CellView))
    (midway : IsMidway opened (plan_of core) time k numbers members home) (cell : BoxCell) (there : slice_get members k ≡ Some cell) where
  pub due : cell.time ≡ time
  due = midway.ahead k cell there (omega arith)

  pub number_at : slice_get numbers k ≡ Some cell.number
  number_at = ap (λ xs. slice_get xs k) (sym midway.same) ∙ slice_get-map (λ (c : BoxCell). c.number) members k
      ∙ ap (option_map (λ (c : BoxCell). c.number)) there

  pub is_node : cell.number < (plan_of core).nodes
  is_node = midway.are_nodes k cell.number number_at

  module _ (side : List ℕ) (whole : IsWholeSide core cell.number time room side) where
    pub side_home : (p w : ℕ) → slice_get side p ≡ Some w → IsHome w time home
    side_home p w found =
        let is = is_of_side core cell.number time side whole.is p w found in
        midway.unmoved w k is.0 (number_at ∙ ap (λ n. Some n) (sym is.1)) (omega arith)

    -- a wire that another member moves isn't of the side
    outside : (w j : ℕ) → slice_get numbers j ≡ Some (mover (plan_of core) time w) → (j ≡ k → ⊥) → IsOutside side w
    outside w j at other p found =
        let is = is_of_side core cell.number time side whole.is p w found in
        other (midway.apart.once j k cell.number (at ∙ ap (λ n. Some n) is.1) number_at)

    module _ (new : BoxCell) (laid : List (Option CellView)) (number : new.number ≡ cell.number) (gone : new.time ≡ time + 1)
        (homes : (p w : ℕ) → slice_get side p ≡ Some w → IsHome w (time + 1) laid)
        (others : (w : ℕ) → IsOutside side w → slice_get laid w ≡ slice_get home w)
        (right : (opening : Opening) → opened opening → AreRightThere opening new laid) where
      here_is : (j : ℕ) (c : BoxCell) → j ≡ k → slice_get (slice_set members k new) j ≡ Some c → new ≡ c
      here_is j c same found = (let both : Some new ≡ Some c = sym (set_here members k new (slice_get_within members k cell there))
          ∙ ap (slice_get (slice_set members k new)) (sym same) ∙ found in cc)

      there_is : (j : ℕ) (c : BoxCell) → (j ≡ k → ⊥) → slice_get (slice_set members k new) j ≡ Some c → slice_get members j ≡ Some c
      there_is j c apart found = sym (set_elsewhere members k j new (λ e. apart (sym e))) ∙ found

      pub one_stepped : IsMidway opened (plan_of core) time (k + 1) numbers (slice_set members k new) laid
      one_stepped = record {
        same = map-set_same (λ (c : BoxCell). c.number) members k new cell (number ∙ ap (λ (c : BoxCell). c.number)
            (sym (get_or_from_slice_get members k cell cell there))) ∙ midway.same;
        apart = midway.apart;
        are_nodes = midway.are_nodes;
        behind = λ j c found before. elim (cases_eq j k) [
          | inl same ↦ ap (λ (c : BoxCell). c.time) (sym (here_is j c same found)) ∙ gone
          | inr apart ↦ midway.behind j c (there_is j c apart found) (omega (arith, before, apart))
        ];
        ahead = λ j c found from. midway.ahead j c (there_is j c (λ e. omega (arith, e, from)) found) (omega (arith, from));
        nodes = λ j c found opening is. elim (cases_eq j k) [
          | inl same ↦ subst (λ (c : BoxCell). IsRightNode opening c.number c.time c.kind) (here_is j c same found) (right opening is).kind
          | inr apart ↦ midway.nodes j c (there_is j c apart found) opening is
        ];
        moved = λ w j less at before. elim (cases_eq j k) [
          | inl same ↦ (
              let both : Some (mover (plan_of core) time w) ≡ Some cell.number = sym at ∙ ap (slice_get numbers) same ∙ number_at in
              let moves : mover (plan_of core) time w ≡ cell.number = cc in
              let p = whole.all w (less, moves) in
              homes p.0 w p.1)
          | inr apart ↦ home_by w (time + 1) home laid (others w (outside w j at apart)) (midway.moved w j less at (omega (arith, before, apart)))
        ];
        unmoved = λ w j less at from. home_by w time home laid (others w (outside w j at (λ e. omega (arith, e, from))))
            (midway.unmoved w j less at (omega (arith, from)));
        wires = λ opening is. (right opening is).wires;
      }
