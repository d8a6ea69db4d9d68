-- Cells of a side at home: one is seen, one is changed, and a loop over all.
use Rattle.std.proofs.Common.{◌≡◌, ◌<◌, ℕ, List, length, get_or, Option, Some, slice_get, refl, ap, sym, ◌∙◌, subst, arith}
use Rattle.std.proofs.Math.ListN.{set}
use Rattle.std.proofs.lemmas.Option.{slice_get_within, slice_get-get_or}
use Rattle.wire_cells.specs.Cells.{CellView}
use Rattle.wire_cells.specs.Homes.{AreApart, AreAtHome, AreOthersKept}
use Rattle.wire_cells.proofs.AtHome.{others_same, others_both, cell_found, one_set, others_set}

module _ (side : List ℕ) (home : List (Option CellView)) (cells : List CellView) (there : AreAtHome side home cells) (k w : ℕ)
    (here : slice_get side k ≡ Some w) where
  pub inside : k < length cells
  inside = let long = there.long in let less = slice_get_within side k w here in omega (arith, long, less)

  -- the cell of the side at a place is at home at its number
  pub at_home : (d : CellView) → slice_get home w ≡ Some (Some (get_or cells k d))
  at_home d = there.each k w here ∙ ap (λ o. Some o) (slice_get-get_or cells k d inside)

-- one cell of the side is another
module _ (side : List ℕ) (apart : AreApart side) (k w : ℕ) (here : slice_get side k ≡ Some w) (old new : List (Option CellView)) (cell : CellView)
    (is : new ≡ set old w (Some cell)) where
  pub others_by : AreOthersKept side old new
  others_by = subst (AreOthersKept side old) (sym is) (others_set side apart k w here old cell)

  pub cells_by : (cells after : List CellView) → AreAtHome side old cells → set cells k cell ≡ after → AreAtHome side new after
  cells_by cells after at after_is =
      subst (λ home. AreAtHome side home after) (sym is)
      (subst (AreAtHome side (set old w (Some cell))) after_is (one_set side apart k w here old cell cells at))

-- from one home to another nothing but cells of the side has changed, and these as a relation says
pub record AreLed (side : List ℕ) (P : List CellView → List CellView → Type 0) (old new : List (Option CellView)) : Type 0 where
  pub kept : AreOthersKept side old new
  pub each : (before : List CellView) → AreAtHome side old before → (after : List CellView) × AreAtHome side new after × P before after

pub none_led : (side : List ℕ) (P : List CellView → List CellView → Type 0) (home : List (Option CellView))
    → ((cells : List CellView) → AreAtHome side home cells → P cells cells) → AreLed side P home home
none_led side P home same = record { kept = others_same side home; each = λ before at. (before, at, same before at) }

-- the cell of the side at a place, as it is by now
pub record IsCellNow (side : List ℕ) (P : List CellView → List CellView → Type 0) (old now : List (Option CellView)) (k w : ℕ) : Type 0 where
  pub before : List CellView
  pub after : List CellView
  pub cell : CellView
  pub was : AreAtHome side old before
  pub at : AreAtHome side now after
  pub done : P before after
  pub there : slice_get now w ≡ Some (Some cell)
  pub found : slice_get after k ≡ Some cell

pub cell_led : (side : List ℕ) (P : List CellView → List CellView → Type 0) (old now : List (Option CellView)) (k w : ℕ) → slice_get side k ≡ Some w
    → ((before : List CellView) × AreAtHome side old before) → AreLed side P old now → IsCellNow side P old now k w
cell_led side P old now k w here some led =
    let after = led.each some.0 some.1 in
    let cell = cell_found side now after.0 k w after.1 here in
    record {
      before = some.0;
      after = after.0;
      cell = cell.0;
      was = some.1;
      at = after.1;
      done = after.2;
      there = cell.1;
      found = cell.2;
    }

-- one cell more is made from what it was
pub one_led : (side : List ℕ) → AreApart side → (P Q : List CellView → List CellView → Type 0) (old now new : List (Option CellView)) (k w : ℕ)
    (made : CellView → CellView) → slice_get side k ≡ Some w → ((before : List CellView) × AreAtHome side old before) → AreLed side P old now
    → ((cell : CellView) → slice_get now w ≡ Some (Some cell) → new ≡ set now w (Some (made cell)))
    → ((before after : List CellView) (d : CellView) → AreAtHome side old before → k < length after → P before after
    → Q before (set after k (made (get_or after k d))))
    → AreLed side Q old new
one_led side apart P Q old now new k w made here some led is next =
    let first = led.each some.0 some.1 in
    let d = (cell_found side now first.0 k w first.1 here).0 in
    let first_is = is (get_or first.0 k d) (at_home side now first.0 first.1 k w here d) in
    record {
      kept = others_both side old now new led.kept (others_by side apart k w here now new (made (get_or first.0 k d)) first_is);
      each = λ before at.
          let after = led.each before at in
          let cell = made (get_or after.0 k d) in
          let now_is = is (get_or after.0 k d) (at_home side now after.0 after.1 k w here d) in (
            set after.0 k cell,
            cells_by side apart k w here now new cell now_is after.0 (set after.0 k cell) after.1 refl,
            next before after.0 d at (inside side now after.0 after.1 k w here) after.2,
          );
    }

-- what is known of the cells of a side once all are done
pub all_led : (side : List ℕ) (P : List CellView → List CellView → Type 0) (F : List CellView → List CellView) (old new : List (Option CellView))
    → AreLed side P old new → ((before after : List CellView) → length after ≡ length side → P before after → after ≡ F before)
    → (before : List CellView) → AreAtHome side old before → AreAtHome side new (F before)
all_led side P F old new led is before at =
    let after = led.each before at in
    subst (AreAtHome side new) (is before after.0 after.1.long after.2) after.1
