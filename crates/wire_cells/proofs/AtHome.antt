-- Cells at home, one of them changed.
use Rattle.std.proofs.Common.{◌≡◌, ◌<◌, ℕ, zero, suc, List, [], ◌∷◌, length, get_or, Option, Some, slice_get, slice_set, refl, ap, sym, ◌∙◌, inl, inr, arith}
use Rattle.std.proofs.lemmas.Bool.{cases_eq}
use Rattle.std.proofs.lemmas.List.{length-set}
use Rattle.std.proofs.lemmas.Option.{slice_get-get_or, slice_get_within}
use Rattle.wire_cells.specs.Cells.{CellView}
use Rattle.wire_cells.specs.Homes.{AreApart, AreAtHome, AreOthersKept}

pub set_here : {X : Type 0} (xs : List X) (i : ℕ) (y : X) → i < length xs → slice_get (slice_set xs i y) i ≡ Some y
set_here [] i y less = absurd (omega (arith, less))
set_here (x ∷ xs) zero y less = refl
set_here (x ∷ xs) (suc i) y less = set_here xs i y (omega (arith, less))

pub set_elsewhere : {X : Type 0} (xs : List X) (i j : ℕ) (y : X) → (i ≡ j → ⊥) → slice_get (slice_set xs i y) j ≡ slice_get xs j
set_elsewhere [] i j y other = refl
set_elsewhere (x ∷ xs) zero zero y other = absurd (other refl)
set_elsewhere (x ∷ xs) zero (suc j) y other = refl
set_elsewhere (x ∷ xs) (suc i) zero y other = refl
set_elsewhere (x ∷ xs) (suc i) (suc j) y other = set_elsewhere xs i j y (λ e. other (ap suc e))

pub others_same : (side : List ℕ) (home : List (Option CellView)) → AreOthersKept side home home
others_same side home = record { others = λ w out. refl; same = refl }

pub others_both : (side : List ℕ) (first second third : List (Option CellView)) → AreOthersKept side first second → AreOthersKept side second third
    → AreOthersKept side first third
others_both side first second third early late = record {
  others = λ w out. late.others w out ∙ early.others w out;
  same = late.same ∙ early.same;
}

-- the cell of a place of the side
pub cell_there : (side : List ℕ) (home : List (Option CellView)) (cells : List CellView) (k : ℕ) (d : CellView) → AreAtHome side home cells → k < length side
    → slice_get home (get_or side k 0) ≡ Some (Some (get_or cells k d))
cell_there side home cells k d at less =
    let long = at.long in
    at.each k (get_or side k 0) (slice_get-get_or side k 0 less) ∙ ap (λ o. Some o) (slice_get-get_or cells k d (omega (arith, long, less)))

get_inside : {X : Type 0} (xs : List X) (k : ℕ) → k < length xs → (x : X) × (slice_get xs k ≡ Some x)
get_inside [] k less = absurd (omega (arith, less))
get_inside (x ∷ xs) zero less = (x, refl)
get_inside (x ∷ xs) (suc k) less = get_inside xs k (omega (arith, less))

pub cell_found : (side : List ℕ) (home : List (Option CellView)) (cells : List CellView) (k w : ℕ) → AreAtHome side home cells → slice_get side k ≡ Some w
    → (cell : CellView) × (slice_get home w ≡ Some (Some cell)) × (slice_get cells k ≡ Some cell)
cell_found side home cells k w at here =
    let long = at.long in
    let inside = slice_get_within side k w here in
    let found = get_inside cells k (omega (arith, long, inside)) in
    (found.0, at.each k w here ∙ ap (λ o. Some o) found.1, found.1)

-- the cell that is at home at a number is the one in the number's place
pub same_cell : (side : List ℕ) (home : List (Option CellView)) (cells : List CellView) (k w : ℕ) (cell : CellView) → AreAtHome side home cells
    → slice_get side k ≡ Some w → slice_get home w ≡ Some (Some cell) → slice_get cells k ≡ Some cell
same_cell side home cells k w cell at here there =
    let both : Some (slice_get cells k) ≡ Some (Some cell) = sym (at.each k w here) ∙ there in cc

-- a number of the side is one of home
pub number_within : (side : List ℕ) (home : List (Option CellView)) (cells : List CellView) (k w : ℕ) → AreAtHome side home cells → slice_get side k ≡ Some w
    → w < length home
number_within side home cells k w at here = slice_get_within home w (slice_get cells k) (at.each k w here)

module _ (side : List ℕ) (apart : AreApart side) (k w : ℕ) (here : slice_get side k ≡ Some w) (home : List (Option CellView)) (cell : CellView) where
  -- the cell of one number of the side is another
  pub one_set : (cells : List CellView) → AreAtHome side home cells → AreAtHome side (slice_set home w (Some cell)) (slice_set cells k cell)
  one_set cells at = record {
    long = length-set cells k cell ∙ at.long;
    each = λ j v there. elim (cases_eq j k) [
      | inl same ↦ (let number : v ≡ w = (let both : Some v ≡ Some w = sym there ∙ ap (slice_get side) same ∙ here in cc) in
          let long = at.long in
          let inside = slice_get_within side k w here in
          ap (slice_get (slice_set home w (Some cell))) number ∙ set_here home w (Some cell) (number_within side home cells k w at here)
          ∙ ap (λ o. Some o) (sym (set_here cells k cell (omega (arith, long, inside)))) ∙ ap (λ n. Some (slice_get (slice_set cells k cell) n)) (sym same))
      | inr other ↦ (
          set_elsewhere home w v (Some cell) (λ e. other (sym (apart.once k j w here (there ∙ ap (λ n. Some n) (sym e)))))
          ∙ at.each j v there ∙ ap (λ o. Some o) (sym (set_elsewhere cells k j cell (λ e. other (sym e)))))
    ];
  }

  pub others_set : AreOthersKept side home (slice_set home w (Some cell))
  others_set = record {
    others = λ v out. set_elsewhere home w v (Some cell) (λ e. out k (here ∙ ap (λ n. Some n) e));
    same = length-set home w (Some cell);
  }

same_lists : {X : Type 0} (xs ys : List X) → length xs ≡ length ys → ((k : ℕ) → k < length xs → slice_get xs k ≡ slice_get ys k) → xs ≡ ys
same_lists [] [] long each = refl
same_lists [] (y ∷ ys) long each = absurd (omega (arith, long))
same_lists (x ∷ xs) [] long each = absurd (omega (arith, long))
same_lists (x ∷ xs) (y ∷ ys) long each =
    let first : x ≡ y = (let both : Some x ≡ Some y = each 0 (omega arith) in cc) in
    ap (λ z. z ∷ xs) first ∙ ap (λ zs. y ∷ zs) (same_lists xs ys (omega (arith, long)) (λ k less. each (suc k) (omega (arith, less))))

-- a side has one list of cells at home
pub same_cells : (side : List ℕ) (home : List (Option CellView)) (cells others : List CellView) → AreAtHome side home cells → AreAtHome side home others
    → cells ≡ others
same_cells side home cells others at again =
    let long = at.long in
    let other_long = again.long in
    same_lists cells others (long ∙ sym other_long) (λ k less.
    let here = slice_get-get_or side k 0 (omega (arith, long, less)) in
    let both : Some (slice_get cells k) ≡ Some (slice_get others k) = sym (at.each k (get_or side k 0) here) ∙ again.each k (get_or side k 0) here in cc)
