-- Loops over the cells of a side.
use Rattle.std.proofs.Common.{◌≡◌, ◌≤◌, ◌<◌, ◌+◌, ◌^◌, ◌&&◌, ℕ, zero, suc, true, false, List, [], ◌∷◌, ◌++◌, map, length, take, drop, get_or, Option, Some, slice_get, refl, ap, sym, ◌∙◌, subst, append_assoc, append-nil, arith}
use Rattle.std.proofs.Math.ListN.{set}
use Rattle.std.proofs.Math.Seq.{drop-cons}
use Rattle.std.proofs.lemmas.Bool.{and_parts}
use Rattle.std.proofs.lemmas.Option.{slice_get-get_or, slice_get_within, get_or_from_slice_get}
use Rattle.std.proofs.lemmas.List.{take_more_set, drop-set-lt, take_all, drop_all}
use Rattle.wire_cells.specs.Cells.{CellView}
use Rattle.match_rules.specs.Outputs.{has_room_for, have_room_for, cell_with, cells_with, FitCells}
use Rattle.box_step.specs.nodes.Sides.{ticked}

-- one cell more is done, of which this is made; F says what is made of those from a place on
module _ (F : ℕ → List CellView → List CellView) (made : ℕ → CellView → CellView)
    (more : (i : ℕ) (cell : CellView) (cells : List CellView) → F i (cell ∷ cells) ≡ made i cell ∷ F (suc i) cells) where
  one_done : (cells : List CellView) (i : ℕ) (d new : CellView) → i < length cells → new ≡ made i (get_or cells i d)
      → take (suc i) (set cells i new) ++ F (suc i) (drop (suc i) (set cells i new)) ≡ take i cells ++ F i (drop i cells)
  one_done cells i d new less is =
      let front : take (suc i) (set cells i new) ≡ take i cells ++ new ∷ [] =
      ap (λ k. take k (set cells i new)) (let e : suc i ≡ i + 1 = omega arith in e) ∙ take_more_set cells i new less in
      let back : drop (suc i) (set cells i new) ≡ drop (suc i) cells = drop-set-lt (suc i) cells i new (omega arith) in
      ap (λ xs. xs ++ F (suc i) (drop (suc i) (set cells i new))) front
      ∙ ap (λ xs. (take i cells ++ new ∷ []) ++ F (suc i) xs) back
      ∙ append_assoc (take i cells) (new ∷ []) (F (suc i) (drop (suc i) cells))
      ∙ ap (λ x. take i cells ++ x ∷ F (suc i) (drop (suc i) cells)) is
      ∙ ap (λ xs. take i cells ++ xs) (sym (more i (get_or cells i d) (drop (suc i) cells)))
      ∙ ap (λ xs. take i cells ++ F i xs) (sym (drop-cons cells i d less))

all_done : (F : ℕ → List CellView → List CellView) (cells : List CellView) (i : ℕ) → F i [] ≡ [] → length cells ≤ i → take i cells ++ F i (drop i cells) ≡ cells
all_done F cells i none past =
    ap (λ xs. take i cells ++ F i xs) (drop_all i cells past) ∙ ap (λ xs. take i cells ++ xs) none
    ∙ append-nil (take i cells) ∙ take_all i cells past

-- what stands at a later place stays
later_kept : {X : Type 0} (xs : List X) (i k : ℕ) (y x : X) → suc i ≤ k → slice_get (set xs i y) k ≡ Some x → slice_get xs k ≡ Some x
later_kept [] i k y x later found = found
later_kept (z ∷ xs) zero zero y x later found = absurd (omega (arith, later))
later_kept (z ∷ xs) zero (suc k) y x later found = found
later_kept (z ∷ xs) (suc i) zero y x later found = absurd (omega (arith, later))
later_kept (z ∷ xs) (suc i) (suc k) y x later found = later_kept xs i k y x (omega (arith, later)) found

-- outputs that are put into cells that go on: those before a place are, and those from it on are early, have room and fit
pub record ArePut (outputs : ℕ → Option (List ℕ)) (i : ℕ) (old now : List CellView) : Type 0 where
  pub done : take i now ++ map ticked (cells_with outputs i (drop i now)) ≡ map ticked (cells_with outputs 0 old)
  pub early : (k : ℕ) (cell : CellView) → i ≤ k → slice_get now k ≡ Some cell → cell.time < 2 ^ 40
  pub room : have_room_for outputs i (drop i now) ≡ true
  pub fit : FitCells outputs i (drop i now)

module _ (outputs : ℕ → Option (List ℕ)) (i : ℕ) (old now : List CellView) (d : CellView) (less : i < length now) (are : ArePut outputs i old now) where
  here : drop i now ≡ get_or now i d ∷ drop (suc i) now
  here = drop-cons now i d less

  room_parts : (has_room_for (outputs i) (get_or now i d) ≡ true) × (have_room_for outputs (suc i) (drop (suc i) now) ≡ true)
  room_parts = and_parts _ _ (sym (ap (have_room_for outputs i) here) ∙ are.room)

  fit_parts : FitCells outputs i (get_or now i d ∷ drop (suc i) now)
  fit_parts = subst (FitCells outputs i) here are.fit

  pub room_here : has_room_for (outputs i) (get_or now i d) ≡ true
  room_here = room_parts.0

  pub fit_here : (words : List ℕ) → outputs i ≡ Some words → length words ≡ (get_or now i d).size
  fit_here = fit_parts.0

  pub early_here : (get_or now i d).time < 2 ^ 40
  early_here = are.early i (get_or now i d) (omega arith) (slice_get-get_or now i d less)

  pub one_put : (new : CellView) → new ≡ ticked (cell_with (outputs i) (get_or now i d)) → ArePut outputs (i + 1) old (set now i new)
  one_put new is =
      let back : drop (suc i) (set now i new) ≡ drop (suc i) now = drop-set-lt (suc i) now i new (omega arith) in
      let next : ArePut outputs (suc i) old (set now i new) = record {
        done = one_done (λ k cells. map ticked (cells_with outputs k cells)) (λ k cell. ticked (cell_with (outputs k) cell)) (λ k cell cells. refl) now i d new
            less is ∙ are.done;
        early = λ k cell later found. are.early k cell (omega (arith, later)) (later_kept now i k new cell later found);
        room = ap (have_room_for outputs (suc i)) back ∙ room_parts.1;
        fit = subst (FitCells outputs (suc i)) (sym back) fit_parts.1;
      } in
      subst (λ k. ArePut outputs k old (set now i new)) (let e : suc i ≡ i + 1 = omega arith in e) next

pub all_put : (outputs : ℕ → Option (List ℕ)) (i : ℕ) (old now : List CellView) → length now ≤ i → ArePut outputs i old now
    → now ≡ map ticked (cells_with outputs 0 old)
all_put outputs i old now past are = sym (all_done (λ k cells. map ticked (cells_with outputs k cells)) now i refl past) ∙ are.done

-- room for outputs

room_next : (outputs : ℕ → Option (List ℕ)) (cells : List CellView) (i : ℕ) (cell : CellView) → slice_get cells i ≡ Some cell
    → have_room_for outputs i (drop i cells) ≡ (has_room_for (outputs i) cell && have_room_for outputs (i + 1) (drop (i + 1) cells))
room_next outputs cells i cell there =
    let next : suc i ≡ i + 1 = omega arith in
    ap (have_room_for outputs i) (drop-cons cells i cell (slice_get_within cells i cell there))
    ∙ ap (λ x. has_room_for (outputs i) x && have_room_for outputs (suc i) (drop (suc i) cells)) (get_or_from_slice_get cells i cell cell there)
    ∙ ap (λ k. has_room_for (outputs i) cell && have_room_for outputs k (drop k cells)) next

-- a cell has none
pub no_room_here : (outputs : ℕ → Option (List ℕ)) (cells : List CellView) (i : ℕ) (cell : CellView) → slice_get cells i ≡ Some cell
    → has_room_for (outputs i) cell ≡ false → have_room_for outputs i (drop i cells) ≡ false
no_room_here outputs cells i cell there none =
    room_next outputs cells i cell there ∙ ap (λ r. r && have_room_for outputs (i + 1) (drop (i + 1) cells)) none

-- a cell has some
pub room_goes_on : (outputs : ℕ → Option (List ℕ)) (cells : List CellView) (i : ℕ) (cell : CellView) → slice_get cells i ≡ Some cell
    → has_room_for (outputs i) cell ≡ true → have_room_for outputs i (drop i cells) ≡ have_room_for outputs (i + 1) (drop (i + 1) cells)
room_goes_on outputs cells i cell there some =
    room_next outputs cells i cell there ∙ ap (λ r. r && have_room_for outputs (i + 1) (drop (i + 1) cells)) some

-- there are no more cells
pub no_more_room : (outputs : ℕ → Option (List ℕ)) (cells : List CellView) (i : ℕ) → length cells ≤ i → have_room_for outputs i (drop i cells) ≡ true
no_more_room outputs cells i past = ap (have_room_for outputs i) (drop_all i cells past)

-- cells that go on: those before a place have, and those from it on are early
pub record AreTicking (i : ℕ) (old now : List CellView) : Type 0 where
  pub done : take i now ++ map ticked (drop i now) ≡ map ticked old
  pub early : (k : ℕ) (cell : CellView) → i ≤ k → slice_get now k ≡ Some cell → cell.time < 2 ^ 40

pub one_ticked : (i : ℕ) (old now : List CellView) (d new : CellView) → i < length now → AreTicking i old now → new ≡ ticked (get_or now i d)
    → AreTicking (i + 1) old (set now i new)
one_ticked i old now d new less ticking is =
    let next : AreTicking (suc i) old (set now i new) = record {
      done = one_done (λ k cells. map ticked cells) (λ k cell. ticked cell) (λ k cell cells. refl) now i d new less is ∙ ticking.done;
      early = λ k cell later found. ticking.early k cell (omega (arith, later)) (later_kept now i k new cell later found);
    } in
    subst (λ k. AreTicking k old (set now i new)) (let e : suc i ≡ i + 1 = omega arith in e) next

pub every_ticked : (i : ℕ) (old now : List CellView) → length now ≤ i → AreTicking i old now → now ≡ map ticked old
every_ticked i old now past ticking = sym (all_done (λ k cells. map ticked cells) now i refl past) ∙ ticking.done
