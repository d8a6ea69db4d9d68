-- What is left in cells once values are taken.
use Rattle.std.proofs.Common.{◌≡◌, ℕ, zero, suc, ◌<◌, min, Bool, true, false, cond, List, [], ◌∷◌, ◌++◌, length, map, take, drop, get_or, slice_set, Option, Some, slice_get, refl, ap, sym, ◌∙◌, subst, arith}
use Rattle.std.proofs.lemmas.Option.{get_or_from_slice_get}
use Rattle.hume_base.specs.declared.types.Ty.{Ty}
use Rattle.hume_base.specs.declared.types.Value.{Value}
use Rattle.hume_model.specs.declared.core_tree.Core.{Core}
use Rattle.hume_model.specs.declared.core_tree.InPat.{InPat}
use Rattle.hume_model.specs.declared.core_tree.InPat.TheVariants.{Star, AnyStar, Any, Built}
use Rattle.hume_model.specs.Matching.{taken_by, taken_at}
use Rattle.hume_net.specs.HalfSteps.{oldest, without_oldest, without_taken}
use Rattle.wire_cells.specs.Cells.{CellView, without_values}
use Rattle.wire_cells.specs.Homes.{AreApart, AreAtHome}
use Rattle.wire_cells.proofs.AtHome.{one_set}
use Rattle.wire_cells.proofs.Holding.{less_held}
use Rattle.match_rules.specs.Inputs.{IsCellOf, AreCellsOf, left_in}
use Rattle.match_rules.specs.inner.Consuming.{consumed_at, consumed}

consumed_next : (pats : List InPat) (cells : List CellView) (i : ℕ) (p : InPat) (d : CellView) → i < length pats → i < length cells
    → slice_set (consumed (take i pats) (take i cells) ++ drop i cells) i
    (consumed_at (get_or pats i p) (get_or (consumed (take i pats) (take i cells) ++ drop i cells) i d))
    ≡ consumed (take (suc i) pats) (take (suc i) cells) ++ drop (suc i) cells
consumed_next [] cells i p d less fits = absurd (omega (arith, less))
consumed_next (pat ∷ pats) [] i p d less fits = absurd (omega (arith, fits))
consumed_next (pat ∷ pats) (cell ∷ cells) zero p d less fits = refl
consumed_next (pat ∷ pats) (cell ∷ cells) (suc i) p d less fits = ap (λ cs. consumed_at pat cell ∷ cs)
    (consumed_next pats cells i p d (omega (arith, less)) (omega (arith, fits)))

-- a cell whose turn is still to come is as it was
still_there : (pats : List InPat) (cells : List CellView) (i : ℕ) (d : CellView) → i < length pats → i < length cells
    → get_or (consumed (take i pats) (take i cells) ++ drop i cells) i d ≡ get_or cells i d
still_there [] cells i d less fits = absurd (omega (arith, less))
still_there (pat ∷ pats) [] i d less fits = absurd (omega (arith, fits))
still_there (pat ∷ pats) (cell ∷ cells) zero d less fits = refl
still_there (pat ∷ pats) (cell ∷ cells) (suc i) d less fits = still_there pats cells i d (omega (arith, less)) (omega (arith, fits))

-- the cell that is at home at a number whose turn is still to come
pub here_still : (side : List ℕ) (home : List (Option CellView)) (pats : List InPat) (cells : List CellView) (i w : ℕ) (cell : CellView)
    → AreAtHome side home (consumed (take i pats) (take i cells) ++ drop i cells) → slice_get side i ≡ Some w → slice_get home w ≡ Some (Some cell)
    → i < length pats → i < length cells → cell ≡ get_or cells i cell
here_still side home pats cells i w cell at here there less fits =
    let done = consumed (take i pats) (take i cells) ++ drop i cells in
    let found : slice_get done i ≡ Some cell = (let both : Some (slice_get done i) ≡ Some (Some cell) = sym (at.each i w here) ∙ there in cc) in
    sym (get_or_from_slice_get done i cell cell found) ∙ still_there pats cells i cell less fits

-- one position more
pub next_home : (side : List ℕ) → AreApart side → (home : List (Option CellView)) (pats : List InPat) (cells : List CellView) (i w : ℕ) (pat : InPat)
    (cell new : CellView) → AreAtHome side home (consumed (take i pats) (take i cells) ++ drop i cells) → slice_get side i ≡ Some w
    → slice_get home w ≡ Some (Some cell) → i < length pats → i < length cells → pat ≡ get_or pats i pat → new ≡ consumed_at pat cell
    → AreAtHome side (slice_set home w (Some new)) (consumed (take (suc i) pats) (take (suc i) cells) ++ drop (suc i) cells)
next_home side apart home pats cells i w pat cell new at here there less fits is left =
    let done = consumed (take i pats) (take i cells) ++ drop i cells in
    let now : cell ≡ get_or done i cell = here_still side home pats cells i w cell at here there less fits ∙ sym (still_there pats cells i cell less fits) in
    let next : new ≡ consumed_at (get_or pats i pat) (get_or done i cell) = left ∙ ap (λ p. consumed_at p cell) is ∙ ap (consumed_at (get_or pats i pat)) now in
    subst (AreAtHome side (slice_set home w (Some new))) (ap (slice_set done i) next ∙ consumed_next pats cells i pat cell less fits)
    (one_set side apart i w here home new done at)

none_consumed : (cells : List CellView) → consumed [] cells ≡ cells
none_consumed [] = refl
none_consumed (cell ∷ cells) = refl

pub consumed_all : (pats : List InPat) (cells : List CellView) (n : ℕ) → n ≡ min (length pats) (length cells)
    → consumed (take n pats) (take n cells) ++ drop n cells ≡ consumed pats cells
consumed_all [] cells n is = ap (λ k. consumed (take k []) (take k cells) ++ drop k cells) (let e : n ≡ 0 = omega (arith, is) in e) ∙ sym (none_consumed cells)
consumed_all (pat ∷ pats) [] n is = ap (λ k. consumed (take k (pat ∷ pats)) (take k []) ++ drop k []) (let e : n ≡ 0 = omega (arith, is) in e)
consumed_all (pat ∷ pats) (cell ∷ cells) zero is = absurd (omega (arith, is))
consumed_all (pat ∷ pats) (cell ∷ cells) (suc n) is = ap (λ cs. consumed_at pat cell ∷ cs) (consumed_all pats cells n (omega (arith, is)))

one_kept : (pat : InPat) (cell : CellView) → without_values (consumed_at pat cell) ≡ without_values cell
one_kept Star cell = refl
one_kept AnyStar cell = refl
one_kept Any cell = refl
one_kept (Built p) cell = refl

-- all but the values stays
pub consumed_kept : (pats : List InPat) (cells : List CellView) → map without_values (consumed pats cells) ≡ map without_values cells
consumed_kept pats [] = refl
consumed_kept [] (cell ∷ cells) = refl
consumed_kept (pat ∷ pats) (cell ∷ cells) =
    ap (λ c. c ∷ map without_values (consumed pats cells)) (one_kept pat cell) ∙ ap (λ cs. without_values cell ∷ cs) (consumed_kept pats cells)

-- without a value there is nothing to drop
none_there : (cell : CellView) → cell.values ≡ [] → record cell { values = drop 1 cell.values } ≡ cell
none_there cell is = ap (λ vs. record cell { values = drop 1 vs }) is ∙ ap (λ vs. record cell { values = vs }) (sym is)

taken_here : (core : Core) (type : Ty) (pat : InPat) (cell : CellView) (held : List Value) → IsCellOf core type cell held
    → consumed_at pat cell ≡ cond (taken_by pat (oldest held)) (record cell { values = drop 1 cell.values }) cell
taken_here core type Star cell held is = refl
taken_here core type AnyStar cell [] is = none_there cell is.holds.words
taken_here core type AnyStar cell (v ∷ held) is = refl
taken_here core type Any cell held is = refl
taken_here core type (Built p) cell held is = refl

pub consumed_taken : (core : Core) (types : List Ty) (pats : List InPat) (cells : List CellView) (values : List (List Value))
    → AreCellsOf core types cells values
    → consumed pats cells ≡ left_in (taken_at pats (map oldest values)) cells
consumed_taken core types [] [] values cells = refl
consumed_taken core types [] (cell ∷ others) values cells = refl
consumed_taken core types (pat ∷ pats) [] values cells = refl
consumed_taken core [] (pat ∷ pats) (cell ∷ others) values cells = elim cells [ ]
consumed_taken core (type ∷ types) (pat ∷ pats) (cell ∷ others) [] cells = elim cells [ ]
consumed_taken core (type ∷ types) (pat ∷ pats) (cell ∷ others) (held ∷ values) (AreCellsOf.more one rest) =
    ap (λ c. c ∷ consumed pats others) (taken_here core type pat cell held one)
    ∙ ap (λ cs. cond (taken_by pat (oldest held)) (record cell { values = drop 1 cell.values }) cell ∷ cs) (consumed_taken core types pats others values rest)

less_of : (core : Core) (type : Ty) (cell : CellView) (held : List Value) → IsCellOf core type cell held
    → IsCellOf core type (record cell { values = drop 1 cell.values }) (without_oldest held)
less_of core type cell [] is = subst (λ c. IsCellOf core type c []) (sym (none_there cell is.holds.words)) is
less_of core type cell (v ∷ held) is = record {
  wire = is.wire;
  there = is.there;
  ty = is.ty;
  holds = less_held core.types is.wire cell v held is.holds;
}

left_one : (core : Core) (type : Ty) (cell : CellView) (held : List Value) (taken : Bool) → IsCellOf core type cell held
    → IsCellOf core type (cond taken (record cell { values = drop 1 cell.values }) cell) (cond taken (without_oldest held) held)
left_one core type cell held true is = less_of core type cell held is
left_one core type cell held false is = is

pub left_held : (core : Core) {types : List Ty} {cells : List CellView} {values : List (List Value)} (taken : List Bool) → AreCellsOf core types cells values
    → AreCellsOf core types (left_in taken cells) (without_taken taken values)
left_held core [] AreCellsOf.none = AreCellsOf.none
left_held core (t ∷ taken) AreCellsOf.none = AreCellsOf.none
left_held core [] (AreCellsOf.more one rest) = AreCellsOf.more one rest
left_held core (t ∷ taken) (AreCellsOf.more {type = type} {cell = cell} {held = held} one rest) = AreCellsOf.more (left_one core type cell held t one)
    (left_held core taken rest)
