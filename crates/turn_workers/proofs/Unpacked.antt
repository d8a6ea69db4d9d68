-- Items come off the end of a list, and go home.
use Rattle.std.proofs.Common.{◌≡◌, ℕ, suc, ◌+◌, ◌-◌, ◌<◌, ◌≤◌, List, [], ◌∷◌, ◌++◌, take, length, Option, Some, slice_get, slice_set, reverse, ap, sym, ◌∙◌, subst, inl, inr, arith}
use Rattle.std.specs.Option.{option_map}
use Rattle.std.proofs.lemmas.Bool.{cases_eq}
use Rattle.std.proofs.lemmas.List.{get_or-reverse, length-reverse}
use Rattle.std.proofs.lemmas.Option.{slice_get-map, slice_get_within, slice_get-get_or, get_or_from_slice_get}
use Rattle.hume_net.specs.declared.plan.Plan.{Plan}
use Rattle.superstep_core.specs.declared.grouping.Grouping.{Grouping}
use Rattle.superstep_core.specs.Groups.{IsGrouping}
use Rattle.wire_cells.specs.Cells.{CellView}
use Rattle.wire_cells.proofs.AtHome.{set_here, set_elsewhere}
use Rattle.box_step.specs.nodes.Openings.{Opening}
use Rattle.step_turns.proofs.Lists.{last_get, take_get}
use Rattle.turn_workers.specs.declared.cells.Group.{Group as AGroup}
use Rattle.turn_workers.specs.declared.cells.NetCell.{NetCell}
use Rattle.turn_workers.specs.declared.cells.NetCell.TheVariants.{Group, Wire}
use Rattle.turn_workers.specs.declared.items.Item.{Item}
use Rattle.turn_workers.specs.inner.Itemed.{cells_of, AreGroupsOff, AreItems, IsItemAt}

pub last_item : {X : Type 0} (m : ℕ) (all rest : List X) (x : X) → take m all ≡ rest ++ x ∷ [] → length rest < m → slice_get all (length rest) ≡ Some x
last_item m all rest x is less = sym (take_get m all (length rest) less) ∙ ap (λ xs. slice_get xs (length rest)) is ∙ last_get rest x

pub cell_there : {P : Type 0} (items : List (Item P)) (k : ℕ) (item : Item P) → slice_get items k ≡ Some item → slice_get (cells_of items) k ≡ Some item.cell
cell_there {P} items k item at = slice_get-map (λ (i : Item P). i.cell) items k ∙ ap (option_map (λ (i : Item P). i.cell)) at

pub turned : {X : Type 0} (xs : List X) (k : ℕ) (x : X) → slice_get (reverse xs) k ≡ Some x → slice_get xs (length xs - 1 - k) ≡ Some x
turned xs k x at =
    let inside = slice_get_within (reverse xs) k x at in
    let same = length-reverse xs in
    let near : k < length xs = omega (arith, inside, same) in
    slice_get-get_or xs (length xs - 1 - k) x (omega (arith, near)) ∙ ap (λ y. Some y) (sym (get_or-reverse xs k x near)
    ∙ get_or_from_slice_get (reverse xs) k x x at)

pub in_order : (count : ℕ) (cells : List NetCell) (groups : List AGroup) → AreGroupsOff count cells groups → length groups ≡ count
    → (i : ℕ) (group : AGroup) → slice_get (reverse groups) i ≡ Some group → slice_get cells i ≡ Some (Group group)
in_order count cells groups back long i group at =
    let inside = slice_get_within (reverse groups) i group at in
    let same = length-reverse groups in
    let e : count - 1 - (length groups - 1 - i) ≡ i = omega (arith, inside, same, long) in
    ap (slice_get cells) (sym e) ∙ back.each (length groups - 1 - i) group (turned groups i group at)

-- the last item that is left, which has its number and is right
pub taken_item : {P : Type 0} (opened : Opening → Type 0) (plan : Plan) (g : Grouping) (steps m : ℕ) (all now rest : List (Item P)) (item : Item P)
    → AreItems opened plan g steps (cells_of all) → now ≡ take m all → now ≡ rest ++ item ∷ [] → length rest < m
    → (slice_get (cells_of all) (length rest) ≡ Some item.cell) × IsItemAt opened plan g steps (length rest) item.cell
taken_item opened plan g steps m all now rest item items left is less =
    let at = cell_there all (length rest) item (last_item m all rest item (sym left ∙ is) less) in
    (at, items.each (length rest) item.cell at)

wire_same : (a b : CellView) (m n : ℕ) → Some (Wire a m) ≡ Some (Wire b n) → a ≡ b
wire_same a b m n e = let it : a ≡ b = cc in it

-- one crossing wire more is home
module _ (opened : Opening → Type 0) (plan : Plan) (g : Grouping) (steps : ℕ) (grouping : IsGrouping plan g) (cells : List NetCell)
    (items : AreItems opened plan g steps cells) (p n : ℕ) (cell : CellView) (at : slice_get cells p ≡ Some (Wire cell n)) where
  pub number_within : (home : List (Option CellView)) → length home ≡ length plan.producer → cell.number < length home
  number_within home long =
      let is = (items.each p (Wire cell n) at).right in
      let less = (grouping.crosses is.place cell.number is.crosses).0 in
      omega (arith, less, long)

  apart : (q m : ℕ) (other : CellView) → slice_get cells q ≡ Some (Wire other m) → (q ≡ p → ⊥) → cell.number ≡ other.number → ⊥
  apart q m other there differs same =
      let one = (items.each p (Wire cell n) at).right in
      let two = (items.each q (Wire other m) there).right in
      let place = grouping.once one.place two.place cell.number one.crosses (two.crosses ∙ ap (λ x. Some x) (sym same)) in
      let a = (items.each p (Wire cell n) at).number in
      let b = (items.each q (Wire other m) there).number in
      let c = one.number in
      let d = two.number in
      differs (omega (arith, place, a, b, c, d))

  pub one_wire_home : (home : List (Option CellView)) → cell.number < length home
      → ((q m : ℕ) (other : CellView) → suc p ≤ q → slice_get cells q ≡ Some (Wire other m) → slice_get home other.number ≡ Some (Some other))
      → (q m : ℕ) (other : CellView) → p ≤ q → slice_get cells q ≡ Some (Wire other m)
      → slice_get (slice_set home cell.number (Some cell)) other.number ≡ Some (Some other)
  one_wire_home home inside back q m other from there = elim (cases_eq q p) [
    | inl same ↦ (
        let is = wire_same cell other n m (sym at ∙ ap (slice_get cells) (sym same) ∙ there) in
        subst (λ (x : CellView). slice_get (slice_set home cell.number (Some cell)) x.number ≡ Some (Some x)) is
        (set_here home cell.number (Some cell) inside))
    | inr differs ↦ set_elsewhere home cell.number other.number (Some cell) (apart q m other there differs)
        ∙ back q m other (omega (arith, from, differs)) there
  ]
