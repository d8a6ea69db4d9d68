-- What asserting leaves in cells, of outputs that are the words of values.
use Rattle.std.proofs.Common.{◌≡◌, ℕ, suc, ◌+◌, ◌&&◌, Bool, true, false, if◌then◌else◌, List, [], ◌∷◌, ◌++◌, map, length, Option, Some, None, slice_get, refl, ap, sym, ◌∙◌, subst, append-nil, arith}
use Rattle.std.specs.Option.{option_map, option_to_list}
use Rattle.std.proofs.lemmas.Bool.{and_parts}
use Rattle.hume_base.specs.declared.types.Ty.{Ty}
use Rattle.hume_base.specs.declared.types.Value.{Value}
use Rattle.hume_base.specs.Flat.{flat}
use Rattle.hume_base.specs.Values.{is_value}
use Rattle.hume_base.proofs.FlatLengths.{flat_long}
use Rattle.hume_model.specs.declared.core_tree.Core.{Core}
use Rattle.hume_model.specs.ResultTyping.{are_outputs}
use Rattle.hume_net.specs.declared.state.Part.{Part}
use Rattle.hume_net.specs.declared.state.HalfStep.{HalfStep}
use Rattle.hume_net.specs.HalfSteps.{have_room, with_asserted, asserted, idle}
use Rattle.wire_cells.specs.Cells.{CellView, Holds, cell_has_room, without_values}
use Rattle.wire_cells.proofs.Holding.{more_held}
use Rattle.match_rules.specs.Inputs.{IsCellOf, AreCellsOf}
use Rattle.match_rules.specs.Outputs.{value_at, AreWordsOfOutputs, has_room_for, have_room_for, cell_with, cells_with, asserted_in, FitCells}
use Rattle.match_rules.proofs.TypedCells.{whole_words}

-- cells keep all but their values

one_kept : (output : Option (List ℕ)) (cell : CellView) → without_values (cell_with output cell) ≡ without_values cell
one_kept None cell = refl
one_kept (Some words) cell = refl

all_kept : (outputs : ℕ → Option (List ℕ)) (place : ℕ) (cells : List CellView) → map without_values (cells_with outputs place cells) ≡ map without_values cells
all_kept outputs place [] = refl
all_kept outputs place (cell ∷ cells) =
    ap (λ c. c ∷ map without_values (cells_with outputs (suc place) cells)) (one_kept (outputs place) cell)
    ∙ ap (λ cs. without_values cell ∷ cs) (all_kept outputs (suc place) cells)

kept_when : (roomy : Bool) (outputs : ℕ → Option (List ℕ)) (cells : List CellView)
    → map without_values (if roomy then cells_with outputs 0 cells else cells) ≡ map without_values cells
kept_when true outputs cells = all_kept outputs 0 cells
kept_when false outputs cells = refl

pub asserted_kept : (outputs : ℕ → Option (List ℕ)) (cells : List CellView) → map without_values (asserted_in outputs cells) ≡ map without_values cells
asserted_kept outputs cells = kept_when (have_room_for outputs 0 cells) outputs cells

module _ (core : Core) (outputs : ℕ → Option (List ℕ)) where
  -- the outputs from a place on are those of the values
  abbrev Give : ℕ → List Ty → List (Option Value) → Type 0
  Give place tys values = (i : ℕ) (ty : Ty) → slice_get tys i ≡ Some ty → outputs (place + i) ≡ option_map (flat core.types ty) (value_at values i)

  first_given : (place : ℕ) (ty : Ty) (tys : List Ty) (values : List (Option Value)) → Give place (ty ∷ tys) values
      → outputs place ≡ option_map (flat core.types ty) (value_at values 0)
  first_given place ty tys values give = ap outputs (let e : place ≡ place + 0 = omega arith in e) ∙ give 0 ty refl

  later_given : (place : ℕ) (ty : Ty) (tys : List Ty) (value : Option Value) (values : List (Option Value)) → Give place (ty ∷ tys) (value ∷ values)
      → Give (suc place) tys values
  later_given place ty tys value values give = λ i t is. ap outputs (let e : suc place + i ≡ place + suc i = omega arith in e) ∙ give (suc i) t is

  none_given : (place : ℕ) (ty : Ty) (tys : List Ty) → Give place (ty ∷ tys) [] → Give (suc place) tys []
  none_given place ty tys give = λ i t is. ap outputs (let e : suc place + i ≡ place + suc i = omega arith in e) ∙ give (suc i) t is

  -- without values nothing is asserted

  none_roomy : (place : ℕ) {tys : List Ty} {cells : List CellView} {wires : List (List Value)} → AreCellsOf core tys cells wires → Give place tys []
      → have_room_for outputs place cells ≡ true
  none_roomy place AreCellsOf.none give = refl
  none_roomy place (AreCellsOf.more {type = ty} {types = tys} {cell = cell} {cells = cells} one rest) give =
      ap (λ o. has_room_for o cell && have_room_for outputs (suc place) cells) (first_given place ty tys [] give)
      ∙ none_roomy (suc place) rest (none_given place ty tys give)

  none_fit : (place : ℕ) {tys : List Ty} {cells : List CellView} {wires : List (List Value)} → AreCellsOf core tys cells wires → Give place tys []
      → FitCells outputs place cells
  none_fit place AreCellsOf.none give = tt
  none_fit place (AreCellsOf.more {type = ty} {types = tys} one rest) give =
      ((λ words is. let both : None ≡ Some words = sym (first_given place ty tys [] give) ∙ is in cc), none_fit (suc place) rest (none_given place ty tys give))

  none_put : (place : ℕ) {tys : List Ty} {cells : List CellView} {wires : List (List Value)} → AreCellsOf core tys cells wires → Give place tys []
      → cells_with outputs place cells ≡ cells
  none_put place AreCellsOf.none give = refl
  none_put place (AreCellsOf.more {type = ty} {types = tys} {cell = cell} {cells = cells} one rest) give =
      ap (λ o. cell_with o cell ∷ cells_with outputs (suc place) cells) (first_given place ty tys [] give)
      ∙ ap (λ cs. cell ∷ cs) (none_put (suc place) rest (none_given place ty tys give))

  -- with values

  room_from : (place : ℕ) {tys : List Ty} {cells : List CellView} {wires : List (List Value)} → AreCellsOf core tys cells wires → (values : List (Option Value))
      → Give place tys values → have_room_for outputs place cells ≡ have_room values (map cell_has_room cells)
  room_from place AreCellsOf.none [] give = refl
  room_from place AreCellsOf.none (v ∷ values) give = refl
  room_from place (AreCellsOf.more one rest) [] give = none_roomy place (AreCellsOf.more one rest) give
  room_from place (AreCellsOf.more {type = ty} {types = tys} {cell = cell} {cells = cells} one rest) (None ∷ values) give =
      ap (λ o. has_room_for o cell && have_room_for outputs (suc place) cells) (first_given place ty tys (None ∷ values) give)
      ∙ room_from (suc place) rest values (later_given place ty tys None values give)
  room_from place (AreCellsOf.more {type = ty} {types = tys} {cell = cell} {cells = cells} one rest) (Some v ∷ values) give =
      ap (λ o. has_room_for o cell && have_room_for outputs (suc place) cells) (first_given place ty tys (Some v ∷ values) give)
      ∙ ap (λ b. cell_has_room cell && b) (room_from (suc place) rest values (later_given place ty tys (Some v) values give))

  fit_from : (place : ℕ) {tys : List Ty} {cells : List CellView} {wires : List (List Value)} → AreCellsOf core tys cells wires → (values : List (Option Value))
      → Give place tys values → are_outputs core.types tys values ≡ true → FitCells outputs place cells
  fit_from place AreCellsOf.none values give typed = tt
  fit_from place (AreCellsOf.more one rest) [] give typed = none_fit place (AreCellsOf.more one rest) give
  fit_from place (AreCellsOf.more {type = ty} {types = tys} one rest) (None ∷ values) give typed = (
    (λ words is. let both : None ≡ Some words = sym (first_given place ty tys (None ∷ values) give) ∙ is in cc),
    fit_from (suc place) rest values (later_given place ty tys None values give) typed,
  )
  fit_from place (AreCellsOf.more {type = ty} {types = tys} one rest) (Some v ∷ values) give typed =
      let parts = and_parts (is_value core.types ty v) (are_outputs core.types tys values) typed in (
        (λ words is.
            let both : Some (flat core.types ty v) ≡ Some words = sym (first_given place ty tys (Some v ∷ values) give) ∙ is in
            let same : flat core.types ty v ≡ words = cc in
            ap length (sym same) ∙ flat_long core.types ty v parts.0 ∙ sym (whole_words one)),
        fit_from (suc place) rest values (later_given place ty tys (Some v) values give) parts.1,
      )

  kept_held : (ty : Ty) (cell : CellView) (held : List Value) (output : Option (List ℕ)) → output ≡ None → IsCellOf core ty cell held
      → IsCellOf core ty (cell_with output cell) (held ++ option_to_list None)
  kept_held ty cell held output none is =
      subst (λ o. IsCellOf core ty (cell_with o cell) (held ++ option_to_list None)) (sym none) (subst (IsCellOf core ty cell) (sym (append-nil held)) is)

  put_held : (ty : Ty) (cell : CellView) (held : List Value) (v : Value) (output : Option (List ℕ)) → output ≡ Some (flat core.types ty v)
      → IsCellOf core ty cell held → is_value core.types ty v ≡ true → IsCellOf core ty (cell_with output cell) (held ++ option_to_list (Some v))
  put_held ty cell held v output some is typed =
      let same = sym is.ty in
      subst (λ o. IsCellOf core ty (cell_with o cell) (held ++ option_to_list (Some v))) (sym some)
      (record {
        wire = is.wire;
        there = is.there;
        ty = is.ty;
        holds = subst (λ t. Holds core.types is.wire (record cell { values = cell.values ++ flat core.types t v ∷ [] }) (held ++ v ∷ [])) is.ty
            (more_held core.types is.wire cell held v is.holds (subst (λ t. is_value core.types t v ≡ true) same typed));
      })

  held_from : (place : ℕ) {tys : List Ty} {cells : List CellView} {wires : List (List Value)} → AreCellsOf core tys cells wires → (values : List (Option Value))
      → Give place tys values → are_outputs core.types tys values ≡ true → AreCellsOf core tys (cells_with outputs place cells) (with_asserted values wires)
  held_from place AreCellsOf.none values give typed = AreCellsOf.none
  held_from place (AreCellsOf.more {type = ty} {types = tys} {held = held} {others = others} one rest) [] give typed =
      subst (λ cs. AreCellsOf core (ty ∷ tys) cs (held ∷ others)) (sym (none_put place (AreCellsOf.more one rest) give)) (AreCellsOf.more one rest)
  held_from place (AreCellsOf.more {type = ty} {types = tys} {cell = cell} {held = held} one rest) (None ∷ values) give typed =
      AreCellsOf.more (kept_held ty cell held (outputs place) (first_given place ty tys (None ∷ values) give) one)
      (held_from (suc place) rest values (later_given place ty tys None values give) typed)
  held_from place (AreCellsOf.more {type = ty} {types = tys} {cell = cell} {held = held} one rest) (Some v ∷ values) give typed =
      let parts = and_parts (is_value core.types ty v) (are_outputs core.types tys values) typed in
      AreCellsOf.more (put_held ty cell held v (outputs place) (first_given place ty tys (Some v ∷ values) give) one parts.0)
      (held_from (suc place) rest values (later_given place ty tys (Some v) values give) parts.1)

  -- all outputs at once, or none

  module _ {tys : List Ty} {cells : List CellView} {wires : List (List Value)} (are : AreCellsOf core tys cells wires) (values : List (Option Value))
      (words : AreWordsOfOutputs core.types tys values outputs) where
    all_given : Give 0 tys values
    all_given = λ i ty is. ap outputs (let e : 0 + i ≡ i = omega arith in e) ∙ words.each i ty is

    pub same_rooms : have_room_for outputs 0 cells ≡ have_room values (map cell_has_room cells)
    same_rooms = room_from 0 are values all_given

    module _ (typed : are_outputs core.types tys values ≡ true) where
      pub outputs_fit : FitCells outputs 0 cells
      outputs_fit = fit_from 0 are values all_given typed

      module _ (before next : Part) where
        abbrev half_when : Bool → HalfStep
        half_when roomy = if roomy then (let half : HalfStep = record { part = next; side = with_asserted values wires } in half) else idle before wires

        cells_when : (roomy : Bool) → AreCellsOf core tys (if roomy then cells_with outputs 0 cells else cells) (half_when roomy).side
        cells_when true = held_from 0 are values all_given typed
        cells_when false = are

        pub asserted_held : AreCellsOf core tys (asserted_in outputs cells) (asserted before next values (map cell_has_room cells) wires).side
        asserted_held =
            subst
            (λ roomy. AreCellsOf core tys (if roomy then cells_with outputs 0 cells else cells)
            (asserted before next values (map cell_has_room cells) wires).side)
            (sym same_rooms) (cells_when (have_room values (map cell_has_room cells)))
