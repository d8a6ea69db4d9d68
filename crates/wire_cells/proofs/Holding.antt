-- What cells hold once a value is taken or asserted.
use Rattle.std.proofs.Common.{◌≡◌, ℕ, zero, suc, nat_lt, List, [], ◌∷◌, ◌++◌, map, length, drop, Option, Some, None, Bool, true, ◌&&◌, slice_get, refl, ap, sym, ◌∙◌}
use Rattle.std.specs.List.{list_all}
use Rattle.std.specs.Option.{option_to_list}
use Rattle.std.proofs.lemmas.Bool.{and_parts}
use Rattle.std.proofs.lemmas.List.{length-map, map-append}
use Rattle.hume_base.specs.declared.types.Ty.{Ty}
use Rattle.hume_base.specs.declared.types.Types.{Types}
use Rattle.hume_base.specs.declared.types.Value.{Value}
use Rattle.hume_base.specs.Sizes.{size_of}
use Rattle.hume_base.specs.Values.{is_value}
use Rattle.hume_base.specs.Flat.{flat}
use Rattle.hume_model.specs.declared.core_tree.WireC.{WireC}
use Rattle.hume_model.specs.declared.core_tree.Core.{Core}
use Rattle.hume_model.specs.WellFormed.{HasSoundFrame}
use Rattle.hume_base.proofs.FlatLengths.{flat_long}
use Rattle.wire_cells.specs.Cells.{CellView, Holds, cell_has_room, first_cell}

initial_typed : (types : Types) (ty : Ty) (initial : Option Value) → ((v : Value) → initial ≡ Some v → is_value types ty v ≡ true)
    → list_all (is_value types ty) (option_to_list initial) ≡ true
initial_typed types ty None typed = refl
initial_typed types ty (Some v) typed = ap (λ b. b && true) (typed v refl)

pub first_holds : (core : Core) (number : ℕ) (wire : WireC) → HasSoundFrame core → slice_get core.wires number ≡ Some wire
    → Holds core.types wire (first_cell core number wire) (option_to_list wire.initial)
first_holds core number wire frame found = record {
  words = refl;
  typed = initial_typed core.types wire.ty wire.initial (frame.wires number wire found).initial;
  whole = refl;
  depth = refl;
}

pub oldest_shown : (types : Types) (wire : WireC) (cell : CellView) (v : Value) (later : List Value) → Holds types wire cell (v ∷ later)
    → slice_get cell.values 0 ≡ Some (flat types wire.ty v)
oldest_shown types wire cell v later holds = ap (λ vs. slice_get vs 0) holds.words

pub less_held : (types : Types) (wire : WireC) (cell : CellView) (v : Value) (later : List Value) → Holds types wire cell (v ∷ later)
    → Holds types wire (record cell { values = drop 1 cell.values }) later
less_held types wire cell v later holds = record {
  words = ap (drop 1) holds.words;
  typed = (and_parts _ _ holds.typed).1;
  whole = holds.whole;
  depth = holds.depth;
}

with_last : (test : Value → Bool) (held : List Value) (v : Value) → list_all test held ≡ true → test v ≡ true → list_all test (held ++ v ∷ []) ≡ true
with_last test [] v all one = ap (λ b. b && true) one
with_last test (h ∷ held) v all one =
    let parts = and_parts _ _ all in
    ap (λ b. b && list_all test (held ++ v ∷ [])) parts.0 ∙ with_last test held v parts.1 one

pub more_held : (types : Types) (wire : WireC) (cell : CellView) (held : List Value) (v : Value) → Holds types wire cell held
    → is_value types wire.ty v ≡ true → Holds types wire (record cell { values = cell.values ++ flat types wire.ty v ∷ [] }) (held ++ v ∷ [])
more_held types wire cell held v holds is = record {
  words = ap (λ vs. vs ++ flat types wire.ty v ∷ []) holds.words ∙ sym (map-append (flat types wire.ty) held (v ∷ []));
  typed = with_last (is_value types wire.ty) held v holds.typed is;
  whole = holds.whole;
  depth = holds.depth;
}

long_at : (types : Types) (ty : Ty) (held : List Value) (i : ℕ) (words : List ℕ) → list_all (is_value types ty) held ≡ true
    → slice_get (map (flat types ty) held) i ≡ Some words → length words ≡ size_of types ty
long_at types ty [] i words typed found = cc
long_at types ty (v ∷ held) zero words typed found =
    let same : flat types ty v ≡ words = cc in
    ap length (sym same) ∙ flat_long types ty v (and_parts _ _ typed).0
long_at types ty (v ∷ held) (suc i) words typed found = long_at types ty held i words (and_parts _ _ typed).1 found

pub held_long : (types : Types) (wire : WireC) (cell : CellView) (held : List Value) (i : ℕ) (words : List ℕ) → Holds types wire cell held
    → slice_get cell.values i ≡ Some words → length words ≡ cell.size
held_long types wire cell held i words holds found =
    long_at types wire.ty held i words holds.typed (ap (λ vs. slice_get vs i) (sym holds.words) ∙ found) ∙ sym holds.whole

-- the values stay whatever time it is
pub held_at_time : (types : Types) (wire : WireC) (cell : CellView) (held : List Value) (time : ℕ) → Holds types wire cell held
    → Holds types wire (record cell { time = time }) held
held_at_time types wire cell held time holds = record { words = holds.words; typed = holds.typed; whole = holds.whole; depth = holds.depth }

-- a cell has room where its wire has
pub same_room : (types : Types) (wire : WireC) (cell : CellView) (held : List Value) → Holds types wire cell held
    → cell_has_room cell ≡ nat_lt (length held) wire.depth
same_room types wire cell held holds =
    ap (λ vs. nat_lt (length vs) cell.depth) holds.words
    ∙ ap (λ n. nat_lt n cell.depth) (length-map held (flat types wire.ty))
    ∙ ap (nat_lt (length held)) holds.depth
