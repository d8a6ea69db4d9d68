-- Values of moved types are spelled as those of the types.
use Rattle.std.proofs.Common.{◌≡◌, ℕ, zero, suc, ◌+◌, ◌<◌, nat_lt, true, List, [], ◌∷◌, length, map, Option, Some, None, slice_get, refl, ap, sym, ◌∙◌, arith, inl, inr}
use Rattle.std.specs.List.{flat_map, list_all}
use Rattle.std.specs.Option.{option_map}
use Rattle.std.proofs.lemmas.Bool.{and_parts, cases_eq, eq-eqb, ltb-true, ne_eqb}
use Rattle.std.proofs.lemmas.Option.{slice_get-map}
use Rattle.hume_base.specs.declared.types.Ty.{Ty}
use Rattle.hume_base.specs.declared.types.Ty.TheOpen.{Ty-F}
use Rattle.hume_base.specs.declared.types.Value.{Value, out-Value}
use Rattle.hume_base.specs.declared.types.Value.TheOpen.{Value-F}
use Rattle.hume_base.specs.declared.types.ConDef.{ConDef}
use Rattle.hume_base.specs.declared.types.SumDef.{SumDef}
use Rattle.hume_base.specs.declared.types.Types.{Types}
use Rattle.hume_base.specs.Flat.{parts_in, word_in}
use Rattle.hume_base.specs.Holding.{HoldSmaller, con_holds, holds_below}
use Rattle.hume_base.specs.Values.{fields_at, fields_of}
use Rattle.hume_text.specs.Spelling.{Piece, Name, as_field, con_spelled, each_spelled, name_at, name_of, named_spelling, spelling, spelling_step, spelling_with, sum_spelled}
use Rattle.union_laws.specs.declared.moves.Moves.{Moves}
use Rattle.union_laws.specs.Moving.{moved_con, moved_data, moved_type, moved_type_layer}
use Rattle.union_laws.proofs.MovedCalls.{there_is}
use Rattle.union_laws.proofs.MovedValues.{TypesStandIn, all_at, fields_moved, name_within}
use Rattle.union_laws.proofs.TypeFolds.{IsKnownName, type_folds}

spelling-at : (types : Types) (bound number : ℕ) (v : Value) → number < bound
    → named_spelling types bound number v ≡ sum_spelled (spelling_with (named_spelling types number)) (slice_get types.sums number) v
unfolding named_spelling
spelling-at types zero number v below = absurd (omega arith)
spelling-at types (suc bound) number v below = elim (cases_eq number bound) [
  | inl same ↦ rw (eq-eqb number bound same) (ap (λ k. sum_spelled (spelling_with (named_spelling types k)) (slice_get types.sums k) v) (sym same))
  | inr other ↦ rw (ne_eqb number bound other) (spelling-at types bound number v (omega arith))
]

names_moved : (moves : Moves) (sum : SumDef) (place : ℕ) → name_at (moved_data moves sum) place ≡ name_at sum place
names_moved moves sum place = ap name_of (slice_get-map (moved_con moves) sum.cons place) ∙ by (slice_get sum.cons place)
  where
    by : (o : Option ConDef) → name_of (option_map (moved_con moves) o) ≡ name_of o
    by None = refl
    by (Some con) = refl

fields_hold : (bound : ℕ) (sum : SumDef) → list_all (con_holds bound) sum.cons ≡ true → (place : ℕ) → list_all (holds_below bound) (fields_at sum place) ≡ true
fields_hold bound sum all place = by (slice_get sum.cons place) refl
  where
    by : (o : Option ConDef) → slice_get sum.cons place ≡ o → list_all (holds_below bound) (fields_of o) ≡ true
    by None at = refl
    by (Some con) at = all_at (con_holds bound) sum.cons all place con at

module _ (moves : Moves) (bound : ℕ) (spelled other : Ty → Value → List Piece)
    (same : (ty : Ty) → holds_below bound ty ≡ true → other (moved_type moves ty) ≡ spelled ty) where
  fields_same : (tys : List Ty) → list_all (holds_below bound) tys ≡ true
      → map (λ ty. as_field (other ty)) (map (moved_type moves) tys) ≡ map (λ ty. as_field (spelled ty)) tys
  fields_same [] all = refl
  fields_same (ty ∷ tys) all =
      let both = and_parts (holds_below bound ty) (list_all (holds_below bound) tys) all in
      λ i. as_field (same ty both.0 i) ∷ fields_same tys both.1 i

  con_same : (sum : SumDef) → list_all (con_holds bound) sum.cons ≡ true → (layer : Value-F Value)
      → con_spelled other (moved_data moves sum) layer ≡ con_spelled spelled sum layer
  con_same sum all layer =
      let place : ℕ = word_in layer in
      let fields = ap (map (λ ty. as_field (other ty))) (fields_moved moves sum place) ∙ fields_same (fields_at sum place) (fields_hold bound sum all place) in
      λ i. Name (names_moved moves sum place i) ∷ flat_map (λ part. part) (each_spelled (fields i) (parts_in layer))

module _ (moves : Moves) (small large : Types) (stands : TypesStandIn moves small large) (holds : HoldSmaller small) where
  abbrev SameNamed : ℕ → (ℕ → Value → List Piece) → (ℕ → Value → List Piece) → Type 0
  SameNamed bound named other = (number : ℕ) → nat_lt number bound ≡ true → (v : Value) → other (moves.types + number) v ≡ named number v

  level_spelled : (bound : ℕ) (named other : ℕ → Value → List Piece) → SameNamed bound named other
      → (y : Ty-F (Value → List Piece)) → IsKnownName bound y → spelling_step other (moved_type_layer moves y) ≡ spelling_step named y
  level_spelled bound named other same Ty-F.Bool known = λ i v. spelling_step named Ty-F.Bool v
  level_spelled bound named other same Ty-F.Char known = λ i v. spelling_step named Ty-F.Char v
  level_spelled bound named other same (Ty-F.Int bits) known = λ i v. spelling_step named (Ty-F.Int bits) v
  level_spelled bound named other same (Ty-F.Nat bits) known = λ i v. spelling_step named (Ty-F.Nat bits) v
  level_spelled bound named other same (Ty-F.Tuple parts) known = λ i v. spelling_step named (Ty-F.Tuple parts) v
  level_spelled bound named other same (Ty-F.Vector count item) known = λ i v. spelling_step named (Ty-F.Vector count item) v
  level_spelled bound named other same (Ty-F.Named number) known = λ i v. same number known v i

  with_same : (bound : ℕ) (named other : ℕ → Value → List Piece) → SameNamed bound named other
      → (ty : Ty) → holds_below bound ty ≡ true → spelling_with other (moved_type moves ty) ≡ spelling_with named ty
  with_same bound named other same =
      type_folds (Value → List Piece) (spelling_step named) (spelling_step other) moves bound (level_spelled bound named other same)

  named_same : (n k m number : ℕ) → number < n → number < length small.sums → number < k → moves.types + number < m → (v : Value)
      → named_spelling large m (moves.types + number) v ≡ named_spelling small k number v
  named_same zero k m number less within below above v = absurd (omega arith)
  named_same (suc n) k m number less within below above v =
      let at = there_is small.sums number within in
      spelling-at large m (moves.types + number) v above
      ∙ ap (λ o. sum_spelled (spelling_with (named_spelling large (moves.types + number))) o v) (stands number at.0 at.1)
      ∙ con_same moves number (spelling_with (named_spelling small number)) (spelling_with (named_spelling large (moves.types + number)))
      (with_same number (named_spelling small number) (named_spelling large (moves.types + number))
      (λ lower known w. let down : lower < number = ltb-true lower number known in
      named_same n number (moves.types + number) lower (omega (arith, down, less)) (omega (arith, down, within)) down (omega (arith, down)) w))
      at.0 (holds number at.0 at.1) (out-Value v)
      ∙ sym (spelling-at small k number v below ∙ ap (λ o. sum_spelled (spelling_with (named_spelling small number)) o v) at.1)

  pub spelling_same : (ty : Ty) → holds_below (length small.sums) ty ≡ true → spelling large (moved_type moves ty) ≡ spelling small ty
  spelling_same =
      with_same (length small.sums) (named_spelling small (length small.sums)) (named_spelling large (length large.sums))
      (λ number known v. let within : number < length small.sums = ltb-true number (length small.sums) known in
      named_same (suc number) (length small.sums) (length large.sums) number (omega arith) within within
      (ltb-true (moves.types + number) (length large.sums) (name_within moves small large stands number known)) v)
