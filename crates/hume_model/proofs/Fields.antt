-- A data type's fields have the same values whatever larger data types there are.
use Rattle.std.proofs.Common.{◌≡◌, ℕ, zero, suc, ◌<◌, nat_lt, ◌&&◌, Bool, true, List, [], ◌∷◌, map, length, Some, slice_get, refl, ap, sym, ◌∙◌, subst, arith, inl, inr}
use Rattle.std.proofs.lemmas.Bool.{and_parts, ltb-true, cases_eq, eq-eqb, ne_eqb}
use Rattle.std.specs.List.{list_all}
use Rattle.hume_base.specs.declared.types.Ty.{Ty, roll-Ty, map-Ty, fold-roll-Ty, ind-Ty}
use Rattle.hume_base.specs.declared.types.Ty.TheOpen.{Ty-F}
use Rattle.hume_base.specs.declared.types.Ty.TheVariants as shape
use Rattle.hume_base.specs.declared.types.Types.{Types}
use Rattle.hume_base.specs.declared.types.SumDef.{SumDef}
use Rattle.hume_base.specs.declared.types.ConDef.{ConDef}
use Rattle.hume_base.specs.declared.types.Value.{Value, out-Value}
use Rattle.hume_base.specs.declared.types.Value.TheOpen.{Value-F}
use Rattle.hume_base.specs.Holding.{holds_step, holds_below, con_holds, HoldSmaller}
use Rattle.hume_base.specs.Values.{is_value, is_value_with, value_step, is_named_value, is_sum_value, is_con_of, all_pass, is_tuple_of, is_vector_of, fields_of, fields_at}
use Rattle.hume_model.proofs.Layers.{named-value}

module _ (bound : ℕ) (ta tb : ℕ → Value → Bool) (same : (k : ℕ) → k < bound → ta k ≡ tb k) where
  abbrev Agrees : Ty → Type 0
  Agrees t = holds_below bound t ≡ true → is_value_with ta t ≡ is_value_with tb t

  abbrev Part : Type 0
  Part = (t : Ty) × Agrees t

  abbrev of_part : Part → Ty
  of_part p = p.0

  parts_agree : (ps : List Part) → list_all (λ b. b) (map (holds_below bound) (map of_part ps)) ≡ true
      → map (is_value_with ta) (map of_part ps) ≡ map (is_value_with tb) (map of_part ps)
  parts_agree [] h = refl
  parts_agree (p ∷ ps) h =
      let hs = and_parts _ _ h in
      rw (p.1 hs.0, parts_agree ps hs.1) refl

  abbrev layer : Ty-F Part → Ty-F Ty
  layer y = map-Ty Part Ty of_part y

  step_agrees : (y : Ty-F Part) → holds_step bound (map-Ty Ty Bool (holds_below bound) (layer y)) ≡ true
      → value_step ta (map-Ty Ty (Value → Bool) (is_value_with ta) (layer y)) ≡ value_step tb (map-Ty Ty (Value → Bool) (is_value_with tb) (layer y))
  step_agrees Ty-F.Bool h = refl
  step_agrees Ty-F.Char h = refl
  step_agrees (Ty-F.Int bits) h = refl
  step_agrees (Ty-F.Nat bits) h = refl
  step_agrees (Ty-F.Tuple ps) h = λ i v. is_tuple_of (parts_agree ps h i) (out-Value v)
  step_agrees (Ty-F.Vector count p) h = λ i v. is_vector_of count (p.1 h i) (out-Value v)
  step_agrees (Ty-F.Named k) h = λ i v. same k (ltb-true k bound h) i v

  layer_agrees : (y : Ty-F Part) → Agrees (roll-Ty (layer y))
  layer_agrees y h =
      fold-roll-Ty (Value → Bool) (value_step ta) (layer y)
      ∙ step_agrees y (sym (fold-roll-Ty Bool (holds_step bound) (layer y)) ∙ h)
      ∙ sym (fold-roll-Ty (Value → Bool) (value_step tb) (layer y))

  type_agrees : (t : Ty) → Agrees t
  type_agrees = ind-Ty Agrees (λ x y is. subst (λ z. Agrees (roll-Ty z)) is (layer_agrees y))

  types_agree : (ts : List Ty) → list_all (holds_below bound) ts ≡ true → map (is_value_with ta) ts ≡ map (is_value_with tb) ts
  types_agree [] h = refl
  types_agree (t ∷ ts) h =
      let hs = and_parts _ _ h in
      rw (type_agrees t hs.0, types_agree ts hs.1) refl

named-at : (types : Types) (bound k : ℕ) → k < bound → is_named_value types bound k ≡ is_sum_value (is_value_with (is_named_value types k)) (slice_get types.sums k)
unfolding is_named_value
named-at types zero k below = absurd (omega arith)
named-at types (suc bound) k below = elim (cases_eq k bound) [
  | inl same ↦ λ i v. (let one : is_named_value types (suc bound) k v ≡ is_sum_value (is_value_with (is_named_value types k)) (slice_get types.sums k) v =
      rw (eq-eqb k bound same) (ap (λ n. is_sum_value (is_value_with (is_named_value types n)) (slice_get types.sums n) v) (sym same)) in one i)
  | inr other ↦ λ i v. (let one : is_named_value types (suc bound) k v ≡ is_sum_value (is_value_with (is_named_value types k)) (slice_get types.sums k) v =
      rw (ne_eqb k bound other) (ap (λ (t : Value → Bool). t v) (named-at types bound k (omega arith))) in one i)
]

named_same : (types : Types) (a b k : ℕ) → k < a → k < b → is_named_value types a k ≡ is_named_value types b k
named_same types a b k p q = named-at types a k p ∙ sym (named-at types b k q)

found_below : {X : Type 0} (xs : List X) (k : ℕ) (x : X) → slice_get xs k ≡ Some x → k < length xs
found_below [] k x h = cc
found_below (y ∷ xs) zero x h = omega arith
found_below (y ∷ xs) (suc k) x h = let later : k < length xs = found_below xs k x h in omega arith

all_at : (k : ℕ) (cons : List ConDef) (place : ℕ) → list_all (con_holds k) cons ≡ true → list_all (holds_below k) (fields_of (slice_get cons place)) ≡ true
all_at k [] place h = refl
all_at k (con ∷ cons) zero h = (and_parts _ _ h).0
all_at k (con ∷ cons) (suc place) h = all_at k cons place (and_parts _ _ h).1

module _ (types : Types) (down : HoldSmaller types) (k : ℕ) (sum : SumDef) (found : slice_get types.sums k ≡ Some sum) where
  below : k < length types.sums
  below = found_below types.sums k sum found

  -- the fields of a constructor have their values in the whole program
  fields_same : (place : ℕ) → map (is_value_with (is_named_value types k)) (fields_at sum place) ≡ map (is_value types) (fields_at sum place)
  fields_same place =
      types_agree k (is_named_value types k) (is_named_value types (length types.sums))
      (λ j lt. named_same types k (length types.sums) j lt (let b : k < length types.sums = below in omega arith))
      (fields_at sum place) (all_at k sum.cons place (down k sum found))

  con_same : (l : Value-F Value) → is_con_of (is_value_with (is_named_value types k)) sum l ≡ is_con_of (is_value types) sum l
  con_same (Value-F.Word w) = refl
  con_same (Value-F.Tuple vs) = refl
  con_same (Value-F.Vector vs) = refl
  con_same (Value-F.Con place vs) = ap (λ tests. nat_lt place (length sum.cons) && all_pass tests vs) (fields_same place)

  -- the values of a data type: a constructor with values of its fields' types
  pub data-value : (v : Value) → is_value types (shape.Named k) v ≡ is_con_of (is_value types) sum (out-Value v)
  data-value v =
      named-value (is_named_value types (length types.sums)) v k
      ∙ ap (λ (t : Value → Bool). t v) (named-at types (length types.sums) k below)
      ∙ ap (λ o. is_sum_value (is_value_with (is_named_value types k)) o v) found
      ∙ con_same (out-Value v)
