-- A data type's fields have the same words whatever larger data types there are, and so have its values.
use Rattle.std.proofs.Common.{◌≡◌, ℕ, zero, suc, ◌<◌, Bool, true, List, [], ◌∷◌, map, length, Option, Some, slice_get, refl, ap, sym, ◌∙◌, subst, arith, inl, inr}
use Rattle.std.proofs.lemmas.Bool.{and_parts, ltb-true, cases_eq, eq-eqb, ne_eqb}
use Rattle.std.specs.List.{list_all, flat_map}
use Rattle.hume_base.specs.declared.types.Ty.{Ty, out-Ty, out-roll-Ty, roll-Ty, map-Ty, fold-roll-Ty, ind-Ty}
use Rattle.hume_base.specs.declared.types.Ty.TheOpen.{Ty-F}
use Rattle.hume_base.specs.declared.types.Ty.TheVariants as shape
use Rattle.hume_base.specs.declared.types.Types.{Types}
use Rattle.hume_base.specs.declared.types.SumDef.{SumDef}
use Rattle.hume_base.specs.declared.types.ConDef.{ConDef}
use Rattle.hume_base.specs.declared.types.Value.{Value, out-Value}
use Rattle.hume_base.specs.Holding.{holds_step, holds_below, con_holds, HoldSmaller}
use Rattle.hume_base.specs.Sizes.{size_of_sum, named_size}
use Rattle.hume_base.specs.Values.{fields_of, fields_at}
use Rattle.hume_base.specs.Flat.{flat, flat_with, flat_step, flat_sum, named_words, joined, padded, con_words, word_in, parts_in}

abbrev WordsOf : Type 0
WordsOf = Value → List ℕ

pub tuple_words : (named : ℕ → WordsOf) (tys : List Ty) (v : Value) → flat_with named (shape.Tuple tys) v
    ≡ joined (map (flat_with named) tys) (parts_in (out-Value v))
tuple_words named tys v =
    ap (λ t. flat_with named t v) (sym (shape.rolls-Tuple tys)) ∙ ap (λ (f : WordsOf). f v) (fold-roll-Ty WordsOf (flat_step named) (Ty-F.Tuple tys))

named_is : (named : ℕ → WordsOf) (k : ℕ) (v : Value) → flat_with named (shape.Named k) v ≡ named k v
named_is named k v = ap (λ t. flat_with named t v) (sym (shape.rolls-Named k))
    ∙ ap (λ (f : WordsOf). f v) (fold-roll-Ty WordsOf (flat_step named) (Ty-F.Named k))

pub out-named : (k : ℕ) → out-Ty (shape.Named k) ≡ Ty-F.Named k
out-named k = ap out-Ty (sym (shape.rolls-Named k)) ∙ out-roll-Ty (Ty-F.Named k)

pub out-tuple : (tys : List Ty) → out-Ty (shape.Tuple tys) ≡ Ty-F.Tuple tys
out-tuple tys = ap out-Ty (sym (shape.rolls-Tuple tys)) ∙ out-roll-Ty (Ty-F.Tuple tys)

module _ (bound : ℕ) (fa fb : ℕ → WordsOf) (same : (k : ℕ) → k < bound → fa k ≡ fb k) where
  abbrev Agrees : Ty → Type 0
  Agrees t = holds_below bound t ≡ true → flat_with fa t ≡ flat_with fb t

  abbrev Part : Type 0
  Part = (t : Ty) × Agrees t

  abbrev of_part : Part → Ty
  of_part p = p.0

  parts_agree : (ps : List Part) → list_all (λ b. b) (map (holds_below bound) (map of_part ps)) ≡ true
      → map (flat_with fa) (map of_part ps) ≡ map (flat_with fb) (map of_part ps)
  parts_agree [] h = refl
  parts_agree (p ∷ ps) h =
      let hs = and_parts _ _ h in
      rw (p.1 hs.0, parts_agree ps hs.1) refl

  abbrev layer : Ty-F Part → Ty-F Ty
  layer y = map-Ty Part Ty of_part y

  step_agrees : (y : Ty-F Part) → holds_step bound (map-Ty Ty Bool (holds_below bound) (layer y)) ≡ true
      → flat_step fa (map-Ty Ty WordsOf (flat_with fa) (layer y)) ≡ flat_step fb (map-Ty Ty WordsOf (flat_with fb) (layer y))
  step_agrees Ty-F.Bool h = refl
  step_agrees Ty-F.Char h = refl
  step_agrees (Ty-F.Int bits) h = refl
  step_agrees (Ty-F.Nat bits) h = refl
  step_agrees (Ty-F.Tuple ps) h = λ i v. joined (parts_agree ps h i) (parts_in (out-Value v))
  step_agrees (Ty-F.Vector count p) h = λ i v. flat_map (p.1 h i) (parts_in (out-Value v))
  step_agrees (Ty-F.Named k) h = λ i v. same k (ltb-true k bound h) i v

  layer_agrees : (y : Ty-F Part) → Agrees (roll-Ty (layer y))
  layer_agrees y h =
      fold-roll-Ty WordsOf (flat_step fa) (layer y)
      ∙ step_agrees y (sym (fold-roll-Ty Bool (holds_step bound) (layer y)) ∙ h)
      ∙ sym (fold-roll-Ty WordsOf (flat_step fb) (layer y))

  type_agrees : (t : Ty) → Agrees t
  type_agrees = ind-Ty Agrees (λ x y is. subst (λ z. Agrees (roll-Ty z)) is (layer_agrees y))

  types_agree : (ts : List Ty) → list_all (holds_below bound) ts ≡ true → map (flat_with fa) ts ≡ map (flat_with fb) ts
  types_agree [] h = refl
  types_agree (t ∷ ts) h =
      let hs = and_parts _ _ h in
      rw (type_agrees t hs.0, types_agree ts hs.1) refl

-- the words of a data type by those of its number
abbrev own_words : Types → ℕ → WordsOf
own_words types k = flat_sum (flat_with (named_words types k)) (size_of_sum (named_size types k) (slice_get types.sums k)) (slice_get types.sums k)

words-at : (types : Types) (bound k : ℕ) → k < bound → named_words types bound k ≡ own_words types k
unfolding named_words
words-at types zero k below = absurd (omega arith)
words-at types (suc bound) k below = elim (cases_eq k bound) [
  | inl same ↦ λ i v. (let one : named_words types (suc bound) k v ≡ own_words types k v = rw (eq-eqb k bound same)
      (ap (λ n. own_words types n v) (sym same)) in one i)
  | inr other ↦ λ i v. (let one : named_words types (suc bound) k v ≡ own_words types k v = rw (ne_eqb k bound other)
      (ap (λ (f : WordsOf). f v) (words-at types bound k (omega arith))) in one i)
]

words_same : (types : Types) (a b k : ℕ) → k < a → k < b → named_words types a k ≡ named_words types b k
words_same types a b k p q = words-at types a k p ∙ sym (words-at types b k q)

found_below : {X : Type 0} (xs : List X) (k : ℕ) (x : X) → slice_get xs k ≡ Some x → k < length xs
found_below [] k x h = cc
found_below (y ∷ xs) zero x h = omega arith
found_below (y ∷ xs) (suc k) x h = let later : k < length xs = found_below xs k x h in omega arith

all_at : (k : ℕ) (cons : List ConDef) (place : ℕ) → list_all (con_holds k) cons ≡ true → list_all (holds_below k) (fields_of (slice_get cons place)) ≡ true
all_at k [] place h = refl
all_at k (con ∷ cons) zero h = (and_parts _ _ h).0
all_at k (con ∷ cons) (suc place) h = all_at k cons place (and_parts _ _ h).1

module _ (types : Types) (down : HoldSmaller types) (k : ℕ) (sum : SumDef) (found : slice_get types.sums k ≡ Some sum) where
  below : k < length types.sums
  below = found_below types.sums k sum found

  fields_same : (place : ℕ) → map (flat_with (named_words types k)) (fields_at sum place) ≡ map (flat types) (fields_at sum place)
  fields_same place =
      types_agree k (named_words types k) (named_words types (length types.sums))
      (λ j lt. words_same types k (length types.sums) j lt (let b : k < length types.sums = below in omega arith))
      (fields_at sum place) (all_at k sum.cons place (down k sum found))

  -- the words of a value of a data type: its constructor and the words of its fields, with zeros up to its size
  pub data_words : (v : Value) → flat types (shape.Named k) v ≡ padded (size_of_sum (named_size types k) (Some sum)) (con_words (flat types) sum (out-Value v))
  data_words v =
      named_is (named_words types (length types.sums)) k v
      ∙ ap (λ (f : WordsOf). f v) (words-at types (length types.sums) k below)
      ∙ ap (λ (o : Option SumDef). flat_sum (flat_with (named_words types k)) (size_of_sum (named_size types k) o) o v) found
      ∙ ap (λ fs. padded (size_of_sum (named_size types k) (Some sum)) (word_in (out-Value v) ∷ joined fs (parts_in (out-Value v))))
      (fields_same (word_in (out-Value v)))
