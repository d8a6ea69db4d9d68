-- The flat words of what stands in a heap are those of the value.
use Rattle.std.proofs.Common.{◌≡◌, ℕ, zero, suc, ◌==◌, nat_lt, Bool, true, false, if◌then◌else◌, List, [], ◌∷◌, map, length, Option, Some, None, slice_get, refl, ap, sym, ◌∙◌, subst}
use Rattle.std.proofs.lemmas.Bool.{and_parts}
use Rattle.std.specs.List.{list_all, flat_map}
use Rattle.std.specs.Option.{option_map, option_and_then}
use Rattle.hume_base.specs.declared.types.Ty.{Ty, roll-Ty, map-Ty, fold-roll-Ty, ind-Ty}
use Rattle.hume_base.specs.declared.types.Ty.TheOpen.{Ty-F}
use Rattle.hume_base.specs.declared.types.Types.{Types}
use Rattle.hume_base.specs.declared.types.SumDef.{SumDef}
use Rattle.hume_base.specs.declared.types.Value.{Value, out-Value}
use Rattle.hume_base.specs.declared.types.Value.TheOpen.{Value-F}
use Rattle.hume_base.specs.Sizes.{size_of_sum, named_size}
use Rattle.hume_base.specs.Values.{is_value, is_value_with, value_step, is_named_value, is_sum_value, is_con_of, all_pass, is_tuple_of, is_vector_of, is_word_of, is_char_word, is_int_word, fields_at}
use Rattle.hume_base.specs.Flat.{joined, word_in, parts_in, one_word, flat_step, flat_with, padded, con_words, flat_sum, named_words, flat}
use Rattle.box_heap.specs.Heaps.{Object, object_at}
use Rattle.box_heap.specs.Standing.{Stands, AllStand}
use Rattle.box_code.specs.FlatObjects.{Flattening, both_words, joined_words, item_words, flat_at_step, flat_at_with, object_words, flat_at_sum, named_at, flat_at}
use Rattle.code_laws.proofs.Heaps.{word_stands}
use Rattle.code_laws.proofs.Patterns.{in_word, con_stands, tuple_stands}
use Rattle.code_laws.proofs.Forms.{vector_stands}

both_some : (a b : Option (List ℕ)) (x y : List ℕ) → a ≡ Some x → b ≡ Some y → both_words a b ≡ both_words (Some x) (Some y)
both_some a b x y e d = (λ i. both_words (e i) (d i))

-- a value that is a word
word_flat : {objects : List Object} (test : ℕ → Bool) (v : Value) (w : ℕ) → is_word_of test (out-Value v) ≡ true → Stands objects v w → Some (w ∷ []) ≡ Some (one_word v)
word_flat test v w h stands =
    let k = in_word test (out-Value v) h in
    let same : w ≡ word_in (out-Value v) = word_stands stands k.0 k.1 ∙ ap word_in (sym k.1) in
    ap (λ n. Some (n ∷ [])) same

module _ (objects : List Object) (named : ℕ → Flattening) (test_named : ℕ → Value → Bool) (words_named : ℕ → Value → List ℕ)
    (by_name : (k : ℕ) (v : Value) (w : ℕ) → test_named k v ≡ true → Stands objects v w → named k w ≡ Some (words_named k v)) where
  abbrev Flattens : Ty → Type 0
  Flattens t = (v : Value) (w : ℕ) → is_value_with test_named t v ≡ true → Stands objects v w → flat_at_with objects named t w ≡ Some (flat_with words_named t v)

  abbrev Part : Type 0
  Part = (t : Ty) × Flattens t

  abbrev of_part : Part → Ty
  of_part p = p.0

  parts_flat : (ps : List Part) {vs : List Value} {ws : List ℕ} → AllStand objects vs ws → all_pass (map (is_value_with test_named) (map of_part ps)) vs ≡ true
      → joined_words (map (flat_at_with objects named) (map of_part ps)) ws ≡ Some (joined (map (flat_with words_named) (map of_part ps)) vs)
  parts_flat [] AllStand.none h = refl
  parts_flat [] (AllStand.more first rest) h = cc
  parts_flat (p ∷ ps) AllStand.none h = cc
  parts_flat (p ∷ ps) (AllStand.more {value = v} {word = w} first rest) h =
      let hs = and_parts _ _ h in both_some _ _ _ _ (p.1 v w hs.0 first) (parts_flat ps rest hs.1)

  items_flat : (p : Part) {vs : List Value} {ws : List ℕ} → AllStand objects vs ws → list_all (is_value_with test_named p.0) vs ≡ true
      → item_words (flat_at_with objects named p.0) ws ≡ Some (flat_map (flat_with words_named p.0) vs)
  items_flat p AllStand.none h = refl
  items_flat p (AllStand.more {value = v} {word = w} first rest) h =
      let hs = and_parts _ _ h in both_some _ _ _ _ (p.1 v w hs.0 first) (items_flat p rest hs.1)

  abbrev layer : Ty-F Part → Ty-F Ty
  layer y = map-Ty Part Ty of_part y

  tuple_flat : (ps : List Part) (v : Value) (w : ℕ) → Stands objects v w → (l : Value-F Value) → out-Value v ≡ l → is_tuple_of (map (is_value_with test_named) (map of_part ps)) l ≡ true
      → option_and_then (λ (object : Object). joined_words (map (flat_at_with objects named) (map of_part ps)) object.1) (object_at objects w)
      ≡ Some (joined (map (flat_with words_named) (map of_part ps)) (parts_in l))
  tuple_flat ps v w stands (Value-F.Tuple us) out h =
      let k = tuple_stands stands us out in
      ap (option_and_then (λ (object : Object). joined_words (map (flat_at_with objects named) (map of_part ps)) object.1)) k.1 ∙ parts_flat ps k.2 h
  tuple_flat ps v w stands (Value-F.Word x) out h = cc
  tuple_flat ps v w stands (Value-F.Vector us) out h = cc
  tuple_flat ps v w stands (Value-F.Con c us) out h = cc

  vector_flat : (count : ℕ) (p : Part) (v : Value) (w : ℕ) → Stands objects v w → (l : Value-F Value) → out-Value v ≡ l → is_vector_of count (is_value_with test_named p.0) l ≡ true
      → option_and_then (λ (object : Object). item_words (flat_at_with objects named p.0) object.1) (object_at objects w) ≡ Some (flat_map (flat_with words_named p.0) (parts_in l))
  vector_flat count p v w stands (Value-F.Vector us) out h =
      let k = vector_stands stands us out in
      ap (option_and_then (λ (object : Object). item_words (flat_at_with objects named p.0) object.1)) k.1 ∙ items_flat p k.2 (and_parts _ _ h).1
  vector_flat count p v w stands (Value-F.Word x) out h = cc
  vector_flat count p v w stands (Value-F.Tuple us) out h = cc
  vector_flat count p v w stands (Value-F.Con c us) out h = cc

  step_flat : (y : Ty-F Part) (v : Value) (w : ℕ) → value_step test_named (map-Ty Ty (Value → Bool) (is_value_with test_named) (layer y)) v ≡ true → Stands objects v w
      → flat_at_step objects named (map-Ty Ty Flattening (flat_at_with objects named) (layer y)) w ≡ Some (flat_step words_named (map-Ty Ty (Value → List ℕ) (flat_with words_named) (layer y)) v)
  step_flat Ty-F.Bool v w h stands = word_flat (λ word. nat_lt word 2) v w h stands
  step_flat Ty-F.Char v w h stands = word_flat is_char_word v w h stands
  step_flat (Ty-F.Int bits) v w h stands = word_flat (is_int_word bits) v w h stands
  step_flat (Ty-F.Nat bits) v w h stands = word_flat _ v w h stands
  step_flat (Ty-F.Tuple ps) v w h stands = tuple_flat ps v w stands (out-Value v) refl h
  step_flat (Ty-F.Vector count p) v w h stands = vector_flat count p v w stands (out-Value v) refl h
  step_flat (Ty-F.Named k) v w h stands = by_name k v w h stands

  layer_flat : (y : Ty-F Part) → Flattens (roll-Ty (layer y))
  layer_flat y v w h stands =
      ap (λ (f : Flattening). f w) (fold-roll-Ty Flattening (flat_at_step objects named) (layer y))
      ∙ step_flat y v w (sym (ap (λ (t : Value → Bool). t v) (fold-roll-Ty (Value → Bool) (value_step test_named) (layer y))) ∙ h) stands
      ∙ ap (λ (f : Value → List ℕ). Some (f v)) (sym (fold-roll-Ty (Value → List ℕ) (flat_step words_named) (layer y)))

  flattens : (t : Ty) → Flattens t
  flattens = ind-Ty Flattens (λ x y is. subst (λ z. Flattens (roll-Ty z)) is (layer_flat y))

  fields_flat : (ts : List Ty) {vs : List Value} {ws : List ℕ} → AllStand objects vs ws → all_pass (map (is_value_with test_named) ts) vs ≡ true
      → joined_words (map (flat_at_with objects named) ts) ws ≡ Some (joined (map (flat_with words_named) ts) vs)
  fields_flat [] AllStand.none h = refl
  fields_flat [] (AllStand.more first rest) h = cc
  fields_flat (t ∷ ts) AllStand.none h = cc
  fields_flat (t ∷ ts) (AllStand.more {value = v} {word = w} first rest) h =
      let hs = and_parts _ _ h in both_some _ _ _ _ (flattens t v w hs.0 first) (fields_flat ts rest hs.1)

  sum_flat : (size : ℕ) (o : Option SumDef) (v : Value) (w : ℕ) → is_sum_value (is_value_with test_named) o v ≡ true → Stands objects v w
      → flat_at_sum (flat_at_with objects named) size o (object_at objects w) ≡ Some (flat_sum (flat_with words_named) size o v)
  sum_flat size None v w h stands = cc
  sum_flat size (Some sum) v w h stands = by (out-Value v) refl h
    where
      by : (l : Value-F Value) → out-Value v ≡ l → is_con_of (is_value_with test_named) sum l ≡ true
          → option_and_then (object_words (flat_at_with objects named) size sum) (object_at objects w) ≡ Some (padded size (con_words (flat_with words_named) sum l))
      by (Value-F.Con place us) out h =
          let k = con_stands stands place us out in
          ap (option_and_then (object_words (flat_at_with objects named) size sum)) k.1
          ∙ ap (option_map (λ fields. padded size (place ∷ fields))) (fields_flat (fields_at sum place) k.2 (and_parts _ _ h).1)
      by (Value-F.Word x) out h = cc
      by (Value-F.Tuple us) out h = cc
      by (Value-F.Vector us) out h = cc

choose : (b p q : Bool) (x y : Option (List ℕ)) (c d : List ℕ) → (if b then p else q) ≡ true → (p ≡ true → x ≡ Some c) → (q ≡ true → y ≡ Some d)
    → (if b then x else y) ≡ Some (if b then c else d)
choose true p q x y c d h f g = f h
choose false p q x y c d h f g = g h

named_flat : (types : Types) (objects : List Object) (limit k : ℕ) (v : Value) (w : ℕ) → is_named_value types limit k v ≡ true → Stands objects v w
    → named_at types objects limit k w ≡ Some (named_words types limit k v)
unfolding is_named_value named_at named_words
named_flat types objects zero k v w h stands = cc
named_flat types objects (suc limit) k v w h stands =
    choose (k == limit) _ _ _ _ _ _ h
    (λ g. sum_flat objects (named_at types objects limit) (is_named_value types limit) (named_words types limit) (λ n u x f p. named_flat types objects limit n u x f p)
    (size_of_sum (named_size types limit) (slice_get types.sums limit)) (slice_get types.sums limit) v w g stands)
    (λ g. named_flat types objects limit k v w g stands)

pub value_flat : (types : Types) (objects : List Object) (t : Ty) (v : Value) (w : ℕ) → is_value types t v ≡ true → Stands objects v w → flat_at types objects t w ≡ Some (flat types t v)
value_flat types objects t v w h stands =
    let n = length types.sums in
    flattens objects (named_at types objects n) (is_named_value types n) (named_words types n) (λ k u x f p. named_flat types objects n k u x f p) t v w h stands
