-- The words of a type's values tell them apart, even where more words follow.
use Rattle.std.proofs.Common.{◌≡◌, ℕ, zero, suc, ◌-◌, ◌^◌, nat_lt, ◌==◌, Bool, true, false, if◌then◌else◌, List, [], ◌∷◌, ◌++◌, map, length, replicate, Option, Some, None, slice_get, refl, ap, sym, ◌∙◌, subst, append_assoc, arith}
use Rattle.std.proofs.lemmas.Bool.{and_parts, eqb-true}
use Rattle.std.specs.List.{list_all, flat_map}
use Rattle.hume_base.specs.declared.types.Ty.{Ty, roll-Ty, map-Ty, fold-roll-Ty, ind-Ty}
use Rattle.hume_base.specs.declared.types.Ty.TheOpen.{Ty-F}
use Rattle.hume_base.specs.declared.types.Value.{Value, out-Value, roll-Value, roll-out-Value}
use Rattle.hume_base.specs.declared.types.Value.TheOpen.{Value-F}
use Rattle.hume_base.specs.declared.types.Types.{Types}
use Rattle.hume_base.specs.declared.types.SumDef.{SumDef}
use Rattle.hume_base.specs.Values.{is_word_of, is_char_word, is_int_word, all_pass, is_tuple_of, is_vector_of, value_step, is_value_with, is_con_of, is_sum_value, is_named_value, fields_at}
use Rattle.hume_base.specs.Flat.{joined, word_in, parts_in, flat_step, flat_with, padded, con_words, flat_sum, named_words}

-- the values that pass a test are told apart by the words with which a list begins
abbrev Told : (Value → Bool) → (Value → List ℕ) → Type 0
Told test words = (v w : Value) (r s : List ℕ) → test v ≡ true → test w ≡ true → words v ++ r ≡ words w ++ s → (v ≡ w) × (r ≡ s)

abbrev LayerTold : (Value-F Value → Bool) → (Value-F Value → List ℕ) → Type 0
LayerTold test words = (v w : Value-F Value) (r s : List ℕ) → test v ≡ true → test w ≡ true → words v ++ r ≡ words w ++ s → (v ≡ w) × (r ≡ s)

-- it is enough to tell one level apart
by_layer : (test : Value-F Value → Bool) (words : Value-F Value → List ℕ) → LayerTold test words → Told (λ v. test (out-Value v)) (λ v. words (out-Value v))
by_layer test words told v w r s p q e =
    let same = told (out-Value v) (out-Value w) r s p q e in
    (sym (roll-out-Value v) ∙ ap roll-Value same.0 ∙ roll-out-Value w, same.1)

heads : (a b : ℕ) (r s : List ℕ) → a ∷ r ≡ b ∷ s → (a ≡ b) × (r ≡ s)
heads a b r s e = (cc, cc)

word_told : (test : ℕ → Bool) → LayerTold (is_word_of test) (λ l. word_in l ∷ [])
word_told test (Value-F.Word a) (Value-F.Word b) r s p q e = let h = heads a b r s e in (ap Value-F.Word h.0, h.1)
word_told test (Value-F.Word a) (Value-F.Tuple ws) r s p q e = cc
word_told test (Value-F.Word a) (Value-F.Vector ws) r s p q e = cc
word_told test (Value-F.Word a) (Value-F.Con c ws) r s p q e = cc
word_told test (Value-F.Tuple vs) w r s p q e = cc
word_told test (Value-F.Vector vs) w r s p q e = cc
word_told test (Value-F.Con d vs) w r s p q e = cc

-- several parts, each by its own test
data AllTold : List (Value → Bool) → List (Value → List ℕ) → Type 0 where
  none : AllTold [] []
  one : {t : Value → Bool} {f : Value → List ℕ} {ts : List (Value → Bool)} {fs : List (Value → List ℕ)} → Told t f → AllTold ts fs → AllTold (t ∷ ts) (f ∷ fs)

parts_told : {ts : List (Value → Bool)} {fs : List (Value → List ℕ)} → AllTold ts fs → (vs ws : List Value) (r s : List ℕ)
    → all_pass ts vs ≡ true → all_pass ts ws ≡ true → joined fs vs ++ r ≡ joined fs ws ++ s → (vs ≡ ws) × (r ≡ s)
parts_told none [] [] r s p q e = (refl, e)
parts_told none [] (w ∷ ws) r s p q e = cc
parts_told none (v ∷ vs) ws r s p q e = cc
parts_told (one told more) [] ws r s p q e = cc
parts_told (one told more) (v ∷ vs) [] r s p q e = cc
parts_told (one {f = f} {fs = fs} told more) (v ∷ vs) (w ∷ ws) r s p q e =
    let ps = and_parts _ _ p in
    let qs = and_parts _ _ q in
    let first = told v w (joined fs vs ++ r) (joined fs ws ++ s) ps.0 qs.0 (sym (append_assoc (f v) (joined fs vs) r) ∙ e ∙ append_assoc (f w) (joined fs ws) s) in
    let rest = parts_told more vs ws r s ps.1 qs.1 first.1 in
    (λ i. first.0 i ∷ rest.0 i, rest.1)

tuple_told : {ts : List (Value → Bool)} {fs : List (Value → List ℕ)} → AllTold ts fs → LayerTold (is_tuple_of ts) (λ l. joined fs (parts_in l))
tuple_told all (Value-F.Tuple vs) (Value-F.Tuple ws) r s p q e = let h = parts_told all vs ws r s p q e in (ap Value-F.Tuple h.0, h.1)
tuple_told all (Value-F.Tuple vs) (Value-F.Word b) r s p q e = cc
tuple_told all (Value-F.Tuple vs) (Value-F.Vector ws) r s p q e = cc
tuple_told all (Value-F.Tuple vs) (Value-F.Con c ws) r s p q e = cc
tuple_told all (Value-F.Word a) w r s p q e = cc
tuple_told all (Value-F.Vector vs) w r s p q e = cc
tuple_told all (Value-F.Con d vs) w r s p q e = cc

items_told : (t : Value → Bool) (f : Value → List ℕ) → Told t f → (vs ws : List Value) (r s : List ℕ) → length vs ≡ length ws
    → list_all t vs ≡ true → list_all t ws ≡ true → flat_map f vs ++ r ≡ flat_map f ws ++ s → (vs ≡ ws) × (r ≡ s)
items_told t f told [] [] r s long p q e = (refl, e)
items_told t f told [] (w ∷ ws) r s long p q e = absurd (omega arith)
items_told t f told (v ∷ vs) [] r s long p q e = absurd (omega arith)
items_told t f told (v ∷ vs) (w ∷ ws) r s long p q e =
    let ps = and_parts _ _ p in
    let qs = and_parts _ _ q in
    let first = told v w (flat_map f vs ++ r) (flat_map f ws ++ s) ps.0 qs.0 (sym (append_assoc (f v) (flat_map f vs) r) ∙ e ∙ append_assoc (f w) (flat_map f ws) s) in
    let rest = items_told t f told vs ws r s (omega arith) ps.1 qs.1 first.1 in
    (λ i. first.0 i ∷ rest.0 i, rest.1)

vector_told : (n : ℕ) (t : Value → Bool) (f : Value → List ℕ) → Told t f → LayerTold (is_vector_of n t) (λ l. flat_map f (parts_in l))
vector_told n t f told (Value-F.Vector vs) (Value-F.Vector ws) r s p q e =
    let ps = and_parts _ _ p in
    let qs = and_parts _ _ q in
    let h = items_told t f told vs ws r s (eqb-true _ _ ps.0 ∙ sym (eqb-true _ _ qs.0)) ps.1 qs.1 e in
    (ap Value-F.Vector h.0, h.1)
vector_told n t f told (Value-F.Vector vs) (Value-F.Word b) r s p q e = cc
vector_told n t f told (Value-F.Vector vs) (Value-F.Tuple ws) r s p q e = cc
vector_told n t f told (Value-F.Vector vs) (Value-F.Con c ws) r s p q e = cc
vector_told n t f told (Value-F.Word a) w r s p q e = cc
vector_told n t f told (Value-F.Tuple vs) w r s p q e = cc
vector_told n t f told (Value-F.Con d vs) w r s p q e = cc

cancel : (zs r s : List ℕ) → zs ++ r ≡ zs ++ s → r ≡ s
cancel [] r s e = e
cancel (z ∷ zs) r s e = cancel zs r s (heads z z (zs ++ r) (zs ++ s) e).1

all_told : (t : Ty → Value → Bool) (f : Ty → Value → List ℕ) → ((ty : Ty) → Told (t ty) (f ty)) → (tys : List Ty) → AllTold (map t tys) (map f tys)
all_told t f told [] = none
all_told t f told (ty ∷ tys) = one (told ty) (all_told t f told tys)

module _ (t : Ty → Value → Bool) (f : Ty → Value → List ℕ) (told : (ty : Ty) → Told (t ty) (f ty)) (size : ℕ) (sum : SumDef) where
  abbrev words : ℕ → List Value → List ℕ
  words c vs = joined (map f (fields_at sum c)) vs

  abbrev zeros : ℕ → List Value → List ℕ
  zeros c vs = replicate {A = ℕ} (size - length (c ∷ words c vs)) 0

  abbrev sum_words : Value-F Value → List ℕ
  sum_words l = padded size (con_words f sum l)

  one_con : (c : ℕ) (vs ws : List Value) (r s : List ℕ) → all_pass (map t (fields_at sum c)) vs ≡ true → all_pass (map t (fields_at sum c)) ws ≡ true
      → sum_words (Value-F.Con c vs) ++ r ≡ sum_words (Value-F.Con c ws) ++ s → (vs ≡ ws) × (r ≡ s)
  one_con c vs ws r s p q e =
      let tails = (heads c c ((words c vs ++ zeros c vs) ++ r) ((words c ws ++ zeros c ws) ++ s) e).1 in
      let h = parts_told (all_told t f told (fields_at sum c)) vs ws (zeros c vs ++ r) (zeros c ws ++ s) p q
      (sym (append_assoc (words c vs) (zeros c vs) r) ∙ tails ∙ append_assoc (words c ws) (zeros c ws) s) in
      (h.0, cancel (zeros c vs) r s (h.1 ∙ ap (λ us. zeros c us ++ s) (sym h.0)))

  con_told : LayerTold (is_con_of t sum) sum_words
  con_told (Value-F.Con c vs) (Value-F.Con d ws) r s p q e =
      let same = (heads c d _ _ e).0 in
      let q' = subst (λ k. is_con_of t sum (Value-F.Con k ws) ≡ true) (sym same) q in
      let e' = subst (λ k. sum_words (Value-F.Con c vs) ++ r ≡ sum_words (Value-F.Con k ws) ++ s) (sym same) e in
      let h = one_con c vs ws r s (and_parts _ _ p).1 (and_parts _ _ q').1 e' in
      (λ i. Value-F.Con (same i) (h.0 i), h.1)
  con_told (Value-F.Con c vs) (Value-F.Word b) r s p q e = cc
  con_told (Value-F.Con c vs) (Value-F.Tuple ws) r s p q e = cc
  con_told (Value-F.Con c vs) (Value-F.Vector ws) r s p q e = cc
  con_told (Value-F.Word a) w r s p q e = cc
  con_told (Value-F.Tuple vs) w r s p q e = cc
  con_told (Value-F.Vector vs) w r s p q e = cc

module _ (nt : ℕ → Value → Bool) (nf : ℕ → Value → List ℕ) (named : (k : ℕ) → Told (nt k) (nf k)) where
  abbrev TyTold : Ty → Type 0
  TyTold ty = Told (is_value_with nt ty) (flat_with nf ty)

  abbrev Part : Type 0
  Part = (ty : Ty) × TyTold ty

  abbrev of_part : Part → Ty
  of_part p = p.0

  parts_all : (ps : List Part) → AllTold (map (is_value_with nt) (map of_part ps)) (map (flat_with nf) (map of_part ps))
  parts_all [] = none
  parts_all (p ∷ ps) = one p.1 (parts_all ps)

  step_told : (y : Ty-F Part) → Told (value_step nt (map-Ty Ty (Value → Bool) (is_value_with nt) (map-Ty Part Ty of_part y))) (flat_step nf (map-Ty Ty (Value → List ℕ) (flat_with nf) (map-Ty Part Ty of_part y)))
  step_told Ty-F.Bool = by_layer (is_word_of (λ word. nat_lt word 2)) (λ l. word_in l ∷ []) (word_told (λ word. nat_lt word 2))
  step_told Ty-F.Char = by_layer (is_word_of is_char_word) (λ l. word_in l ∷ []) (word_told is_char_word)
  step_told (Ty-F.Int n) = by_layer (is_word_of (is_int_word n)) (λ l. word_in l ∷ []) (word_told (is_int_word n))
  step_told (Ty-F.Nat n) = by_layer (is_word_of (λ word. nat_lt word (2 ^ n))) (λ l. word_in l ∷ []) (word_told (λ word. nat_lt word (2 ^ n)))
  step_told (Ty-F.Tuple ps) = by_layer _ _ (tuple_told (parts_all ps))
  step_told (Ty-F.Vector n p) = by_layer _ _ (vector_told n _ _ p.1)
  step_told (Ty-F.Named k) = named k

  layer_told : (y : Ty-F Part) → TyTold (roll-Ty (map-Ty Part Ty of_part y))
  layer_told y = rw (fold-roll-Ty (Value → Bool) (value_step nt), fold-roll-Ty (Value → List ℕ) (flat_step nf)) (step_told y)

  ty_told : (ty : Ty) → TyTold ty
  ty_told = ind-Ty TyTold (λ x y is. subst (λ z. TyTold (roll-Ty z)) is (layer_told y))

-- whichever of the two a test chooses, its values are told apart
either_told : (b : Bool) (t u : Value → Bool) (f g : Value → List ℕ) → Told t f → Told u g
    → Told (λ v. if b then t v else u v) (λ v. if b then f v else g v)
either_told true t u f g first second = first
either_told false t u f g first second = second

module _ (types : Types) (bound : ℕ) (named : (k : ℕ) → Told (is_named_value types bound k) (named_words types bound k)) where
  abbrev test : Ty → Value → Bool
  test = is_value_with (is_named_value types bound)

  abbrev words_of : Ty → Value → List ℕ
  words_of = flat_with (named_words types bound)

  sum_told : (size : ℕ) (o : Option SumDef) → Told (is_sum_value test o) (flat_sum words_of size o)
  sum_told size None = λ v w r s p q e. cc
  sum_told size (Some sum) =
      by_layer (is_con_of test sum) (λ l. padded size (con_words words_of sum l))
      (con_told test words_of (ty_told (is_named_value types bound) (named_words types bound) named) size sum)

named_told : (types : Types) (bound k : ℕ) → Told (is_named_value types bound k) (named_words types bound k)
unfolding is_named_value named_words
named_told types zero k = λ v w r s p q e. cc
named_told types (suc bound) k =
    either_told (k == bound) _ _ _ _ (sum_told types bound (named_told types bound) _ (slice_get types.sums bound)) (named_told types bound k)

-- two values of a type whose words begin a list are the same
pub words_tell : (types : Types) (ty : Ty) → Told (is_value_with (is_named_value types (length types.sums)) ty) (flat_with (named_words types (length types.sums)) ty)
words_tell types = ty_told _ _ (named_told types (length types.sums))
