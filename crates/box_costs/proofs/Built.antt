-- A value is built of no more words than its type allows, and of just as many where the type has one form.
use Rattle.std.proofs.Common.{◌≡◌, ℕ, zero, suc, ◌+◌, ◌*◌, ◌==◌, ◌≤◌, ◌<◌, ◌&&◌, nat_lt, Bool, true, false, if◌then◌else◌, List, [], ◌∷◌, map, length, Option, Some, None, slice_get, refl, ap, sym, ◌∙◌, subst, arith}
use Rattle.std.proofs.lemmas.Bool.{and_parts, eqb-true, ltb-true}
use Rattle.std.specs.List.{sum, list_all}
use Rattle.hume_base.specs.declared.types.Ty.{Ty, roll-Ty, map-Ty, fold-roll-Ty, ind-Ty}
use Rattle.hume_base.specs.declared.types.Ty.TheOpen.{Ty-F}
use Rattle.hume_base.specs.declared.types.Types.{Types}
use Rattle.hume_base.specs.declared.types.SumDef.{SumDef}
use Rattle.hume_base.specs.declared.types.ConDef.{ConDef}
use Rattle.hume_base.specs.declared.types.Value.{Value, out-Value, roll-out-Value, map-Value, fold-roll-Value}
use Rattle.hume_base.specs.declared.types.Value.TheOpen.{Value-F}
use Rattle.hume_base.specs.Sizes.{greatest}
use Rattle.hume_base.specs.Values.{is_value, is_value_with, value_step, is_named_value, is_sum_value, is_con_of, all_pass, is_tuple_of, is_vector_of, is_word_of, is_char_word, is_int_word, fields_of}
use Rattle.hume_model.specs.Calls.{all_true}
use Rattle.box_costs.specs.Building.{build_step, build_with, build_of_con, build_of_sum, named_build, build_of, built_step, built_of}
use Rattle.box_costs.specs.Straight.{one_form_step, has_one_form_with, is_one_con, is_one_form_sum, named_one_form, has_one_form}
use Rattle.box_costs.proofs.CostSteps.{sum_more}

built_form : (v : Value) → built_of v ≡ built_step (map-Value Value ℕ built_of (out-Value v))
built_form v = ap built_of (sym (roll-out-Value v)) ∙ fold-roll-Value ℕ built_step (out-Value v)

-- no more than so many words, and just as many if there is one form
pub record IsBuilt (words bound : ℕ) (one_form : Bool) : Type 0 where
  pub few : words ≤ bound
  pub alike : one_form ≡ true → words ≡ bound

same_words : (a b c : ℕ) (f : Bool) → a ≡ b → IsBuilt b c f → IsBuilt a c f
same_words a b c f e p = subst (λ k. IsBuilt k c f) (sym e) p

no_words : (f : Bool) → IsBuilt 0 0 f
no_words f = record { few = omega arith; alike = λ h. refl }

-- the words of a scalar
word_built : (test : ℕ → Bool) (l : Value-F Value) → is_word_of test l ≡ true → (f : Bool) → IsBuilt (built_step (map-Value Value ℕ built_of l)) 0 f
word_built test (Value-F.Word w) h f = no_words f
word_built test (Value-F.Tuple us) h f = cc
word_built test (Value-F.Vector us) h f = cc
word_built test (Value-F.Con c us) h f = cc

abbrev words_of : List Value → ℕ
words_of vs = sum (map built_of vs)

-- several values: as many as tests, and so many words
record AreBuilt (vs : List Value) (bounds : List ℕ) (one_form : Bool) : Type 0 where
  count : length vs ≡ length bounds
  words : IsBuilt (words_of vs) (sum bounds) one_form

none_built : AreBuilt [] [] true
none_built = record { count = refl; words = no_words true }

one_more : (v : Value) (vs : List Value) (b : ℕ) (bounds : List ℕ) (f g : Bool) → IsBuilt (built_of v) b f → AreBuilt vs bounds g → AreBuilt (v ∷ vs) (b ∷ bounds) (f && g)
one_more v vs b bounds f g p q =
    let e = sum_more (built_of v) (map built_of vs) in
    let d = sum_more b bounds in
    record {
      count = ap suc q.count;
      words = record {
        few = omega (arith, e, d, p.few, q.words.few);
        alike = λ h. (let hs = and_parts f g h in let x = p.alike hs.0 in let y = q.words.alike hs.1 in omega (arith, e, d, x, y));
      };
    }

-- items of a vector
items_built : (test : Value → Bool) (b : ℕ) (f : Bool) → ((v : Value) → test v ≡ true → IsBuilt (built_of v) b f) → (vs : List Value) → list_all test vs ≡ true
    → IsBuilt (words_of vs) (length vs * b) f
items_built test b f by [] h = record { few = omega arith; alike = λ g. omega arith }
items_built test b f by (v ∷ vs) h =
    let hs = and_parts _ _ h in
    let p = by v hs.0 in
    let q = items_built test b f by vs hs.1 in
    let e = sum_more (built_of v) (map built_of vs) in
    let n = length vs * b in
    let d : length (v ∷ vs) * b ≡ b + n = omega arith in
    record {
      few = omega (arith, e, d, p.few, q.few);
      alike = λ g. (let x = p.alike g in let y = q.alike g in omega (arith, e, d, x, y));
    }

mapped_length : (vs : List Value) → length (map built_of vs) ≡ length vs
mapped_length [] = refl
mapped_length (v ∷ vs) = ap suc (mapped_length vs)

-- an object of parts
object_built : (vs : List Value) (bounds : List ℕ) (f : Bool) (count : ℕ) → length bounds ≡ count → AreBuilt vs bounds f
    → IsBuilt ((1 + length (map built_of vs)) + words_of vs) ((1 + count) + sum bounds) f
object_built vs bounds f count same p =
    let e = mapped_length vs in
    let c = p.count in
    record { few = omega (arith, e, c, same, p.words.few); alike = λ h. (let x = p.words.alike h in omega (arith, e, c, same, x)) }

tuple_built : (tests : List (Value → Bool)) (bounds : List ℕ) (f : Bool) → ((vs : List Value) → all_pass tests vs ≡ true → AreBuilt vs bounds f) → (l : Value-F Value)
    → is_tuple_of tests l ≡ true → IsBuilt (built_step (map-Value Value ℕ built_of l)) ((1 + length bounds) + sum bounds) f
tuple_built tests bounds f by (Value-F.Tuple us) h = object_built us bounds f (length bounds) refl (by us h)
tuple_built tests bounds f by (Value-F.Word w) h = cc
tuple_built tests bounds f by (Value-F.Vector us) h = cc
tuple_built tests bounds f by (Value-F.Con c us) h = cc

vector_built : (count : ℕ) (test : Value → Bool) (b : ℕ) (f : Bool) → ((v : Value) → test v ≡ true → IsBuilt (built_of v) b f) → (l : Value-F Value)
    → is_vector_of count test l ≡ true → IsBuilt (built_step (map-Value Value ℕ built_of l)) ((1 + count) + count * b) f
vector_built count test b f by (Value-F.Vector us) h =
    let hs = and_parts _ _ h in
    let long : length us ≡ count = eqb-true (length us) count hs.0 in
    let items : IsBuilt (words_of us) (count * b) f = subst (λ n. IsBuilt (words_of us) (n * b) f) long (items_built test b f by us hs.1) in
    let e = mapped_length us in
    let n = count * b in
    record { few = omega (arith, e, long, items.few); alike = λ g. (let x = items.alike g in omega (arith, e, long, x)) }
vector_built count test b f by (Value-F.Word w) h = cc
vector_built count test b f by (Value-F.Tuple us) h = cc
vector_built count test b f by (Value-F.Con c us) h = cc

module _ (named : ℕ → ℕ) (test_named : ℕ → Value → Bool) (forms : ℕ → Bool)
    (by_name : (k : ℕ) (v : Value) → test_named k v ≡ true → IsBuilt (built_of v) (named k) (forms k)) where
  abbrev Builds : Ty → Type 0
  Builds t = (v : Value) → is_value_with test_named t v ≡ true → IsBuilt (built_of v) (build_with named t) (has_one_form_with forms t)

  abbrev Part : Type 0
  Part = (t : Ty) × Builds t

  abbrev of_part : Part → Ty
  of_part p = p.0

  parts_built : (ps : List Part) (vs : List Value) → all_pass (map (is_value_with test_named) (map of_part ps)) vs ≡ true
      → AreBuilt vs (map (build_with named) (map of_part ps)) (all_true (map (has_one_form_with forms) (map of_part ps)))
  parts_built [] [] h = none_built
  parts_built [] (v ∷ vs) h = cc
  parts_built (p ∷ ps) [] h = cc
  parts_built (p ∷ ps) (v ∷ vs) h =
      let hs = and_parts _ _ h in
      one_more v vs _ _ _ _ (p.1 v hs.0) (parts_built ps vs hs.1)

  abbrev layer : Ty-F Part → Ty-F Ty
  layer y = map-Ty Part Ty of_part y

  step_built : (y : Ty-F Part) (v : Value) → value_step test_named (map-Ty Ty (Value → Bool) (is_value_with test_named) (layer y)) v ≡ true
      → IsBuilt (built_of v) (build_step named (map-Ty Ty ℕ (build_with named) (layer y))) (one_form_step forms (map-Ty Ty Bool (has_one_form_with forms) (layer y)))
  step_built Ty-F.Bool v h = same_words _ _ _ _ (built_form v) (word_built (λ word. nat_lt word 2) (out-Value v) h true)
  step_built Ty-F.Char v h = same_words _ _ _ _ (built_form v) (word_built is_char_word (out-Value v) h true)
  step_built (Ty-F.Int bits) v h = same_words _ _ _ _ (built_form v) (word_built (is_int_word bits) (out-Value v) h true)
  step_built (Ty-F.Nat bits) v h = same_words _ _ _ _ (built_form v) (word_built _ (out-Value v) h true)
  step_built (Ty-F.Tuple ps) v h = same_words _ _ _ _ (built_form v) (tuple_built (map (is_value_with test_named) (map of_part ps)) _ _ (parts_built ps) (out-Value v) h)
  step_built (Ty-F.Vector count p) v h = same_words _ _ _ _ (built_form v) (vector_built count (is_value_with test_named p.0) _ _ p.1 (out-Value v) h)
  step_built (Ty-F.Named k) v h = by_name k v h

  layer_built : (y : Ty-F Part) → Builds (roll-Ty (layer y))
  layer_built y v h =
      rw (fold-roll-Ty ℕ (build_step named) (layer y), fold-roll-Ty Bool (one_form_step forms) (layer y))
      (step_built y v (sym (ap (λ (t : Value → Bool). t v) (fold-roll-Ty (Value → Bool) (value_step test_named) (layer y))) ∙ h))

  pub builds : (t : Ty) → Builds t
  builds = ind-Ty Builds (λ x y is. subst (λ z. Builds (roll-Ty z)) is (layer_built y))

  fields_built : (ts : List Ty) (vs : List Value) → all_pass (map (is_value_with test_named) ts) vs ≡ true
      → AreBuilt vs (map (build_with named) ts) (list_all (has_one_form_with forms) ts)
  fields_built [] [] h = none_built
  fields_built [] (v ∷ vs) h = cc
  fields_built (t ∷ ts) [] h = cc
  fields_built (t ∷ ts) (v ∷ vs) h =
      let hs = and_parts _ _ h in
      one_more v vs _ _ _ _ (builds t v hs.0) (fields_built ts vs hs.1)

  mapped_types : (ts : List Ty) → length (map (build_with named) ts) ≡ length ts
  mapped_types [] = refl
  mapped_types (t ∷ ts) = ap suc (mapped_types ts)

  abbrev con_words : ConDef → ℕ
  con_words con = build_of_con (build_with named) con

  -- the constructor is one of those that there are
  con_built : (cons : List ConDef) (place : ℕ) (us : List Value) → place < length cons
      → all_pass (map (is_value_with test_named) (fields_of (slice_get cons place))) us ≡ true
      → ((1 + length (map built_of us)) + words_of us) ≤ greatest (map con_words cons)
  con_built [] place us low h = absurd (omega arith)
  con_built (con ∷ cons) zero us low h =
      let p = object_built us _ _ (length con.fields) (mapped_types con.fields) (fields_built con.fields us h) in
      omega (arith, p.few)
  con_built (con ∷ cons) (suc place) us low h = (let p = con_built cons place us (omega arith) h in omega (arith, p))

  -- the only constructor
  only_built : (cons : List ConDef) (place : ℕ) (us : List Value) → place < length cons
      → all_pass (map (is_value_with test_named) (fields_of (slice_get cons place))) us ≡ true → is_one_con (has_one_form_with forms) cons ≡ true
      → ((1 + length (map built_of us)) + words_of us) ≡ greatest (map con_words cons)
  only_built [] place us low h one = absurd (omega arith)
  only_built (con ∷ []) zero us low h one =
      let p = object_built us _ _ (length con.fields) (mapped_types con.fields) (fields_built con.fields us h) in
      (let e = p.alike one in omega (arith, e))
  only_built (con ∷ []) (suc place) us low h one = absurd (omega arith)
  only_built (con ∷ other ∷ cons) place us low h one = cc

  sum_built : (o : Option SumDef) (v : Value) → is_sum_value (is_value_with test_named) o v ≡ true
      → IsBuilt (built_of v) (build_of_sum (build_with named) o) (is_one_form_sum (has_one_form_with forms) o)
  sum_built None v h = cc
  sum_built (Some sum_type) v h = same_words _ _ _ _ (built_form v) (by (out-Value v) h)
    where
      by : (l : Value-F Value) → is_con_of (is_value_with test_named) sum_type l ≡ true
          → IsBuilt (built_step (map-Value Value ℕ built_of l)) (greatest (map con_words sum_type.cons)) (is_one_con (has_one_form_with forms) sum_type.cons)
      by (Value-F.Con place us) h =
          let hs = and_parts _ _ h in
          let low = ltb-true place (length sum_type.cons) hs.0 in
          record { few = con_built sum_type.cons place us low hs.1; alike = λ one. only_built sum_type.cons place us low hs.1 one }
      by (Value-F.Word w) h = cc
      by (Value-F.Tuple us) h = cc
      by (Value-F.Vector us) h = cc

choose : (b : Bool) (p q : Bool) (words c d : ℕ) (f g : Bool) → (if b then p else q) ≡ true → (p ≡ true → IsBuilt words c f) → (q ≡ true → IsBuilt words d g)
    → IsBuilt words (if b then c else d) (if b then f else g)
choose true p q words c d f g h x y = x h
choose false p q words c d f g h x y = y h

named_built : (types : Types) (limit k : ℕ) (v : Value) → is_named_value types limit k v ≡ true → IsBuilt (built_of v) (named_build types limit k) (named_one_form types limit k)
unfolding is_named_value named_build named_one_form
named_built types zero k v h = cc
named_built types (suc limit) k v h =
    choose (k == limit) _ _ _ _ _ _ _ h
    (λ g. sum_built (named_build types limit) (is_named_value types limit) (named_one_form types limit) (λ n u x. named_built types limit n u x) (slice_get types.sums limit) v g)
    (λ g. named_built types limit k v g)

pub is_built : (types : Types) (t : Ty) (v : Value) → is_value types t v ≡ true → built_of v ≤ build_of types t
is_built types t v h =
    (builds (named_build types (length types.sums)) (is_named_value types (length types.sums)) (named_one_form types (length types.sums))
    (λ n u x. named_built types (length types.sums) n u x) t v h).few

pub is_built_alike : (types : Types) (t : Ty) (v : Value) → is_value types t v ≡ true → has_one_form types t ≡ true → built_of v ≡ build_of types t
is_built_alike types t v h one =
    (builds (named_build types (length types.sums)) (is_named_value types (length types.sums)) (named_one_form types (length types.sums))
    (λ n u x. named_built types (length types.sums) n u x) t v h).alike one
