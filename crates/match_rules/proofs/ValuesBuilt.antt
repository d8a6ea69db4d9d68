-- What is built of the words of a value stands for it.
use Rattle.std.proofs.Common.{◌≡◌, ℕ, zero, suc, ◌+◌, ◌-◌, ◌*◌, ◌^◌, ◌<◌, ◌≤◌, ◌==◌, nat_lt, Bool, true, false, if◌then◌else◌, List, [], ◌∷◌, ◌++◌, map, length, drop, sum, replicate, get_or, Option, Some, None, slice_get, refl, ap, sym, ◌∙◌, subst, append_assoc, append-nil, length-append, arith, inl, inr}
use Rattle.std.proofs.Math.Seq.{drop-append_seam}
use Rattle.std.proofs.lemmas.Bool.{and_parts, eqb-true, ltb-true, lt-ltb, cases_eq, eq-eqb, ne_eqb}
use Rattle.std.proofs.lemmas.Grind.{flat_map-append}
use Rattle.std.proofs.lemmas.List.{length-map, length-replicate}
use Rattle.std.proofs.lemmas.List.Elements.{All-append}
use Rattle.std.specs.List.{All, list_all, flat_map}
use Rattle.hume_base.specs.declared.types.Ty.{Ty, roll-Ty, map-Ty, fold-roll-Ty, ind-Ty}
use Rattle.hume_base.specs.declared.types.Ty.TheOpen.{Ty-F}
use Rattle.hume_base.specs.declared.types.Value.{Value, out-Value, roll-Value, roll-out-Value, fold-roll-Value}
use Rattle.hume_base.specs.declared.types.Value.TheOpen.{Value-F}
use Rattle.hume_base.specs.declared.types.Value.TheVariants as value
use Rattle.hume_base.specs.declared.types.Types.{Types}
use Rattle.hume_base.specs.declared.types.SumDef.{SumDef}
use Rattle.hume_base.specs.declared.types.ConDef.{ConDef}
use Rattle.hume_base.specs.Sizes.{HaveTheirSizes, size_of_sum, named_size, written_size}
use Rattle.hume_base.specs.Values.{is_value, is_word_of, is_char_word, is_int_word, all_pass, is_tuple_of, is_vector_of, value_step, is_value_with, is_con_of, is_sum_value, is_named_value, fields_of, fields_at}
use Rattle.hume_base.specs.Flat.{flat, joined, word_in, parts_in, flat_step, flat_with, padded, con_words, flat_sum, named_words}
use Rattle.hume_model.specs.Reading.{HasReadableSize, HaveReadableSizes}
use Rattle.box_costs.specs.Building.{built_of, built_step}
use Rattle.box_costs.proofs.CostSteps.{sum_more}
use Rattle.box_heap.specs.Heaps.{Object, object_at, words_of_object}
use Rattle.box_heap.specs.Standing.{Stands, AllStand}
use Rattle.box_heap.proofs.Staying.{found_still, behind_all}
use Rattle.box_heap.proofs.StandingStill.{stands_still}
use Rattle.match_rules.specs.inner.Builders.{Built, BuiltParts, Builder, plain, build_word, build_several, build_object, build_fields, build_con, past_zeros, build_sum, build_step, build_with, build_named}
use Rattle.match_rules.proofs.Objects.{several_many, object_by}

abbrev pub AreTagged : List Object → Type 0
AreTagged objects = All (λ (object : Object). object.0 < 4294967296) objects

-- the value is built from a place on: by objects, and by a word that stands for it wherever there are so many words before them
pub record IsBuilt (v : Value) (place : ℕ) (behind : List ℕ) (built : Built) : Type 0 where
  pub objects : List Object
  pub words : built.put ≡ flat_map words_of_object objects
  pub tags : AreTagged objects
  pub takes : length built.put ≡ built_of v
  pub left : built.rest ≡ behind
  pub stands : (before : List Object) → length (flat_map words_of_object before) ≡ place → Stands (before ++ objects) v built.word

-- the same for several
pub record AreBuiltParts (vs : List Value) (place : ℕ) (behind : List ℕ) (parts : BuiltParts) : Type 0 where
  pub objects : List Object
  pub words : parts.put ≡ flat_map words_of_object objects
  pub tags : AreTagged objects
  pub takes : length parts.put ≡ sum (map built_of vs)
  pub many : length parts.fields ≡ length vs
  pub left : parts.rest ≡ behind
  pub stand : (before : List Object) → length (flat_map words_of_object before) ≡ place → AllStand (before ++ objects) vs parts.fields

none_tagged : AreTagged []
none_tagged = λ k d less. absurd (omega (arith, less))

-- the words that values take

pub word_takes : (w : ℕ) → built_of (value.Word w) ≡ 0
word_takes w = ap built_of (sym (value.rolls-Word w)) ∙ fold-roll-Value ℕ built_step (Value-F.Word w)

tuple_takes : (vs : List Value) → built_of (value.Tuple vs) ≡ (1 + length vs) + sum (map built_of vs)
tuple_takes vs =
    ap built_of (sym (value.rolls-Tuple vs)) ∙ fold-roll-Value ℕ built_step (Value-F.Tuple vs)
    ∙ ap (λ n. (1 + n) + sum (map built_of vs)) (length-map vs built_of)

vector_takes : (vs : List Value) → built_of (value.Vector vs) ≡ (1 + length vs) + sum (map built_of vs)
vector_takes vs =
    ap built_of (sym (value.rolls-Vector vs)) ∙ fold-roll-Value ℕ built_step (Value-F.Vector vs)
    ∙ ap (λ n. (1 + n) + sum (map built_of vs)) (length-map vs built_of)

con_takes : (c : ℕ) (vs : List Value) → built_of (value.Con c vs) ≡ (1 + length vs) + sum (map built_of vs)
con_takes c vs =
    ap built_of (sym (value.rolls-Con c vs)) ∙ fold-roll-Value ℕ built_step (Value-F.Con c vs)
    ∙ ap (λ n. (1 + n) + sum (map built_of vs)) (length-map vs built_of)

-- the values that pass a test are built from their words
abbrev Builds : (Value → Bool) → (Value → List ℕ) → Builder → Type 0
Builds test words builder = (v : Value) (place : ℕ) (r : List ℕ) → test v ≡ true → IsBuilt v place r (builder place (words v ++ r))

abbrev LayerBuilds : (Value-F Value → Bool) → (Value-F Value → List ℕ) → Builder → Type 0
LayerBuilds test words builder = (l : Value-F Value) (place : ℕ) (r : List ℕ) → test l ≡ true → IsBuilt (roll-Value l) place r (builder place (words l ++ r))

by_layer : (test : Value-F Value → Bool) (words : Value-F Value → List ℕ) (builder : Builder) → LayerBuilds test words builder
    → Builds (λ v. test (out-Value v)) (λ v. words (out-Value v)) builder
by_layer test words builder builds v place r p = subst (λ w. IsBuilt w place r (builder place (words (out-Value v) ++ r))) (roll-out-Value v)
    (builds (out-Value v) place r p)

word_builds : (test : ℕ → Bool) → LayerBuilds (is_word_of test) (λ l. word_in l ∷ []) build_word
word_builds test (Value-F.Word a) place r p = subst (λ v. IsBuilt v place r (plain a r)) (sym (value.rolls-Word a)) (record {
  objects = [];
  words = refl;
  tags = none_tagged;
  takes = sym (word_takes a);
  left = refl;
  stands = λ before long. Stands.word a;
})
word_builds test (Value-F.Tuple vs) place r p = cc
word_builds test (Value-F.Vector vs) place r p = cc
word_builds test (Value-F.Con c vs) place r p = cc

-- several parts

no_parts : (place : ℕ) (r : List ℕ) → AreBuiltParts [] place r (record { fields = []; put = []; rest = r })
no_parts place r = record { objects = []; words = refl; tags = none_tagged; takes = refl; many = refl; left = refl; stand = λ before long. AllStand.none }

next_part : (builder : Builder) (builders : List Builder) (v : Value) (vs : List Value) (place : ℕ) (own later r : List ℕ)
    → IsBuilt v place (later ++ r) (builder place (own ++ (later ++ r)))
    → ((from : ℕ) → AreBuiltParts vs from r (build_several builders from (later ++ r)))
    → AreBuiltParts (v ∷ vs) place r (build_several (builder ∷ builders) place ((own ++ later) ++ r))
next_part builder builders v vs place own later r first others =
    let one = builder place (own ++ (later ++ r)) in
    let from = place + length one.put in
    let more : AreBuiltParts vs from r (build_several builders from one.rest) = subst (λ ws. AreBuiltParts vs from r (build_several builders from ws))
    (sym first.left) (others from) in
    let rest = build_several builders from one.rest in
    subst (λ ws. AreBuiltParts (v ∷ vs) place r (build_several (builder ∷ builders) place ws)) (sym (append_assoc own later r)) (record {
      objects = first.objects ++ more.objects;
      words = ap (λ ws. ws ++ rest.put) first.words ∙ ap (λ ws. flat_map words_of_object first.objects ++ ws) more.words
          ∙ sym (flat_map-append words_of_object first.objects more.objects);
      tags = All-append (λ (object : Object). object.0 < 4294967296) first.objects more.objects first.tags more.tags;
      takes = length-append one.put rest.put ∙ (let all = sum_more (built_of v) (map built_of vs) in omega (arith, first.takes, more.takes, all));
      many = ap (λ n. suc n) more.many;
      left = more.left;
      stand = λ before long. (
          let longer : length (flat_map words_of_object (before ++ first.objects)) ≡ from = (
          let split = ap (λ ws. length ws) (flat_map-append words_of_object before first.objects) in
          let both = length-append (flat_map words_of_object before) (flat_map words_of_object first.objects) in
          let put = ap (λ ws. length ws) first.words in
          omega (arith, split, both, put, long)) in
          subst (λ os. AllStand os (v ∷ vs) (one.word ∷ rest.fields)) (append_assoc before first.objects more.objects)
          (AllStand.more (stands_still more.objects (first.stands before long)) (more.stand (before ++ first.objects) longer)));
    })

data AllBuild : List (Value → Bool) → List (Value → List ℕ) → List Builder → Type 0 where
  none : AllBuild [] [] []
  one : {t : Value → Bool} {f : Value → List ℕ} {builder : Builder} {ts : List (Value → Bool)} {fs : List (Value → List ℕ)} {builders : List Builder}
      → Builds t f builder → AllBuild ts fs builders → AllBuild (t ∷ ts) (f ∷ fs) (builder ∷ builders)

parts_built : {ts : List (Value → Bool)} {fs : List (Value → List ℕ)} {builders : List Builder} → AllBuild ts fs builders
    → (vs : List Value) (place : ℕ) (r : List ℕ)
    → all_pass ts vs ≡ true → AreBuiltParts vs place r (build_several builders place (joined fs vs ++ r))
parts_built none [] place r p = no_parts place r
parts_built none (v ∷ vs) place r p = cc
parts_built (one builds more) [] place r p = cc
parts_built (one {f = f} {builder = builder} {fs = fs} {builders = builders} builds more) (v ∷ vs) place r p =
    let ps = and_parts _ _ p in
    next_part builder builders v vs place (f v) (joined fs vs) r (builds v place (joined fs vs ++ r) ps.0) (λ from. parts_built more vs from r ps.1)

items_built : (t : Value → Bool) (f : Value → List ℕ) (builder : Builder) → Builds t f builder → (n : ℕ) (vs : List Value) (place : ℕ) (r : List ℕ)
    → length vs ≡ n
    → list_all t vs ≡ true → AreBuiltParts vs place r (build_several (replicate {A = Builder} n builder) place (flat_map f vs ++ r))
items_built t f builder builds zero [] place r long p = no_parts place r
items_built t f builder builds (suc n) [] place r long p = absurd (omega (arith, long))
items_built t f builder builds zero (v ∷ vs) place r long p = absurd (omega (arith, long))
items_built t f builder builds (suc n) (v ∷ vs) place r long p =
    let ps = and_parts _ _ p in
    next_part builder (replicate {A = Builder} n builder) v vs place (f v) (flat_map f vs) r (builds v place (flat_map f vs ++ r) ps.0)
    (λ from. items_built t f builder builds n vs from r (omega (arith, long)) ps.1)

-- an object of parts that are built behind it
pub record IsObjectBuilt (tag : ℕ) (vs : List Value) (place : ℕ) (behind : List ℕ) (built : Built) : Type 0 where
  pub fields : List ℕ
  pub objects : List Object
  pub words : built.put ≡ flat_map words_of_object ((tag, fields) ∷ objects)
  pub tags : AreTagged ((tag, fields) ∷ objects)
  pub takes : length built.put ≡ (1 + length vs) + sum (map built_of vs)
  pub left : built.rest ≡ behind
  pub at : built.word ≡ place
  pub found : (before : List Object) → length (flat_map words_of_object before) ≡ place
      → object_at (before ++ ((tag, fields) ∷ objects)) place ≡ Some (tag, fields)
  pub stand : (before : List Object) → length (flat_map words_of_object before) ≡ place → AllStand (before ++ ((tag, fields) ∷ objects)) vs fields

first_tagged : (object : Object) (objects : List Object) → object.0 < 4294967296 → AreTagged objects → AreTagged (object ∷ objects)
first_tagged object objects small tags = λ k d less. by k d less
  where
    by : (k : ℕ) (d : Object) → k < length (object ∷ objects) → (get_or (object ∷ objects) k d).0 < 4294967296
    by zero d less = small
    by (suc k) d less = tags k d (omega (arith, less))

object_built : (tag count : ℕ) (builders : List Builder) (vs : List Value) (place : ℕ) (words r : List ℕ) → tag < 4294967296 → length builders ≡ count
    → AreBuiltParts vs (place + (1 + count)) r (build_several builders (place + (1 + count)) words)
    → IsObjectBuilt tag vs place r (build_object tag builders place words)
object_built tag count builders vs place words r small all parts =
    let total = build_several builders (place + (1 + count)) words in
    let many : length total.fields ≡ count = several_many builders (place + (1 + count)) words ∙ all in
    let object : Object = (tag, total.fields) in
    let own : length (words_of_object object) ≡ 1 + length total.fields = omega arith in
    subst (IsObjectBuilt tag vs place r) (sym (object_by tag count place builders words all)) (record {
      fields = total.fields;
      objects = parts.objects;
      words = ap (λ n. (tag + 4294967296 * n) ∷ (total.fields ++ total.put)) (sym many)
          ∙ ap (λ ws. (tag + 4294967296 * length total.fields) ∷ (total.fields ++ ws)) parts.words;
      tags = first_tagged object parts.objects small parts.tags;
      takes = (let both = length-append total.fields total.put in omega (arith, both, parts.many, parts.takes));
      left = parts.left;
      at = refl;
      found = λ before long. ap (λ os. object_at os place) (sym (append_assoc before (object ∷ []) parts.objects))
          ∙ found_still (before ++ object ∷ []) parts.objects place object (behind_all before object place (sym long));
      stand = λ before long. (
          let longer : length (flat_map words_of_object (before ++ object ∷ [])) ≡ place + (1 + count) = (
          let split = ap (λ ws. length ws) (flat_map-append words_of_object before (object ∷ [])) in
          let both = length-append (flat_map words_of_object before) (flat_map words_of_object (object ∷ [])) in
          let last = ap (λ ws. length ws) (append-nil (words_of_object object)) in
          omega (arith, split, both, last, own, many, long)) in
          subst (λ os. AllStand os vs total.fields) (append_assoc before (object ∷ []) parts.objects) (parts.stand (before ++ object ∷ []) longer));
    })

tuple_built : (vs : List Value) (place : ℕ) (r : List ℕ) (built : Built) → IsObjectBuilt 0 vs place r built → IsBuilt (value.Tuple vs) place r built
tuple_built vs place r built is = record {
  objects = (0, is.fields) ∷ is.objects;
  words = is.words;
  tags = is.tags;
  takes = is.takes ∙ sym (tuple_takes vs);
  left = is.left;
  stands = λ before long. subst (Stands (before ++ ((0, is.fields) ∷ is.objects)) (value.Tuple vs)) (sym is.at)
      (Stands.tuple place (is.found before long) (is.stand before long));
}

vector_built : (vs : List Value) (place : ℕ) (r : List ℕ) (built : Built) → IsObjectBuilt 0 vs place r built → IsBuilt (value.Vector vs) place r built
vector_built vs place r built is = record {
  objects = (0, is.fields) ∷ is.objects;
  words = is.words;
  tags = is.tags;
  takes = is.takes ∙ sym (vector_takes vs);
  left = is.left;
  stands = λ before long. subst (Stands (before ++ ((0, is.fields) ∷ is.objects)) (value.Vector vs)) (sym is.at)
      (Stands.vector place (is.found before long) (is.stand before long));
}

con_built : (c : ℕ) (vs : List Value) (place : ℕ) (r : List ℕ) (built : Built) → IsObjectBuilt c vs place r built → IsBuilt (value.Con c vs) place r built
con_built c vs place r built is = record {
  objects = (c, is.fields) ∷ is.objects;
  words = is.words;
  tags = is.tags;
  takes = is.takes ∙ sym (con_takes c vs);
  left = is.left;
  stands = λ before long. subst (Stands (before ++ ((c, is.fields) ∷ is.objects)) (value.Con c vs)) (sym is.at)
      (Stands.con c place (is.found before long) (is.stand before long));
}

tuple_builds : {ts : List (Value → Bool)} {fs : List (Value → List ℕ)} {builders : List Builder} → AllBuild ts fs builders
    → LayerBuilds (is_tuple_of ts) (λ l. joined fs (parts_in l)) (build_object 0 builders)
tuple_builds {fs = fs} {builders = builders} all (Value-F.Tuple vs) place r p =
    subst (λ v. IsBuilt v place r (build_object 0 builders place (joined fs vs ++ r))) (sym (value.rolls-Tuple vs))
    (tuple_built vs place r _ (object_built 0 (length builders) builders vs place (joined fs vs ++ r) r (omega arith) refl
    (parts_built all vs (place + (1 + length builders)) r p)))
tuple_builds all (Value-F.Word a) place r p = cc
tuple_builds all (Value-F.Vector vs) place r p = cc
tuple_builds all (Value-F.Con c vs) place r p = cc

vector_builds : (n : ℕ) (t : Value → Bool) (f : Value → List ℕ) (builder : Builder) → Builds t f builder
    → LayerBuilds (is_vector_of n t) (λ l. flat_map f (parts_in l)) (build_object 0 (replicate {A = Builder} n builder))
vector_builds n t f builder builds (Value-F.Vector vs) place r p =
    let ps = and_parts _ _ p in
    subst (λ v. IsBuilt v place r (build_object 0 (replicate {A = Builder} n builder) place (flat_map f vs ++ r))) (sym (value.rolls-Vector vs))
    (vector_built vs place r _ (object_built 0 n (replicate {A = Builder} n builder) vs place (flat_map f vs ++ r) r (omega arith) (length-replicate n builder)
    (items_built t f builder builds n vs (place + (1 + n)) r (eqb-true _ _ ps.0) ps.1)))
vector_builds n t f builder builds (Value-F.Word a) place r p = cc
vector_builds n t f builder builds (Value-F.Tuple vs) place r p = cc
vector_builds n t f builder builds (Value-F.Con c vs) place r p = cc

all_build : (t : Ty → Value → Bool) (f : Ty → Value → List ℕ) (builder : Ty → Builder) → ((ty : Ty) → Builds (t ty) (f ty) (builder ty)) → (tys : List Ty)
    → AllBuild (map t tys) (map f tys) (map builder tys)
all_build t f builder builds [] = none
all_build t f builder builds (ty ∷ tys) = one (builds ty) (all_build t f builder builds tys)

zeros_past : (xs zs r : List ℕ) (size : ℕ) → length zs ≡ size - length xs → drop (size - (length ((xs ++ zs) ++ r) - length (zs ++ r))) (zs ++ r) ≡ r
zeros_past xs zs r size long =
    let whole : length ((xs ++ zs) ++ r) ≡ length xs + length zs + length r = rw (length-append (xs ++ zs) r, length-append xs zs) refl in
    let tail : length (zs ++ r) ≡ length zs + length r = length-append zs r in
    let step : size - (length ((xs ++ zs) ++ r) - length (zs ++ r)) ≡ length zs = omega (arith, whole, tail, long) in
    rw step (drop-append_seam zs r)

nothing_there : {X : Type 0} (xs : List X) (i : ℕ) → i < length xs → slice_get xs i ≡ None → ⊥
nothing_there [] i less is = absurd (omega (arith, less))
nothing_there (x ∷ xs) zero less is = cc
nothing_there (x ∷ xs) (suc i) less is = nothing_there xs i (omega (arith, less)) is

module _ (t : Ty → Value → Bool) (f : Ty → Value → List ℕ) (builder : Ty → Builder) (builds : (ty : Ty) → Builds (t ty) (f ty) (builder ty))
    (size : ℕ) (sum_type : SumDef) (whole : sum_type.words ≡ size) (few : length sum_type.cons ≤ 2 ^ 32) where
  fields_built : (c : ℕ) (vs : List Value) (place : ℕ) (r : List ℕ) (o : Option ConDef) → slice_get sum_type.cons c ≡ o → c < length sum_type.cons
      → all_pass (map t (fields_of o)) vs ≡ true → IsObjectBuilt c vs place r (build_fields builder c o place (joined (map f (fields_of o)) vs ++ r))
  fields_built c vs place r None found less p = absurd (nothing_there sum_type.cons c less found)
  fields_built c vs place r (Some con) found less p =
      let builders = map builder con.fields in
      let small : c < 4294967296 = omega (arith, less, few) in
      object_built c (length builders) builders vs place (joined (map f con.fields) vs ++ r) r small refl
      (parts_built (all_build t f builder builds con.fields) vs (place + (1 + length builders)) r p)

  abbrev own_words : ℕ → List Value → List ℕ
  own_words c vs = c ∷ joined (map f (fields_at sum_type c)) vs

  abbrev zeros : ℕ → List Value → List ℕ
  zeros c vs = replicate {A = ℕ} (size - length (own_words c vs)) 0

  one_con : (c : ℕ) (vs : List Value) (place : ℕ) (r : List ℕ) → c < length sum_type.cons → all_pass (map t (fields_at sum_type c)) vs ≡ true
      → IsBuilt (value.Con c vs) place (zeros c vs ++ r) (build_con builder sum_type place ((own_words c vs ++ zeros c vs) ++ r))
  one_con c vs place r less p =
      let below : nat_lt c (2 ^ 32) ≡ true = lt-ltb _ _ (omega (arith, few, less)) in
      let fields = joined (map f (fields_at sum_type c)) vs in
      let words = fields ++ (zeros c vs ++ r) in
      let object = fields_built c vs place (zeros c vs ++ r) (slice_get sum_type.cons c) refl less p in
      subst (λ ws. IsBuilt (value.Con c vs) place (zeros c vs ++ r) (build_con builder sum_type place (c ∷ ws))) (sym (append_assoc fields (zeros c vs) r))
      (subst (λ b. IsBuilt (value.Con c vs) place (zeros c vs ++ r) (if b then build_fields builder c
      (slice_get sum_type.cons c) place words else plain 0 words)) (sym below)
      (con_built c vs place (zeros c vs ++ r) _ object))

  past_built : (c : ℕ) (vs : List Value) (place : ℕ) (r : List ℕ) → let words = (own_words c vs ++ zeros c vs) ++ r in
      IsBuilt (value.Con c vs) place (zeros c vs ++ r) (build_con builder sum_type place words)
      → IsBuilt (value.Con c vs) place r (past_zeros sum_type.words words (build_con builder sum_type place words))
  past_built c vs place r is =
      let words = (own_words c vs ++ zeros c vs) ++ r in
      let built = build_con builder sum_type place words in
      record {
        objects = is.objects;
        words = is.words;
        tags = is.tags;
        takes = is.takes;
        left = ap (λ n. drop (n - (length words - length built.rest)) built.rest) whole
            ∙ ap (λ ws. drop (size - (length words - length ws)) ws) is.left
            ∙ zeros_past (own_words c vs) (zeros c vs) r size (length-replicate (size - length (own_words c vs)) 0);
        stands = is.stands;
      }

  con_builds : LayerBuilds (is_con_of t sum_type) (λ l. padded size (con_words f sum_type l)) (build_sum builder (Some sum_type))
  con_builds (Value-F.Con c vs) place r p =
      let ps = and_parts _ _ p in
      subst (λ v. IsBuilt v place r (build_sum builder (Some sum_type) place (padded size (con_words f sum_type (Value-F.Con c vs)) ++ r)))
      (sym (value.rolls-Con c vs))
      (past_built c vs place r (one_con c vs place r (ltb-true _ _ ps.0) ps.1))
  con_builds (Value-F.Word a) place r p = cc
  con_builds (Value-F.Tuple vs) place r p = cc
  con_builds (Value-F.Vector vs) place r p = cc

module _ (nt : ℕ → Value → Bool) (nf : ℕ → Value → List ℕ) (nb : ℕ → Builder) (named : (k : ℕ) → Builds (nt k) (nf k) (nb k)) where
  abbrev TyBuilds : Ty → Type 0
  TyBuilds ty = Builds (is_value_with nt ty) (flat_with nf ty) (build_with nb ty)

  abbrev Part : Type 0
  Part = (ty : Ty) × TyBuilds ty

  abbrev of_part : Part → Ty
  of_part p = p.0

  parts_all : (ps : List Part) → AllBuild (map (is_value_with nt) (map of_part ps)) (map (flat_with nf) (map of_part ps)) (map (build_with nb) (map of_part ps))
  parts_all [] = none
  parts_all (p ∷ ps) = one p.1 (parts_all ps)

  step_builds : (y : Ty-F Part) → Builds (value_step nt (map-Ty Ty (Value → Bool) (is_value_with nt) (map-Ty Part Ty of_part y)))
      (flat_step nf (map-Ty Ty (Value → List ℕ) (flat_with nf) (map-Ty Part Ty of_part y)))
      (build_step nb (map-Ty Ty Builder (build_with nb) (map-Ty Part Ty of_part y)))
  step_builds Ty-F.Bool = by_layer (is_word_of (λ word. nat_lt word 2)) (λ l. word_in l ∷ []) build_word (word_builds (λ word. nat_lt word 2))
  step_builds Ty-F.Char = by_layer (is_word_of is_char_word) (λ l. word_in l ∷ []) build_word (word_builds is_char_word)
  step_builds (Ty-F.Int n) = by_layer (is_word_of (is_int_word n)) (λ l. word_in l ∷ []) build_word (word_builds (is_int_word n))
  step_builds (Ty-F.Nat n) = by_layer (is_word_of (λ word. nat_lt word (2 ^ n))) (λ l. word_in l ∷ []) build_word (word_builds (λ word. nat_lt word (2 ^ n)))
  step_builds (Ty-F.Tuple ps) =
      by_layer _ (λ l. joined (map (flat_with nf) (map of_part ps)) (parts_in l)) (build_object 0 (map (build_with nb) (map of_part ps)))
      (tuple_builds (parts_all ps))
  step_builds (Ty-F.Vector n p) = by_layer _ (λ l. flat_map (flat_with nf p.0) (parts_in l)) (build_object 0 (replicate {A = Builder} n (build_with nb p.0)))
      (vector_builds n _ (flat_with nf p.0) (build_with nb p.0) p.1)
  step_builds (Ty-F.Named k) = named k

  layer_builds : (y : Ty-F Part) → TyBuilds (roll-Ty (map-Ty Part Ty of_part y))
  layer_builds y = rw (fold-roll-Ty (Value → Bool) (value_step nt), fold-roll-Ty (Value → List ℕ) (flat_step nf), fold-roll-Ty Builder (build_step nb))
      (step_builds y)

  ty_builds : (ty : Ty) → TyBuilds ty
  ty_builds = ind-Ty TyBuilds (λ x y is. subst (λ z. TyBuilds (roll-Ty z)) is (layer_builds y))

-- whichever of the two a test chooses, its values are built
either_builds : (b : Bool) (t u : Value → Bool) (f g : Value → List ℕ) (first second : Builder) → ((b ≡ true) → Builds t f first) → Builds u g second
    → Builds (λ v. if b then t v else u v) (λ v. if b then f v else g v) (λ place words. if b then first place words else second place words)
either_builds true t u f g first second p q = p refl
either_builds false t u f g first second p q = q

size-at : (types : Types) (bound number : ℕ) → number < bound → named_size types bound number
    ≡ size_of_sum (named_size types number) (slice_get types.sums number)
unfolding named_size
size-at types zero number below = absurd (omega arith)
size-at types (suc bound) number below = elim (cases_eq number bound) [
  | inl same ↦ rw (eq-eqb number bound same) (ap (λ k. size_of_sum (named_size types k) (slice_get types.sums k)) (sym same))
  | inr other ↦ rw (ne_eqb number bound other) (size-at types bound number (omega arith))
]

module _ (types : Types) (sizes : HaveTheirSizes types) (readable : HaveReadableSizes types) where
  sum_builds : (bound : ℕ) → bound < length types.sums → ((k : ℕ) → Builds (is_named_value types bound k) (named_words types bound k)
      (build_named types bound k))
      → (o : Option SumDef) → slice_get types.sums bound ≡ o
      → Builds (is_sum_value (is_value_with (is_named_value types bound)) o)
      (flat_sum (flat_with (named_words types bound)) (size_of_sum (named_size types bound) o) o)
      (build_sum (build_with (build_named types bound)) o)
  sum_builds bound within named None found = λ v place r p. cc
  sum_builds bound within named (Some sum_type) found =
      let small : HasReadableSize types bound sum_type = readable bound sum_type found in
      let own : named_size types (length types.sums) bound ≡ size_of_sum (named_size types bound) (Some sum_type) = size-at types
      (length types.sums) bound within ∙ ap (size_of_sum (named_size types bound)) found in
      let least : written_size (named_size types (length types.sums) bound) ≡ named_size types (length types.sums) bound = omega (arith, small.words) in
      let whole : sum_type.words ≡ size_of_sum (named_size types bound) (Some sum_type) = sizes bound sum_type found ∙ least ∙ own in
      let builder : Ty → Builder = build_with (build_named types bound) in
      let words_of : Ty → Value → List ℕ = flat_with (named_words types bound) in
      let size = size_of_sum (named_size types bound) (Some sum_type) in
      by_layer (is_con_of (is_value_with (is_named_value types bound)) sum_type) (λ l. padded size (con_words words_of sum_type l))
      (build_sum builder (Some sum_type))
      (con_builds (is_value_with (is_named_value types bound)) words_of builder
      (ty_builds (is_named_value types bound) (named_words types bound) (build_named types bound) named) size sum_type whole small.constructors)

  named_builds : (bound : ℕ) → bound ≤ length types.sums → (k : ℕ) → Builds (is_named_value types bound k) (named_words types bound k)
      (build_named types bound k)
  unfolding is_named_value named_words build_named
  named_builds zero within k = λ v place r p. cc
  named_builds (suc bound) within k =
      either_builds (k == bound) _ _ _ _
      (λ place words. build_sum (build_with (build_named types bound)) (slice_get types.sums bound) place words)
      (λ place words. build_named types bound k place words)
      (λ same. sum_builds bound (omega arith) (named_builds bound (omega arith)) (slice_get types.sums bound) refl) (named_builds bound (omega arith) k)

  -- a value is built from its words
  pub value_built : (ty : Ty) (v : Value) (place : ℕ) → is_value types ty v ≡ true
      → IsBuilt v place [] (build_with (build_named types (length types.sums)) ty place (flat types ty v))
  value_built ty v place p =
      subst (λ ws. IsBuilt v place [] (build_with (build_named types (length types.sums)) ty place ws)) (append-nil (flat types ty v))
      (ty_builds (is_named_value types (length types.sums)) (named_words types (length types.sums)) (build_named types (length types.sums))
      (named_builds (length types.sums) (omega arith)) ty v place [] p)
