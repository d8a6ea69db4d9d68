-- Moved types have the values and the sizes that the types have.
use Rattle.std.proofs.Common.{◌≡◌, ℕ, zero, suc, ◌+◌, ◌<◌, ◌==◌, ◌&&◌, nat_lt, Bool, true, false, if◌then◌else◌, List, [], ◌∷◌, length, map, sum, Option, Some, None, slice_get, refl, ap, sym, ◌∙◌, arith, inl, inr}
use Rattle.std.specs.List.{list_all}
use Rattle.std.specs.Option.{option_map}
use Rattle.std.proofs.lemmas.Bool.{and_parts, cases_eq, eq-eqb, lt-ltb, ltb-true, ne_eqb}
use Rattle.std.proofs.lemmas.List.{length-map}
use Rattle.std.proofs.lemmas.Option.{slice_get-map, slice_get_within}
use Rattle.hume_base.specs.declared.types.Ty.{Ty, map-Ty, fold-roll-Ty, out-Ty, roll-out-Ty}
use Rattle.hume_base.specs.declared.types.Ty.TheOpen.{Ty-F}
use Rattle.hume_base.specs.declared.types.Value.{Value, out-Value}
use Rattle.hume_base.specs.declared.types.Value.TheOpen.{Value-F}
use Rattle.hume_base.specs.declared.types.Value.TheVariants as value
use Rattle.hume_base.specs.declared.types.ConDef.{ConDef}
use Rattle.hume_base.specs.declared.types.SumDef.{SumDef}
use Rattle.hume_base.specs.declared.types.Types.{Types}
use Rattle.hume_base.specs.Holding.{HoldSmaller, con_holds, holds_below}
use Rattle.hume_base.specs.Sizes.{greatest, named_size, size_of, size_of_sum, size_step, size_with, sizes_with}
use Rattle.hume_base.specs.Values.{all_pass, fields_at, fields_of, is_con_of, is_named_value, is_sum_value, is_tuple_of, is_value, is_value_with, is_vector_of, value_step}
use Rattle.hume_model.specs.TypeLimits.{IsWrittenType, is_type}
use Rattle.hume_model.proofs.Layers.{out-word}
use Rattle.union_laws.specs.declared.moves.Moves.{Moves}
use Rattle.union_laws.specs.Moving.{moved_con, moved_data, moved_type, moved_type_layer}
use Rattle.union_laws.proofs.MovedCalls.{there_is}
use Rattle.union_laws.proofs.MovedTypes.{moved_out}
use Rattle.union_laws.proofs.TypeFolds.{IsKnownName, same_depth, same_type, type_folds, type_holds}

value-at : (types : Types) (bound number : ℕ) (v : Value) → number < bound
    → is_named_value types bound number v ≡ is_sum_value (is_value_with (is_named_value types number)) (slice_get types.sums number) v
unfolding is_named_value
value-at types zero number v below = absurd (omega arith)
value-at types (suc bound) number v below = elim (cases_eq number bound) [
  | inl same ↦ rw (eq-eqb number bound same) (ap (λ k. is_sum_value (is_value_with (is_named_value types k)) (slice_get types.sums k) v) (sym same))
  | inr other ↦ rw (ne_eqb number bound other) (value-at types bound number v (omega arith))
]

size-at : (types : Types) (bound number : ℕ) → number < bound → named_size types bound number ≡ size_of_sum (named_size types number) (slice_get types.sums number)
unfolding named_size
size-at types zero number below = absurd (omega arith)
size-at types (suc bound) number below = elim (cases_eq number bound) [
  | inl same ↦ rw (eq-eqb number bound same) (ap (λ k. size_of_sum (named_size types k) (slice_get types.sums k)) (sym same))
  | inr other ↦ rw (ne_eqb number bound other) (size-at types bound number (omega arith))
]

pub all_at : {X : Type 0} (test : X → Bool) (xs : List X) → list_all test xs ≡ true → (n : ℕ) (x : X) → slice_get xs n ≡ Some x → test x ≡ true
all_at test [] all n x found = cc
all_at test (y ∷ xs) all zero x found = (let same : y ≡ x = cc in ap test (sym same) ∙ (and_parts (test y) (list_all test xs) all).0)
all_at test (y ∷ xs) all (suc n) x found = all_at test xs (and_parts (test y) (list_all test xs) all).1 n x found

pub fields_moved : (moves : Moves) (sum : SumDef) (place : ℕ) → fields_at (moved_data moves sum) place ≡ map (moved_type moves) (fields_at sum place)
fields_moved moves sum place = ap fields_of (slice_get-map (moved_con moves) sum.cons place) ∙ by (slice_get sum.cons place)
  where
    by : (o : Option ConDef) → fields_of (option_map (moved_con moves) o) ≡ map (moved_type moves) (fields_of o)
    by None = refl
    by (Some con) = refl

fields_hold : (bound : ℕ) (sum : SumDef) → list_all (con_holds bound) sum.cons ≡ true → (place : ℕ) → list_all (holds_below bound) (fields_at sum place) ≡ true
fields_hold bound sum all place = by (slice_get sum.cons place) refl
  where
    by : (o : Option ConDef) → slice_get sum.cons place ≡ o → list_all (holds_below bound) (fields_of o) ≡ true
    by None at = refl
    by (Some con) at = all_at (con_holds bound) sum.cons all place con at

module _ (moves : Moves) (bound : ℕ) (test other : Ty → Value → Bool) (same : (ty : Ty) → holds_below bound ty ≡ true → other (moved_type moves ty) ≡ test ty) where
  tests_same : (tys : List Ty) → list_all (holds_below bound) tys ≡ true → map other (map (moved_type moves) tys) ≡ map test tys
  tests_same [] all = refl
  tests_same (ty ∷ tys) all =
      let both = and_parts (holds_below bound ty) (list_all (holds_below bound) tys) all in
      λ i. same ty both.0 i ∷ tests_same tys both.1 i

  con_same : (sum : SumDef) → list_all (con_holds bound) sum.cons ≡ true → (layer : Value-F Value) → is_con_of other (moved_data moves sum) layer ≡ is_con_of test sum layer
  con_same sum all (Value-F.Word w) = refl
  con_same sum all (Value-F.Tuple vs) = refl
  con_same sum all (Value-F.Vector vs) = refl
  con_same sum all (Value-F.Con place vs) =
      let fields = ap (map other) (fields_moved moves sum place) ∙ tests_same (fields_at sum place) (fields_hold bound sum all place) in
      λ i. nat_lt place (length-map sum.cons (moved_con moves) i) && all_pass (fields i) vs

module _ (moves : Moves) (bound : ℕ) (named other : ℕ → ℕ) (same : (ty : Ty) → holds_below bound ty ≡ true → size_with other (moved_type moves ty) ≡ size_with named ty) where
  sizes_same : (tys : List Ty) → list_all (holds_below bound) tys ≡ true → map (size_with other) (map (moved_type moves) tys) ≡ map (size_with named) tys
  sizes_same [] all = refl
  sizes_same (ty ∷ tys) all =
      let both = and_parts (holds_below bound ty) (list_all (holds_below bound) tys) all in
      λ i. same ty both.0 i ∷ sizes_same tys both.1 i

  cons_size : (cons : List ConDef) → list_all (con_holds bound) cons ≡ true
      → map (λ (con : ConDef). sizes_with other con.fields) (map (moved_con moves) cons) ≡ map (λ (con : ConDef). sizes_with named con.fields) cons
  cons_size [] all = refl
  cons_size (con ∷ cons) all =
      let both = and_parts (con_holds bound con) (list_all (con_holds bound) cons) all in
      λ i. sum (sizes_same con.fields both.0 i) ∷ cons_size cons both.1 i

  sum_size : (sum_type : SumDef) → list_all (con_holds bound) sum_type.cons ≡ true → size_of_sum other (Some (moved_data moves sum_type)) ≡ size_of_sum named (Some sum_type)
  sum_size sum_type all = ap (λ ns. 1 + greatest ns) (cons_size sum_type.cons all)

-- each data type stands in the larger types, moved up
abbrev pub TypesStandIn : Moves → Types → Types → Type 0
TypesStandIn moves small large = (n : ℕ) (sum_type : SumDef) → slice_get small.sums n ≡ Some sum_type → slice_get large.sums (moves.types + n) ≡ Some (moved_data moves sum_type)

module _ (moves : Moves) (small large : Types) (stands : TypesStandIn moves small large) where
  pub name_within : (n : ℕ) → nat_lt n (length small.sums) ≡ true → nat_lt (moves.types + n) (length large.sums) ≡ true
  name_within n less =
      let at = there_is small.sums n (ltb-true n (length small.sums) less) in
      lt-ltb (moves.types + n) (length large.sums) (slice_get_within large.sums (moves.types + n) _ (stands n at.0 at.1))

  module _ (holds : HoldSmaller small) where
    abbrev SameNamed : ℕ → (ℕ → Value → Bool) → (ℕ → Value → Bool) → Type 0
    SameNamed bound named other = (number : ℕ) → nat_lt number bound ≡ true → (v : Value) → other (moves.types + number) v ≡ named number v

    level_value : (bound : ℕ) (named other : ℕ → Value → Bool) → SameNamed bound named other
        → (y : Ty-F (Value → Bool)) → IsKnownName bound y → value_step other (moved_type_layer moves y) ≡ value_step named y
    level_value bound named other same Ty-F.Bool known = λ i v. value_step named Ty-F.Bool v
    level_value bound named other same Ty-F.Char known = λ i v. value_step named Ty-F.Char v
    level_value bound named other same (Ty-F.Int bits) known = λ i v. value_step named (Ty-F.Int bits) v
    level_value bound named other same (Ty-F.Nat bits) known = λ i v. value_step named (Ty-F.Nat bits) v
    level_value bound named other same (Ty-F.Tuple tests) known = λ i v. value_step named (Ty-F.Tuple tests) v
    level_value bound named other same (Ty-F.Vector count test) known = λ i v. value_step named (Ty-F.Vector count test) v
    level_value bound named other same (Ty-F.Named number) known = λ i v. same number known v i

    with_same : (bound : ℕ) (named other : ℕ → Value → Bool) → SameNamed bound named other
        → (ty : Ty) → holds_below bound ty ≡ true → is_value_with other (moved_type moves ty) ≡ is_value_with named ty
    with_same bound named other same =
        type_folds (Value → Bool) (value_step named) (value_step other) moves bound (level_value bound named other same)

    named_same : (n k m number : ℕ) → number < n → number < length small.sums → number < k → moves.types + number < m → (v : Value)
        → is_named_value large m (moves.types + number) v ≡ is_named_value small k number v
    named_same zero k m number less within below above v = absurd (omega arith)
    named_same (suc n) k m number less within below above v =
        let at = there_is small.sums number within in
        value-at large m (moves.types + number) v above
        ∙ ap (λ o. is_sum_value (is_value_with (is_named_value large (moves.types + number))) o v) (stands number at.0 at.1)
        ∙ con_same moves number (is_value_with (is_named_value small number)) (is_value_with (is_named_value large (moves.types + number)))
        (with_same number (is_named_value small number) (is_named_value large (moves.types + number))
        (λ lower known w. let down : lower < number = ltb-true lower number known in
        named_same n number (moves.types + number) lower (omega (arith, down, less)) (omega (arith, down, within)) down (omega (arith, down)) w))
        at.0 (holds number at.0 at.1) (out-Value v)
        ∙ sym (value-at small k number v below ∙ ap (λ o. is_sum_value (is_value_with (is_named_value small number)) o v) at.1)

    pub value_same : (ty : Ty) → holds_below (length small.sums) ty ≡ true → is_value large (moved_type moves ty) ≡ is_value small ty
    value_same =
        with_same (length small.sums) (is_named_value small (length small.sums)) (is_named_value large (length large.sums))
        (λ number known v. let within : number < length small.sums = ltb-true number (length small.sums) known in
        named_same (suc number) (length small.sums) (length large.sums) number (omega arith) within within (ltb-true (moves.types + number) (length large.sums) (name_within number known)) v)

    level_size : (bound : ℕ) (named other : ℕ → ℕ) → ((number : ℕ) → nat_lt number bound ≡ true → other (moves.types + number) ≡ named number)
        → (y : Ty-F ℕ) → IsKnownName bound y → size_step other (moved_type_layer moves y) ≡ size_step named y
    level_size bound named other same Ty-F.Bool known = refl
    level_size bound named other same Ty-F.Char known = refl
    level_size bound named other same (Ty-F.Int bits) known = refl
    level_size bound named other same (Ty-F.Nat bits) known = refl
    level_size bound named other same (Ty-F.Tuple parts) known = refl
    level_size bound named other same (Ty-F.Vector count item) known = refl
    level_size bound named other same (Ty-F.Named number) known = same number known

    size_with_same : (bound : ℕ) (named other : ℕ → ℕ) → ((number : ℕ) → nat_lt number bound ≡ true → other (moves.types + number) ≡ named number)
        → (ty : Ty) → holds_below bound ty ≡ true → size_with other (moved_type moves ty) ≡ size_with named ty
    size_with_same bound named other same = type_folds ℕ (size_step named) (size_step other) moves bound (level_size bound named other same)

    pub named_size_same : (n k m number : ℕ) → number < n → number < length small.sums → number < k → moves.types + number < m
        → named_size large m (moves.types + number) ≡ named_size small k number
    named_size_same zero k m number less within below above = absurd (omega arith)
    named_size_same (suc n) k m number less within below above =
        let at = there_is small.sums number within in
        size-at large m (moves.types + number) above
        ∙ ap (size_of_sum (named_size large (moves.types + number))) (stands number at.0 at.1)
        ∙ sum_size moves number (named_size small number) (named_size large (moves.types + number))
        (size_with_same number (named_size small number) (named_size large (moves.types + number))
        (λ lower known. let down : lower < number = ltb-true lower number known in
        named_size_same n number (moves.types + number) lower (omega (arith, down, less)) (omega (arith, down, within)) down (omega (arith, down))))
        at.0 (holds number at.0 at.1)
        ∙ sym (size-at small k number below ∙ ap (size_of_sum (named_size small number)) at.1)

    pub data_size_same : (number : ℕ) → nat_lt number (length small.sums) ≡ true
        → named_size large (length large.sums) (moves.types + number) ≡ named_size small (length small.sums) number
    data_size_same number known =
        let within : number < length small.sums = ltb-true number (length small.sums) known in
        named_size_same (suc number) (length small.sums) (length large.sums) number (omega arith) within within (ltb-true (moves.types + number) (length large.sums) (name_within number known))

    pub size_same : (ty : Ty) → holds_below (length small.sums) ty ≡ true → size_of large (moved_type moves ty) ≡ size_of small ty
    size_same = size_with_same (length small.sums) (named_size small (length small.sums)) (named_size large (length large.sums)) data_size_same

    -- a type that a source may write down is one there too
    pub type_written : (ty : Ty) → IsWrittenType small ty → IsWrittenType large (moved_type moves ty)
    type_written ty written =
        let held = type_holds small ty written.parts in
        let depth = same_depth moves (length small.sums) (length large.sums) name_within ty held in
        let words = size_same ty held in
        let is_deep = written.depth in
        let is_large = written.words in
        record {
          parts = same_type moves (length small.sums) (length large.sums) name_within ty held ∙ written.parts;
          depth = omega (arith, depth, is_deep);
          words = omega (arith, words, is_large);
        }

    pub is_type_moved : (ty : Ty) → is_type small ty ≡ true → is_type large (moved_type moves ty) ≡ true
    is_type_moved ty is = same_type moves (length small.sums) (length large.sums) name_within ty (type_holds small ty is) ∙ is

    -- words

    no_word : (types : Types) (bound number w : ℕ) → is_named_value types bound number (value.Word w) ≡ false
    unfolding is_named_value
    no_word types zero number w = refl
    no_word types (suc bound) number w = by (number == bound) (no_word types bound number w)
      where
        none : (o : Option SumDef) → is_sum_value (is_value_with (is_named_value types bound)) o (value.Word w) ≡ false
        none None = refl
        none (Some sum_type) = ap (is_con_of (is_value_with (is_named_value types bound)) sum_type) (out-word w)

        by : (b : Bool) → is_named_value types bound number (value.Word w) ≡ false
            → (if b then is_sum_value (is_value_with (is_named_value types bound)) (slice_get types.sums bound) (value.Word w) else is_named_value types bound number (value.Word w)) ≡ false
        by true lower = none (slice_get types.sums bound)
        by false lower = lower

    layer_of : (types : Types) (ty : Ty) (v : Value)
        → is_value types ty v ≡ value_step (is_named_value types (length types.sums)) (map-Ty Ty (Value → Bool) (is_value types) (out-Ty ty)) v
    layer_of types ty v =
        ap (λ t. is_value types t v) (sym (roll-out-Ty ty))
        ∙ ap (λ (test : Value → Bool). test v) (fold-roll-Ty (Value → Bool) (value_step (is_named_value types (length types.sums))) (out-Ty ty))

    word_level : (x : Ty-F Ty) (w : ℕ)
        → value_step (is_named_value small (length small.sums)) (map-Ty Ty (Value → Bool) (is_value small) x) (value.Word w) ≡ true
        → value_step (is_named_value large (length large.sums)) (map-Ty Ty (Value → Bool) (is_value large) (moved_type_layer moves (map-Ty Ty Ty (moved_type moves) x))) (value.Word w) ≡ true
    word_level Ty-F.Bool w is = is
    word_level Ty-F.Char w is = is
    word_level (Ty-F.Int bits) w is = is
    word_level (Ty-F.Nat bits) w is = is
    word_level (Ty-F.Tuple tys) w is =
        (let no : false ≡ true = sym (ap (is_tuple_of (map (is_value small) tys)) (out-word w)) ∙ is in cc)
    word_level (Ty-F.Vector count item) w is =
        (let no : false ≡ true = sym (ap (is_vector_of count (is_value small item)) (out-word w)) ∙ is in cc)
    word_level (Ty-F.Named number) w is = (let no : false ≡ true = sym (no_word small (length small.sums) number w) ∙ is in cc)

    pub word_moved : (ty : Ty) (w : ℕ) → is_value small ty (value.Word w) ≡ true → is_value large (moved_type moves ty) (value.Word w) ≡ true
    word_moved ty w is =
        layer_of large (moved_type moves ty) (value.Word w)
        ∙ ap (λ x. value_step (is_named_value large (length large.sums)) (map-Ty Ty (Value → Bool) (is_value large) x) (value.Word w)) (moved_out moves ty)
        ∙ word_level (out-Ty ty) w (sym (layer_of small ty (value.Word w)) ∙ is)
