-- How words that are written one behind another come to those of a value, and why the writing ends.
use Rattle.std.proofs.Common.{◌≡◌, ℕ, zero, suc, ◌+◌, ◌-◌, ◌<◌, ◌≤◌, min, List, [], ◌∷◌, ◌++◌, map, take, length, get_or, replicate, Option, Some, None, slice_get, append_assoc, append-nil, length-append, refl, ap, sym, ◌∙◌, subst, arith, inl, inr}
use Rattle.std.specs.List.{flat_map}
use Rattle.std.proofs.lemmas.Bool.{cases_eq, eq-eqb, ne_eqb}
use Rattle.std.proofs.lemmas.Grind.{common_steps}
use Rattle.std.proofs.lemmas.List.{length-replicate, take_all}
use Rattle.std.proofs.lemmas.List.Folds.{length-flat_map-take}
use Rattle.std.proofs.lemmas.Option.{slice_get_within, slice_get_read}
use denote.Param.Weighed.{most}
use Rattle.hume_base.specs.declared.types.Ty.{Ty, the_lemmas}
use Rattle.hume_base.specs.declared.types.Value.{Value, out-Value, size-Value, size_is-Value}
use Rattle.hume_base.specs.declared.types.Value.TheOpen.{Value-F}
use Rattle.hume_base.specs.declared.types.Types.{Types}
use Rattle.hume_base.specs.declared.types.SumDef.{SumDef}
use Rattle.hume_base.specs.Sizes.{size_of_sum, named_size, HaveTheirSizes}
use Rattle.hume_base.specs.Flat.{joined, parts_in, flat_sum, padded, con_words, named_words}
use Rattle.hume_model.specs.Reading.{HaveReadableSizes}
use Rattle.hume_model.proofs.Ranks.{slice_get-most}
use Rattle.wire_cells.specs.inner.Written.{flat_below, IsWritten, HaveExactSizes}

-- parts are smaller than what they are parts of

pub parts-smaller : (v : Value) → most size-Value (parts_in (out-Value v)) < size-Value v
parts-smaller v = go (out-Value v) refl
  where
    go : (l : Value-F Value) → out-Value v ≡ l → most size-Value (parts_in l) < size-Value v
    go (Value-F.Word word) e = rw (size_is-Value v, e) (omega arith)
    go (Value-F.Tuple values) e = rw (size_is-Value v, e) (omega arith)
    go (Value-F.Vector values) e = rw (size_is-Value v, e) (omega arith)
    go (Value-F.Con place values) e = rw (size_is-Value v, e) (omega arith)

-- words behind words

pub written-more : (old mid new : List ℕ) (at place end : ℕ) (first second : List ℕ) → IsWritten old at first mid place → IsWritten mid place second new end
    → IsWritten old at (first ++ second) new end
written-more old mid new at place end first second one two = record {
  front = two.front ∙ ap (λ words. words ++ second) one.front ∙ append_assoc (take at old) first second;
  place = omega (arith, one.place, two.place, length-append first second);
  room = two.room ∙ one.room;
}

-- an item that is seen through a pointer
pub seen-at : (tys : List Ty) (i : ℕ) (ty seen : Ty) → seen ≡ ty → ty ≡ get_or tys i ty → seen ≡ get_or tys i seen
seen-at tys i ty seen same is = subst (λ t. t ≡ get_or tys i t) (sym same) is

-- the words of parts up to a place

parts-next : (f : Ty → Value → List ℕ) (i : ℕ) (tys : List Ty) (values : List Value) (ty : Ty) (value : Value) → i < length tys → i < length values
    → joined (map f (take (suc i) tys)) (take (suc i) values) ≡ joined (map f (take i tys)) (take i values) ++ f (get_or tys i ty) (get_or values i value)
parts-next f i [] values ty value below within = absurd (omega arith)
parts-next f i (t ∷ tys) [] ty value below within = absurd (omega arith)
parts-next f zero (t ∷ tys) (v ∷ values) ty value below within = append-nil (f t v)
parts-next f (suc i) (t ∷ tys) (v ∷ values) ty value below within =
    ap (λ words. f t v ++ words) (parts-next f i tys values ty value (omega arith) (omega arith)) ∙ sym (append_assoc (f t v) _ _)

parts-front : (f : Ty → Value → List ℕ) (i : ℕ) (tys : List Ty) (values : List Value)
    → length (joined (map f (take i tys)) (take i values)) ≤ length (joined (map f tys) values)
parts-front f zero tys values = omega arith
parts-front f (suc i) [] values = omega arith
parts-front f (suc i) (ty ∷ tys) [] = omega arith
parts-front f (suc i) (ty ∷ tys) (value ∷ values) =
    let front : length (joined (map f (take i tys)) (take i values)) ≤ length (joined (map f tys) values) = parts-front f i tys values in
    omega (arith, front, length-append (f ty value) (joined (map f (take i tys)) (take i values)), length-append (f ty value) (joined (map f tys) values))

pub parts-all : (f : Ty → Value → List ℕ) (i : ℕ) (tys : List Ty) (values : List Value) → min (length tys) (length values) ≤ i
    → joined (map f (take i tys)) (take i values) ≡ joined (map f tys) values
parts-all f zero [] values done = refl
parts-all f zero (ty ∷ tys) [] done = refl
parts-all f zero (ty ∷ tys) (value ∷ values) done = absurd (omega arith)
parts-all f (suc i) [] values done = refl
parts-all f (suc i) (ty ∷ tys) [] done = refl
parts-all f (suc i) (ty ∷ tys) (value ∷ values) done = ap (λ words. f ty value ++ words) (parts-all f i tys values (omega arith))

module _ (f : Ty → Value → List ℕ) (i : ℕ) (tys : List Ty) (values : List Value) (ty : Ty) (value : Value)
    (below : i < length tys) (within : i < length values) (is-ty : ty ≡ get_or tys i ty) (is-value : value ≡ get_or values i value) where
  pub part-more : joined (map f (take (i + 1) tys)) (take (i + 1) values) ≡ joined (map f (take i tys)) (take i values) ++ f ty value
  part-more =
      let step : i + 1 ≡ suc i = omega arith in
      ap (λ n. joined (map f (take n tys)) (take n values)) step ∙ parts-next f i tys values ty value below within
      ∙ ap (λ words. joined (map f (take i tys)) (take i values) ++ words) (ap (λ t. f t (get_or values i value)) (sym is-ty) ∙ ap (f ty) (sym is-value))

  pub part-fits : length (joined (map f (take i tys)) (take i values)) + length (f ty value) ≤ length (joined (map f tys) values)
  part-fits =
      let long : length (joined (map f (take (i + 1) tys)) (take (i + 1) values)) ≡ length (joined (map f (take i tys)) (take i values)) + length (f ty value) =
      ap (λ words. length words) part-more ∙ length-append (joined (map f (take i tys)) (take i values)) (f ty value) in
      omega (arith, long, parts-front f (i + 1) tys values)

pub item-fits : (f : Value → List ℕ) (i : ℕ) (values : List Value) (value : Value) → i < length values → value ≡ get_or values i value
    → length (flat_map f (take i values)) + length (f value) ≤ length (flat_map f values)
item-fits f i values value within is = rw (ap (λ v. length (f v)) is) (length-flat_map-take f values i value within)

pub item-smaller : (i : ℕ) (values : List Value) (value : Value) → i < length values → value ≡ get_or values i value
    → size-Value value ≤ most size-Value values
item-smaller i values value within is = slice_get-most size-Value values i value (slice_get_read values (length values) i value refl within is)

-- the words of data

size-at : (types : Types) (bound number : ℕ) → number < bound
    → named_size types bound number ≡ size_of_sum (named_size types number) (slice_get types.sums number)
unfolding named_size
size-at types zero number below = absurd (omega arith)
size-at types (suc bound) number below = elim (cases_eq number bound) [
  | inl same ↦ rw (eq-eqb number bound same) (ap (λ k. size_of_sum (named_size types k) (slice_get types.sums k)) (sym same))
  | inr other ↦ rw (ne_eqb number bound other) (size-at types bound number (omega arith))
]

pub words-past : (types : Types) (bound number : ℕ) (value : Value) → bound ≤ number → named_words types bound number value ≡ []
unfolding named_words
words-past types zero number value past = refl
words-past types (suc bound) number value past =
    let other : number ≡ bound → ⊥ = λ e. omega arith in
    rw (ne_eqb number bound other) (words-past types bound number value (omega arith))

-- the words of a data type's values, if there is such a data type
abbrev own_words : Types → ℕ → Value → Option SumDef → List ℕ
own_words types number value sum = flat_sum (flat_below types number) (size_of_sum (named_size types number) sum) sum value

words-at : (types : Types) (bound number : ℕ) (value : Value) → number < bound
    → named_words types bound number value ≡ own_words types number value (slice_get types.sums number)
unfolding named_words
words-at types zero number value below = absurd (omega arith)
words-at types (suc bound) number value below = elim (cases_eq number bound) [
  | inl same ↦ rw (eq-eqb number bound same) (ap (λ k. own_words types k value (slice_get types.sums k)) (sym same))
  | inr other ↦ rw (ne_eqb number bound other) (words-at types bound number value (omega arith))
]

pub words-none : (types : Types) (bound number : ℕ) (value : Value) → number < bound → slice_get types.sums number ≡ None
    → named_words types bound number value ≡ []
words-none types bound number value below none = words-at types bound number value below ∙ ap (own_words types number value) none

pub words-some : (types : Types) (bound number : ℕ) (sum : SumDef) (value : Value) → HaveExactSizes types → number < bound
    → slice_get types.sums number ≡ Some sum
    → named_words types bound number value ≡ padded sum.words (con_words (flat_below types number) sum (out-Value value))
words-some types bound number sum value exact below found =
    let within : number < length types.sums = slice_get_within types.sums number sum found in
    let size : sum.words ≡ size_of_sum (named_size types number) (Some sum) =
    exact number sum found ∙ size-at types (length types.sums) number within ∙ ap (size_of_sum (named_size types number)) found in
    words-at types bound number value below ∙ ap (own_words types number value) found
    ∙ ap (λ size. padded size (con_words (flat_below types number) sum (out-Value value))) (sym size)

pub data-long : (types : Types) (bound number : ℕ) (sum : SumDef) (value : Value) → HaveExactSizes types → number < bound
    → slice_get types.sums number ≡ Some sum → length (named_words types bound number value)
    ≡ length (con_words (flat_below types number) sum (out-Value value)) + (sum.words - length (con_words (flat_below types number) sum (out-Value value)))
data-long types bound number sum value exact below found =
    let words : List ℕ = con_words (flat_below types number) sum (out-Value value) in
    ap (λ ws. length ws) (words-some types bound number sum value exact below found) ∙ length-append words (replicate (sum.words - length words) 0)
    ∙ ap (λ n. length words + n) (length-replicate (sum.words - length words) 0)

-- the words of a constructor, and zeros up to so many behind a place
pub written-padded : (old mid new : List ℕ) (at size place end : ℕ) (words : List ℕ) → IsWritten old at words mid place
    → IsWritten mid place (replicate (at + size - place) 0) new end → IsWritten old at (padded size words) new end
written-padded old mid new at size place end words one two =
    let zeros : at + size - place ≡ size - length words = omega (arith, one.place) in
    written-more old mid new at place end words (replicate (size - length words) 0) one (subst (λ n. IsWritten mid place (replicate n 0) new end) zeros two)

-- where the words fill the row, nothing else stands in it
pub written-whole : (old new words : List ℕ) (end : ℕ) → IsWritten old 0 words new end → length words ≡ length old → new ≡ words
written-whole old new words end written whole =
    sym (take_all end new (omega (arith, written.place, written.room, whole))) ∙ written.front

pub exact-sizes : (types : Types) → HaveTheirSizes types → HaveReadableSizes types → HaveExactSizes types
exact-sizes types sizes readable number sum found = omega (arith, sizes number sum found, (readable number sum found).words)

pub ruleset writing_steps = (common_steps, the_lemmas, words-past, words-none, parts-smaller)
