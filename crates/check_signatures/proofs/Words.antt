-- The sizes of data types, one more at a time.
use Rattle.std.proofs.Common.{◌≡◌, ℕ, zero, suc, ◌+◌, ◌==◌, ◌<◌, ◌≤◌, List, [], ◌∷◌, ◌++◌, map, length, Some, slice_get, refl, ap, sym, ◌∙◌, subst, arith, inl, inr, if◌then◌else◌}
use Rattle.std.proofs.lemmas.Bool.{cases_lt, eq-eqb, ne_eqb}
use Rattle.std.proofs.lemmas.Grind.{common_steps}
use Rattle.std.proofs.lemmas.List.{length-append}
use Rattle.std.proofs.lemmas.Option.{slice_get_within}
use Rattle.check_typing.proofs.Maybe.{some-same}
use Rattle.hume_base.specs.declared.types.ConDef.{ConDef}
use Rattle.hume_base.specs.declared.types.SumDef.{SumDef}
use Rattle.hume_base.specs.declared.types.Types.{Types}
use Rattle.hume_base.specs.Sizes.{named_size, size_of_sum, sizes_with, greatest, written_size, HaveTheirSizes}

abbrev more : Types → SumDef → Types
more types sum = record { sums = types.sums ++ sum ∷ [] }

at_front : {A : Type 0} (xs : List A) (y : A) (i : ℕ) → i < length xs → slice_get (xs ++ y ∷ []) i ≡ slice_get xs i
at_front [] y i h = absurd (omega arith)
at_front (x ∷ xs) y zero h = refl
at_front (x ∷ xs) y (suc i) h = at_front xs y i (omega arith)

at_end : {A : Type 0} (xs : List A) (y : A) → slice_get (xs ++ y ∷ []) (length xs) ≡ Some y
at_end [] y = refl
at_end (x ∷ xs) y = at_end xs y

-- the sizes of those that were there
same_below : (types : Types) (sum : SumDef) (bound number : ℕ) → bound ≤ length types.sums → named_size (more types sum) bound number ≡ named_size types bound number
unfolding named_size
same_below types sum zero number h = refl
same_below types sum (suc bound) number h =
    let below : named_size (more types sum) bound ≡ named_size types bound = λ i k. same_below types sum bound k (omega arith) i in
    let here : size_of_sum (named_size (more types sum) bound) (slice_get (types.sums ++ sum ∷ []) bound) ≡ size_of_sum (named_size types bound) (slice_get types.sums bound) =
    ap (λ f. size_of_sum f (slice_get (types.sums ++ sum ∷ []) bound)) below ∙ ap (size_of_sum (named_size types bound)) (at_front types.sums sum bound (omega arith)) in
    λ i. if number == bound then here i else below i number

-- one number more
one_more : (types : Types) (bound number : ℕ) → number < bound → named_size types (suc bound) number ≡ named_size types bound number
unfolding named_size
one_more types bound number h = ap (λ b. if b then size_of_sum (named_size types bound) (slice_get types.sums bound) else named_size types bound number) (ne_eqb number bound (omega arith))

newest : (types : Types) (bound : ℕ) → named_size types (suc bound) bound ≡ size_of_sum (named_size types bound) (slice_get types.sums bound)
unfolding named_size
newest types bound = ap (λ b. if b then size_of_sum (named_size types bound) (slice_get types.sums bound) else named_size types bound bound) (eq-eqb bound bound refl)

long : (types : Types) (sum : SumDef) → length (types.sums ++ sum ∷ []) ≡ suc (length types.sums)
long types sum = length-append types.sums (sum ∷ []) ∙ (let e : length types.sums + 1 ≡ suc (length types.sums) = omega arith in e)

pub grown : (types : Types) (sum : SumDef) → HaveTheirSizes types
    → sum.words ≡ written_size (1 + greatest (map (λ (con : ConDef). sizes_with (named_size types (length types.sums)) con.fields) sum.cons))
    → HaveTheirSizes (more types sum)
grown types sum sizes words number other there =
    let count = length types.sums in
    subst (λ n. other.words ≡ written_size (named_size (more types sum) n number)) (sym (long types sum)) (elim (cases_lt number count) [
      | inl old ↦
          sizes number other (sym (at_front types.sums sum number old) ∙ there)
          ∙ ap written_size (sym (one_more (more types sum) count number old ∙ same_below types sum count number (omega arith)))
      | inr over ↦
          let within : number < suc count = subst (λ n. number < n) (long types sum) (slice_get_within (types.sums ++ sum ∷ []) number other there) in
          let is : number ≡ count = omega arith in
          let this : sum ≡ other = some-same sum other (sym (at_end types.sums sum) ∙ ap (slice_get (types.sums ++ sum ∷ [])) (sym is) ∙ there) in
          let below : named_size (more types sum) count ≡ named_size types count = λ i k. same_below types sum count k (omega arith) i in
          ap (λ (s : SumDef). s.words) (sym this) ∙ words
          ∙ ap written_size (sym (ap (named_size (more types sum) (suc count)) is ∙ newest (more types sum) count
          ∙ ap (λ f. size_of_sum f (slice_get (types.sums ++ sum ∷ []) count)) below
          ∙ ap (size_of_sum (named_size types count)) (at_end types.sums sum)))
    ])

pub ruleset size_steps = (common_steps, grown)
