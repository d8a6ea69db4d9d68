-- How many lines there are before a bad one.
use Rattle.std.proofs.Common.{◌≡◌, ◌⊎◌, ℕ, zero, suc, ◌+◌, ◌*◌, ◌<◌, ◌≤◌, not, Bool, true, false, cond, List, [], ◌∷◌, ◌++◌, length, take, get_or, Option, Some, None, slice_get, refl, ap, sym, ◌∙◌, subst, inl, inr, arith}
use Rattle.std.specs.List.{AllZip, filter}
use Rattle.std.proofs.lemmas.Bool.{cases_lt}
use Rattle.std.proofs.lemmas.List.{take_more, take_all}
use Rattle.std.proofs.lemmas.List.Filters.{length-filter_more}
use Rattle.hume_base.specs.declared.types.Ty.{Ty}
use Rattle.hume_base.specs.declared.types.Types.{Types}
use Rattle.hume_base.specs.declared.types.Value.{Value}
use Rattle.hume_streams.specs.Lines.{is_empty}
use Rattle.hume_streams.specs.Good.{IsBad, TooManyEmpty, NoneBad, HoldsValue, IsFirstBad, IsGoodUntil, empty_at_end}
use Rattle.hume_streams.proofs.Judging.{empty_at_end-push}

none_some : {X : Type 0} (x : X) → ◌≡◌ {A = Option X} None (Some x) → ⊥
none_some x e = cc

as_many : (P : List ℕ → Value → Type 0) (lines : List (List ℕ)) (values : List Value) → AllZip P lines values → length lines ≡ length values
as_many P [] [] all = refl
as_many P [] (value ∷ values) all = absurd all
as_many P (line ∷ lines) [] all = absurd all
as_many P (line ∷ lines) (value ∷ values) all = ap suc (as_many P lines values all.1)

abbrev is_full : List ℕ → Bool
is_full line = not (is_empty line)

there : (lines : List (List ℕ)) (place : ℕ) → place < length lines → slice_get lines place ≡ Some (get_or lines place [])
there [] place within = absurd (omega (arith, within))
there (line ∷ lines) zero within = refl
there (line ∷ lines) (suc place) within = there lines place (omega (arith, within))

module _ (types : Types) (ty : Ty) (lines : List (List ℕ)) (none : NoneBad types ty lines) where
  -- between the lines that hold values there are few empty ones
  record Few (count : ℕ) : Type 0 where
    row : empty_at_end (take count lines) ≤ 65536
    all : count ≤ length (filter is_full (take count lines)) * 65537 + empty_at_end (take count lines)

  few_more : (count : ℕ) → count < length lines → Few count → Few (count + 1)
  few_more count within few = by_line (is_empty line) refl (cases_lt (empty_at_end (take count lines)) 65536)
    where
      line : List ℕ
      line = get_or lines count []

      row_now : empty_at_end (take (count + 1) lines) ≡ cond (is_empty line) (1 + empty_at_end (take count lines)) 0
      row_now = ap empty_at_end (take_more lines count [] within) ∙ empty_at_end-push (take count lines) line

      full_now : length (filter is_full (take (count + 1) lines)) ≡ length (filter is_full (take count lines)) + cond (is_full line) 1 0
      full_now = length-filter_more is_full lines count [] within

      by_line : (b : Bool) → is_empty line ≡ b → (empty_at_end (take count lines) < 65536) ⊎ (65536 ≤ empty_at_end (take count lines)) → Few (count + 1)
      by_line true empty (inr many) = absurd (none count line (there lines count within) (TooManyEmpty empty many))
      by_line true empty (inl short) =
          let row : empty_at_end (take (count + 1) lines) ≡ 1 + empty_at_end (take count lines) =
          row_now ∙ ap (λ b. cond b (1 + empty_at_end (take count lines)) 0) empty in
          let full : length (filter is_full (take (count + 1) lines)) ≡ length (filter is_full (take count lines)) + 0 =
          full_now ∙ ap (λ b. length (filter is_full (take count lines)) + cond (not b) 1 0) empty in
          let all = few.all in
          record { row = omega (arith, row, short); all = omega (arith, row, full, all) }
      by_line false filled either =
          let row : empty_at_end (take (count + 1) lines) ≡ 0 = row_now ∙ ap (λ b. cond b (1 + empty_at_end (take count lines)) 0) filled in
          let full : length (filter is_full (take (count + 1) lines)) ≡ length (filter is_full (take count lines)) + 1 =
          full_now ∙ ap (λ b. length (filter is_full (take count lines)) + cond (not b) 1 0) filled in
          let all = few.all in
          let before = few.row in
          record { row = omega (arith, row); all = omega (arith, row, full, all, before) }

  few_lines : (count : ℕ) → count ≤ length lines → Few count
  few_lines zero within = record { row = omega arith; all = omega arith }
  few_lines (suc count) within =
      let more : count + 1 ≡ suc count = omega arith in
      subst Few more (few_more count (omega (arith, within)) (few_lines count (omega (arith, within))))

number_of_first : (types : Types) (ty : Ty) (before others : List (List ℕ)) (number : ℕ) → IsFirstBad types ty before others (Some number) → number ≡ length before + 1
number_of_first types ty before [] number first = absurd (none_some number (sym first))
number_of_first types ty before (line ∷ others) number first = let same : ◌≡◌ {A = Option ℕ} (Some number) (Some (length before + 1)) = first.1 in cc

pub small_number : (types : Types) (ty : Ty) (text : List ℕ) (good : List Value) (number : ℕ) → IsGoodUntil types ty text good (Some number)
    → number ≤ (length good + 1) * 65537
small_number types ty text good number is =
    let few = few_lines types ty is.before is.values.none_bad (length is.before) (omega arith) in
    let whole : take (length is.before) is.before ≡ is.before = take_all (length is.before) is.before (omega arith) in
    let count = number_of_first types ty is.before is.others number is.first_bad in
    let values = as_many (HoldsValue types ty) (filter is_full is.before) good is.values.texts in
    let all : length is.before ≤ length (filter is_full is.before) * 65537 + empty_at_end (take (length is.before) is.before) =
    subst (λ (lines : List (List ℕ)). length is.before ≤ length (filter is_full lines) * 65537 + empty_at_end (take (length is.before) is.before)) whole few.all in
    let row = few.row in
    let each : length (filter is_full is.before) * 65537 ≡ length good * 65537 = ap (λ k. k * 65537) values in
    let sum : (length good + 1) * 65537 ≡ length good * 65537 + 65537 = omega arith in
    omega (arith, count, all, row, each, sum)
