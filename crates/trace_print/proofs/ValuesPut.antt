-- Values that are put into a chunk one behind another.
use Rattle.std.proofs.Common.{◌≡◌, ℕ, zero, suc, ◌+◌, ◌*◌, ◌≤◌, List, [], ◌∷◌, ◌++◌, map, take, length, length-append, Some, slice_get, codes, true, refl, ap, sym, ◌∙◌, subst, arith, append_assoc, append-nil}
use Rattle.std.specs.List.{flat_map, list_all}
use Rattle.std.proofs.lemmas.List.{take_all}
use Rattle.std.proofs.Math.Nat.{suc-mul}
use Rattle.hume_base.specs.declared.types.Ty.{Ty}
use Rattle.hume_base.specs.declared.types.Types.{Types}
use Rattle.hume_base.specs.declared.types.Value.{Value}
use Rattle.hume_base.specs.Flat.{flat}
use Rattle.hume_base.specs.Sizes.{size_of}
use Rattle.hume_base.specs.Values.{is_value}
use Rattle.hume_text.specs.Printed.{texts, AreWordsOf}
use Rattle.hume_text.specs.Bounds.{IsPrintable}
use Rattle.trace_print.specs.TraceLines.{values_text}
use Rattle.trace_print.specs.inner.Values.{AreRowsOf}

-- the first `count` values were put behind the bytes that there were
pub record FirstPut (types : Types) (ty : Ty) (rows : List (List ℕ)) (before now : List ℕ) (count : ℕ) : Type 0 where
  pub text : (held : List Value) → AreRowsOf types ty rows held → now ≡ before ++ values_text types ty (take count held)
  pub few : length now ≤ length before + count * (512 * size_of types ty + 3)

-- the value whose words are a row
pub record ValueAt (types : Types) (ty : Ty) (held : List Value) (n : ℕ) (row : List ℕ) : Type 0 where
  pub value : Value
  pub there : slice_get held n ≡ Some value
  pub are : AreWordsOf types ty row value

pub value_at : (types : Types) (ty : Ty) (rows : List (List ℕ)) (held : List Value) (n : ℕ) (row : List ℕ) → rows ≡ map (flat types ty) held
    → list_all (is_value types ty) held ≡ true → slice_get rows n ≡ Some row → ValueAt types ty held n row
value_at types ty rows [] n row words typed there = cc
value_at types ty rows (value ∷ held) zero row words typed there =
    let row_is : slice_get (map (flat types ty) (value ∷ held)) zero ≡ Some row = subst (λ rs. slice_get rs zero ≡ Some row) words there in
    let same : flat types ty value ≡ row = cc in
    record { value = value; there = refl; are = record { typed = grind (arith, typed); same = same } }
value_at types ty rows (value ∷ held) (suc n) row words typed there =
    let row_is : slice_get (map (flat types ty) held) n ≡ Some row = subst (λ rs. slice_get rs (suc n) ≡ Some row) words there in
    let later = value_at types ty (map (flat types ty) held) held n row refl (grind (arith, typed)) row_is in
    record { value = later.value; there = later.there; are = later.are }

-- the text of one more value
text_more : (types : Types) (ty : Ty) (held : List Value) (n : ℕ) (value : Value) → slice_get held (suc n) ≡ Some value
    → values_text types ty (take (suc (suc n)) held) ≡ values_text types ty (take (suc n) held) ++ (codes " | " ++ texts types ty value)
text_more types ty [] n value there = cc
text_more types ty (oldest ∷ later) n value there =
    ap (λ more. texts types ty oldest ++ more) (later_more later n value there)
    ∙ sym (append_assoc (texts types ty oldest) (flat_map (λ v. codes " | " ++ texts types ty v) (take n later)) (codes " | " ++ texts types ty value))
  where
    later_more : (xs : List Value) (n : ℕ) (value : Value) → slice_get xs n ≡ Some value
        → flat_map (λ v. codes " | " ++ texts types ty v) (take (suc n) xs) ≡ flat_map (λ v. codes " | " ++ texts types ty v) (take n xs) ++ (codes " | " ++ texts types ty value)
    later_more [] n value there = cc
    later_more (x ∷ xs) zero value there =
        let same : x ≡ value = cc in
        append-nil (codes " | " ++ texts types ty x) ∙ ap (λ v. codes " | " ++ texts types ty v) same
    later_more (x ∷ xs) (suc n) value there =
        ap (λ more. (codes " | " ++ texts types ty x) ++ more) (later_more xs n value there)
        ∙ sym (append_assoc (codes " | " ++ texts types ty x) (flat_map (λ v. codes " | " ++ texts types ty v) (take n xs)) (codes " | " ++ texts types ty value))

abbrev Bounded : Type 0
Bounded = (types : Types) (ty : Ty) (value : Value) → IsPrintable types ty → is_value types ty value ≡ true → length (texts types ty value) ≤ 512 * size_of types ty

-- the first value
pub first_put : (types : Types) (ty : Ty) (rows : List (List ℕ)) (before now row : List ℕ) → IsPrintable types ty → Bounded
    → (held : List Value) × AreRowsOf types ty rows held → slice_get rows 0 ≡ Some row
    → ((value : Value) → AreWordsOf types ty row value → now ≡ before ++ texts types ty value) → FirstPut types ty rows before now 1
first_put types ty rows before now row printable bounded some there told = record {
  text = λ held are.
      let found = value_at types ty rows held 0 row are.words are.typed there in
      told found.value found.are ∙ ap (λ t. before ++ t) (sym (one held found.value found.there));
  few =
      let found = value_at types ty rows some.0 0 row some.1.words some.1.typed there in
      let long = ap length (told found.value found.are) ∙ length-append before (texts types ty found.value) in
      let short = bounded types ty found.value printable found.are.typed in
      within (length now) (length before) (length (texts types ty found.value)) (512 * size_of types ty) long short;
}
  where
    one : (held : List Value) (value : Value) → slice_get held 0 ≡ Some value → values_text types ty (take 1 held) ≡ texts types ty value
    one [] value e = cc
    one (oldest ∷ later) value e = let same : oldest ≡ value = cc in append-nil (texts types ty oldest) ∙ ap (texts types ty) same

    within : (now before text most : ℕ) → now ≡ before + text → text ≤ most → now ≤ before + 1 * (most + 3)
    within now before text most e f = omega (arith, e, f)

-- one more, behind a bar
pub more_put : (types : Types) (ty : Ty) (rows : List (List ℕ)) (before mid barred now row : List ℕ) (n : ℕ) → IsPrintable types ty → Bounded
    → (held : List Value) × AreRowsOf types ty rows held → 1 ≤ n → slice_get rows n ≡ Some row → FirstPut types ty rows before mid n → barred ≡ mid ++ codes " | "
    → ((value : Value) → AreWordsOf types ty row value → now ≡ barred ++ texts types ty value) → FirstPut types ty rows before now (n + 1)
more_put types ty rows before mid barred now row zero printable bounded some past there put bar told = absurd (omega (arith, past))
more_put types ty rows before mid barred now row (suc n) printable bounded some past there put bar told =
    let next : suc (suc n) ≡ suc n + 1 = omega arith in
    subst (λ count. FirstPut types ty rows before now count) next (record {
      text = λ held are.
          let found = value_at types ty rows held (suc n) row are.words are.typed there in
          let value = texts types ty found.value in
          told found.value found.are ∙ ap (λ b. b ++ value) (bar ∙ ap (λ m. m ++ codes " | ") (put.text held are))
          ∙ append_assoc (before ++ values_text types ty (take (suc n) held)) (codes " | ") value
          ∙ append_assoc before (values_text types ty (take (suc n) held)) (codes " | " ++ value)
          ∙ ap (λ t. before ++ t) (sym (text_more types ty held n found.value found.there));
      few =
          let found = value_at types ty rows some.0 (suc n) row some.1.words some.1.typed there in
          let value = texts types ty found.value in
          let long = ap length (told found.value found.are) ∙ length-append barred value in
          let barring = ap length bar ∙ length-append mid (codes " | ") in
          let short = bounded types ty found.value printable found.are.typed in
          let one : suc (suc n) * (512 * size_of types ty + 3) ≡ suc n * (512 * size_of types ty + 3) + (512 * size_of types ty + 3) =
          suc-mul (suc n) (512 * size_of types ty + 3) in
          subst (λ k. length now ≤ length before + k) (sym one)
          (within (length now) (length barred) (length mid) (length before) (length value) (512 * size_of types ty) (suc n * (512 * size_of types ty + 3)) long barring short put.few);
    })
  where
    within : (now barred mid before text most had : ℕ) → now ≡ barred + text → barred ≡ mid + 3 → text ≤ most → mid ≤ before + had → now ≤ before + (had + (most + 3))
    within now barred mid before text most had e f g h = omega (arith, e, f, g, h)

-- all of them
pub all_put : (types : Types) (ty : Ty) (rows : List (List ℕ)) (before now : List ℕ) (count : ℕ) → length rows ≤ count → FirstPut types ty rows before now count
    → (held : List Value) → AreRowsOf types ty rows held → now ≡ before ++ values_text types ty held
all_put types ty rows before now count past put held are =
    let long : length held ≡ length rows = sym (ap length are.words ∙ mapped held) in
    subst (λ vs. now ≡ before ++ values_text types ty vs) (take_all count held (omega (arith, past, long))) (put.text held are)
  where
    mapped : (held : List Value) → length (map (flat types ty) held) ≡ length held
    mapped [] = refl
    mapped (value ∷ held) = ap suc (mapped held)
