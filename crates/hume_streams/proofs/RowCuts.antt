-- Rows that lie one behind another.
use Rattle.std.proofs.Common.{◌≡◌, ℕ, zero, suc, ◌+◌, ◌-◌, ◌*◌, ◌<◌, ◌≤◌, List, [], ◌∷◌, ◌++◌, length, take, drop, Some, refl, ap, sym, ◌∙◌, arith, length-drop}
use Rattle.std.specs.Prelude.{slice_get}
use Rattle.std.proofs.Math.Nat.{mul-le-mul_right, suc-mul}
use Rattle.std.proofs.lemmas.List.{drop-drop, take-append-le, drop-append-le, take_all}
use Rattle.hume_streams.specs.Contents.{cut_rows}

pub length-cut_rows : (width count : ℕ) (words : List ℕ) → length (cut_rows width count words) ≡ count
length-cut_rows width zero words = refl
length-cut_rows width (suc count) words = ap suc (length-cut_rows width count (drop width words))

-- a row ends within the rows
pub row_within : (width count place : ℕ) → place < count → place * width + width ≤ count * width
row_within width count place h =
    let e : suc place * width ≡ place * width + width = suc-mul place width in
    let l : suc place * width ≤ count * width = mul-le-mul_right width (omega (arith, h)) in
    omega (arith, e, l)

-- one row more takes no more than there is room for
pub row_fits : (width count span : ℕ) → count < span → count * width + width ≤ span * width
row_fits width count span h = row_within width span count h

pub next_row : (width count : ℕ) → (count + 1) * width ≡ count * width + width
next_row width count = let e : count + 1 ≡ suc count = omega arith in ap (λ n. n * width) e ∙ suc-mul count width

pub cut_rows-get : (width count : ℕ) (words : List ℕ) (place : ℕ) → place < count
    → slice_get (cut_rows width count words) place ≡ Some (take width (drop (place * width) words))
cut_rows-get width zero words place h = absurd (omega (arith, h))
cut_rows-get width (suc count) words zero h =
    let e : 0 ≡ 0 * width = omega arith in
    ap (λ n. Some (take width (drop n words))) e
cut_rows-get width (suc count) words (suc place) h =
    let e : suc place * width ≡ place * width + width = suc-mul place width in
    let s : width + place * width ≡ suc place * width = omega (arith, e) in
    cut_rows-get width count (drop width words) place (omega (arith, h))
    ∙ ap (λ (ws : List ℕ). Some (take width ws)) (drop-drop (place * width) width words ∙ ap (λ n. drop n words) s)

pub cut_rows-push : (width count : ℕ) (words row : List ℕ) → length words ≡ count * width → length row ≡ width
    → cut_rows width (suc count) (words ++ row) ≡ cut_rows width count words ++ row ∷ []
cut_rows-push width zero [] row h r = ap (λ (x : List ℕ). x ∷ []) (take_all width row (omega (arith, r)))
cut_rows-push width zero (word ∷ words) row h r = absurd (omega (arith, h))
cut_rows-push width (suc count) words row h r =
    let e : suc count * width ≡ count * width + width = suc-mul count width in
    let long : width ≤ length words = omega (arith, h, e) in
    let left : length (drop width words) ≡ count * width = omega (arith, length-drop width words, h, e) in
    let rest : cut_rows width (suc count) (drop width words ++ row) ≡ cut_rows width count (drop width words) ++ row ∷ [] = cut_rows-push width count (drop width words) row left r in
    ap (λ (x : List ℕ). x ∷ cut_rows width (suc count) (drop width (words ++ row))) (take-append-le width words row long)
    ∙ ap (λ (ws : List ℕ). take width words ∷ cut_rows width (suc count) ws) (drop-append-le width words row long)
    ∙ ap (λ rows. take width words ∷ rows) rest

pub cut_rows-drop : (width count start : ℕ) (words : List ℕ) → 0 < count
    → cut_rows width (count - 1) (drop (start + width) words) ≡ drop 1 (cut_rows width count (drop start words))
cut_rows-drop width zero start words h = absurd (omega (arith, h))
cut_rows-drop width (suc count) start words h =
    let c : suc count - 1 ≡ count = omega arith in
    ap (λ n. cut_rows width n (drop (start + width) words)) c
    ∙ ap (cut_rows width count) (sym (drop-drop width start words))

-- a row more, where the first begins at 0
pub cut_rows-pushed : (width count start : ℕ) (words all row : List ℕ) → length words ≡ count * width → start ≡ 0 → length row ≡ width → all ≡ words ++ row
    → cut_rows width (count + 1) (drop start all) ≡ cut_rows width count words ++ row ∷ []
cut_rows-pushed width count start words all row long zero-is fits e =
    let s : count + 1 ≡ suc count = omega arith in
    ap (λ n. cut_rows width n (drop start all)) s
    ∙ ap (λ n. cut_rows width (suc count) (drop n all)) zero-is
    ∙ ap (cut_rows width (suc count)) e
    ∙ cut_rows-push width count words row long fits
