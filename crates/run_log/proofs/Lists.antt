-- Lists of lines.
use Rattle.std.proofs.Common.{◌≡◌, ℕ, zero, suc, ◌+◌, ◌<◌, ◌≤◌, List, [], ◌∷◌, ◌++◌, take, drop, length, length-append, append-nil, append_assoc, Some, slice_get, refl, ap, sym, ◌∙◌, arith}
use Rattle.std.specs.List.{concat, flat_map, range_with_len}

-- the lines before a place, and the one there
pub take_next : (lines : List (List ℕ)) (place : ℕ) (line : List ℕ) → slice_get lines place ≡ Some line → take (suc place) lines ≡ take place lines ++ line ∷ []
take_next [] place line there = cc
take_next (x ∷ xs) zero line there = (let same : x ≡ line = cc in ap (λ y. y ∷ []) same)
take_next (x ∷ xs) (suc place) line there = ap (λ ys. x ∷ ys) (take_next xs place line there)

pub concat_next : (lines : List (List ℕ)) (place : ℕ) (line : List ℕ) → slice_get lines place ≡ Some line
    → concat (take (suc place) lines) ≡ concat (take place lines) ++ line
concat_next [] place line there = cc
concat_next (x ∷ xs) zero line there = (let same : x ≡ line = cc in append-nil x ∙ same)
concat_next (x ∷ xs) (suc place) line there =
    ap (λ ys. x ++ ys) (concat_next xs place line there) ∙ sym (append_assoc x (concat (take place xs)) line)

-- all lines begin with those before a place
pub concat_all : (lines : List (List ℕ)) (place : ℕ) → concat lines ≡ concat (take place lines) ++ concat (drop place lines)
concat_all lines zero = refl
concat_all [] (suc place) = refl
concat_all (x ∷ xs) (suc place) = ap (λ ys. x ++ ys) (concat_all xs place) ∙ sym (append_assoc x (concat (take place xs)) (concat (drop place xs)))

-- the line at a place is within them
pub line_within : (lines : List (List ℕ)) (place : ℕ) (line : List ℕ) → slice_get lines place ≡ Some line
    → length (concat (take place lines)) + length line ≤ length (concat lines)
line_within lines place line there =
    let front = ap length (concat_all lines (suc place)) ∙ length-append (concat (take (suc place) lines)) (concat (drop (suc place) lines)) in
    let next = ap length (concat_next lines place line there) ∙ length-append (concat (take place lines)) line in
    omega (arith, front, next)

-- What each of some numbers gives is one item.

pub single_at : {X : Type 0} (of : ℕ → List X) (first count : ℕ) → ((n : ℕ) → n < count → (x : X) × (of (first + n) ≡ x ∷ []))
    → (n : ℕ) (x : X) → n < count → of (first + n) ≡ x ∷ [] → slice_get (flat_map of (range_with_len first count)) n ≡ Some x
single_at of first zero each n x less is = absurd (omega (arith, less))
single_at of first (suc count) each zero x less is =
    let here : first + 0 ≡ first = omega arith in
    ap (λ ys. slice_get (ys ++ flat_map of (range_with_len (first + 1) count)) 0) (ap of (sym here) ∙ is)
single_at of first (suc count) each (suc n) x less is =
    let here : first + 0 ≡ first = omega arith in
    let head = each 0 (omega arith) in
    let at : first + 1 + n ≡ first + suc n = omega arith in
    ap (λ ys. slice_get (ys ++ flat_map of (range_with_len (first + 1) count)) (suc n)) (ap of (sym here) ∙ head.1)
    ∙ single_at of (first + 1) count
    (λ m within. (let to : first + suc m ≡ first + 1 + m = omega arith in let one = each (suc m) (omega (arith, within)) in (one.0, ap of (sym to) ∙ one.1)))
    n x (omega (arith, less)) (ap of at ∙ is)

pub single_count : {X : Type 0} (of : ℕ → List X) (first count : ℕ) → ((n : ℕ) → n < count → (x : X) × (of (first + n) ≡ x ∷ []))
    → length (flat_map of (range_with_len first count)) ≡ count
single_count of first zero each = refl
single_count of first (suc count) each =
    let here : first + 0 ≡ first = omega arith in
    let head = each 0 (omega arith) in
    ap (λ ys. length (ys ++ flat_map of (range_with_len (first + 1) count))) (ap of (sym here) ∙ head.1)
    ∙ ap suc (single_count of (first + 1) count
    (λ m within. (let at : first + suc m ≡ first + 1 + m = omega arith in let one = each (suc m) (omega (arith, within)) in (one.0, ap of (sym at) ∙ one.1))))
