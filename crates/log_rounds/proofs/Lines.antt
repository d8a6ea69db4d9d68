-- Bytes that are compared with lines: whether they go on with a line, and which line is the first that they don't go on with.
use Rattle.std.proofs.Common.{◌≡◌, ◌⊎◌, ℕ, zero, suc, ◌+◌, ◌-◌, ◌<◌, List, [], ◌∷◌, ◌++◌, take, drop, append_assoc, refl, ap, sym, ◌∙◌, inl, inr, arith}
use Rattle.std.proofs.lemmas.Bool.{cases_lt}
use Rattle.std.proofs.lemmas.List.{append_cancel_left}
use Rattle.std.specs.List.{concat}
use Rattle.run_log.specs.Faults.{EndsWithin, IsFirstWrong}
use Rattle.run_log.proofs.Lists.{concat_all, concat_next}
use Rattle.run_rounds.proofs.Fed.{same_or_other}

abbrev pub GoesOnWith : List ℕ → List ℕ → Type 0
GoesOnWith bytes line = (later : List ℕ) × (bytes ≡ line ++ later)

-- bytes go on with a line, or they don't
pub goes_on_or_not : (line bytes : List ℕ) → GoesOnWith bytes line ⊎ (GoesOnWith bytes line → ⊥)
goes_on_or_not [] bytes = inl (bytes, refl)
goes_on_or_not (x ∷ line) [] = inr (λ on. (let never : ◌≡◌ {A = List ℕ} [] (x ∷ (line ++ on.0)) = on.1 in cc))
goes_on_or_not (x ∷ line) (y ∷ bytes) = elim (same_or_other y x) [
  | inl same ↦ elim (goes_on_or_not line bytes) [
    | inl on ↦ inl (on.0, ap (λ z. z ∷ bytes) same ∙ ap (λ zs. x ∷ zs) on.1)
    | inr not ↦ inr (λ on. not (on.0, (let is : y ∷ bytes ≡ x ∷ (line ++ on.0) = on.1 in cc)))
  ]
  | inr other ↦ inr (λ on. other (let is : y ∷ bytes ≡ x ∷ (line ++ on.0) = on.1 in cc))
]

-- and so do they end within it, or they don't
pub ends_within_or_not : (line rest : List ℕ) → EndsWithin line rest ⊎ (EndsWithin line rest → ⊥)
ends_within_or_not line rest = goes_on_or_not rest line

-- bytes that are lines, or have a first wrong one
abbrev pub AreOrDiffer : List (List ℕ) → List ℕ → Type 0
AreOrDiffer lines bytes = GoesOnWith bytes (concat lines) ⊎ ((place : ℕ) × IsFirstWrong lines bytes place)

later_wrong : (line : List ℕ) (lines : List (List ℕ)) (bytes later : List ℕ) (place : ℕ) → bytes ≡ line ++ later → IsFirstWrong lines later place
    → IsFirstWrong (line ∷ lines) bytes (suc place)
later_wrong line lines bytes later place is first = record {
  line = first.line;
  there = first.there;
  rest = first.rest;
  before = is ∙ ap (λ more. line ++ more) first.before ∙ sym (append_assoc line (concat (take place lines)) first.rest);
  wrong = first.wrong;
}

pub lines_or_wrong : (lines : List (List ℕ)) (bytes : List ℕ) → AreOrDiffer lines bytes
lines_or_wrong [] bytes = inl (bytes, refl)
lines_or_wrong (line ∷ lines) bytes = elim (goes_on_or_not line bytes) [
  | inr not ↦ inr (0, record { line = line; there = refl; rest = bytes; before = refl; wrong = λ later is. not (later, is) })
  | inl on ↦ elim (lines_or_wrong lines on.0) [
    | inl all ↦ inl (all.0, on.1 ∙ ap (λ more. line ++ more) all.1 ∙ sym (append_assoc line (concat lines) all.0))
    | inr wrong ↦ inr (suc wrong.0, later_wrong line lines bytes on.0 wrong.0 on.1 wrong.1)
  ]
]

-- bytes with a first wrong line don't go on with all lines
pub wrong_is_not : (lines : List (List ℕ)) (bytes : List ℕ) (place : ℕ) → IsFirstWrong lines bytes place → GoesOnWith bytes (concat lines) → ⊥
wrong_is_not lines bytes place first on =
    let all = concat_all lines (suc place) ∙ ap (λ front. front ++ concat (drop (suc place) lines)) (concat_next lines place first.line first.there) in
    first.wrong (concat (drop (suc place) lines) ++ on.0)
    (append_cancel_left (concat (take place lines)) first.rest (first.line ++ (concat (drop (suc place) lines) ++ on.0))
    (sym first.before ∙ on.1 ∙ ap (λ front. front ++ on.0) all
    ∙ append_assoc (concat (take place lines) ++ first.line) (concat (drop (suc place) lines)) on.0
    ∙ append_assoc (concat (take place lines)) first.line (concat (drop (suc place) lines) ++ on.0)))

-- the lines before a place, which come before another
take_within : (lines : List (List ℕ)) (count more : ℕ) → (rest : List ℕ) × (concat (take (count + more) lines) ≡ concat (take count lines) ++ rest)
take_within lines zero more = (concat (take more lines), (let none : 0 + more ≡ more = omega arith in ap (λ k. concat (take k lines)) none))
take_within [] (suc count) more = ([], (let some : suc count + more ≡ suc (count + more) = omega arith in ap (λ k. concat (take k [])) some))
take_within (line ∷ lines) (suc count) more =
    let some : suc count + more ≡ suc (count + more) = omega arith in
    let its = take_within lines count more in
    (its.0, ap (λ k. concat (take k (line ∷ lines))) some ∙ ap (λ all. line ++ all) its.1 ∙ sym (append_assoc line (concat (take count lines)) its.0))

-- no first wrong line stands before another
not_before : (lines : List (List ℕ)) (bytes : List ℕ) (first second : ℕ) → IsFirstWrong lines bytes first → IsFirstWrong lines bytes second → first < second → ⊥
not_before lines bytes first second p q less =
    let some : suc first + (second - suc first) ≡ second = omega (arith, less) in
    let its = take_within lines (suc first) (second - suc first) in
    let front : concat (take second lines) ≡ (concat (take first lines) ++ p.line) ++ its.0 =
    ap (λ k. concat (take k lines)) (sym some) ∙ its.1 ∙ ap (λ all. all ++ its.0) (concat_next lines first p.line p.there) in
    p.wrong (its.0 ++ q.rest)
    (append_cancel_left (concat (take first lines)) p.rest (p.line ++ (its.0 ++ q.rest))
    (sym p.before ∙ q.before ∙ ap (λ all. all ++ q.rest) front
    ∙ append_assoc (concat (take first lines) ++ p.line) its.0 q.rest
    ∙ append_assoc (concat (take first lines)) p.line (its.0 ++ q.rest)))

pub one_place : (lines : List (List ℕ)) (bytes : List ℕ) (first second : ℕ) → IsFirstWrong lines bytes first → IsFirstWrong lines bytes second → first ≡ second
one_place lines bytes first second p q = elim (cases_lt first second) [
  | inl less ↦ absurd (not_before lines bytes first second p q less)
  | inr past ↦ elim (cases_lt second first) [
    | inl less ↦ absurd (not_before lines bytes second first q p less)
    | inr more ↦ omega (arith, past, more)
  ]
]
