-- The lines of one place more.
use native.Mathlib.Omega.{arith}
use Rattle.std.proofs.Common.{◌≡◌, ℕ, ◌+◌, ◌<◌, ◌≤◌, ◌==◌, List, [], ◌∷◌, ◌++◌, length, take, get_or, count_by, refl, ap, sym, ◌∙◌, inl, inr}
use Rattle.std.proofs.lemmas.Bool.{cases_lt, eq-eqb, ne_eqb}
use Rattle.std.proofs.lemmas.Grind.{common_steps}
use Rattle.std.proofs.lemmas.List.{length-append, length-take-le, take_all, get_or_append_left}
use Rattle.std.proofs.Math.Seq.{get_or-append_seam}
use Rattle.std.proofs.lemmas.List.Sums.{count_by_more_no, count_by_more_yes, count_by-le-length}
use Rattle.hume_base.specs.Places.{line_at}
use Rattle.hume_base.specs.lines.inner.Lines.{AreFirstLines}

pub no_lines : (text : List ℕ) → AreFirstLines text 0 []
no_lines text = record { long = refl; each = λ place h. absurd (omega arith) }

-- the line of one place more
pub one_more : (text lines : List ℕ) (count line : ℕ) → AreFirstLines text count lines → line ≡ line_at text count → AreFirstLines text (count + 1) (lines ++ line ∷ [])
one_more text lines count line are is = record {
  long = length-append lines (line ∷ []) ∙ ap (λ n. n + 1) are.long;
  each = λ place h. elim (cases_lt place count) [
    | inl before ↦ get_or_append_left lines (line ∷ []) 0 place (omega (arith, are.long)) ∙ are.each place before
    | inr behind ↦
        let here : place ≡ length lines = omega (arith, are.long) in
        let there : place ≡ count = omega arith in
        ap (λ n. get_or (lines ++ line ∷ []) n 0) here ∙ get_or-append_seam lines line [] 0 ∙ is ∙ ap (line_at text) (sym there)
  ];
}

pub first_line : (text : List ℕ) → line_at text 0 ≡ 1
first_line text = refl

pub newline_passed : (text : List ℕ) (place : ℕ) → place < length text → get_or text place 0 ≡ 10 → line_at text (place + 1) ≡ line_at text place + 1
newline_passed text place h is =
    ap (λ n. 1 + n) (count_by_more_yes (λ byte. byte == 10) text place 0 h (eq-eqb (get_or text place 0) 10 is)) ∙ omega arith

pub other_passed : (text : List ℕ) (place : ℕ) → place < length text → (get_or text place 0 ≡ 10 → ⊥) → line_at text (place + 1) ≡ line_at text place
other_passed text place h is = ap (λ n. 1 + n) (count_by_more_no (λ byte. byte == 10) text place 0 h (ne_eqb (get_or text place 0) 10 is))

-- there are no more lines than places and one
pub few_lines : (text : List ℕ) (place : ℕ) → place ≤ length text → line_at text place ≤ place + 1
few_lines text place h = omega (arith, count_by-le-length (λ byte. byte == 10) (take place text), length-take-le place text h)

-- behind the end there is no further line
pub line_behind : (text : List ℕ) (place : ℕ) → length text ≤ place → line_at text place ≡ line_at text (length text)
line_behind text place h = ap (λ bytes. 1 + count_by (λ byte. byte == 10) bytes) (take_all place text h ∙ sym (take_all (length text) text (omega arith)))

pub ruleset line_steps = (common_steps, no_lines, one_more, newline_passed, other_passed, few_lines)

pub ruleset place_steps = (common_steps, line_behind)
