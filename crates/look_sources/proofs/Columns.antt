-- The lines and columns of one place more.
use Rattle.std.proofs.Common.{◌≡◌, ℕ, ◌+◌, ◌<◌, ◌≤◌, ◌==◌, not, List, [], ◌∷◌, ◌++◌, length, take, reverse, get_or, cond, Bool, ap, sym, ◌∙◌, arith}
use Rattle.std.specs.List.{prefix_len}
use Rattle.std.proofs.lemmas.Bool.{eq-eqb, ne_eqb}
use Rattle.std.proofs.lemmas.Grind.{common_steps}
use Rattle.std.proofs.lemmas.List.{reverse-append, take_more, take_all}
use Rattle.hume_base.proofs.lines_lemmas.Steps.{newline_passed, other_passed, line_behind}
use Rattle.look_sources.specs.Spots.{column_at}

before_more : (text : List ℕ) (place : ℕ) → place < length text → reverse (take (place + 1) text) ≡ get_or text place 0 ∷ reverse (take place text)
before_more text place h = ap reverse (take_more text place 0 h) ∙ reverse-append (take place text) (get_or text place 0 ∷ [])

pub column_begun : (text : List ℕ) (place : ℕ) → place < length text → get_or text place 0 ≡ 10 → column_at text (place + 1) ≡ 1
column_begun text place h is =
    ap (λ (bytes : List ℕ). 1 + prefix_len (λ byte. not (byte == 10)) bytes) (before_more text place h)
    ∙ ap (λ (b : Bool). 1 + cond (not b) (1 + prefix_len (λ byte. not (byte == 10)) (reverse (take place text))) 0) (eq-eqb (get_or text place 0) 10 is)

pub column_passed : (text : List ℕ) (place : ℕ) → place < length text → (get_or text place 0 ≡ 10 → ⊥) → column_at text (place + 1) ≡ 1 + column_at text place
column_passed text place h is =
    ap (λ (bytes : List ℕ). 1 + prefix_len (λ byte. not (byte == 10)) bytes) (before_more text place h)
    ∙ ap (λ (b : Bool). 1 + cond (not b) (1 + prefix_len (λ byte. not (byte == 10)) (reverse (take place text))) 0) (ne_eqb (get_or text place 0) 10 is)

pub column_behind : (text : List ℕ) (place : ℕ) → length text ≤ place → column_at text place ≡ column_at text (length text)
column_behind text place h =
    ap (λ (bytes : List ℕ). 1 + prefix_len (λ byte. not (byte == 10)) (reverse bytes)) (take_all place text h ∙ sym (take_all (length text) text (omega arith)))

pub ruleset spot_steps = (common_steps, newline_passed, other_passed, line_behind, column_begun, column_passed, column_behind)
