-- Reading patterns, step by step, as the code goes.
use Rattle.std.proofs.Common.{◌≡◌, ℕ, zero, suc, ◌-◌, ◌<◌, List, [], ◌∷◌, length, true, false, refl, sym, ap, ◌∙◌, arith}
use Rattle.std.specs.Prelude.{Result, Ok, Err}
use native.Mathlib.Numerals.{unary_clauses}
use Rattle.hume_base.specs.declared.keyword.Keyword.TheVariants as word
use Rattle.hume_base.specs.declared.symbol.Symbol.TheVariants as symbol
use Rattle.hume_base.specs.declared.token.Kind.{Kind}
use Rattle.hume_base.specs.declared.token.Kind.TheVariants.{Sign}
use Rattle.hume_base.specs.declared.token.Token.{Token}
use Rattle.hume_ast.specs.declared.tree.Pat.{Pat, roll-Pat}
use Rattle.hume_ast.specs.declared.tree.Pat.TheVariants as tree
use Rattle.hume_ast.specs.declared.tree.Pat.TheVariants.{rolls-Name, rolls-Any, rolls-Num, rolls-Letter, rolls-Truth, rolls-Con, rolls-Paren, rolls-Tuple, rolls-Star, rolls-AnyStar}
use Rattle.hume_ast.specs.declared.tree.Pat.TheOpen.{Pat-F}
use Rattle.hume_ast.specs.Places.{kinds}
use Rattle.parse_errors.specs.inner.Gives.{Fails}
use Rattle.parse_expressions.specs.inner.Parts.{no_pattern}
use Rattle.parse_errors.specs.declared.stop.Stop.{Stop}
use Rattle.parse_readers.specs.inner.Readers.{Reader, Wrong, next, behind, is_word, is_sign, after, made, both, closed, give, pick, number_of, many, led}
use Rattle.parse_readers.specs.inner.Patterns.{patterns, pat_leaf, is_upper, con_pat, pat_in_parens, input_pattern}
use Rattle.parse_errors.proofs.ReportedPlaces.{kinds_length}
use Rattle.parse_expressions.proofs.Loops.{made_twice, fails_on}

pub pat_zero : (n : ℕ) (ks : List Kind) → n ≡ 0 → (patterns n).atom ks ≡ no_pattern ks
unfolding patterns
pat_zero n ks e = rw e

pub whole_con : (n : ℕ) (ks : List Kind) → 0 < n → next is_upper ks ≡ true → (patterns n).whole ks ≡ made roll-Pat (con_pat (patterns (n - 1)).atom) ks
unfolding patterns
whole_con zero ks h t = absurd (omega (arith, h))
whole_con (suc n) ks h t = rw t (simp unary_clauses)

pub whole_atom : (n : ℕ) (ks : List Kind) → 0 < n → next is_upper ks ≡ false → (patterns n).whole ks ≡ (patterns n).atom ks
unfolding patterns
whole_atom zero ks h t = absurd (omega (arith, h))
whole_atom (suc n) ks h t = rw t

pub atom_any : (n : ℕ) (ks : List Kind) → 0 < n → next (is_sign symbol.Underscore) ks ≡ true → (patterns n).atom ks ≡ Ok (tree.Any, behind ks)
unfolding patterns
atom_any zero ks h t = absurd (omega (arith, h))
atom_any (suc n) [] h t = cc
atom_any (suc n) (k ∷ ks) h t = rw (t, rolls-Any)

pub atom_minus : (n : ℕ) (ks : List Kind) → 0 < n → next (is_sign symbol.Underscore) ks ≡ false → next (is_sign symbol.Minus) ks ≡ true → (patterns n).atom ks ≡ made (tree.Num true) (pick number_of) (behind ks)
unfolding patterns
atom_minus zero ks h a t = absurd (omega (arith, h))
atom_minus (suc n) [] h a t = cc
atom_minus (suc n) (k ∷ ks) h a t = rw (a, t) (made_twice (pick number_of) ks (Pat-F.Num true) roll-Pat (tree.Num true) (rolls-Num true))

pub atom_true : (n : ℕ) (ks : List Kind) → 0 < n → next (is_sign symbol.Underscore) ks ≡ false → next (is_sign symbol.Minus) ks ≡ false → next (is_word word.True) ks ≡ true → (patterns n).atom ks ≡ Ok (tree.Truth true, behind ks)
unfolding patterns
atom_true zero ks h a b t = absurd (omega (arith, h))
atom_true (suc n) [] h a b t = cc
atom_true (suc n) (k ∷ ks) h a b t = rw (a, b, t) (rw (rolls-Truth true))

pub atom_false : (n : ℕ) (ks : List Kind) → 0 < n → next (is_sign symbol.Underscore) ks ≡ false → next (is_sign symbol.Minus) ks ≡ false → next (is_word word.True) ks ≡ false → next (is_word word.False) ks ≡ true → (patterns n).atom ks ≡ Ok (tree.Truth false, behind ks)
unfolding patterns
atom_false zero ks h a b c t = absurd (omega (arith, h))
atom_false (suc n) [] h a b c t = cc
atom_false (suc n) (k ∷ ks) h a b c t = rw (a, b, c, t) (rw (rolls-Truth false))

abbrev parens_behind : Reader Pat → Reader (Pat-F Pat)
parens_behind child = made pat_in_parens (both child (closed (many (is_sign symbol.Comma) (led (Sign symbol.Comma) child)) (Sign symbol.CloseParen)))

pub atom_open : (n : ℕ) (ks : List Kind) → 1 < n → next (is_sign symbol.Underscore) ks ≡ false → next (is_sign symbol.Minus) ks ≡ false → next (is_word word.True) ks ≡ false → next (is_word word.False) ks ≡ false → next (is_sign symbol.OpenParen) ks ≡ true
    → (patterns n).atom ks ≡ made roll-Pat (made pat_in_parens (both (patterns (n - 1)).whole (closed (many (is_sign symbol.Comma) (led (Sign symbol.Comma) (patterns (n - 1)).whole)) (Sign symbol.CloseParen)))) (behind ks)
unfolding patterns
atom_open zero ks h a b c d t = absurd (omega (arith, h))
atom_open (suc zero) ks h a b c d t = absurd (omega (arith, h))
atom_open (suc (suc n)) [] h a b c d t = cc
atom_open (suc (suc n)) (k ∷ ks) h a b c d t = rw (a, b, c, d, t) (simp unary_clauses)

pub atom_open_one : (n : ℕ) (ts : List Token) → n ≡ 1 → next (is_sign symbol.Underscore) (kinds ts) ≡ false → next (is_sign symbol.Minus) (kinds ts) ≡ false → next (is_word word.True) (kinds ts) ≡ false → next (is_word word.False) (kinds ts) ≡ false → next (is_sign symbol.OpenParen) (kinds ts) ≡ true
    → (patterns n).atom (kinds ts) ≡ Err (true, length ts)
unfolding patterns
atom_open_one n [] e a b c d t = cc
atom_open_one n (k ∷ ks) e a b c d t = rw (e, a, b, c, d, t) (ap (λ m. Err (true, suc m)) (kinds_length ks))

pub atom_leaf : (n : ℕ) (ks : List Kind) → 0 < n → next (is_sign symbol.Underscore) ks ≡ false → next (is_sign symbol.Minus) ks ≡ false → next (is_word word.True) ks ≡ false → next (is_word word.False) ks ≡ false → next (is_sign symbol.OpenParen) ks ≡ false
    → (patterns n).atom ks ≡ made roll-Pat (pick pat_leaf) ks
unfolding patterns
atom_leaf zero ks h a b c d t = absurd (omega (arith, h))
atom_leaf (suc n) [] h a b c d t = refl
atom_leaf (suc n) (k ∷ ks) h a b c d t = rw (a, b, c, d, t)

pub input_star : (n : ℕ) (ks : List Kind) → 0 < n → next (is_sign symbol.Star) ks ≡ true → input_pattern n ks ≡ Ok (tree.Star, behind ks)
input_star zero ks h t = absurd (omega (arith, h))
input_star (suc n) [] h t = cc
input_star (suc n) (k ∷ ks) h t = rw (t, rolls-Star)

pub input_any : (n : ℕ) (ks : List Kind) → 0 < n → next (is_sign symbol.Star) ks ≡ false → next (is_sign symbol.UnderscoreStar) ks ≡ true → input_pattern n ks ≡ Ok (tree.AnyStar, behind ks)
input_any zero ks h a t = absurd (omega (arith, h))
input_any (suc n) [] h a t = cc
input_any (suc n) (k ∷ ks) h a t = rw (a, t, rolls-AnyStar)

pub input_plain : (n : ℕ) (ks : List Kind) → 0 < n → next (is_sign symbol.Star) ks ≡ false → next (is_sign symbol.UnderscoreStar) ks ≡ false → input_pattern n ks ≡ (patterns n).whole ks
unfolding patterns
input_plain zero ks h a b = absurd (omega (arith, h))
input_plain (suc n) [] h a b = refl
input_plain (suc n) (k ∷ ks) h a b = rw (a, b)

pub parens_one : (first : Pat) (others : List Pat) → others ≡ [] → roll-Pat (pat_in_parens (first, others)) ≡ tree.Paren first
parens_one first others e = ap (λ l. roll-Pat (pat_in_parens (first, l))) e ∙ rolls-Paren first

pub parens_more : (first : Pat) (others : List Pat) → (others ≡ [] → ⊥) → roll-Pat (pat_in_parens (first, others)) ≡ tree.Tuple (first ∷ others)
parens_more first [] e = absurd (e refl)
parens_more first (other ∷ others) e = rolls-Tuple (first ∷ other ∷ others)

-- what is behind the first pattern in parentheses
abbrev pub parens_from : Pat → Result (List Pat × List Kind) Wrong → Result (Pat × List Kind) Wrong
parens_from first r = made roll-Pat (made pat_in_parens (both (give first) (closed (λ ks. r) (Sign symbol.CloseParen)))) []

abbrev pub con_from : List ℕ → Result (List Pat × List Kind) Wrong → Result (Pat × List Kind) Wrong
con_from name r = made (tree.Con name) (λ ks. r) []

pub ruleset pattern_steps = (pat_zero, whole_con, whole_atom, atom_any, atom_minus, atom_true, atom_false, atom_open, atom_open_one, atom_leaf, rolls-Con)

pub ruleset input_steps = (input_star, input_any, input_plain)

pub ruleset leaf_steps = (rolls-Name, rolls-Con, rolls-Num, rolls-Letter, kinds_length)

pub ruleset parens_steps = (parens_one, parens_more)

pub con_stop : (name other : List ℕ) (whole : Result (Pat × List Kind) Wrong) (parts : List Pat) (ks : List Kind) → name ≡ other → whole ≡ con_from name (Ok (parts, ks)) → whole ≡ Ok (tree.Con other parts, ks)
con_stop name other whole parts ks same e = e ∙ ap (λ x. Ok (tree.Con x parts, ks)) same

pub parens_stop : (first : Pat) (whole : Result (Pat × List Kind) Wrong) (others : List Pat) (ks ls : List Kind) (p : Pat) → whole ≡ parens_from first (Ok (others, ks)) → after (Sign symbol.CloseParen) ks ≡ Ok ls → p ≡ roll-Pat (pat_in_parens (first, others)) → whole ≡ Ok (p, ls)
parens_stop first whole others ks ls p e g h = e ∙ rw g (ap (λ q. Ok (q, ls)) (sym h))

pub parens_fail : (first : Pat) (whole : Result (Pat × List Kind) Wrong) (others : List Pat) (ks : List Kind) (why : Stop) → whole ≡ parens_from first (Ok (others, ks)) → Fails why (after (Sign symbol.CloseParen) ks) → Fails why whole
parens_fail first whole others ks why e g = fails_on why (after (Sign symbol.CloseParen) ks) whole (λ n h. e ∙ rw h) g
