-- Reading types, step by step, as the code goes.
use Rattle.std.proofs.Common.{◌≡◌, ℕ, zero, suc, ◌-◌, ◌<◌, List, [], ◌∷◌, length, true, false, refl, ap, arith}
use Rattle.std.specs.Prelude.{Ok, Err}
use native.Mathlib.Numerals.{unary_clauses}
use Rattle.hume_base.specs.declared.keyword.Keyword.TheVariants as word
use Rattle.hume_base.specs.declared.symbol.Symbol.TheVariants as symbol
use Rattle.hume_base.specs.declared.token.Kind.{Kind}
use Rattle.hume_base.specs.declared.token.Kind.TheVariants.{Word, Sign}
use Rattle.hume_base.specs.declared.token.Token.{Token}
use Rattle.hume_ast.specs.declared.tree.TyExp.{roll-TyExp}
use Rattle.hume_ast.specs.declared.tree.TyExp.TheVariants as tree
use Rattle.hume_ast.specs.declared.tree.TyExp.TheVariants.{rolls-Bool, rolls-Char, rolls-Int, rolls-Nat, rolls-Vector, rolls-Named, rolls-Tuple}
use Rattle.hume_ast.specs.declared.tree.TyExp.TheOpen.{TyExp-F}
use Rattle.hume_ast.specs.Places.{kinds}
use Rattle.parse_readers.specs.inner.Readers.{◌>>=◌, next, behind, is_word, is_sign, made, both, closed, pick, number_of, upper_name, several}
use Rattle.parse_readers.specs.inner.Types.{types, vector_of}
use Rattle.parse_errors.proofs.ReportedPlaces.{kinds_length}
use Rattle.parse_expressions.proofs.Loops.{made_twice}

pub type_bool : (n : ℕ) (ks : List Kind) → 0 < n → next (is_word word.Bool) ks ≡ true → types n ks ≡ Ok (tree.Bool, behind ks)
unfolding types
type_bool zero ks h t = absurd (omega (arith, h))
type_bool (suc n) [] h t = cc
type_bool (suc n) (k ∷ ks) h t = rw (t, rolls-Bool)

pub type_char : (n : ℕ) (ks : List Kind) → 0 < n → next (is_word word.Bool) ks ≡ false → next (is_word word.Char) ks ≡ true → types n ks ≡ Ok (tree.Char, behind ks)
unfolding types
type_char zero ks h a t = absurd (omega (arith, h))
type_char (suc n) [] h a t = cc
type_char (suc n) (k ∷ ks) h a t = rw (a, t, rolls-Char)

pub type_int : (n : ℕ) (ks : List Kind) → 0 < n → next (is_word word.Bool) ks ≡ false → next (is_word word.Char) ks ≡ false → next (is_word word.Int) ks ≡ true
    → types n ks ≡ (pick number_of (behind ks) >>= λ x. Ok (tree.Int x.0, x.1))
unfolding types
type_int zero ks h a b t = absurd (omega (arith, h))
type_int (suc n) [] h a b t = cc
type_int (suc n) (k ∷ ks) h a b t = rw (a, b, t) (made_twice (pick number_of) ks TyExp-F.Int roll-TyExp tree.Int rolls-Int)

pub type_nat : (n : ℕ) (ks : List Kind) → 0 < n → next (is_word word.Bool) ks ≡ false → next (is_word word.Char) ks ≡ false → next (is_word word.Int) ks ≡ false → next (is_word word.Nat) ks ≡ true
    → types n ks ≡ (pick number_of (behind ks) >>= λ x. Ok (tree.Nat x.0, x.1))
unfolding types
type_nat zero ks h a b c t = absurd (omega (arith, h))
type_nat (suc n) [] h a b c t = cc
type_nat (suc n) (k ∷ ks) h a b c t = rw (a, b, c, t) (made_twice (pick number_of) ks TyExp-F.Nat roll-TyExp tree.Nat rolls-Nat)

pub type_vector : (n : ℕ) (ks : List Kind) → 1 < n → next (is_word word.Bool) ks ≡ false → next (is_word word.Char) ks ≡ false → next (is_word word.Int) ks ≡ false → next (is_word word.Nat) ks ≡ false → next (is_word word.Vector) ks ≡ true
    → types n ks ≡ made roll-TyExp (made vector_of (both (closed (pick number_of) (Word word.Of)) (types (n - 1)))) (behind ks)
unfolding types
type_vector zero ks h a b c d t = absurd (omega (arith, h))
type_vector (suc zero) ks h a b c d t = absurd (omega (arith, h))
type_vector (suc (suc n)) [] h a b c d t = cc
type_vector (suc (suc n)) (k ∷ ks) h a b c d t = rw (a, b, c, d, t) (simp unary_clauses)

pub type_vector_one : (n : ℕ) (ts : List Token) → n ≡ 1 → next (is_word word.Bool) (kinds ts) ≡ false → next (is_word word.Char) (kinds ts) ≡ false → next (is_word word.Int) (kinds ts) ≡ false → next (is_word word.Nat) (kinds ts) ≡ false
    → next (is_word word.Vector) (kinds ts) ≡ true → types n (kinds ts) ≡ Err (true, length ts)
unfolding types
type_vector_one n [] e a b c d t = cc
type_vector_one n (k ∷ ks) e a b c d t = rw (e, a, b, c, d, t) (ap (λ m. Err (true, suc m)) (kinds_length ks))

pub type_tuple : (n : ℕ) (ks : List Kind) → 1 < n → next (is_word word.Bool) ks ≡ false → next (is_word word.Char) ks ≡ false → next (is_word word.Int) ks ≡ false → next (is_word word.Nat) ks ≡ false → next (is_word word.Vector) ks ≡ false → next (is_sign symbol.OpenParen) ks ≡ true
    → types n ks ≡ made roll-TyExp (made TyExp-F.Tuple (closed (several symbol.Comma (types (n - 1))) (Sign symbol.CloseParen))) (behind ks)
unfolding types
type_tuple zero ks h a b c d f t = absurd (omega (arith, h))
type_tuple (suc zero) ks h a b c d f t = absurd (omega (arith, h))
type_tuple (suc (suc n)) [] h a b c d f t = cc
type_tuple (suc (suc n)) (k ∷ ks) h a b c d f t = rw (a, b, c, d, f, t) (simp unary_clauses)

pub type_tuple_one : (n : ℕ) (ts : List Token) → n ≡ 1 → next (is_word word.Bool) (kinds ts) ≡ false → next (is_word word.Char) (kinds ts) ≡ false → next (is_word word.Int) (kinds ts) ≡ false → next (is_word word.Nat) (kinds ts) ≡ false
    → next (is_word word.Vector) (kinds ts) ≡ false → next (is_sign symbol.OpenParen) (kinds ts) ≡ true → types n (kinds ts) ≡ Err (true, length ts)
unfolding types
type_tuple_one n [] e a b c d f t = cc
type_tuple_one n (k ∷ ks) e a b c d f t = rw (e, a, b, c, d, f, t) (ap (λ m. Err (true, suc m)) (kinds_length ks))

pub type_name : (n : ℕ) (ks : List Kind) → 0 < n → next (is_word word.Bool) ks ≡ false → next (is_word word.Char) ks ≡ false → next (is_word word.Int) ks ≡ false → next (is_word word.Nat) ks ≡ false → next (is_word word.Vector) ks ≡ false → next (is_sign symbol.OpenParen) ks ≡ false
    → types n ks ≡ (pick upper_name ks >>= λ x. Ok (tree.Named x.0, x.1))
unfolding types
type_name zero ks h a b c d f t = absurd (omega (arith, h))
type_name (suc n) [] h a b c d f t = refl
type_name (suc n) (k ∷ ks) h a b c d f t = rw (a, b, c, d, f, t) (made_twice (pick upper_name) (k ∷ ks) TyExp-F.Named roll-TyExp tree.Named rolls-Named)

pub ruleset type_steps = (type_bool, type_char, type_int, type_nat, type_vector, type_vector_one, type_tuple, type_tuple_one, type_name, rolls-Vector, rolls-Tuple)
