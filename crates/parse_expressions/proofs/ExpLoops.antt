-- What the loops over expressions keep.
use Rattle.std.proofs.Common.{◌≡◌, ℕ, ◌<◌, ◌≤◌, List, [], ◌∷◌, ◌++◌, length, refl, sym, ap, ◌∙◌, arith, length-append}
use Rattle.std.specs.Prelude.{Result, Ok, Err}
use Rattle.hume_base.specs.declared.symbol.Symbol.{Symbol}
use Rattle.hume_base.specs.declared.symbol.Symbol.TheVariants.{Comma, Arrow}
use Rattle.hume_base.specs.declared.token.Kind.{Kind}
use Rattle.hume_base.specs.declared.token.Kind.TheVariants.{Sign}
use Rattle.hume_base.specs.declared.token.Token.{Token}
use Rattle.hume_ast.specs.Places.{kinds}
use Rattle.hume_ast.specs.Spelling.{spelled_pat, spelled_exp}
use Rattle.hume_ast.specs.declared.tree.Exp.{Exp}
use Rattle.hume_ast.specs.declared.tree.Pat.{Pat}
use Rattle.parse_errors.specs.declared.stop.Stop.{Stop}
use Rattle.parse_errors.specs.inner.Gives.{Fails}
use Rattle.parse_expressions.specs.inner.Parts.{other_parts}
use Rattle.parse_readers.specs.inner.Readers.{Wrong, ◌>>=◌, after, made, many, led, is_sign}
use Rattle.parse_readers.specs.inner.Patterns.{patterns}
use Rattle.parse_readers.specs.inner.Expressions.{exps, alternative}
use Rattle.parse_readers.proofs.ExpressionsRead.{expressions_read, alternatives_of, atom_shrink}
use Rattle.parse_errors.proofs.ReportedPlaces.{kinds_length}
use Rattle.parse_expressions.proofs.Loops.{joined, fails_on}

-- behind the parts stands a token
abbrev pub closing : {A : Type 0} → Kind → Result (A × List Kind) Wrong → Result (A × List Kind) Wrong
closing token r = r >>= λ a. after token a.1 >>= λ rest. Ok (a.0, rest)

pub closing_ends : {A : Type 0} (whole : Result (A × List Kind) Wrong) (token : Kind) (items : A) (ks ls : List Kind) → whole ≡ closing token (Ok (items, ks)) → after token ks ≡ Ok ls → whole ≡ Ok (items, ls)
closing_ends whole token items ks ls e g = e ∙ rw g

pub closing_stops : {A : Type 0} (whole : Result (A × List Kind) Wrong) (token : Kind) (items : A) (ks : List Kind) (stop : Stop) → whole ≡ closing token (Ok (items, ks)) → Fails stop (after token ks) → Fails stop whole
closing_stops whole token items ks stop e g = fails_on stop (after token ks) whole (λ n h. e ∙ rw h) g

first_by : {A : Type 0} (first : A) (token : Kind) (r : Result (List A × List Kind) Wrong) → made (λ parts. first ∷ parts) (λ ks. closing token r) [] ≡ closing token (joined (first ∷ []) r)
first_by first token (Err n) = refl
first_by first token (Ok x) = ends (after token x.1) where
  ends : (s : Result (List Kind) Wrong) → made (λ parts. first ∷ parts) (λ ks. s >>= λ rest. Ok (x.0, rest)) [] ≡ (s >>= λ rest. Ok (first ∷ x.0, rest))
  ends (Ok rest) = refl
  ends (Err n) = refl

-- the first part, before the loop
pub others_begin : (first : Exp) (close : Symbol) (room : ℕ) (ks : List Kind) (items : List Exp) → items ≡ [] ++ first ∷ []
    → made (λ parts. first ∷ parts) (other_parts close room) ks ≡ closing (Sign close) (joined items (many (is_sign Comma) (led (Sign Comma) (exps room).whole) ks))
others_begin first close room ks items is =
    first_by first (Sign close) (many (is_sign Comma) (led (Sign Comma) (exps room).whole) ks)
    ∙ ap (λ l. closing (Sign close) (joined l (many (is_sign Comma) (led (Sign Comma) (exps room).whole) ks))) (sym is)

-- what is read leaves no more tokens
pub exp_left : (room : ℕ) (ts ls : List Token) (e : Exp) → (exps room).whole (kinds ts) ≡ Ok (e, kinds ls) → length ls ≤ length ts
exp_left room ts ls e w =
    let s = (expressions_read 64 room).whole.sound (kinds ts) (e, kinds ls) w in
    omega (arith, ap length s.1, length-append (spelled_exp e) (kinds ls), kinds_length ts, kinds_length ls)

pub alternative_left : (room : ℕ) (ts ls : List Token) (a : Pat × Exp) → alternative (patterns 64).whole (exps room).whole (kinds ts) ≡ Ok (a, kinds ls) → length ls ≤ length ts
alternative_left room ts ls a w =
    let s = (alternatives_of 64 room).sound (kinds ts) (a, kinds ls) w in
    omega (arith, ap length s.1, length-append (spelled_pat a.0 ++ Sign Arrow ∷ spelled_exp a.1) (kinds ls), kinds_length ts, kinds_length ls)

pub atom_left : (room : ℕ) (ts ls : List Token) (e : Exp) → (exps room).atom (kinds ts) ≡ Ok (e, kinds ls) → length ls < length ts
atom_left room ts ls e w = omega (arith, atom_shrink 64 room (kinds ts) (e, kinds ls) w, kinds_length ts, kinds_length ls)
