-- With which tokens the expressions of a level begin, and which may follow them.
use Rattle.std.proofs.Common.{◌≡◌, ℕ, zero, suc, ◌<◌, ◌≤◌, ◌==◌, List, [], ◌∷◌, ◌++◌, Bool, true, false, cond, refl, sym, ap, ◌∙◌, inl, inr, arith}
use Rattle.std.specs.Prelude.{Option, Some, None}
use Rattle.std.proofs.lemmas.Bool.{cases_Bool, eqb-true, eq-eqb}
use Rattle.hume_base.specs.declared.keyword.Keyword.TheVariants as word
use Rattle.hume_base.specs.declared.symbol.Symbol.TheVariants as symbol
use Rattle.hume_base.specs.declared.token.Kind.{Kind}
use Rattle.hume_base.specs.declared.token.Kind.TheVariants.{Word, Sign}
use Rattle.hume_ast.specs.declared.tree.BinOp.{BinOp}
use Rattle.hume_ast.specs.declared.tree.BinOp.TheVariants as op
use Rattle.hume_ast.specs.declared.tree.Exp.{Exp, roll-Exp, out-Exp, map-Exp, fold-roll-Exp, roll-out-Exp}
use Rattle.hume_ast.specs.declared.tree.Exp.TheOpen.{Exp-F}
use Rattle.hume_ast.specs.Spelling.{spell_exp, spelled_exp, operator_token}
use Rattle.hume_ast.specs.Fits.{ExpFits, ExpParts, TypeFits, PatFits, exp_level, op_level, left_level}
use Rattle.parse_readers.specs.inner.Readers.{next, is_token}
use Rattle.parse_readers.specs.inner.Expressions.{starts_atom, operator_of, if_level, next_operator}
use Rattle.parse_readers.proofs.TokensApart.{some_same, is_token-true}

pub operator_is : (k : Kind) (o : BinOp) → operator_of k ≡ Some o → k ≡ operator_token o
operator_is (Word word.Or) o e = ap operator_token (some_same op.Or o e)
operator_is (Word word.And) o e = ap operator_token (some_same op.And o e)
operator_is (Sign symbol.DoubleEquals) o e = ap operator_token (some_same op.Eq o e)
operator_is (Sign symbol.SlashEquals) o e = ap operator_token (some_same op.Ne o e)
operator_is (Sign symbol.Less) o e = ap operator_token (some_same op.Lt o e)
operator_is (Sign symbol.LessEquals) o e = ap operator_token (some_same op.Le o e)
operator_is (Sign symbol.Greater) o e = ap operator_token (some_same op.Gt o e)
operator_is (Sign symbol.GreaterEquals) o e = ap operator_token (some_same op.Ge o e)
operator_is (Sign symbol.Plus) o e = ap operator_token (some_same op.Add o e)
operator_is (Sign symbol.Minus) o e = ap operator_token (some_same op.Sub o e)
operator_is (Sign symbol.Star) o e = ap operator_token (some_same op.Mul o e)
operator_is (Word word.Div) o e = ap operator_token (some_same op.Div o e)
operator_is (Word word.Mod) o e = ap operator_token (some_same op.Mod o e)
operator_is (Sign symbol.At) o e = ap operator_token (some_same op.At o e)
operator_is _ o e = cc

pub operator_says : (o : BinOp) → operator_of (operator_token o) ≡ Some o
operator_says op.Or = refl
operator_says _ = refl

no_atom : (o : BinOp) → starts_atom (operator_token o) ≡ false
no_atom op.Or = refl
no_atom _ = refl

pub op_low : (o : BinOp) → op_level o ≤ 8
op_low op.Or = omega arith
op_low _ = omega arith

pub op_high : (o : BinOp) → 2 ≤ op_level o
op_high op.Or = omega arith
op_high _ = omega arith

pub left_high : (o : BinOp) → op_level o ≤ left_level o
left_high op.Or = omega arith
left_high _ = omega arith

abbrev op_tightness : Option BinOp → ℕ
op_tightness None = 0
op_tightness (Some o) = op_level o

-- the highest level at which the token continues an expression
abbrev pub tightness : Kind → ℕ
tightness k = cond (starts_atom k) 9 (op_tightness (operator_of k))

-- what follows does not continue an expression of the level
abbrev pub EndsAt : ℕ → List Kind → Type 0
EndsAt level [] = Unit {0}
EndsAt level (k ∷ ks) = tightness k < level

pub stops_above : (l m : ℕ) (ks : List Kind) → l ≤ m → EndsAt l ks → EndsAt m ks
stops_above l m [] h s = tt
stops_above l m (k ∷ ks) h s = omega arith

option_low : (o : Option BinOp) → op_tightness o ≤ 8
option_low None = omega arith
option_low (Some o) = op_low o

choice_low : (b : Bool) (n : ℕ) → n ≤ 8 → cond b 9 n ≤ 9
choice_low true n h = omega arith
choice_low false n h = omega arith

pub all_stop : (ks : List Kind) → EndsAt 10 ks
all_stop [] = tt
all_stop (k ∷ ks) = omega (arith, choice_low (starts_atom k) (op_tightness (operator_of k)) (option_low (operator_of k)))

atom_tight : (k : Kind) (b : Bool) (l : ℕ) → starts_atom k ≡ b → l ≤ 9 → cond b 9 (op_tightness (operator_of k)) < l → b ≡ false
atom_tight k true l e h s = absurd (omega arith)
atom_tight k false l e h s = refl

pub no_atom_next : (l : ℕ) (ks : List Kind) → l ≤ 9 → EndsAt l ks → next starts_atom ks ≡ false
no_atom_next l [] h s = refl
no_atom_next l (k ∷ ks) h s = atom_tight k (starts_atom k) l refl h s

pub tight_operator : (k : Kind) (o : BinOp) → operator_of k ≡ Some o → tightness k ≡ op_level o
tight_operator k o e = rw (operator_is k o e, no_atom o, operator_says o)

if_level_some : (l : ℕ) (x : Option BinOp) (o : BinOp) → if_level l x ≡ Some o → (x ≡ Some o) × (op_level o ≡ l)
if_level_some l None o e = cc
if_level_some l (Some p) o e = elim (cases_Bool (op_level p == l)) [
  | inl g ↦ (let f : Some p ≡ Some o = sym (rw g) ∙ e in (f, ap op_level (sym (some_same p o f)) ∙ eqb-true (op_level p) l g))
  | inr g ↦ absurd (let f : None ≡ Some o = sym (rw g) ∙ e in cc)
]

-- the next token is an operator of the level
pub operator_next : (l : ℕ) (ks : List Kind) (o : BinOp) → next_operator l ks ≡ Some o → (rest : List Kind) × (ks ≡ operator_token o ∷ rest) × (op_level o ≡ l)
operator_next l [] o e = cc
operator_next l (k ∷ ks) o e = let w = if_level_some l (operator_of k) o e in (ks, ap (λ j. j ∷ ks) (operator_is k o w.0), w.1)

pub is_next : (l : ℕ) (o : BinOp) (rest : List Kind) → op_level o ≡ l → next_operator l (operator_token o ∷ rest) ≡ Some o
is_next l o rest e = rw (operator_says o, e, eq-eqb l l refl)

pub operator_stops : (l : ℕ) (o : BinOp) (rest : List Kind) → op_level o < l → EndsAt l (operator_token o ∷ rest)
operator_stops l o rest h = omega (arith, tight_operator (operator_token o) o (operator_says o))

none_by : (l : ℕ) (k : Kind) (ks : List Kind) (x : Option BinOp) → next_operator l (k ∷ ks) ≡ x → tightness k < l → x ≡ None
none_by l k ks None e h = refl
none_by l k ks (Some o) e h = absurd (let w = if_level_some l (operator_of k) o e in omega (arith, h, w.1, tight_operator k o w.0))

pub no_operator : (l : ℕ) (ks : List Kind) → EndsAt l ks → next_operator l ks ≡ None
no_operator l [] s = refl
no_operator l (k ∷ ks) s = none_by l k ks (next_operator l (k ∷ ks)) refl s

-- the loosest level of the expressions that begin with the token
abbrev pub opening_sign : Kind → ℕ
opening_sign (Word word.Let) = 1
opening_sign (Word word.If) = 1
opening_sign (Word word.Case) = 1
opening_sign (Word word.Raise) = 1
opening_sign (Word word.Not) = 7
opening_sign (Sign symbol.Minus) = 7
opening_sign (Word word.Update) = 9
opening_sign (Sign symbol.Star) = 9
opening_sign _ = 0

abbrev pub opening : List Kind → ℕ
opening [] = 0
opening (k ∷ ks) = cond (starts_atom k) 10 (opening_sign k)

-- an expression's tokens, seen at its first level
abbrev pub exp_spell : Exp-F Exp → List Kind
exp_spell x = spell_exp (map-Exp Exp (List Kind) spelled_exp x)

pub exp_spelled : (x : Exp-F Exp) → spelled_exp (roll-Exp x) ≡ exp_spell x
exp_spelled x = fold-roll-Exp (List Kind) spell_exp x

pub spelled_out : (e : Exp) → spelled_exp e ≡ exp_spell (out-Exp e)
spelled_out e = ap spelled_exp (sym (roll-out-Exp e)) ∙ exp_spelled (out-Exp e)

opening_more : (ks ls : List Kind) → 1 ≤ opening ks → opening (ks ++ ls) ≡ opening ks
opening_more [] ls h = absurd (omega arith)
opening_more (k ∷ ks) ls h = refl

module _ (bound : ℕ) where
  abbrev pub LayerFit : ℕ → ℕ → Exp-F Exp → Type 0
  LayerFit room level x = (level ≤ exp_level x) × ExpParts (TypeFits bound) (PatFits bound 1) (ExpFits bound room) x

  open_step : (room : ℕ) → ((l : ℕ) (e : Exp) → 1 ≤ l → ExpFits bound room l e → l ≤ opening (spelled_exp e)) → (x : Exp-F Exp) (l : ℕ) → 1 ≤ l → LayerFit room l x → l ≤ opening (exp_spell x)
  open_step room below (Exp-F.Let name value body) l h f = f.0
  open_step room below (Exp-F.If test first second) l h f = f.0
  open_step room below (Exp-F.Case subject alternatives) l h f = f.0
  open_step room below (Exp-F.Raise name None) l h f = f.0
  open_step room below (Exp-F.Raise name (Some value)) l h f = f.0
  open_step room below (Exp-F.Binary operator left right) l h f =
      let b = below (left_level operator) left (omega (arith, op_high operator, left_high operator)) f.1.0 in
      omega (arith, f.0, left_high operator, op_high operator, b, opening_more (spelled_exp left) (operator_token operator ∷ spelled_exp right) (omega (arith, b, op_high operator, left_high operator)))
  open_step room below (Exp-F.Neg part) l h f = f.0
  open_step room below (Exp-F.Not part) l h f = f.0
  open_step room below (Exp-F.App name []) l h f = f.0
  open_step room below (Exp-F.App name (first ∷ arguments)) l h f = omega (arith, f.0)
  open_step room below (Exp-F.Con name []) l h f = f.0
  open_step room below (Exp-F.Con name (first ∷ arguments)) l h f = omega (arith, f.0)
  open_step room below (Exp-F.Update vector at item) l h f = f.0
  open_step room below (Exp-F.Num true amount) l h f = f.0
  open_step room below (Exp-F.Num false amount) l h f = f.0
  open_step room below (Exp-F.Letter byte) l h f = f.0
  open_step room below (Exp-F.Truth true) l h f = f.0
  open_step room below (Exp-F.Truth false) l h f = f.0
  open_step room below (Exp-F.Paren inner) l h f = f.0
  open_step room below (Exp-F.Tuple parts) l h f = f.0
  open_step room below (Exp-F.Cast inner type) l h f = f.0
  open_step room below (Exp-F.Vect items) l h f = f.0
  open_step room below Exp-F.Star l h f = f.0

  -- an expression of a level begins with a token of the level or a tighter one
  pub opens_at : (room l : ℕ) (e : Exp) → 1 ≤ l → ExpFits bound room l e → l ≤ opening (spelled_exp e)
  opens_at zero l e h f = absurd f
  opens_at (suc room) l e h f = omega (arith, ap opening (spelled_out e), open_step room (λ m a w g. opens_at room m a w g) (out-Exp e) l h f)

  pub layer_opens : (room l : ℕ) (x : Exp-F Exp) → 1 ≤ l → LayerFit room l x → l ≤ opening (exp_spell x)
  layer_opens room l x h f = open_step room (opens_at room) x l h f

sign_low : (k : Kind) → opening_sign k ≤ 9
sign_low (Word word.Let) = omega arith
sign_low (Sign symbol.Minus) = omega arith
sign_low _ = omega arith

atom_opening : (k : Kind) (b : Bool) → starts_atom k ≡ b → 10 ≤ cond b 10 (opening_sign k) → b ≡ true
atom_opening k true e h = refl
atom_opening k false e h = absurd (omega (arith, sign_low k))

pub atom_next : (ks ls : List Kind) → 10 ≤ opening ks → next starts_atom (ks ++ ls) ≡ true
atom_next [] ls h = absurd (omega arith)
atom_next (k ∷ ks) ls h = atom_opening k (starts_atom k) refl h

-- the token is not next, where a tighter one is
pub not_next : (token : Kind) (ks ls : List Kind) → opening (token ∷ []) < opening ks → next (is_token token) (ks ++ ls) ≡ false
not_next token [] ls h = absurd (omega arith)
not_next token (k ∷ ks) ls h = elim (cases_Bool (is_token token k)) [
  | inl e ↦ absurd (let same = is_token-true token k e in omega (arith, h, ap (λ j. opening (j ∷ [])) same))
  | inr e ↦ e
]
