-- Reading expressions, step by step, as the code goes.
use Rattle.std.proofs.Common.{◌≡◌, ◌≢◌, ℕ, zero, suc, ◌-◌, ◌<◌, ◌≤◌, ◌==◌, List, [], ◌∷◌, length, Bool, true, false, refl, sym, ap, ◌∙◌, subst, arith}
use Rattle.std.specs.Prelude.{Result, Ok, Err, Some, None, nat_le}
use Rattle.std.proofs.lemmas.Bool.{le-leb, lt-leb, eqb-true}
use native.Mathlib.Numerals.{unary_clauses}
use Rattle.hume_base.specs.declared.keyword.Keyword.{Keyword}
use Rattle.hume_base.specs.declared.keyword.Keyword.TheVariants as word
use Rattle.hume_base.specs.declared.symbol.Symbol.{Symbol}
use Rattle.hume_base.specs.declared.symbol.Symbol.TheVariants as symbol
use Rattle.hume_base.specs.declared.token.Kind.{Kind}
use Rattle.hume_base.specs.declared.token.Kind.TheVariants.{Lower, Upper, Word, Sign}
use Rattle.hume_base.specs.declared.token.Token.{Token}
use Rattle.hume_ast.specs.declared.tree.TyExp.{TyExp}
use Rattle.hume_ast.specs.declared.tree.BinOp.{BinOp}
use Rattle.hume_ast.specs.declared.tree.Exp.{Exp, roll-Exp, out-Exp, roll-out-Exp}
use Rattle.hume_ast.specs.declared.tree.Exp.TheVariants as tree
use Rattle.hume_ast.specs.declared.tree.Exp.TheVariants.{rolls-Let, rolls-If, rolls-Case, rolls-Raise, rolls-Binary, rolls-Neg, rolls-Not, rolls-App, rolls-Con, rolls-Update, rolls-Num, rolls-Letter, rolls-Truth, rolls-Cast, rolls-Vect, rolls-Star}
use Rattle.hume_ast.specs.declared.tree.Exp.TheOpen.{Exp-F}
use Rattle.hume_ast.specs.Depth.{exp_depth}
use Rattle.hume_ast.specs.Places.{kinds}
use Rattle.parse_errors.specs.inner.Gives.{Fails}
use Rattle.parse_expressions.specs.inner.Climbing.{operand_level}
use Rattle.parse_expressions.specs.inner.Parts.{let_parts, if_parts, case_parts, raise_parts, minus_parts, update_parts, other_parts, parens_parts, vect_parts, in_list, head_of, is_name, call_of, call_with, opens_form, opens_parts, too_deep, no_part, no_atom, plain_atom}
use Rattle.parse_errors.specs.declared.stop.Stop.{Stop}
use Rattle.parse_expressions.specs.declared.trees.Head.{Head}
use Rattle.parse_expressions.specs.declared.trees.Head.TheVariants.{Function, Constructor}
use Rattle.parse_readers.specs.inner.Readers.{Reader, Wrong, ◌>>=◌, next, behind, is_word, is_sign, made, both, closed, led, pick, many, cons, after, number_of}
use Rattle.parse_readers.specs.inner.Types.{types}
use Rattle.parse_readers.specs.inner.Patterns.{is_upper}
use Rattle.parse_readers.specs.inner.Expressions.{exps, expressions_with, at_level, with_operator, starts_atom, is_lower, is_number, update_of, exp_in_parens, parts_tail, cast_tail, app_of, con_exp_of, ExpReaders}
use Rattle.parse_errors.proofs.ReportedPlaces.{kinds_length}
use Rattle.parse_expressions.proofs.Loops.{made_twice, fails_on}

-- the room of the parts, as the code counts it down
less : (n : ℕ) → suc n ≡ suc (suc n) - 1
less n = simp unary_clauses

less_one : (n : ℕ) → n ≡ suc n - 1
less_one n = simp unary_clauses

-- where a test holds of the next token, and where a token would be too deep
form_room : (n : ℕ) (k : Kind) (ks : List Kind) → opens_form k ≡ true → 0 < n → too_deep opens_form n (k ∷ ks) ≡ false → 1 < n
form_room zero k ks o some d = absurd (omega (arith, some))
form_room (suc zero) k ks o some d = absurd (let f : true ≡ false = sym o ∙ d in cc)
form_room (suc (suc n)) k ks o some d = omega arith

parts_room : (n : ℕ) (k : Kind) (ks : List Kind) → opens_parts k ≡ true → 0 < n → too_deep opens_parts n (k ∷ ks) ≡ false → 1 < n
parts_room zero k ks o some d = absurd (omega (arith, some))
parts_room (suc zero) k ks o some d = absurd (let f : true ≡ false = sym o ∙ d in cc)
parts_room (suc (suc n)) k ks o some d = omega arith

deep_one : (opens : Kind → Bool) (n : ℕ) (ks : List Kind) → too_deep opens n ks ≡ true → (n ≡ 1) × (next opens ks ≡ true)
deep_one opens n ks e = by (n == 1) refl where
  by : (b : Bool) → (n == 1) ≡ b → (n ≡ 1) × (next opens ks ≡ true)
  by true f = (eqb-true n 1 f, sym (rw f) ∙ e)
  by false f = absurd (let g : false ≡ true = sym (rw f) ∙ e in cc)

form_alone : (ts : List Token) → next opens_form (kinds ts) ≡ true → (exps 1).whole (kinds ts) ≡ Err (true, length ts)
unfolding expressions_with
form_alone [] t = cc
form_alone (k ∷ ts) t = by (is_word word.Let k.kind) (is_word word.If k.kind) (is_word word.Case k.kind) refl refl refl where
  by : (a b c : Bool) → is_word word.Let k.kind ≡ a → is_word word.If k.kind ≡ b → is_word word.Case k.kind ≡ c → (exps 1).whole (kinds (k ∷ ts)) ≡ Err (true, suc (length ts))
  by true b c e f g = rw e (ap (λ m. Err (true, suc m)) (kinds_length ts))
  by false true c e f g = rw (e, f) (ap (λ m. Err (true, suc m)) (kinds_length ts))
  by false false true e f g = rw (e, f, g) (ap (λ m. Err (true, suc m)) (kinds_length ts))
  by false false false e f g = absurd (let h : false ≡ true = sym (rw (e, f, g)) ∙ t in cc)

pub exp_deep : (n : ℕ) (ts : List Token) → too_deep opens_form n (kinds ts) ≡ true → (exps n).whole (kinds ts) ≡ Err (true, length ts)
exp_deep n ts e = let d = deep_one opens_form n (kinds ts) e in ap (λ m. (exps m).whole (kinds ts)) d.0 ∙ form_alone ts d.1

pub exp_let : (n : ℕ) (ks : List Kind) → 0 < n → too_deep opens_form n ks ≡ false → next (is_word word.Let) ks ≡ true → (exps n).whole ks ≡ let_parts (n - 1) (behind ks)
unfolding expressions_with
exp_let zero ks h d t = absurd (omega (arith, h))
exp_let n [] h d t = cc
exp_let (suc zero) (k ∷ ks) h d t = absurd (omega (arith, form_room 1 k ks (rw t) h d))
exp_let (suc (suc n)) (k ∷ ks) h d t = rw t (ap (λ m. let_parts m ks) (less n))

pub exp_if : (n : ℕ) (ks : List Kind) → 0 < n → too_deep opens_form n ks ≡ false → next (is_word word.Let) ks ≡ false → next (is_word word.If) ks ≡ true → (exps n).whole ks ≡ if_parts (n - 1) (behind ks)
unfolding expressions_with
exp_if zero ks h d a t = absurd (omega (arith, h))
exp_if n [] h d a t = cc
exp_if (suc zero) (k ∷ ks) h d a t = absurd (omega (arith, form_room 1 k ks (rw (a, t)) h d))
exp_if (suc (suc n)) (k ∷ ks) h d a t = rw (a, t) (ap (λ m. if_parts m ks) (less n))

pub exp_case : (n : ℕ) (ks : List Kind) → 0 < n → too_deep opens_form n ks ≡ false → next (is_word word.Let) ks ≡ false → next (is_word word.If) ks ≡ false → next (is_word word.Case) ks ≡ true → (exps n).whole ks ≡ case_parts (n - 1) (behind ks)
unfolding expressions_with
exp_case zero ks h d a b t = absurd (omega (arith, h))
exp_case n [] h d a b t = cc
exp_case (suc zero) (k ∷ ks) h d a b t = absurd (omega (arith, form_room 1 k ks (rw (a, b, t)) h d))
exp_case (suc (suc n)) (k ∷ ks) h d a b t = rw (a, b, t) (ap (λ m. case_parts m ks) (less n))

pub exp_raise : (n : ℕ) (ks : List Kind) → 0 < n → next (is_word word.Let) ks ≡ false → next (is_word word.If) ks ≡ false → next (is_word word.Case) ks ≡ false → next (is_word word.Raise) ks ≡ true → (exps n).whole ks ≡ raise_parts (n - 1) (behind ks)
unfolding expressions_with
exp_raise zero ks h a b c t = absurd (omega (arith, h))
exp_raise (suc n) [] h a b c t = cc
exp_raise (suc n) (k ∷ ks) h a b c t = rw (a, b, c, t) (ap (λ m. raise_parts m ks) (less_one n))

pub exp_or : (n : ℕ) (ks : List Kind) → 0 < n → next (is_word word.Let) ks ≡ false → next (is_word word.If) ks ≡ false → next (is_word word.Case) ks ≡ false → next (is_word word.Raise) ks ≡ false → (exps n).whole ks ≡ at_level 2 (exps n) ks
unfolding expressions_with
exp_or zero ks h a b c d = absurd (omega (arith, h))
exp_or (suc n) [] h a b c d = refl
exp_or (suc n) (k ∷ ks) h a b c d = rw (a, b, c, d)

-- the room of a form that is next
pub form_let : (n : ℕ) (ks : List Kind) → 0 < n → too_deep opens_form n ks ≡ false → next (is_word word.Let) ks ≡ true → 1 < n
form_let n [] h d t = cc
form_let n (k ∷ ks) h d t = form_room n k ks (rw t) h d

pub form_if : (n : ℕ) (ks : List Kind) → 0 < n → too_deep opens_form n ks ≡ false → next (is_word word.Let) ks ≡ false → next (is_word word.If) ks ≡ true → 1 < n
form_if n [] h d a t = cc
form_if n (k ∷ ks) h d a t = form_room n k ks (rw (a, t)) h d

pub form_case : (n : ℕ) (ks : List Kind) → 0 < n → too_deep opens_form n ks ≡ false → next (is_word word.Let) ks ≡ false → next (is_word word.If) ks ≡ false → next (is_word word.Case) ks ≡ true → 1 < n
form_case n [] h d a b t = cc
form_case n (k ∷ ks) h d a b t = form_room n k ks (rw (a, b, t)) h d

pub unary_zero : (n : ℕ) (ks : List Kind) → n ≡ 0 → (exps n).unary ks ≡ no_part ks
unfolding expressions_with
unary_zero n ks e = rw e

pub unary_minus : (n : ℕ) (ks : List Kind) → 0 < n → next (is_sign symbol.Minus) ks ≡ true → (exps n).unary ks ≡ minus_parts (n - 1) (behind ks)
unfolding expressions_with
unary_minus zero ks h t = absurd (omega (arith, h))
unary_minus (suc n) [] h t = cc
unary_minus (suc n) (k ∷ ks) h t = rw (t) (ap (λ m. minus_parts m ks) (less_one n))

pub unary_not : (n : ℕ) (ks : List Kind) → 1 < n → next (is_sign symbol.Minus) ks ≡ false → next (is_word word.Not) ks ≡ true → (exps n).unary ks ≡ made tree.Not (exps (n - 1)).unary (behind ks)
unfolding expressions_with
unary_not zero ks h a t = absurd (omega (arith, h))
unary_not (suc zero) ks h a t = absurd (omega (arith, h))
unary_not (suc (suc n)) [] h a t = cc
unary_not (suc (suc n)) (k ∷ ks) h a t = rw (a, t) (made_twice (exps (suc n)).unary ks Exp-F.Not roll-Exp tree.Not rolls-Not ∙ ap (λ m. made tree.Not (exps m).unary ks) (less n))

pub unary_not_one : (n : ℕ) (ts : List Token) → n ≡ 1 → next (is_sign symbol.Minus) (kinds ts) ≡ false → next (is_word word.Not) (kinds ts) ≡ true → (exps n).unary (kinds ts) ≡ Err (true, length ts)
unfolding expressions_with
unary_not_one n [] e a t = cc
unary_not_one n (k ∷ ks) e a t = rw (e, a, t) (ap (λ m. Err (true, suc m)) (kinds_length ks))

pub unary_plain : (n : ℕ) (ks : List Kind) → 0 < n → next (is_sign symbol.Minus) ks ≡ false → next (is_word word.Not) ks ≡ false → (exps n).unary ks ≡ at_level 8 (exps n) ks
unfolding expressions_with
unary_plain zero ks h a b = absurd (omega (arith, h))
unary_plain (suc n) [] h a b = refl
unary_plain (suc n) (k ∷ ks) h a b = rw (a, b)

pub minus_number : (n : ℕ) (ks : List Kind) → next is_number ks ≡ true → minus_parts n ks ≡ made (tree.Num true) (pick number_of) ks
minus_number n [] t = cc
minus_number n (k ∷ ks) t = rw t (made_twice (pick number_of) (k ∷ ks) (Exp-F.Num true) roll-Exp (tree.Num true) (rolls-Num true))

unary_end : (n : ℕ) → (exps n).unary [] ≡ Err (false, 0)
unfolding expressions_with
unary_end zero = refl
unary_end (suc n) = refl

pub minus_part : (n : ℕ) (ks : List Kind) → next is_number ks ≡ false → minus_parts n ks ≡ made tree.Neg (exps n).unary ks
minus_part n [] t = rw (unary_end n)
minus_part n (k ∷ ks) t = rw t (made_twice (exps n).unary (k ∷ ks) Exp-F.Neg roll-Exp tree.Neg rolls-Neg)

not_lower : (ks : List Kind) → next is_name ks ≡ false → next is_lower ks ≡ false
not_lower [] t = refl
not_lower (Lower name ∷ ks) t = cc
not_lower (_ ∷ ks) t = refl

not_upper : (ks : List Kind) → next is_name ks ≡ false → next is_upper ks ≡ false
not_upper [] t = refl
not_upper (Upper name ∷ ks) t = cc
not_upper (_ ∷ ks) t = refl

called : (head : Head) (made_by : List ℕ × List Exp → Exp-F Exp) (name : List ℕ) → ((items : List Exp) → made_by (name, items) ≡ call_of head items) → (r : Result (List Exp × List Kind) Wrong)
    → made roll-Exp (made made_by (λ ks. r >>= λ b. Ok ((name, b.0), b.1))) [] ≡ made roll-Exp (made (call_of head) (λ ks. r)) []
called head made_by name same (Ok x) = ap (λ e. Ok (roll-Exp e, x.1)) (same x.0)
called head made_by name same (Err n) = refl

pub app_call : (n : ℕ) (ks ls : List Kind) (head : Head) → 0 < n → pick head_of ks ≡ Ok (head, ls) → (exps n).app ks ≡ call_with head (n - 1) ls
unfolding expressions_with many
app_call zero ks ls head h e = absurd (omega (arith, h))
app_call (suc n) [] ls head h e = cc
app_call (suc n) (Lower name ∷ ks) ls head h e =
    let pairs : (Function name, ks) ≡ (head, ls) = cc in
    called (Function name) app_of name (λ items. refl) (many starts_atom (exps n).atom ks)
    ∙ ap (λ (y : Head × List Kind). call_with y.0 n y.1) pairs ∙ ap (λ m. call_with head m ls) (less_one n)
app_call (suc n) (Upper name ∷ ks) ls head h e =
    let pairs : (Constructor name, ks) ≡ (head, ls) = cc in
    called (Constructor name) con_exp_of name (λ items. refl) (many starts_atom (exps n).atom ks)
    ∙ ap (λ (y : Head × List Kind). call_with y.0 n y.1) pairs ∙ ap (λ m. call_with head m ls) (less_one n)
app_call (suc n) (_ ∷ ks) ls head h e = cc

pub app_update : (n : ℕ) (ks : List Kind) → 1 < n → next is_name ks ≡ false → next (is_word word.Update) ks ≡ true → (exps n).app ks ≡ update_parts (n - 1) (behind ks)
unfolding expressions_with
app_update zero ks h a t = absurd (omega (arith, h))
app_update (suc zero) ks h a t = absurd (omega (arith, h))
app_update (suc (suc n)) [] h a t = cc
app_update (suc (suc n)) (k ∷ ks) h a t = rw (not_lower (k ∷ ks) a, not_upper (k ∷ ks) a, t) (ap (λ m. update_parts m ks) (less n))

pub app_update_one : (n : ℕ) (ts : List Token) → n ≡ 1 → next is_name (kinds ts) ≡ false → next (is_word word.Update) (kinds ts) ≡ true → (exps n).app (kinds ts) ≡ Err (true, length ts)
unfolding expressions_with
app_update_one n [] e a t = cc
app_update_one n (k ∷ ks) e a t = rw (e, not_lower (kinds (k ∷ ks)) a, not_upper (kinds (k ∷ ks)) a, t) (ap (λ m. Err (true, suc m)) (kinds_length ks))

pub app_star : (n : ℕ) (ks : List Kind) → 0 < n → next is_name ks ≡ false → next (is_word word.Update) ks ≡ false → next (is_sign symbol.Star) ks ≡ true → (exps n).app ks ≡ Ok (tree.Star, behind ks)
unfolding expressions_with
app_star zero ks h a c t = absurd (omega (arith, h))
app_star (suc n) [] h a c t = cc
app_star (suc n) (k ∷ ks) h a c t = rw (not_lower (k ∷ ks) a, not_upper (k ∷ ks) a, c, t, rolls-Star)

pub app_atom : (n : ℕ) (ks : List Kind) → 0 < n → next is_name ks ≡ false → next (is_word word.Update) ks ≡ false → next (is_sign symbol.Star) ks ≡ false → (exps n).app ks ≡ (exps n).atom ks
unfolding expressions_with
app_atom zero ks h a c d = absurd (omega (arith, h))
app_atom (suc n) [] h a c d = refl
app_atom (suc n) (k ∷ ks) h a c d = rw (not_lower (k ∷ ks) a, not_upper (k ∷ ks) a, c, d)

pub atom_zero : (n : ℕ) (ks : List Kind) → n ≡ 0 → (exps n).atom ks ≡ no_atom ks
unfolding expressions_with
atom_zero n ks e = rw e

-- no word is next where a symbol is
sign_next : (s : Symbol) (k : Kind) → is_sign s k ≡ true → (w : Keyword) → is_word w k ≡ false
sign_next s (Sign other) t w = refl
sign_next s _ t w = cc

parts_sign : (k : Kind) → opens_parts k ≡ true → (w : Keyword) → is_word w k ≡ false
parts_sign (Sign other) t w = refl
parts_sign _ t w = cc

parts_alone : (ts : List Token) → next opens_parts (kinds ts) ≡ true → (exps 1).atom (kinds ts) ≡ Err (true, length ts)
unfolding expressions_with
parts_alone [] t = cc
parts_alone (k ∷ ts) t = by (is_sign symbol.OpenParen k.kind) (is_sign symbol.OpenAngles k.kind) refl refl where
  by : (a b : Bool) → is_sign symbol.OpenParen k.kind ≡ a → is_sign symbol.OpenAngles k.kind ≡ b → (exps 1).atom (kinds (k ∷ ts)) ≡ Err (true, suc (length ts))
  by true b e f = rw (parts_sign k.kind t word.True, parts_sign k.kind t word.False, e) (ap (λ m. Err (true, suc m)) (kinds_length ts))
  by false true e f = rw (parts_sign k.kind t word.True, parts_sign k.kind t word.False, e, f) (ap (λ m. Err (true, suc m)) (kinds_length ts))
  by false false e f = absurd (let h : false ≡ true = sym (rw (e, f)) ∙ t in cc)

pub atom_deep : (n : ℕ) (ts : List Token) → too_deep opens_parts n (kinds ts) ≡ true → (exps n).atom (kinds ts) ≡ Err (true, length ts)
atom_deep n ts e = let d = deep_one opens_parts n (kinds ts) e in ap (λ m. (exps m).atom (kinds ts)) d.0 ∙ parts_alone ts d.1

pub atom_open : (n : ℕ) (ks : List Kind) → n ≢ 0 → too_deep opens_parts n ks ≡ false → next (is_sign symbol.OpenParen) ks ≡ true → (exps n).atom ks ≡ parens_parts (n - 1) (behind ks)
unfolding expressions_with
atom_open zero ks h d t = absurd (h refl)
atom_open n [] h d t = cc
atom_open (suc zero) (k ∷ ks) h d t = absurd (omega (arith, parts_room 1 k ks (rw t) (omega arith) d))
atom_open (suc (suc n)) (k ∷ ks) h d t = rw (sign_next symbol.OpenParen k t word.True, sign_next symbol.OpenParen k t word.False, t) (ap (λ m. parens_parts m ks) (less n))

pub atom_angles : (n : ℕ) (ks : List Kind) → n ≢ 0 → too_deep opens_parts n ks ≡ false → next (is_sign symbol.OpenParen) ks ≡ false → next (is_sign symbol.OpenAngles) ks ≡ true → (exps n).atom ks ≡ vect_parts (n - 1) (behind ks)
unfolding expressions_with
atom_angles zero ks h d a t = absurd (h refl)
atom_angles n [] h d a t = cc
atom_angles (suc zero) (k ∷ ks) h d a t = absurd (omega (arith, parts_room 1 k ks (rw (a, t)) (omega arith) d))
atom_angles (suc (suc n)) (k ∷ ks) h d a t = rw (sign_next symbol.OpenAngles k t word.True, sign_next symbol.OpenAngles k t word.False, a, t) (ap (λ m. vect_parts m ks) (less n))

pub atom_plain : (n : ℕ) (ks : List Kind) → n ≢ 0 → next (is_sign symbol.OpenParen) ks ≡ false → next (is_sign symbol.OpenAngles) ks ≡ false → (exps n).atom ks ≡ plain_atom ks
unfolding expressions_with
atom_plain zero ks h a b = absurd (h refl)
atom_plain (suc n) [] h a b = refl
atom_plain (suc n) (k ∷ ks) h a b = rw (a, b)

pub parts_open : (n : ℕ) (ks : List Kind) → n ≢ 0 → too_deep opens_parts n ks ≡ false → next (is_sign symbol.OpenParen) ks ≡ true → 1 < n
parts_open n [] h d t = cc
parts_open n (k ∷ ks) h d t = parts_room n k ks (rw t) (omega (arith, h)) d

pub parts_angles : (n : ℕ) (ks : List Kind) → n ≢ 0 → too_deep opens_parts n ks ≡ false → next (is_sign symbol.OpenParen) ks ≡ false → next (is_sign symbol.OpenAngles) ks ≡ true → 1 < n
parts_angles n [] h d a t = cc
parts_angles n (k ∷ ks) h d a t = parts_room n k ks (rw (a, t)) (omega (arith, h)) d

-- three parts, the last of which is not read
pub update_stops : (f : Stop) (p : Reader Exp) (ks ls ms : List Kind) (a b : Exp) → p ks ≡ Ok (a, ls) → p ls ≡ Ok (b, ms) → Fails f (p ms) → Fails f (made roll-Exp (made update_of (both p (both p p))) ks)
update_stops f p ks ls ms a b e g h = fails_on f (p ms) (made roll-Exp (made update_of (both p (both p p))) ks) (λ n w. rw (e, g, w)) h

pub if_stops : (f : Stop) (room : ℕ) (ks ls ms : List Kind) (a b : Exp) → closed (exps room).whole (Word word.Then) ks ≡ Ok (a, ls) → closed (exps room).whole (Word word.Else) ls ≡ Ok (b, ms) → Fails f ((exps room).whole ms) → Fails f (if_parts room ks)
if_stops f room ks ls ms a b e g h = fails_on f ((exps room).whole ms) (if_parts room ks) (λ n w. rw (e, g, w)) h

-- parentheses
in_listed : (first : Exp) (others : List Exp) → exp_in_parens (first, (None, others)) ≡ in_list (first ∷ others)
in_listed first [] = refl
in_listed first (second ∷ others) = refl

others_by : (first : Exp) (r : Result (List Exp × List Kind) Wrong) → made roll-Exp (made exp_in_parens (λ ks. made parts_tail (λ ls. r) [] >>= λ b. Ok ((first, b.0), b.1))) [] ≡ made (λ parts. roll-Exp (in_list parts)) (made (λ others. first ∷ others) (λ ks. r)) []
others_by first (Ok x) = ap (λ e. Ok (roll-Exp e, x.1)) (in_listed first x.0)
others_by first (Err n) = refl

pub parens_others : (room : ℕ) (ks ls : List Kind) (first : Exp) → (exps room).whole ks ≡ Ok (first, ls) → next (is_word word.As) ls ≡ false
    → parens_parts room ks ≡ made (λ parts. roll-Exp (in_list parts)) (made (λ others. first ∷ others) (other_parts symbol.CloseParen room)) ls
unfolding many
parens_others room ks [] first e t = rw e
parens_others room ks (l ∷ ls) first e t = rw (e, t) (others_by first (other_parts symbol.CloseParen room (l ∷ ls)))

pub parens_stops : (f : Stop) (room : ℕ) (ks ls : List Kind) (first : Exp) → (exps room).whole ks ≡ Ok (first, ls) → next (is_word word.As) ls ≡ false
    → Fails f (made (λ others. first ∷ others) (other_parts symbol.CloseParen room) ls) → Fails f (parens_parts room ks)
parens_stops f room ks ls first e t h = fails_on f (made (λ others. first ∷ others) (other_parts symbol.CloseParen room) ls) (parens_parts room ks) (λ n w. parens_others room ks ls first e t ∙ rw w) h

pub parens_ends : (room : ℕ) (ks ls ms : List Kind) (first made_of : Exp) (items : List Exp) → (exps room).whole ks ≡ Ok (first, ls) → next (is_word word.As) ls ≡ false
    → made (λ others. first ∷ others) (other_parts symbol.CloseParen room) ls ≡ Ok (items, ms) → made_of ≡ roll-Exp (in_list items) → parens_parts room ks ≡ Ok (made_of, ms)
parens_ends room ks ls ms first made_of items e t g h = parens_others room ks ls first e t ∙ rw g (ap (λ y. Ok (y, ms)) (sym h))

pub parens_cast : (room : ℕ) (ks ls : List Kind) (first : Exp) → (exps room).whole ks ≡ Ok (first, ls) → next (is_word word.As) ls ≡ true
    → parens_parts room ks ≡ made (tree.Cast first) (closed (types 64) (Sign symbol.CloseParen)) (behind ls)
parens_cast room ks [] first e t = cc
parens_cast room ks (l ∷ ls) first e t = rw (e, t) (by (closed (types 64) (Sign symbol.CloseParen) ls)) where
  by : (r : Result (TyExp × List Kind) Wrong) → made roll-Exp (made exp_in_parens (λ ks. made cast_tail (λ ls. r) [] >>= λ b. Ok ((first, b.0), b.1))) [] ≡ made (tree.Cast first) (λ ks. r) []
  by (Ok x) = ap (λ e. Ok (e, x.1)) (rolls-Cast first x.0)
  by (Err n) = refl

pub vect_others : (room : ℕ) (ks ls : List Kind) (first : Exp) → (exps room).whole ks ≡ Ok (first, ls)
    → vect_parts room ks ≡ made tree.Vect (made (λ others. first ∷ others) (other_parts symbol.CloseAngles room)) ls
vect_others room ks ls first e = rw e (by (many (is_sign symbol.Comma) (led (Sign symbol.Comma) (exps room).whole) ls)) where
  by : (r : Result (List Exp × List Kind) Wrong) → made roll-Exp (made Exp-F.Vect (closed (λ ks. made cons (λ ls. r >>= λ b. Ok ((first, b.0), b.1)) []) (Sign symbol.CloseAngles))) [] ≡ made tree.Vect (made (λ others. first ∷ others) (closed (λ ks. r) (Sign symbol.CloseAngles))) []
  by (Err n) = refl
  by (Ok x) = ends (after (Sign symbol.CloseAngles) x.1) where
    ends : (r : Result (List Kind) Wrong) → made roll-Exp (made Exp-F.Vect (λ ks. r >>= λ rest. Ok (first ∷ x.0, rest))) [] ≡ made tree.Vect (made (λ others. first ∷ others) (λ ks. r >>= λ rest. Ok (x.0, rest))) []
    ends (Ok rest) = ap (λ e. Ok (e, rest)) (rolls-Vect (first ∷ x.0))
    ends (Err n) = refl

pub level_unary : (l : ℕ) (p : ExpReaders) → l ≤ 7 → at_level (operand_level l) p ≡ p.unary
level_unary l p e = rw (le-leb l 7 e)

pub level_app : (l : ℕ) (p : ExpReaders) → 7 < l → at_level (operand_level l) p ≡ p.app
level_app l p e = rw (lt-leb l 7 e)

-- an operator and its right part
pub right_on : (o : BinOp) (m : ℕ) (child : Reader Exp) (left : Exp) (ks : List Kind) → nat_le (exp_depth left) m ≡ true → made roll-Exp (with_operator (Some o) m child (out-Exp left)) ks ≡ made (tree.Binary o left) child (behind ks)
right_on o m child left ks d =
    rw (subst (λ e. nat_le (exp_depth e) m ≡ true) (sym (roll-out-Exp left)) d)
    (made_twice child (behind ks) (Exp-F.Binary o (roll-Exp (out-Exp left))) roll-Exp (tree.Binary o left) (λ right. rolls-Binary o (roll-Exp (out-Exp left)) right ∙ ap (λ y. tree.Binary o y right) (roll-out-Exp left)))

pub right_deep : (o : BinOp) (m : ℕ) (child : Reader Exp) (left : Exp) (ts : List Token) → nat_le (exp_depth left) m ≡ false → made roll-Exp (with_operator (Some o) m child (out-Exp left)) (kinds ts) ≡ Err (true, length ts)
right_deep o m child left ts d = rw (subst (λ e. nat_le (exp_depth e) m ≡ false) (sym (roll-out-Exp left)) d) (ap (λ m. Err (true, m)) (kinds_length ts))

pub ruleset whole_steps = (exp_deep, exp_let, exp_if, exp_case, exp_raise, exp_or, form_let, form_if, form_case)

pub ruleset unary_steps = (unary_zero, unary_minus, unary_not, unary_not_one, unary_plain)

pub ruleset minus_steps = (minus_number, minus_part)

pub ruleset app_steps = (app_call, app_update, app_update_one, app_star, app_atom)

pub ruleset atom_steps = (atom_zero, atom_deep, atom_open, atom_angles, atom_plain, parts_open, parts_angles)

pub ruleset let_steps = (rolls-Let)

pub ruleset if_steps = (rolls-If)

pub ruleset case_steps = (rolls-Case)

pub ruleset raise_steps = (rolls-Raise)

pub ruleset update_steps = (rolls-Update)

pub ruleset parens_steps = (parens_others, parens_cast)

pub ruleset vect_steps = (vect_others)

pub ruleset operand_steps = (level_unary, level_app)

pub ruleset right_steps = (right_on, right_deep)

pub ruleset leaf_steps = (rolls-App, rolls-Con, rolls-Num, rolls-Letter, rolls-Truth, kinds_length)
