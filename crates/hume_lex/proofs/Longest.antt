-- Which byte can follow the bytes of a piece within a longer one.
use Rattle.std.proofs.Common.{◌≡◌, ℕ, List, [], ◌∷◌, ◌++◌, length, Bool, true, false, cond, ◌&&◌, ◌||◌, Some, refl, sym, ap, ◌∙◌, subst, inl, inr, arith, length-append, nat_eq}
use Rattle.std.specs.Prelude.{is_some}
use Rattle.std.specs.List.{list_all}
use Rattle.std.proofs.lemmas.Bool.{and_from}
use Rattle.hume_base.specs.Keywords.{keyword_text}
use Rattle.hume_base.specs.Symbols.{symbol_text, symbol_of}
use Rattle.hume_base.proofs.SymbolTexts.{symbol_of-text}
use Rattle.hume_base.specs.declared.symbol.Symbol.{Symbol}
use Rattle.hume_base.specs.declared.token.Kind.TheVariants as kind
use Rattle.hume_lex.specs.Spelling.{is_small, is_capital, is_digit, is_name_byte, is_quotable, is_no_newline, Each, IsName, letter_text}
use Rattle.hume_lex.specs.Reading.{Piece, gap, token, bytes_of, IsPiece, IsLongest}
use Rattle.hume_lex.proofs.Classes.{begins_name, small_begins, capital_begins, digit_begins_none}
use Rattle.hume_lex.proofs.Texts.{keyword_is_name, MarkText, one, two, symbol_is_marks, LetterText, plain, escape, letter_text_is}

-- a letter is not closed yet by these bytes
abbrev pub is_open_letter : List ℕ → Bool
is_open_letter [] = true
is_open_letter (x ∷ []) = true
is_open_letter (x ∷ (y ∷ [])) = nat_eq x 92
is_open_letter (x ∷ (y ∷ (z ∷ w))) = false

abbrev pub goes_on_sign : ℕ → List ℕ → ℕ → Bool
goes_on_sign a [] c = is_some (symbol_of (a ∷ (c ∷ []))) || (nat_eq a 45 && nat_eq c 45)
goes_on_sign a (b ∷ w) c = nat_eq a 45 && nat_eq b 45 && is_no_newline c

-- whether a byte c can follow the bytes a ∷ w of a piece within a longer one
abbrev pub goes_on : ℕ → List ℕ → ℕ → Bool
goes_on a w c =
    cond (begins_name a) (is_name_byte c)
    (cond (is_digit a) (is_digit c)
    (cond (nat_eq a 39) (is_open_letter w)
    (cond (nat_eq a 34) (list_all is_quotable w)
    (goes_on_sign a w c))))

each_at : (p : ℕ → Bool) (w : List ℕ) (c : ℕ) (cs : List ℕ) → Each p (w ++ (c ∷ cs)) → p c ≡ true
each_at p [] c cs h = h.0
each_at p (x ∷ w) c cs h = each_at p w c cs h.1

small_goes_on : (bs : List ℕ) (a : ℕ) (w : List ℕ) (c : ℕ) (cs : List ℕ) → IsName is_small bs → bs ≡ a ∷ (w ++ (c ∷ cs)) → goes_on a w c ≡ true
small_goes_on bs a w c cs h e = let n = subst (IsName is_small) e h in rw (small_begins a n.0) (each_at is_name_byte w c cs n.1)

capital_goes_on : (bs : List ℕ) (a : ℕ) (w : List ℕ) (c : ℕ) (cs : List ℕ) → IsName is_capital bs → bs ≡ a ∷ (w ++ (c ∷ cs)) → goes_on a w c ≡ true
capital_goes_on bs a w c cs h e = let n = subst (IsName is_capital) e h in rw (capital_begins a n.0) (each_at is_name_byte w c cs n.1)

digits_go_on : (bs : List ℕ) (a : ℕ) (w : List ℕ) (c : ℕ) (cs : List ℕ) → Each is_digit bs → bs ≡ a ∷ (w ++ (c ∷ cs)) → goes_on a w c ≡ true
digits_go_on bs a w c cs h e = let n = subst (Each is_digit) e h in rw (digit_begins_none a n.0, n.0) (each_at is_digit w c cs n.1)

-- lists of two and three bytes, cut before their last byte at the latest
plain_opens : (x y : ℕ) (w : List ℕ) (c : ℕ) (cs : List ℕ) → x ∷ (y ∷ []) ≡ w ++ (c ∷ cs) → is_open_letter w ≡ true
plain_opens x y [] c cs e = refl
plain_opens x y (u ∷ []) c cs e = refl
plain_opens x y (u ∷ (v ∷ w)) c cs e = absurd (omega (arith, ap length e, length-append w (c ∷ cs)))

escape_opens : (x y : ℕ) (w : List ℕ) (c : ℕ) (cs : List ℕ) → 92 ∷ (x ∷ (y ∷ [])) ≡ w ++ (c ∷ cs) → is_open_letter w ≡ true
escape_opens x y [] c cs e = refl
escape_opens x y (u ∷ []) c cs e = refl
escape_opens x y (u ∷ (v ∷ [])) c cs e = let first : 92 ≡ u = cc in rw (← first)
escape_opens x y (u ∷ (v ∷ (z ∷ w))) c cs e = absurd (omega (arith, ap length e, length-append w (c ∷ cs)))

letter_opens : (text : List ℕ) → LetterText text → (w : List ℕ) (c : ℕ) (cs : List ℕ) → text ++ (39 ∷ []) ≡ w ++ (c ∷ cs) → is_open_letter w ≡ true
letter_opens text (plain x is) w c cs e = plain_opens x 39 w c cs (ap (λ l. l ++ (39 ∷ [])) (sym is) ∙ e)
letter_opens text (escape x is) w c cs e = escape_opens x 39 w c cs (ap (λ l. l ++ (39 ∷ [])) (sym is) ∙ e)

letter_goes_on : (byte a : ℕ) (w : List ℕ) (c : ℕ) (cs : List ℕ) → 39 ∷ (letter_text byte ++ (39 ∷ [])) ≡ a ∷ (w ++ (c ∷ cs)) → goes_on a w c ≡ true
letter_goes_on byte a w c cs e =
    let first : 39 ≡ a = cc in
    let rest : letter_text byte ++ (39 ∷ []) ≡ w ++ (c ∷ cs) = cc in
    rw (← first) (letter_opens (letter_text byte) (letter_text_is byte) w c cs rest)

front_passes : (p : ℕ → Bool) (xs w : List ℕ) (x c : ℕ) (cs : List ℕ) → Each p xs → xs ++ (x ∷ []) ≡ w ++ (c ∷ cs) → list_all p w ≡ true
front_passes p xs [] x c cs h e = refl
front_passes p [] (u ∷ w) x c cs h e = absurd (omega (arith, ap length e, length-append w (c ∷ cs)))
front_passes p (y ∷ ys) (u ∷ w) x c cs h e =
    let first : y ≡ u = cc in
    let rest : ys ++ (x ∷ []) ≡ w ++ (c ∷ cs) = cc in
    and_from _ _ (ap p (sym first) ∙ h.0) (front_passes p ys w x c cs h.1 rest)

quoted_goes_on : (inside : List ℕ) (a : ℕ) (w : List ℕ) (c : ℕ) (cs : List ℕ) → Each is_quotable inside → 34 ∷ (inside ++ (34 ∷ [])) ≡ a ∷ (w ++ (c ∷ cs)) → goes_on a w c ≡ true
quoted_goes_on inside a w c cs h e =
    let first : 34 ≡ a = cc in
    let rest : inside ++ (34 ∷ []) ≡ w ++ (c ∷ cs) = cc in
    rw (← first) (front_passes is_quotable inside w 34 c cs h rest)

two_are : (x y a : ℕ) (w : List ℕ) (c : ℕ) (cs : List ℕ) → x ∷ (y ∷ []) ≡ a ∷ (w ++ (c ∷ cs)) → (x ≡ a) × ([] ≡ w) × (y ≡ c)
two_are x y a [] c cs e = (cc, refl, cc)
two_are x y a (u ∷ w) c cs e = absurd (omega (arith, ap length e, length-append w (c ∷ cs)))

marks_go_on : (text : List ℕ) (symbol : Symbol) → symbol_of text ≡ Some symbol → MarkText text → (a : ℕ) (w : List ℕ) (c : ℕ) (cs : List ℕ) → text ≡ a ∷ (w ++ (c ∷ cs)) → goes_on a w c ≡ true
marks_go_on text symbol found (one x is mark) a w c cs e = absurd (omega (arith, ap length (sym is ∙ e), length-append w (c ∷ cs)))
marks_go_on text symbol found (two x y is mark apart) a w c cs e =
    let p = two_are x y a w c cs (sym is ∙ e) in
    let same : symbol_of (x ∷ (y ∷ [])) ≡ Some symbol = ap symbol_of (sym is) ∙ found in
    rw (← p.0, ← p.1, ← p.2, mark.no_name, mark.no_digit, mark.no_single, mark.no_double, same)

comment_goes_on : (text : List ℕ) (a : ℕ) (w : List ℕ) (c : ℕ) (cs : List ℕ) → Each is_no_newline text → 45 ∷ (45 ∷ text) ≡ a ∷ (w ++ (c ∷ cs)) → goes_on a w c ≡ true
comment_goes_on text a [] c cs h e = let x : 45 ≡ a = cc in let y : 45 ≡ c = cc in rw (← x, ← y)
comment_goes_on text a (b ∷ w) c cs h e =
    let x : 45 ≡ a = cc in
    let y : 45 ≡ b = cc in
    let rest : text ≡ w ++ (c ∷ cs) = cc in
    rw (← x, ← y) (each_at is_no_newline w c cs (subst (Each is_no_newline) rest h))

space_ends : {A : Type 0} (x a : ℕ) (w : List ℕ) (c : ℕ) (cs : List ℕ) → x ∷ [] ≡ a ∷ (w ++ (c ∷ cs)) → A
space_ends x a w c cs e = absurd (omega (arith, ap length e, length-append w (c ∷ cs)))

pub piece_goes_on : (piece : Piece) (a : ℕ) (w : List ℕ) (c : ℕ) (cs : List ℕ) → IsPiece piece → bytes_of piece ≡ a ∷ (w ++ (c ∷ cs)) → goes_on a w c ≡ true
piece_goes_on (gap bs) a w c cs (inl h) e = space_ends h.0 a w c cs (sym h.1 ∙ e)
piece_goes_on (gap bs) a w c cs (inr h) e = comment_goes_on h.0 a w c cs h.2 (sym h.1 ∙ e)
piece_goes_on (token (kind.Lower name) bs) a w c cs h e = small_goes_on bs a w c cs h.1 e
piece_goes_on (token (kind.Upper name) bs) a w c cs h e = capital_goes_on bs a w c cs h.1 e
piece_goes_on (token (kind.Number n) bs) a w c cs h e = digits_go_on bs a w c cs h.0 e
piece_goes_on (token (kind.Letter byte) bs) a w c cs h e = letter_goes_on byte a w c cs (sym h.1 ∙ e)
piece_goes_on (token (kind.Quoted inside) bs) a w c cs h e = quoted_goes_on inside a w c cs h.0 (sym h.3 ∙ e)
piece_goes_on (token (kind.Word word) bs) a w c cs h e = small_goes_on (keyword_text word) a w c cs (keyword_is_name word) (sym h ∙ e)
piece_goes_on (token (kind.Sign symbol) bs) a w c cs h e = marks_go_on (symbol_text symbol) symbol (symbol_of-text symbol) (symbol_is_marks symbol) a w c cs (sym h ∙ e)

-- the bytes are the longest piece where the next byte cannot go on
pub longest_if : (a : ℕ) (w rest : List ℕ) → ((c : ℕ) (cs : List ℕ) → rest ≡ c ∷ cs → goes_on a w c ≡ false) → IsLongest (a ∷ w) rest
longest_if a w rest h piece c cs ds is e r =
    let yes = piece_goes_on piece a w c cs is e in
    let no = h c (cs ++ ds) r in
    let both : true ≡ false = sym yes ∙ no in
    cc
