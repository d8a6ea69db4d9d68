-- The scan finds a piece where one stands, and just it where nothing follows.
use Rattle.std.proofs.Common.{◌≡◌, ◌≢◌, ℕ, ◌<◌, ◌≤◌, List, [], ◌∷◌, ◌++◌, length, Bool, true, false, cond, ◌&&◌, Option, Some, None, refl, sym, ap, ◌∙◌, ◌⊎◌, inl, inr, arith, append_assoc, append-nil, nat_eq}
use Rattle.std.specs.Prelude.{is_some}
use Rattle.std.proofs.lemmas.Bool.{and_from, lt-ltb, le-leb, eqb-true, cases_Bool}
use Rattle.std.proofs.lemmas.Bool.Decides.{nat_tests}
use Rattle.hume_base.specs.Keywords.{keyword_text, keyword_of}
use Rattle.hume_base.specs.Symbols.{symbol_text, symbol_of}
use Rattle.hume_base.proofs.KeywordTexts.{keyword_found, keyword_of-text}
use Rattle.hume_base.proofs.SymbolTexts.{symbol_of-text}
use Rattle.hume_base.specs.declared.keyword.Keyword.{Keyword}
use Rattle.hume_base.specs.declared.symbol.Symbol.{Symbol}
use Rattle.hume_base.specs.declared.limits.TheConstants.{MAX_PORT_NAME_BYTES}
use Rattle.hume_base.specs.declared.token.Kind.TheVariants as kind
use Rattle.hume_lex.specs.Spelling.{is_space, is_small, is_capital, is_digit, is_name_byte, is_letter, is_quotable, is_no_newline, value_of, letter_text, Each, IsName}
use Rattle.hume_lex.specs.Reading.{Piece, gap, token, bytes_of, IsPiece, NoPiece}
use Rattle.hume_lex.specs.inner.Scan.{run, small_piece, letter_piece, is_port_name, quoted_piece, two_signs, sign_piece, first_piece}
use Rattle.hume_lex.proofs.Classes.{begins_name, small_no_space, capital_no_space, capital_no_small, digit_no_space, digit_no_small, digit_no_capital, letter_is_plain}
use Rattle.hume_lex.proofs.Texts.{keyword_is_name, IsMark, MarkText, one, two, symbol_is_marks}
use Rattle.hume_lex.proofs.Found.{drop_front}

-- what the scan does by the first byte
first_space : (b : ℕ) (bs : List ℕ) → is_space b ≡ true → first_piece (b ∷ bs) ≡ Some (gap (b ∷ []))
unfolding first_piece
first_space b bs h = rw h

first_small : (b : ℕ) (bs : List ℕ) → is_small b ≡ true → first_piece (b ∷ bs) ≡ Some (small_piece (keyword_of (run is_name_byte (b ∷ bs))) (run is_name_byte (b ∷ bs)))
unfolding first_piece
first_small b bs h = rw (small_no_space b h, h)

first_capital : (b : ℕ) (bs : List ℕ) → is_capital b ≡ true → first_piece (b ∷ bs) ≡ Some (token (kind.Upper (run is_name_byte (b ∷ bs))) (run is_name_byte (b ∷ bs)))
unfolding first_piece
first_capital b bs h = rw (capital_no_space b h, capital_no_small b h, h)

first_digit : (b : ℕ) (bs : List ℕ) → is_digit b ≡ true → first_piece (b ∷ bs) ≡ Some (token (kind.Number (value_of (run is_digit (b ∷ bs)))) (run is_digit (b ∷ bs)))
unfolding first_piece
first_digit b bs h = rw (digit_no_space b h, digit_no_small b h, digit_no_capital b h, h)

first_letter : (bs : List ℕ) → first_piece (39 ∷ bs) ≡ letter_piece bs
unfolding first_piece
first_letter bs = refl

first_quoted : (bs : List ℕ) → first_piece (34 ∷ bs) ≡ quoted_piece bs
unfolding first_piece
first_quoted bs = refl

first_comment : (bs : List ℕ) → first_piece (45 ∷ (45 ∷ bs)) ≡ Some (gap (45 ∷ (45 ∷ run is_no_newline bs)))
unfolding first_piece
first_comment bs = refl

no_case : (b : ℕ) → begins_name b ≡ false → (is_small b ≡ false) × (is_capital b ≡ false)
no_case b h = (grind (arith, nat_tests), grind (arith, nat_tests))

first_mark : (b : ℕ) (bs : List ℕ) → IsMark b → first_piece (b ∷ bs) ≡ sign_piece b bs
unfolding first_piece
first_mark b bs m = let c = no_case b m.no_name in rw (m.no_space, c.0, c.1, m.no_digit, m.no_single, m.no_double)

-- runs that end where they are to
run_whole : (p : ℕ → Bool) (xs : List ℕ) → Each p xs → run p xs ≡ xs
run_whole p [] h = refl
run_whole p (x ∷ xs) h = rw h.0 (ap (λ l. x ∷ l) (run_whole p xs h.1))

run_front : (p : ℕ → Bool) (xs : List ℕ) (y : ℕ) (ys : List ℕ) → Each p xs → p y ≡ false → run p (xs ++ (y ∷ ys)) ≡ xs
run_front p [] y ys h e = rw e
run_front p (x ∷ xs) y ys h e = rw h.0 (ap (λ l. x ∷ l) (run_front p xs y ys h.1 e))

letter_front : (byte : ℕ) (ds : List ℕ) → is_letter byte ≡ true → letter_piece ((letter_text byte ++ (39 ∷ [])) ++ ds) ≡ Some (token (kind.Letter byte) (39 ∷ (letter_text byte ++ (39 ∷ []))))
letter_front byte ds h = by_byte (cases_Bool (nat_eq byte 10)) (cases_Bool (nat_eq byte 9)) (cases_Bool (nat_eq byte 92)) (cases_Bool (nat_eq byte 39))
  where
    by_byte : (nat_eq byte 10 ≡ true) ⊎ (nat_eq byte 10 ≡ false) → (nat_eq byte 9 ≡ true) ⊎ (nat_eq byte 9 ≡ false) → (nat_eq byte 92 ≡ true) ⊎ (nat_eq byte 92 ≡ false) → (nat_eq byte 39 ≡ true) ⊎ (nat_eq byte 39 ≡ false) → letter_piece ((letter_text byte ++ (39 ∷ [])) ++ ds) ≡ Some (token (kind.Letter byte) (39 ∷ (letter_text byte ++ (39 ∷ []))))
    by_byte (inl p) q r s = rw (eqb-true byte 10 p)
    by_byte (inr p) (inl q) r s = rw (eqb-true byte 9 q)
    by_byte (inr p) (inr q) (inl r) s = rw (eqb-true byte 92 r)
    by_byte (inr p) (inr q) (inr r) (inl s) = rw (eqb-true byte 39 s)
    by_byte (inr p) (inr q) (inr r) (inr s) = rw (p, q, r, s, letter_is_plain byte h p q r s, r)

quoted_front : (inside ds : List ℕ) → Each is_quotable inside → 0 < length inside → length inside ≤ MAX_PORT_NAME_BYTES → quoted_piece ((inside ++ (34 ∷ [])) ++ ds) ≡ Some (token (kind.Quoted inside) (34 ∷ (inside ++ (34 ∷ []))))
quoted_front inside ds h low high =
    let cut = run_front is_quotable inside 34 ds h refl in
    let fits : is_port_name inside (34 ∷ ds) ≡ true = and_from _ _ (and_from _ _ (lt-ltb 0 (length inside) low) (le-leb (length inside) MAX_PORT_NAME_BYTES high)) refl in
    rw (append_assoc inside (34 ∷ []) ds, cut, drop_front inside (34 ∷ ds), fits)

-- a piece alone is what the scan finds
small_alone : (bs : List ℕ) → IsName is_small bs → first_piece bs ≡ Some (small_piece (keyword_of bs) bs)
small_alone [] h = absurd h
small_alone (b ∷ bs) h = first_small b bs h.0 ∙ ap (λ r. Some (small_piece (keyword_of r) r)) (run_whole is_name_byte (b ∷ bs) (grind (arith, nat_tests), h.1))

capital_alone : (bs : List ℕ) → IsName is_capital bs → first_piece bs ≡ Some (token (kind.Upper bs) bs)
capital_alone [] h = absurd h
capital_alone (b ∷ bs) h = first_capital b bs h.0 ∙ ap (λ r. Some (token (kind.Upper r) r)) (run_whole is_name_byte (b ∷ bs) (grind (arith, nat_tests), h.1))

digits_alone : (bs : List ℕ) → Each is_digit bs → 0 < length bs → first_piece bs ≡ Some (token (kind.Number (value_of bs)) bs)
digits_alone [] h n = absurd (omega arith)
digits_alone (b ∷ bs) h n = first_digit b bs h.0 ∙ ap (λ r. Some (token (kind.Number (value_of r)) r)) (run_whole is_digit (b ∷ bs) h)

no_keyword : (bs : List ℕ) → ((word : Keyword) → bs ≢ keyword_text word) → (o : Option Keyword) → keyword_of bs ≡ o → o ≡ None
no_keyword bs h None e = refl
no_keyword bs h (Some word) e = absurd (h word (keyword_found bs word e))

marks_alone : (text : List ℕ) (symbol : Symbol) → symbol_of text ≡ Some symbol → MarkText text → first_piece text ≡ Some (token (kind.Sign symbol) text)
marks_alone text symbol e (one a is m) = rw is (first_mark a [] m ∙ rw (ap symbol_of (sym is) ∙ e))
marks_alone text symbol e (two a b is m apart) = rw is (first_mark a (b ∷ []) m ∙ rw (apart, ap symbol_of (sym is) ∙ e))

pub piece_alone : (piece : Piece) → IsPiece piece → first_piece (bytes_of piece) ≡ Some piece
piece_alone (gap bs) (inl h) = rw h.1 (first_space h.0 [] h.2)
piece_alone (gap bs) (inr h) = rw h.1 (first_comment h.0 ∙ ap (λ r. Some (gap (45 ∷ (45 ∷ r)))) (run_whole is_no_newline h.0 h.2))
piece_alone (token (kind.Lower name) bs) h = small_alone bs h.1 ∙ rw (no_keyword bs h.2 (keyword_of bs) refl, ← h.0)
piece_alone (token (kind.Upper name) bs) h = capital_alone bs h.1 ∙ rw (← h.0)
piece_alone (token (kind.Number n) bs) h = digits_alone bs h.0 h.1 ∙ rw (← h.2)
piece_alone (token (kind.Letter byte) bs) h = rw h.1 (first_letter _ ∙ ap letter_piece (sym (append-nil (letter_text byte ++ (39 ∷ [])))) ∙ letter_front byte [] h.0)
piece_alone (token (kind.Quoted inside) bs) h = rw h.3 (first_quoted _ ∙ ap quoted_piece (sym (append-nil (inside ++ (34 ∷ [])))) ∙ quoted_front inside [] h.0 h.1 h.2)
piece_alone (token (kind.Word word) bs) h = rw h (small_alone (keyword_text word) (keyword_is_name word) ∙ rw (keyword_of-text word))
piece_alone (token (kind.Sign symbol) bs) h = rw h (marks_alone (symbol_text symbol) symbol (symbol_of-text symbol) (symbol_is_marks symbol))

-- where a piece stands at the front, one is found
some_name : (bs ds : List ℕ) → IsName is_small bs → is_some (first_piece (bs ++ ds)) ≡ true
some_name [] ds h = absurd h
some_name (b ∷ bs) ds h = ap is_some (first_small b (bs ++ ds) h.0)

some_capital : (bs ds : List ℕ) → IsName is_capital bs → is_some (first_piece (bs ++ ds)) ≡ true
some_capital [] ds h = absurd h
some_capital (b ∷ bs) ds h = ap is_some (first_capital b (bs ++ ds) h.0)

some_digits : (bs ds : List ℕ) → Each is_digit bs → 0 < length bs → is_some (first_piece (bs ++ ds)) ≡ true
some_digits [] ds h n = absurd (omega arith)
some_digits (b ∷ bs) ds h n = ap is_some (first_digit b (bs ++ ds) h.0)

some_cond : {A : Type 0} (b : Bool) (x : A) (y : Option A) → is_some y ≡ true → is_some (cond b (Some x) y) ≡ true
some_cond true x y h = refl
some_cond false x y h = h

some_one : (b : ℕ) (symbol : Symbol) (ds : List ℕ) → symbol_of (b ∷ []) ≡ Some symbol → is_some (sign_piece b ds) ≡ true
some_one b symbol [] e = rw e
some_one b symbol (c ∷ cs) e = some_cond (nat_eq b 45 && nat_eq c 45) _ _ (by_two (symbol_of (b ∷ (c ∷ []))))
  where
    by_two : (o : Option Symbol) → is_some (two_signs o b c) ≡ true
    by_two (Some t) = refl
    by_two None = rw e

some_marks : (text ds : List ℕ) (symbol : Symbol) → symbol_of text ≡ Some symbol → MarkText text → is_some (first_piece (text ++ ds)) ≡ true
some_marks text ds symbol e (one a is m) = rw is (ap is_some (first_mark a ds m) ∙ some_one a symbol ds (ap symbol_of (sym is) ∙ e))
some_marks text ds symbol e (two a b is m apart) = rw is (ap is_some (first_mark a (b ∷ ds) m) ∙ rw (apart, ap symbol_of (sym is) ∙ e))

some_piece : (piece : Piece) (ds : List ℕ) → IsPiece piece → is_some (first_piece (bytes_of piece ++ ds)) ≡ true
some_piece (gap bs) ds (inl h) = rw h.1 (ap is_some (first_space h.0 ds h.2))
some_piece (gap bs) ds (inr h) = rw h.1 (ap is_some (first_comment (h.0 ++ ds)))
some_piece (token (kind.Lower name) bs) ds h = some_name bs ds h.1
some_piece (token (kind.Upper name) bs) ds h = some_capital bs ds h.1
some_piece (token (kind.Number n) bs) ds h = some_digits bs ds h.0 h.1
some_piece (token (kind.Letter byte) bs) ds h = rw h.1 (ap is_some (first_letter _ ∙ letter_front byte ds h.0))
some_piece (token (kind.Quoted inside) bs) ds h = rw h.3 (ap is_some (first_quoted _ ∙ quoted_front inside ds h.0 h.1 h.2))
some_piece (token (kind.Word word) bs) ds h = rw h (some_name (keyword_text word) ds (keyword_is_name word))
some_piece (token (kind.Sign symbol) bs) ds h = rw h (some_marks (symbol_text symbol) ds symbol (symbol_of-text symbol) (symbol_is_marks symbol))

pub none_found : (bs : List ℕ) → first_piece bs ≡ None → NoPiece bs
none_found bs e piece ds h is =
    let yes = some_piece piece ds h in
    let no : is_some (first_piece (bytes_of piece ++ ds)) ≡ false = ap is_some (ap first_piece (sym is) ∙ e) in
    let both : true ≡ false = sym yes ∙ no in
    cc
