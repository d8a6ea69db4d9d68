-- What the scan finds is a piece, and the longest.
use Rattle.std.proofs.Common.{◌≡◌, ◌≢◌, ℕ, ◌<◌, List, [], ◌∷◌, ◌++◌, length, drop, Bool, true, false, cond, ◌&&◌, Option, Some, None, refl, sym, ap, ◌∙◌, subst, ◌⊎◌, inl, inr, arith, append_assoc, nat_eq}
use Rattle.std.specs.Prelude.{option_map}
use Rattle.std.specs.List.{list_all}
use Rattle.std.proofs.lemmas.Bool.{and_parts, and_right, leb-true, ltb-true, eqb-true, cases_Bool}
use Rattle.std.proofs.lemmas.Bool.Decides.{nat_tests}
use Rattle.hume_base.specs.Keywords.{keyword_text, keyword_of}
use Rattle.hume_base.specs.Symbols.{symbol_of}
use Rattle.hume_base.proofs.Tables.{chosen}
use Rattle.hume_base.proofs.KeywordTexts.{keyword_found, keyword_of-text}
use Rattle.hume_base.proofs.SymbolTexts.{symbol_found}
use Rattle.hume_base.specs.declared.keyword.Keyword.{Keyword}
use Rattle.hume_base.specs.declared.symbol.Symbol.{Symbol}
use Rattle.hume_base.specs.declared.limits.TheConstants.{MAX_PORT_NAME_BYTES}
use Rattle.hume_base.specs.declared.token.Kind.TheVariants as kind
use Rattle.hume_lex.specs.Spelling.{is_space, is_small, is_capital, is_digit, is_name_byte, is_letter, is_quotable, is_no_newline, value_of, letter_text}
use Rattle.hume_lex.specs.inner.Scan.{is_plain}
use Rattle.hume_lex.specs.Reading.{Piece, gap, token, bytes_of, IsPiece, IsLongest}
use Rattle.hume_lex.specs.inner.Scan.{run, small_piece, escaped, starts_with_byte, escape_piece, letter_piece, is_port_name, quoted_piece, two_signs, sign_piece, mark_piece, first_piece}
use Rattle.hume_lex.proofs.Classes.{begins_name, small_begins, capital_begins, digit_begins_none, plain_is_letter, plain_tests}
use Rattle.hume_lex.proofs.Runs.{after_run, run_cut, run_all, run_stops}
use Rattle.hume_lex.proofs.Longest.{goes_on, goes_on_sign, longest_if}

-- the piece stands at the front of the bytes, and is the longest
pub record Found (bs : List ℕ) (piece : Piece) : Type 0 where
  pub rest : List ℕ
  pub is : bs ≡ bytes_of piece ++ rest
  pub right : IsPiece piece
  pub longest : IsLongest (bytes_of piece) rest
  pub some : 0 < length (bytes_of piece)

some_is : {A : Type 0} (x y : A) → Some x ≡ Some y → x ≡ y
some_is x y e = cc

keyword_none : (bs : List ℕ) → keyword_of bs ≡ None → (word : Keyword) → bs ≢ keyword_text word
keyword_none bs e word is = let both : None ≡ Some word = sym e ∙ ap keyword_of is ∙ keyword_of-text word in cc

name_stops : (b : ℕ) (w bs : List ℕ) → begins_name b ≡ true → (c : ℕ) (cs : List ℕ) → after_run is_name_byte bs ≡ c ∷ cs → goes_on b w c ≡ false
name_stops b w bs l c cs e = rw l (run_stops is_name_byte bs c cs e)

small_found : (b : ℕ) (bs : List ℕ) → is_small b ≡ true → (o : Option Keyword) → keyword_of (b ∷ run is_name_byte bs) ≡ o → Found (b ∷ bs) (small_piece o (b ∷ run is_name_byte bs))
small_found b bs h (Some word) e = record {
  rest = after_run is_name_byte bs;
  is = ap (λ r. b ∷ r) (run_cut is_name_byte bs);
  right = keyword_found _ word e;
  longest = longest_if b (run is_name_byte bs) (after_run is_name_byte bs) (name_stops b (run is_name_byte bs) bs (small_begins b h));
  some = omega arith;
}
small_found b bs h None e = record {
  rest = after_run is_name_byte bs;
  is = ap (λ r. b ∷ r) (run_cut is_name_byte bs);
  right = (refl, (h, run_all is_name_byte bs), keyword_none _ e);
  longest = longest_if b (run is_name_byte bs) (after_run is_name_byte bs) (name_stops b (run is_name_byte bs) bs (small_begins b h));
  some = omega arith;
}

capital_found : (b : ℕ) (bs : List ℕ) → is_capital b ≡ true → Found (b ∷ bs) (token (kind.Upper (b ∷ run is_name_byte bs)) (b ∷ run is_name_byte bs))
capital_found b bs h = record {
  rest = after_run is_name_byte bs;
  is = ap (λ r. b ∷ r) (run_cut is_name_byte bs);
  right = (refl, (h, run_all is_name_byte bs));
  longest = longest_if b (run is_name_byte bs) (after_run is_name_byte bs) (name_stops b (run is_name_byte bs) bs (capital_begins b h));
  some = omega arith;
}

digits_stop : (b : ℕ) (w bs : List ℕ) → is_digit b ≡ true → (c : ℕ) (cs : List ℕ) → after_run is_digit bs ≡ c ∷ cs → goes_on b w c ≡ false
digits_stop b w bs d c cs e = rw (digit_begins_none b d, d) (run_stops is_digit bs c cs e)

digits_found : (b : ℕ) (bs : List ℕ) → is_digit b ≡ true → Found (b ∷ bs) (token (kind.Number (value_of (b ∷ run is_digit bs))) (b ∷ run is_digit bs))
digits_found b bs d = record {
  rest = after_run is_digit bs;
  is = ap (λ r. b ∷ r) (run_cut is_digit bs);
  right = ((d, run_all is_digit bs), omega arith, refl);
  longest = longest_if b (run is_digit bs) (after_run is_digit bs) (digits_stop b (run is_digit bs) bs d);
  some = omega arith;
}

space_ends : (b : ℕ) → is_space b ≡ true → (c : ℕ) → goes_on b [] c ≡ false
space_ends b e c = by_byte (cases_Bool (nat_eq b 9)) (cases_Bool (nat_eq b 10)) (cases_Bool (nat_eq b 13))
  where
    at : (n : ℕ) → nat_eq b n ≡ true → goes_on n [] c ≡ false → goes_on b [] c ≡ false
    at n is h = subst (λ x. goes_on x [] c ≡ false) (sym (eqb-true b n is)) h

    by_byte : (nat_eq b 9 ≡ true) ⊎ (nat_eq b 9 ≡ false) → (nat_eq b 10 ≡ true) ⊎ (nat_eq b 10 ≡ false) → (nat_eq b 13 ≡ true) ⊎ (nat_eq b 13 ≡ false) → goes_on b [] c ≡ false
    by_byte (inl p) q r = at 9 p refl
    by_byte (inr p) (inl q) r = at 10 q refl
    by_byte (inr p) (inr q) (inl r) = at 13 r refl
    by_byte (inr p) (inr q) (inr r) = at 32 (rw (p, q, r) at e) refl

space_found : (b : ℕ) (bs : List ℕ) → is_space b ≡ true → Found (b ∷ bs) (gap (b ∷ []))
space_found b bs e = record {
  rest = bs;
  is = refl;
  right = inl (b, refl, e);
  longest = longest_if b [] bs (λ c cs r. space_ends b e c);
  some = omega arith;
}

starts_is : (wanted : ℕ) (bs : List ℕ) → starts_with_byte wanted bs ≡ true → (rest : List ℕ) × (bs ≡ wanted ∷ rest)
starts_is wanted [] e = cc
starts_is wanted (b ∷ bs) e = (bs, ap (λ x. x ∷ bs) (eqb-true b wanted e))

-- an escape means a letter that is written so
escaped_is : (code byte : ℕ) → escaped code ≡ Some byte → (is_letter byte ≡ true) × (letter_text byte ≡ 92 ∷ (code ∷ []))
escaped_is code byte e = by_code (cases_Bool (nat_eq code 110)) (cases_Bool (nat_eq code 116)) (cases_Bool (nat_eq code 92)) (cases_Bool (nat_eq code 39))
  where
    at : (n m : ℕ) → nat_eq code n ≡ true → Some m ≡ Some byte → (is_letter m ≡ true) × (letter_text m ≡ 92 ∷ (n ∷ [])) → (is_letter byte ≡ true) × (letter_text byte ≡ 92 ∷ (code ∷ []))
    at n m is same h = rw (eqb-true code n is, ← some_is m byte same) h

    by_code : (nat_eq code 110 ≡ true) ⊎ (nat_eq code 110 ≡ false) → (nat_eq code 116 ≡ true) ⊎ (nat_eq code 116 ≡ false) → (nat_eq code 92 ≡ true) ⊎ (nat_eq code 92 ≡ false) → (nat_eq code 39 ≡ true) ⊎ (nat_eq code 39 ≡ false) → (is_letter byte ≡ true) × (letter_text byte ≡ 92 ∷ (code ∷ []))
    by_code (inl p) q r s = at 110 10 p (rw p at e) (refl, refl)
    by_code (inr p) (inl q) r s = at 116 9 q (rw (p, q) at e) (refl, refl)
    by_code (inr p) (inr q) (inl r) s = at 92 92 r (rw (p, q, r) at e) (refl, refl)
    by_code (inr p) (inr q) (inr r) (inl s) = at 39 39 s (rw (p, q, r, s) at e) (refl, refl)
    by_code (inr p) (inr q) (inr r) (inr s) = let none : None ≡ Some byte = rw (p, q, r, s) at e in cc

escape_found_by : (code : ℕ) (rest : List ℕ) (o : Option ℕ) → escaped code ≡ o → (piece : Piece) → option_map (λ byte. token (kind.Letter byte) (39 ∷ (92 ∷ (code ∷ (39 ∷ []))))) o ≡ Some piece → Found (39 ∷ (92 ∷ (code ∷ (39 ∷ rest)))) piece
escape_found_by code rest None e piece f = cc
escape_found_by code rest (Some byte) e piece f =
    let is : token (kind.Letter byte) (39 ∷ (92 ∷ (code ∷ (39 ∷ [])))) ≡ piece = cc in
    let means = escaped_is code byte e in
    subst (Found (39 ∷ (92 ∷ (code ∷ (39 ∷ rest))))) is (record {
      rest = rest;
      is = refl;
      right = (means.0, ap (λ l. 39 ∷ (l ++ (39 ∷ []))) (sym means.1));
      longest = longest_if 39 (92 ∷ (code ∷ (39 ∷ []))) rest (λ c cs r. refl);
      some = omega arith;
    })

escape_found : (code : ℕ) (rest : List ℕ) (piece : Piece) → escape_piece code rest ≡ Some piece → Found (39 ∷ (92 ∷ (code ∷ rest))) piece
escape_found code rest piece e =
    elim (chosen (starts_with_byte 39 rest) (option_map (λ byte. token (kind.Letter byte) (39 ∷ (92 ∷ (code ∷ (39 ∷ []))))) (escaped code)) None (Some piece) e) [
      | inl h ↦ (let s = starts_is 39 rest h.0 in subst (λ l. Found (39 ∷ (92 ∷ (code ∷ l))) piece) (sym s.1) (escape_found_by code s.0 (escaped code) refl piece h.1))
      | inr h ↦ (let none = h.1 in cc)
    ]

plain_found : (byte : ℕ) (rest : List ℕ) → is_plain byte ≡ true → Found (39 ∷ (byte ∷ (39 ∷ rest))) (token (kind.Letter byte) (39 ∷ (byte ∷ (39 ∷ []))))
plain_found byte rest e =
    let t = plain_tests byte e in
    record {
      rest = rest;
      is = refl;
      right = (plain_is_letter byte e, rw (t.0, t.1, t.2, t.3));
      longest = longest_if 39 (byte ∷ (39 ∷ [])) rest (λ c cs r. t.2);
      some = omega arith;
    }

letter_found : (bs : List ℕ) (piece : Piece) → letter_piece bs ≡ Some piece → Found (39 ∷ bs) piece
letter_found [] piece e = cc
letter_found (byte ∷ []) piece e = cc
letter_found (byte ∷ (next ∷ rest)) piece e =
    let short : Option Piece = cond (is_plain byte && nat_eq next 39) (Some (token (kind.Letter byte) (39 ∷ (byte ∷ (39 ∷ []))))) None in
    elim (chosen (nat_eq byte 92) (escape_piece next rest) short (Some piece) e) [
      | inl h ↦ subst (λ b. Found (39 ∷ (b ∷ (next ∷ rest))) piece) (sym (eqb-true byte 92 h.0)) (escape_found next rest piece h.1)
      | inr h ↦ elim (chosen (is_plain byte && nat_eq next 39) (Some (token (kind.Letter byte) (39 ∷ (byte ∷ (39 ∷ []))))) None (Some piece) h.1) [
        | inl i ↦ (let both = and_parts _ _ i.0 in
            subst (λ b. Found (39 ∷ (byte ∷ (b ∷ rest))) piece) (sym (eqb-true next 39 both.1)) (subst (Found (39 ∷ (byte ∷ (39 ∷ rest)))) (some_is _ _ i.1) (plain_found byte rest both.0)))
        | inr i ↦ (let none = i.1 in cc)
      ]
    ]

pub drop_front : (xs ys : List ℕ) → drop (length xs) (xs ++ ys) ≡ ys
drop_front [] ys = refl
drop_front (x ∷ xs) ys = drop_front xs ys

after_is_drop : (p : ℕ → Bool) (bs : List ℕ) → drop (length (run p bs)) bs ≡ after_run p bs
after_is_drop p bs = ap (drop (length (run p bs))) (run_cut p bs) ∙ drop_front (run p bs) (after_run p bs)

not_all : (p : ℕ → Bool) (xs : List ℕ) (x : ℕ) → p x ≡ false → list_all p (xs ++ (x ∷ [])) ≡ false
not_all p [] x e = rw e
not_all p (y ∷ ys) x e = and_right _ _ (not_all p ys x e)

quoted_found : (bs : List ℕ) (piece : Piece) → quoted_piece bs ≡ Some piece → Found (34 ∷ bs) piece
quoted_found bs piece e =
    let said = token (kind.Quoted (run is_quotable bs)) (34 ∷ (run is_quotable bs ++ 34 ∷ [])) in
    elim (chosen (is_port_name (run is_quotable bs) (drop (length (run is_quotable bs)) bs)) (Some said) None (Some piece) e) [
      | inl h ↦ (
          let both = and_parts _ _ h.0 in
          let lens = and_parts _ _ both.0 in
          let s = starts_is 34 _ both.1 in
          let whole : bs ≡ run is_quotable bs ++ (34 ∷ s.0) = run_cut is_quotable bs ∙ ap (λ l. run is_quotable bs ++ l) (sym (after_is_drop is_quotable bs) ∙ s.1) in
          subst (Found (34 ∷ bs)) (some_is _ _ h.1) (record {
            rest = s.0;
            is = ap (λ l. 34 ∷ l) (whole ∙ sym (append_assoc (run is_quotable bs) (34 ∷ []) s.0));
            right = (run_all is_quotable bs, ltb-true 0 _ lens.0, leb-true _ MAX_PORT_NAME_BYTES lens.1, refl);
            longest = longest_if 34 (run is_quotable bs ++ 34 ∷ []) s.0 (λ c cs r. not_all is_quotable (run is_quotable bs) 34 refl);
            some = omega arith;
          }))
      | inr h ↦ (let none = h.1 in cc)
    ]

-- a sign, which begins with no byte of the other classes
module _ (b : ℕ) (no_name : begins_name b ≡ false) (no_digit : is_digit b ≡ false) (no_single : nat_eq b 39 ≡ false) (no_double : nat_eq b 34 ≡ false) where
  one_found : (bs : List ℕ) → ((c : ℕ) (cs : List ℕ) → bs ≡ c ∷ cs → goes_on_sign b [] c ≡ false) → (o : Option Symbol) → symbol_of (b ∷ []) ≡ o → (piece : Piece) → option_map (λ symbol. token (kind.Sign symbol) (b ∷ [])) o ≡ Some piece → Found (b ∷ bs) piece
  one_found bs stops None e piece f = cc
  one_found bs stops (Some symbol) e piece f =
      let is : token (kind.Sign symbol) (b ∷ []) ≡ piece = cc in
      subst (Found (b ∷ bs)) is (record {
        rest = bs;
        is = refl;
        right = symbol_found (b ∷ []) symbol e;
        longest = longest_if b [] bs (λ c cs r. rw (no_name, no_digit, no_single, no_double) (stops c cs r));
        some = omega arith;
      })

  two_found : (c : ℕ) (cs : List ℕ) → (nat_eq b 45 && nat_eq c 45) ≡ false → (o : Option Symbol) → symbol_of (b ∷ (c ∷ [])) ≡ o → (piece : Piece) → two_signs o b c ≡ Some piece → Found (b ∷ (c ∷ cs)) piece
  two_found c cs apart None e piece f =
      one_found (c ∷ cs) (λ x xs r. let is : c ≡ x = cc in subst (λ y. goes_on_sign b [] y ≡ false) is (rw (e, apart))) (symbol_of (b ∷ [])) refl piece f
  two_found c cs apart (Some symbol) e piece f =
      let is : token (kind.Sign symbol) (b ∷ (c ∷ [])) ≡ piece = cc in
      subst (Found (b ∷ (c ∷ cs))) is (record {
        rest = cs;
        is = refl;
        right = symbol_found (b ∷ (c ∷ [])) symbol e;
        longest = longest_if b (c ∷ []) cs (λ x xs r. rw (no_name, no_digit, no_single, no_double, apart));
        some = omega arith;
      })

  comment_found : (c : ℕ) (cs : List ℕ) → (nat_eq b 45 && nat_eq c 45) ≡ true → Found (b ∷ (c ∷ cs)) (gap (b ∷ (c ∷ run is_no_newline cs)))
  comment_found c cs e =
      let p = and_parts _ _ e in
      let x = eqb-true b 45 p.0 in
      let y = eqb-true c 45 p.1 in
      record {
        rest = after_run is_no_newline cs;
        is = ap (λ r. b ∷ (c ∷ r)) (run_cut is_no_newline cs);
        right = inr (run is_no_newline cs, rw (x, y), run_all is_no_newline cs);
        longest = longest_if b (c ∷ run is_no_newline cs) (after_run is_no_newline cs) (λ z zs r. rw (no_name, no_digit, no_single, no_double, run_stops is_no_newline cs z zs r) (and_right _ _ refl));
        some = omega arith;
      }

  sign_found : (bs : List ℕ) (piece : Piece) → sign_piece b bs ≡ Some piece → Found (b ∷ bs) piece
  sign_found [] piece e = one_found [] (λ c cs r. (cc)) (symbol_of (b ∷ [])) refl piece e
  sign_found (c ∷ cs) piece e =
      elim (chosen (nat_eq b 45 && nat_eq c 45) (Some (gap (b ∷ (c ∷ run is_no_newline cs)))) (two_signs (symbol_of (b ∷ (c ∷ []))) b c) (Some piece) e) [
        | inl h ↦ subst (Found (b ∷ (c ∷ cs))) (some_is _ _ h.1) (comment_found c cs h.0)
        | inr h ↦ two_found c cs h.0 (symbol_of (b ∷ (c ∷ []))) refl piece h.1
      ]

mark_found : (b : ℕ) → begins_name b ≡ false → is_digit b ≡ false → (bs : List ℕ) (piece : Piece) → mark_piece b bs ≡ Some piece → Found (b ∷ bs) piece
mark_found b no_name no_digit bs piece e =
    elim (chosen (nat_eq b 39) (letter_piece bs) (cond (nat_eq b 34) (quoted_piece bs) (sign_piece b bs)) (Some piece) e) [
      | inl h ↦ subst (λ x. Found (x ∷ bs) piece) (sym (eqb-true b 39 h.0)) (letter_found bs piece h.1)
      | inr h ↦ elim (chosen (nat_eq b 34) (quoted_piece bs) (sign_piece b bs) (Some piece) h.1) [
        | inl i ↦ subst (λ x. Found (x ∷ bs) piece) (sym (eqb-true b 34 i.0)) (quoted_found bs piece i.1)
        | inr i ↦ sign_found b no_name no_digit h.0 i.0 bs piece i.1
      ]
    ]

-- a run that begins with a byte that passes
run_on : (p : ℕ → Bool) (b : ℕ) (bs : List ℕ) → p b ≡ true → run p (b ∷ bs) ≡ b ∷ run p bs
run_on p b bs e = rw e

name_run : (b : ℕ) (bs : List ℕ) → begins_name b ≡ true → run is_name_byte (b ∷ bs) ≡ b ∷ run is_name_byte bs
name_run b bs e = run_on is_name_byte b bs (grind (arith, nat_tests))

pub first_found : (bs : List ℕ) (piece : Piece) → first_piece bs ≡ Some piece → Found bs piece
unfolding first_piece
first_found [] piece e = cc
first_found (b ∷ bs) piece e =
    let small : Option Piece = Some (small_piece (keyword_of (run is_name_byte (b ∷ bs))) (run is_name_byte (b ∷ bs))) in
    let capital : Option Piece = Some (token (kind.Upper (run is_name_byte (b ∷ bs))) (run is_name_byte (b ∷ bs))) in
    let digits : Option Piece = Some (token (kind.Number (value_of (run is_digit (b ∷ bs)))) (run is_digit (b ∷ bs))) in
    elim (chosen (is_space b) (Some (gap (b ∷ []))) (cond (is_small b) small (cond (is_capital b) capital (cond (is_digit b) digits (mark_piece b bs)))) (Some piece) e) [
      | inl h ↦ subst (Found (b ∷ bs)) (some_is _ _ h.1) (space_found b bs h.0)
      | inr h ↦ elim (chosen (is_small b) small (cond (is_capital b) capital (cond (is_digit b) digits (mark_piece b bs))) (Some piece) h.1) [
        | inl i ↦ subst (Found (b ∷ bs)) (ap (λ r. small_piece (keyword_of r) r) (sym (name_run b bs (small_begins b i.0))) ∙ some_is _ _ i.1) (small_found b bs i.0 (keyword_of (b ∷ run is_name_byte bs)) refl)
        | inr i ↦ elim (chosen (is_capital b) capital (cond (is_digit b) digits (mark_piece b bs)) (Some piece) i.1) [
          | inl j ↦ subst (Found (b ∷ bs)) (ap (λ r. token (kind.Upper r) r) (sym (name_run b bs (capital_begins b j.0))) ∙ some_is _ _ j.1) (capital_found b bs j.0)
          | inr j ↦ elim (chosen (is_digit b) digits (mark_piece b bs) (Some piece) j.1) [
            | inl k ↦ subst (Found (b ∷ bs)) (ap (λ r. token (kind.Number (value_of r)) r) (sym (run_on is_digit b bs k.0)) ∙ some_is _ _ k.1) (digits_found b bs k.0)
            | inr k ↦ mark_found b (rw (i.0, j.0)) k.0 bs piece k.1
          ]
        ]
      ]
    ]
