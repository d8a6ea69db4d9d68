-- The word of the next token of a line is that of the token that is taken where its kind is wanted.
use Rattle.std.proofs.Common.{◌≡◌, ℕ, zero, suc, ◌+◌, ◌-◌, ◌%◌, ◌^◌, ◌<◌, ◌≤◌, nat_le, ◌==◌, ◌&&◌, not, min, Bool, true, false, ℤ, pos, neg_ℤ, List, [], ◌∷◌, Option, Some, None, if◌then◌else◌, refl, ap, sym, ◌∙◌, subst, arith, inl, inr}
use Rattle.std.proofs.lemmas.Bool.{and_parts, eqb-true, eq-eqb, le-leb, lt-leb, lt-ltb, le-ltb, cases_lt}
use Rattle.std.proofs.Math.Pow.{pow_mono}
use Rattle.std.proofs.lemmas.Nat.{pow_pos}
use Rattle.std.specs.Int.RustNames.{int_le, int_lt}
use Rattle.hume_base.specs.Words.{word_of}
use Rattle.hume_base.specs.declared.types.SumDef.{SumDef}
use Rattle.hume_base.specs.Values.{is_char_word}
use Rattle.hume_text.specs.Spelling.{Piece, Open, Close, OpenVector, CloseVector, Comma, Name, Number, Letter}
use Rattle.hume_text.specs.Read.{is_blank, is_digit, is_letter, front, behind, Cut, second, digits_at, escaped, closed_letter, escape_at, letter_at, token_at, next, number_of}
use Rattle.hume_text.specs.inner.Tokens.{byte_at, sign_at, name_at_front, name_on, capped, digits_on, number_at_front, number_on, closed, closed_escape, escape_on, letter_on, signed, half_of, most_of}
use Rattle.hume_text.specs.inner.Readers.{found_in, with_rest, bool_in, char_in, int_in, nat_in, place_in}
use Rattle.hume_text.proofs.Cutting.{by_first, digits_cases, second_cases, letter_cases}
use Rattle.hume_text.proofs.Fronts.{digit_range}
use Rattle.hume_text.proofs.Rereading.{digit_no_letter}

yes_no : {X : Type 0} (b : Bool) → b ≡ true → b ≡ false → X
yes_no true p q = absurd (let t : true ≡ false = q in cc)
yes_no false p q = absurd (let t : false ≡ true = p in cc)

no_byte : {X : Type 0} (byte wanted : ℕ) → (byte == wanted) ≡ false → byte ≡ wanted → X
no_byte byte wanted e is = yes_no (byte == wanted) (eq-eqb byte wanted is) e

-- where no token that begins with a byte has a word
no_word : (word : Piece → Option ℕ) (byte : ℕ) (bytes : List ℕ) → (is_letter byte ≡ true → (name : List ℕ) → word (Name name) ≡ None)
    → (is_digit byte ≡ true → (z : ℤ) → word (Number z) ≡ None) → (byte ≡ 45 → (z : ℤ) → word (Number z) ≡ None)
    → (byte ≡ 39 → (a : ℕ) → word (Letter a) ≡ None)
    → word Open ≡ None → word Close ≡ None → word Comma ≡ None → word OpenVector ≡ None → word CloseVector ≡ None
    → found_in word (token_at (byte ∷ bytes)) ≡ None
no_word word byte bytes name digits minus letter left right comma opened ended =
    let P : Cut → Type 0 = λ cut. found_in word cut ≡ None in
    let fails : (piece : Piece) (rest : List ℕ) → word piece ≡ None → P (Some (piece, rest)) = λ piece rest e. rw e refl in
    by_first P byte bytes
    (λ is. fails _ _ (name is _))
    (λ is. digits_cases P pos (byte ∷ bytes) (λ z rest. fails (Number z) rest (digits is z)) refl)
    (λ is. digits_cases P (λ n. neg_ℤ (pos n)) bytes (λ z rest. fails (Number z) rest (minus is z)) refl)
    (λ is. letter_cases P bytes (λ a rest. fails (Letter a) rest (letter is a)) refl)
    (λ is. fails Open bytes left)
    (λ is. fails Close bytes right)
    (λ is. fails Comma bytes comma)
    (λ is. second_cases P 60 OpenVector bytes (λ rest. fails OpenVector rest opened) refl)
    (λ is. second_cases P 62 CloseVector bytes (λ rest. fails CloseVector rest ended) refl)
    refl

-- names

abbrev pub named_found : (Piece → Option ℕ) → Option (List ℕ × List ℕ) → Option (ℕ × List ℕ)
named_found word None = None
named_found word (Some read) = with_rest (word (Name read.0)) read.1

no_name : (byte : ℕ) (bytes : List ℕ) → is_letter byte ≡ false → name_at_front (byte ∷ bytes) ≡ None
no_name byte bytes e = rw e refl

name_at : (word : Piece → Option ℕ) → ((z : ℤ) → word (Number z) ≡ None) → ((a : ℕ) → word (Letter a) ≡ None)
    → word Open ≡ None → word Close ≡ None → word Comma ≡ None → word OpenVector ≡ None → word CloseVector ≡ None
    → (bytes : List ℕ) → found_in word (token_at bytes) ≡ named_found word (name_at_front bytes)
name_at word number letter left right comma opened ended [] = refl
name_at word number letter left right comma opened ended (byte ∷ bytes) = go (is_letter byte) refl
  where
    go : (b : Bool) → is_letter byte ≡ b → found_in word (token_at (byte ∷ bytes)) ≡ named_found word (name_at_front (byte ∷ bytes))
    go true e = rw e refl
    go false e = no_word word byte bytes (λ is name. yes_no (is_letter byte) is e) (λ _. number) (λ _. number) (λ _. letter) left right comma opened ended
        ∙ sym (ap (named_found word) (no_name byte bytes e))

pub bool_next : (line : List ℕ) → found_in bool_in (next line) ≡ named_found bool_in (name_on line)
bool_next line = name_at bool_in (λ z. refl) (λ a. refl) refl refl refl refl refl (behind is_blank line)

pub place_next : (sum : SumDef) (line : List ℕ) → found_in (place_in sum) (next line) ≡ named_found (place_in sum) (name_on line)
place_next sum line = name_at (place_in sum) (λ z. refl) (λ a. refl) refl refl refl refl refl (behind is_blank line)

-- characters

abbrev pub quoted : Option (List ℕ) → Option (ℕ × List ℕ)
quoted None = None
quoted (Some bytes) = letter_on bytes

closed_same : (a : ℕ) (bytes : List ℕ) → is_char_word a ≡ true → found_in char_in (second 39 (Letter a) bytes) ≡ closed a (byte_at 39 bytes)
closed_same a [] p = refl
closed_same a (byte ∷ bytes) p = go (byte == 39)
  where
    go : (b : Bool) → found_in char_in (if b then Some (Letter a, bytes) else None) ≡ closed a (if b then Some bytes else None)
    go true = rw p refl
    go false = refl

escape_same : (bytes : List ℕ) → found_in char_in (escape_at bytes) ≡ escape_on bytes
escape_same [] = refl
escape_same (byte ∷ bytes) = go (byte == 110) (byte == 116) (byte == 92) (byte == 39) refl refl refl refl
  where
    both : Option ℕ → Type 0
    both o = found_in char_in (closed_letter o bytes) ≡ closed_escape o bytes

    go : (b c d e : Bool) → (byte == 110) ≡ b → (byte == 116) ≡ c → (byte == 92) ≡ d → (byte == 39) ≡ e → both (escaped byte)
    go true c d e eb ec ed ee = rw eb (closed_same 10 bytes refl)
    go false true d e eb ec ed ee = rw (eb, ec) (closed_same 9 bytes refl)
    go false false true e eb ec ed ee = rw (eb, ec, ed) (closed_same byte bytes (rw (eqb-true byte 92 ed) refl))
    go false false false true eb ec ed ee = rw (eb, ec, ed, ee) (closed_same byte bytes (rw (eqb-true byte 39 ee) refl))
    go false false false false eb ec ed ee = rw (eb, ec, ed, ee) refl

plain_char : (byte : ℕ) → (nat_le 32 byte && nat_le byte 126 && not (byte == 39)) ≡ true → is_char_word byte ≡ true
plain_char byte p =
    let ps = and_parts (nat_le 32 byte && nat_le byte 126) (not (byte == 39)) p in
    let qs = and_parts (nat_le 32 byte) (nat_le byte 126) ps.0 in
    rw (qs.0, qs.1) refl

letter_same : (bytes : List ℕ) → found_in char_in (letter_at bytes) ≡ letter_on bytes
letter_same [] = refl
letter_same (byte ∷ bytes) = go (byte == 92) (nat_le 32 byte && nat_le byte 126 && not (byte == 39)) refl
  where
    go : (b c : Bool) → (nat_le 32 byte && nat_le byte 126 && not (byte == 39)) ≡ c
        → found_in char_in (if b then escape_at bytes else (if c then second 39 (Letter byte) bytes else None))
        ≡ (if b then escape_on bytes else (if c then closed byte (byte_at 39 bytes) else None))
    go true c e = escape_same bytes
    go false true e = closed_same byte bytes (plain_char byte e)
    go false false e = refl

other_byte : (wanted byte : ℕ) (bytes : List ℕ) → (byte == wanted) ≡ false → byte_at wanted (byte ∷ bytes) ≡ None
other_byte wanted byte bytes e = rw e refl

char_at : (bytes : List ℕ) → found_in char_in (token_at bytes) ≡ quoted (byte_at 39 bytes)
char_at [] = refl
char_at (byte ∷ bytes) = go (byte == 39) refl
  where
    go : (b : Bool) → (byte == 39) ≡ b → found_in char_in (token_at (byte ∷ bytes)) ≡ quoted (byte_at 39 (byte ∷ bytes))
    go true e = subst (λ n. found_in char_in (token_at (n ∷ bytes)) ≡ quoted (byte_at 39 (n ∷ bytes))) (sym (eqb-true byte 39 e)) (letter_same bytes)
    go false e = no_word char_in byte bytes (λ _ name. refl) (λ _ z. refl) (λ _ z. refl) (λ is a. no_byte byte 39 e is) refl refl refl refl refl
        ∙ sym (ap quoted (other_byte 39 byte bytes e))

pub char_next : (line : List ℕ) → found_in char_in (next line) ≡ quoted (sign_at 39 line)
char_next line = char_at (behind is_blank line)

-- numbers

abbrev pub numbered : (Piece → Option ℕ) → Option ((Bool × ℕ) × List ℕ) → Option (ℕ × List ℕ)
numbered word None = None
numbered word (Some read) = with_rest (word (Number (signed read.0.0 read.0.1))) read.1

module _ (word : Piece → Option ℕ) (far : (b : Bool) (n : ℕ) → word (Number (signed b (capped n))) ≡ word (Number (signed b n))) (name : (name : List ℕ) → word (Name name) ≡ None) (letter : (a : ℕ)
    → word (Letter a) ≡ None) (left : word Open ≡ None) (right : word Close ≡ None) (comma : word Comma ≡ None) (opened : word OpenVector ≡ None) (ended : word CloseVector ≡ None) where
  digits_same : (negative : Bool) (bytes : List ℕ) → found_in word (digits_at (signed negative) bytes) ≡ numbered word (digits_on negative bytes)
  digits_same negative [] = refl
  digits_same negative (byte ∷ bytes) = go (is_digit byte) refl
    where
      go : (b : Bool) → is_digit byte ≡ b → found_in word (digits_at (signed negative) (byte ∷ bytes)) ≡ numbered word (digits_on negative (byte ∷ bytes))
      go true e = rw e (ap (λ o. with_rest o (behind is_digit bytes)) (sym (far negative (number_of (byte ∷ front is_digit bytes)))))
      go false e = rw e refl

  token_digit : (byte : ℕ) (bytes : List ℕ) → is_digit byte ≡ true → token_at (byte ∷ bytes) ≡ digits_at pos (byte ∷ bytes)
  token_digit byte bytes e = let r = digit_range byte e in rw (digit_no_letter byte r.0 r.1, e) refl

  no_minus : (byte : ℕ) (bytes : List ℕ) → (byte == 45) ≡ false → number_at_front (byte ∷ bytes) ≡ digits_on false (byte ∷ bytes)
  no_minus byte bytes e = rw e refl

  no_digit : (byte : ℕ) (bytes : List ℕ) → is_digit byte ≡ false → digits_on false (byte ∷ bytes) ≡ None
  no_digit byte bytes e = rw e refl

  number_at : (bytes : List ℕ) → found_in word (token_at bytes) ≡ numbered word (number_at_front bytes)
  number_at [] = refl
  number_at (byte ∷ bytes) = go (byte == 45) (is_digit byte) refl refl
    where
      go : (b c : Bool) → (byte == 45) ≡ b → is_digit byte ≡ c → found_in word (token_at (byte ∷ bytes)) ≡ numbered word (number_at_front (byte ∷ bytes))
      go true c eb ec = subst (λ n. found_in word (token_at (n ∷ bytes)) ≡ numbered word (number_at_front (n ∷ bytes))) (sym (eqb-true byte 45 eb)) (digits_same true bytes)
      go false true eb ec = ap (found_in word) (token_digit byte bytes ec) ∙ digits_same false (byte ∷ bytes) ∙ sym (ap (numbered word) (no_minus byte bytes eb))
      go false false eb ec = no_word word byte bytes (λ _. name) (λ is z. yes_no (is_digit byte) is ec) (λ is z. no_byte byte 45 eb is) (λ _. letter) left right comma opened ended
          ∙ sym (ap (numbered word) (no_minus byte bytes eb ∙ no_digit byte bytes ec))

-- numbers within the range of a type

range_same : (half : ℕ) (negative : Bool) (value : ℕ) → 0 < half
    → (int_le (neg_ℤ (pos half)) (signed negative value) && int_lt (signed negative value) (pos half)) ≡ nat_le value (if negative then half else half - 1)
range_same zero negative value some = absurd (omega arith)
range_same (suc h) false value some =
    let less : suc h - 1 ≡ h = omega arith in
    elim (cases_lt value (suc h)) [
      | inl below ↦ lt-ltb value (suc h) below ∙ sym (ap (nat_le value) less ∙ le-leb value h (omega arith))
      | inr above ↦ le-ltb value (suc h) above ∙ sym (ap (nat_le value) less ∙ lt-leb value h (omega arith))
    ]
range_same (suc h) true zero some = lt-ltb 0 (suc h) (omega arith) ∙ sym (le-leb 0 (suc h) (omega arith))
range_same (suc h) true (suc v) some = elim (cases_lt v (suc h)) [
  | inl below ↦ rw (le-leb v h (omega arith)) (sym (le-leb (suc v) (suc h) (omega arith)))
  | inr above ↦ rw (lt-leb v h (omega arith)) (sym (lt-leb (suc v) (suc h) (omega arith)))
]

pub int_value : (bits : ℕ) (negative : Bool) (value : ℕ)
    → int_in bits (Number (signed negative value)) ≡ (if nat_le value (most_of bits negative) then Some (word_of (signed negative value)) else None)
int_value bits negative value =
    ap (λ (b : Bool). if b then Some (word_of (signed negative value)) else None) (range_same (half_of bits) negative value (pow_pos (min bits 64 - 1)))

pub half_small : (bits : ℕ) → half_of bits ≤ 2 ^ 63
half_small bits = let few : min bits 64 - 1 ≤ 63 = omega arith in pow_mono few

pub int_within : (bits : ℕ) (negative : Bool) (value : ℕ) → value ≤ most_of bits negative
    → Some (word_of (signed negative value)) ≡ int_in bits (Number (signed negative value))
int_within bits negative value small =
    sym (int_value bits negative value
    ∙ ap (λ (b : Bool). if b then Some (word_of (signed negative value)) else None) (le-leb value (most_of bits negative) small))

pub int_beyond : (bits : ℕ) (negative : Bool) (value : ℕ) → most_of bits negative < value → int_in bits (Number (signed negative value)) ≡ None
int_beyond bits negative value large =
    int_value bits negative value
    ∙ ap (λ (b : Bool). if b then Some (word_of (signed negative value)) else None) (lt-leb value (most_of bits negative) large)

pub most_small : (bits : ℕ) (negative : Bool) → most_of bits negative ≤ 2 ^ 63
most_small bits true = half_small bits
most_small bits false = omega (arith, half_small bits)

-- a number's word, by what is done to the word of its digits
pub word_negated : (n r : ℕ) → n ≤ 2 ^ 63 → r < 2 ^ 64 → (r + n) % 2 ^ 64 ≡ 0 → r ≡ word_of (signed true n)
word_negated zero r small fits e = let low : r ≡ 0 = omega arith in low
word_negated (suc n) r small fits e = let rest : r ≡ 2 ^ 64 - suc n = omega arith in rest

far_int : (bits : ℕ) (negative : Bool) (n : ℕ) → int_in bits (Number (signed negative (capped n))) ≡ int_in bits (Number (signed negative n))
far_int bits negative n = elim (cases_lt n (2 ^ 64)) [
  | inl small ↦ let same : capped n ≡ n = omega arith in ap (λ m. int_in bits (Number (signed negative m))) same
  | inr large ↦ let limit = most_small bits negative in
      int_beyond bits negative (capped n) (omega (arith, limit)) ∙ sym (int_beyond bits negative n (omega (arith, limit)))
]

nat_beyond : (bits : ℕ) (negative : Bool) (n : ℕ) → 2 ^ 64 ≤ n → nat_in bits (Number (signed negative n)) ≡ None
nat_beyond bits false n large =
    let few : min bits 64 ≤ 64 = omega arith in
    let limit : 2 ^ min bits 64 ≤ 2 ^ 64 = pow_mono few in
    ap (λ (b : Bool). if b then Some n else None) (le-ltb n (2 ^ min bits 64) (omega (arith, limit)))
nat_beyond bits true zero large = absurd (omega arith)
nat_beyond bits true (suc n) large = refl

far_nat : (bits : ℕ) (negative : Bool) (n : ℕ) → nat_in bits (Number (signed negative (capped n))) ≡ nat_in bits (Number (signed negative n))
far_nat bits negative n = elim (cases_lt n (2 ^ 64)) [
  | inl small ↦ let same : capped n ≡ n = omega arith in ap (λ m. nat_in bits (Number (signed negative m))) same
  | inr large ↦ nat_beyond bits negative (capped n) (omega arith) ∙ sym (nat_beyond bits negative n large)
]

pub int_next : (bits : ℕ) (line : List ℕ) → found_in (int_in bits) (next line) ≡ numbered (int_in bits) (number_on line)
int_next bits line = number_at (int_in bits) (far_int bits) (λ n. refl) (λ a. refl) refl refl refl refl refl (behind is_blank line)

pub nat_next : (bits : ℕ) (line : List ℕ) → found_in (nat_in bits) (next line) ≡ numbered (nat_in bits) (number_on line)
nat_next bits line = number_at (nat_in bits) (far_nat bits) (λ n. refl) (λ a. refl) refl refl refl refl refl (behind is_blank line)
