-- What the texts of keywords, symbols and letters begin with, and how long they are.
use Rattle.std.proofs.Common.{◌≡◌, ℕ, List, [], ◌∷◌, Bool, true, false, not, ◌&&◌, refl, inl, inr, nat_eq}
use Rattle.std.specs.List.{list_all}
use Rattle.std.proofs.lemmas.Bool.{and_parts, cases_Bool}
use Rattle.hume_base.specs.Keywords.{keyword_text}
use Rattle.hume_base.specs.Symbols.{symbol_text}
use Rattle.hume_base.specs.declared.keyword.Keyword.{Keyword}
use Rattle.hume_base.specs.declared.keyword.Keyword.TheVariants as keyword
use Rattle.hume_base.specs.declared.symbol.Symbol.{Symbol}
use Rattle.hume_base.specs.declared.symbol.Symbol.TheVariants as symbol
use Rattle.hume_lex.specs.Spelling.{is_space, is_small, is_digit, is_name_byte, Each, IsName, letter_text}
use Rattle.hume_lex.proofs.Classes.{begins_name}

pub each_from : (p : ℕ → Bool) (bs : List ℕ) → list_all p bs ≡ true → Each p bs
each_from p [] h = tt
each_from p (b ∷ bs) h = let both = and_parts _ _ h in (both.0, each_from p bs both.1)

abbrev is_small_name : List ℕ → Bool
is_small_name [] = false
is_small_name (b ∷ bs) = is_small b && list_all is_name_byte bs

keyword_test : (word : Keyword) → is_small_name (keyword_text word) ≡ true
keyword_test keyword.Data = refl
keyword_test _ = refl

name_from : (bs : List ℕ) → is_small_name bs ≡ true → IsName is_small bs
name_from [] h = cc
name_from (b ∷ bs) h = let both = and_parts _ _ h in (both.0, each_from is_name_byte bs both.1)

pub keyword_is_name : (word : Keyword) → IsName is_small (keyword_text word)
keyword_is_name word = name_from (keyword_text word) (keyword_test word)

-- begins a symbol, and nothing else
abbrev pub is_mark : ℕ → Bool
is_mark b = not (is_space b) && (not (begins_name b) && (not (is_digit b) && (not (nat_eq b 39) && not (nat_eq b 34))))

-- one mark or two, and no two dashes
abbrev is_mark_text : List ℕ → Bool
is_mark_text [] = false
is_mark_text (a ∷ []) = is_mark a
is_mark_text (a ∷ (b ∷ [])) = is_mark a && not (nat_eq a 45 && nat_eq b 45)
is_mark_text (a ∷ (b ∷ (c ∷ bs))) = false

symbol_test : (symbol : Symbol) → is_mark_text (symbol_text symbol) ≡ true
symbol_test symbol.OpenParen = refl
symbol_test _ = refl

pub record IsMark (b : ℕ) : Type 0 where
  pub no_space : is_space b ≡ false
  pub no_name : begins_name b ≡ false
  pub no_digit : is_digit b ≡ false
  pub no_single : nat_eq b 39 ≡ false
  pub no_double : nat_eq b 34 ≡ false

not_true : (b : Bool) → not b ≡ true → b ≡ false
not_true true h = cc
not_true false h = refl

pub mark_is : (b : ℕ) → is_mark b ≡ true → IsMark b
mark_is b h =
    let p = and_parts _ _ h in
    let q = and_parts _ _ p.1 in
    let r = and_parts _ _ q.1 in
    let s = and_parts _ _ r.1 in
    record { no_space = not_true _ p.0; no_name = not_true _ q.0; no_digit = not_true _ r.0; no_single = not_true _ s.0; no_double = not_true _ s.1 }

-- a symbol is one byte or two
pub data MarkText (text : List ℕ) : Type 0 where
  one : (a : ℕ) → text ≡ a ∷ [] → IsMark a → MarkText text
  two : (a b : ℕ) → text ≡ a ∷ (b ∷ []) → IsMark a → (nat_eq a 45 && nat_eq b 45) ≡ false → MarkText text

mark_text_from : (text : List ℕ) → is_mark_text text ≡ true → MarkText text
mark_text_from [] h = cc
mark_text_from (a ∷ []) h = one a refl (mark_is a h)
mark_text_from (a ∷ (b ∷ [])) h = let both = and_parts _ _ h in two a b refl (mark_is a both.0) (not_true _ both.1)
mark_text_from (a ∷ (b ∷ (c ∷ bs))) h = cc

pub symbol_is_marks : (symbol : Symbol) → MarkText (symbol_text symbol)
symbol_is_marks symbol = mark_text_from (symbol_text symbol) (symbol_test symbol)

-- a letter is one byte, or a backslash and one byte
pub data LetterText (text : List ℕ) : Type 0 where
  plain : (a : ℕ) → text ≡ a ∷ [] → LetterText text
  escape : (a : ℕ) → text ≡ 92 ∷ (a ∷ []) → LetterText text

pub letter_text_is : (byte : ℕ) → LetterText (letter_text byte)
letter_text_is byte = elim (cases_Bool (nat_eq byte 10)) [
  | inl a ↦ escape 110 (rw a)
  | inr a ↦ elim (cases_Bool (nat_eq byte 9)) [
    | inl b ↦ escape 116 (rw (a, b))
    | inr b ↦ elim (cases_Bool (nat_eq byte 92)) [
      | inl c ↦ escape 92 (rw (a, b, c))
      | inr c ↦ elim (cases_Bool (nat_eq byte 39)) [
        | inl d ↦ escape 39 (rw (a, b, c, d))
        | inr d ↦ plain byte (rw (a, b, c, d))
      ]
    ]
  ]
]
