-- When two tokens are the same.
use Rattle.std.proofs.Common.{◌≡◌, List, [], ◌∷◌, true, refl, sym, ap, ◌∙◌}
use Rattle.std.specs.Prelude.{Ok, Some}
use Rattle.hume_base.specs.Keywords.{keyword_text, keyword_of}
use Rattle.hume_base.specs.Symbols.{symbol_text, symbol_of}
use Rattle.hume_base.specs.declared.keyword.Keyword.{Keyword}
use Rattle.hume_base.specs.declared.symbol.Symbol.{Symbol}
use Rattle.hume_base.specs.declared.keyword.Keyword.TheVariants as keyword
use Rattle.hume_base.specs.declared.symbol.Symbol.TheVariants as symbol
use Rattle.hume_base.specs.declared.token.Kind.{Kind}
use Rattle.hume_base.specs.declared.token.Kind.TheVariants.{Word, Sign}
use Rattle.std.proofs.lemmas.Slice.Eq.{bytes_eq-Decides}
use Rattle.parse_readers.specs.inner.Readers.{next, behind, is_token, same_symbol, same_keyword, after}
use Rattle.parse_readers.proofs.Local.{chosen_ok}

symbol_of-text : (symbol : Symbol) → symbol_of (symbol_text symbol) ≡ Some symbol
symbol_of-text symbol.OpenParen = refl
symbol_of-text _ = refl

keyword_of-text : (keyword : Keyword) → keyword_of (keyword_text keyword) ≡ Some keyword
keyword_of-text keyword.Data = refl
keyword_of-text _ = refl

pub some_same : {A : Type 0} (a b : A) → Some a ≡ Some b → a ≡ b
some_same a b e = cc

pub same_symbol-true : (a b : Symbol) → same_symbol a b ≡ true → a ≡ b
same_symbol-true a b e = some_same a b (sym (symbol_of-text a) ∙ ap symbol_of ((bytes_eq-Decides (symbol_text a) (symbol_text b)).0 e) ∙ symbol_of-text b)

pub same_keyword-true : (a b : Keyword) → same_keyword a b ≡ true → a ≡ b
same_keyword-true a b e = some_same a b (sym (keyword_of-text a) ∙ ap keyword_of ((bytes_eq-Decides (keyword_text a) (keyword_text b)).0 e) ∙ keyword_of-text b)

pub same_symbol-refl : (symbol : Symbol) → same_symbol symbol symbol ≡ true
same_symbol-refl symbol.OpenParen = refl
same_symbol-refl _ = refl

pub same_keyword-refl : (keyword : Keyword) → same_keyword keyword keyword ≡ true
same_keyword-refl keyword.Data = refl
same_keyword-refl _ = refl

-- a symbol or keyword
abbrev pub IsFixed : Kind → Type 0
IsFixed (Sign symbol) = Unit {0}
IsFixed (Word keyword) = Unit {0}
IsFixed _ = ⊥

pub is_token-true : (token k : Kind) → is_token token k ≡ true → k ≡ token
is_token-true (Sign symbol) (Sign other) e = ap Sign (same_symbol-true other symbol e)
is_token-true (Word keyword) (Word other) e = ap Word (same_keyword-true other keyword e)
is_token-true _ _ e = cc

pub is_token-refl : (token : Kind) → IsFixed token → is_token token token ≡ true
is_token-refl (Sign symbol) h = same_symbol-refl symbol
is_token-refl (Word keyword) h = same_keyword-refl keyword
is_token-refl _ h = absurd h

pub next_token : (token : Kind) (ks : List Kind) → next (is_token token) ks ≡ true → ks ≡ token ∷ behind ks
next_token token [] e = cc
next_token token (k ∷ ks) e = ap (λ j. j ∷ ks) (is_token-true token k e)

pub after_ok : (token : Kind) (ks rest : List Kind) → after token ks ≡ Ok rest → ks ≡ token ∷ rest
after_ok token ks rest e =
    let w = chosen_ok (next (is_token token) ks) (Ok (behind ks)) _ rest e in
    let is : behind ks ≡ rest = (let f = w.1 in cc) in
    next_token token ks w.0 ∙ ap (λ l. token ∷ l) is

pub after_is : (token : Kind) (rest : List Kind) → IsFixed token → after token (token ∷ rest) ≡ Ok rest
after_is token rest h = rw (is_token-refl token h)
