-- Each text is that of one symbol at most.
use Rattle.std.proofs.Common.{◌≡◌, ◌↔◌, ℕ, List, [], ◌∷◌, ◌≤◌, length, get_or, Option, Some, true, sym, ap, ◌∙◌, refl, subst, arith}
use Rattle.std.specs.Prelude.{bytes_eq}
use Rattle.std.proofs.lemmas.Slice.Eq.{bytes_eq-Decides}
use Rattle.hume_base.specs.declared.symbol.Symbol.{Symbol}
use Rattle.hume_base.specs.declared.symbol.Symbol.TheVariants as symbol
use Rattle.hume_base.specs.Symbols.{symbol_text, symbol_of, symbols}
use Rattle.std.proofs.lemmas.Bool.{eq-eqb}
use Rattle.std.specs.List.{find}
use Rattle.hume_base.specs.inner.FirstLetters.{begins_with, symbols_with}
use Rattle.hume_base.proofs.Tables.{find_passes, find_in_filter}

-- the search in the table finds each of them
pub symbol_of-text : (symbol : Symbol) → symbol_of (symbol_text symbol) ≡ Some symbol
symbol_of-text symbol.OpenParen = refl
symbol_of-text _ = refl

pub symbol_found : (text : List ℕ) (symbol : Symbol) → symbol_of text ≡ Some symbol → text ≡ symbol_text symbol
symbol_found text symbol e = sym ((bytes_eq-Decides (symbol_text symbol) text).0 (find_passes (λ one. bytes_eq (symbol_text one) text) symbols symbol e))

pub symbol_exact : (text : List ℕ) (found : Option Symbol) → found ≡ symbol_of text → (symbol : Symbol) → (found ≡ Some symbol) ↔ (text ≡ symbol_text symbol)
symbol_exact text found is symbol = (λ e. symbol_found text symbol (sym is ∙ e), λ e. is ∙ ap symbol_of e ∙ symbol_of-text symbol)

-- it is enough to search among those that begin with the first byte
pub symbol_by_first : (text : List ℕ) → 1 ≤ length text → (some : List Symbol) (found : Option Symbol) → some ≡ symbols_with (get_or text 0 0)
    → found ≡ find (λ symbol. bytes_eq (symbol_text symbol) text) some → found ≡ symbol_of text
symbol_by_first [] long some found are is = absurd (omega arith)
symbol_by_first (first ∷ others) long some found are is =
    is ∙ ap (λ among. find (λ symbol. bytes_eq (symbol_text symbol) (first ∷ others)) among) are
    ∙ find_in_filter (λ symbol. bytes_eq (symbol_text symbol) (first ∷ others)) (λ symbol. begins_with first (symbol_text symbol))
    (λ symbol same. subst (λ text. begins_with first text ≡ true) (sym ((bytes_eq-Decides (symbol_text symbol) (first ∷ others)).0 same)) (eq-eqb first first refl)) symbols
