-- Two symbols or keywords are the same where their texts are.
use Rattle.std.proofs.Common.{◌≡◌, Bool, true, false, refl, sym, ap, ◌∙◌, inl, inr}
use Rattle.std.specs.Prelude.{◌↔◌, IsTrue}
use Rattle.std.proofs.lemmas.Bool.{cases_Bool}
use Rattle.hume_base.specs.declared.keyword.Keyword.{Keyword}
use Rattle.hume_base.specs.declared.symbol.Symbol.{Symbol}
use Rattle.parse_readers.specs.inner.Readers.{same_symbol, same_keyword}
use Rattle.parse_readers.proofs.TokensApart.{same_symbol-true, same_keyword-true, same_symbol-refl, same_keyword-refl}

decided : {A : Type 0} (same : A → A → Bool) (a b : A) → ((x y : A) → same x y ≡ true → x ≡ y) → ((x : A) → same x x ≡ true) → (r : Bool) → (IsTrue r ↔ (a ≡ b)) → r ≡ same a b
decided same a b holds is true h = let e : a ≡ b = h.0 refl in sym (is a) ∙ ap (same a) e
decided same a b holds is false h = elim (cases_Bool (same a b)) [
  | inl e ↦ absurd (let f : false ≡ true = h.1 (holds a b e) in cc)
  | inr e ↦ sym e
]

pub same_symbols : (a b : Symbol) (r : Bool) → (IsTrue r ↔ (a ≡ b)) → r ≡ same_symbol a b
same_symbols a b r h = decided same_symbol a b same_symbol-true same_symbol-refl r h

pub same_keywords : (a b : Keyword) (r : Bool) → (IsTrue r ↔ (a ≡ b)) → r ≡ same_keyword a b
same_keywords a b r h = decided same_keyword a b same_keyword-true same_keyword-refl r h
