-- Each text is that of one keyword at most.
use Rattle.std.proofs.Common.{◌≡◌, ◌↔◌, ℕ, List, [], ◌∷◌, ◌≤◌, length, get_or, Option, Some, true, sym, ap, ◌∙◌, refl, subst, arith}
use Rattle.std.specs.Prelude.{bytes_eq}
use Rattle.std.proofs.lemmas.Slice.Eq.{bytes_eq-Decides}
use Rattle.hume_base.specs.declared.keyword.Keyword.{Keyword}
use Rattle.hume_base.specs.declared.keyword.Keyword.TheVariants as keyword
use Rattle.hume_base.specs.Keywords.{keyword_text, keyword_of, keywords}
use Rattle.std.proofs.lemmas.Bool.{eq-eqb}
use Rattle.std.specs.List.{find}
use Rattle.hume_base.specs.inner.FirstLetters.{begins_with, keywords_with}
use Rattle.hume_base.proofs.Tables.{find_passes, find_in_filter}

-- the search in the table finds each of them
pub keyword_of-text : (keyword : Keyword) → keyword_of (keyword_text keyword) ≡ Some keyword
keyword_of-text keyword.Data = refl
keyword_of-text _ = refl

pub keyword_found : (text : List ℕ) (keyword : Keyword) → keyword_of text ≡ Some keyword → text ≡ keyword_text keyword
keyword_found text keyword e = sym ((bytes_eq-Decides (keyword_text keyword) text).0 (find_passes (λ one. bytes_eq (keyword_text one) text) keywords keyword e))

pub keyword_exact : (text : List ℕ) (found : Option Keyword) → found ≡ keyword_of text → (keyword : Keyword) → (found ≡ Some keyword) ↔ (text ≡ keyword_text keyword)
keyword_exact text found is keyword = (λ e. keyword_found text keyword (sym is ∙ e), λ e. is ∙ ap keyword_of e ∙ keyword_of-text keyword)

-- it is enough to search among those that begin with the first byte
pub keyword_by_first : (text : List ℕ) → 1 ≤ length text → (some : List Keyword) (found : Option Keyword) → some ≡ keywords_with (get_or text 0 0)
    → found ≡ find (λ keyword. bytes_eq (keyword_text keyword) text) some → found ≡ keyword_of text
keyword_by_first [] long some found are is = absurd (omega arith)
keyword_by_first (first ∷ others) long some found are is =
    is ∙ ap (λ among. find (λ keyword. bytes_eq (keyword_text keyword) (first ∷ others)) among) are
    ∙ find_in_filter (λ keyword. bytes_eq (keyword_text keyword) (first ∷ others)) (λ keyword. begins_with first (keyword_text keyword))
    (λ keyword same. subst (λ text. begins_with first text ≡ true) (sym ((bytes_eq-Decides (keyword_text keyword) (first ∷ others)).0 same)) (eq-eqb first first refl)) keywords
