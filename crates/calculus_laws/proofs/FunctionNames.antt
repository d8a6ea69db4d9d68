-- The names that a step may give are those that a source may give a function.
use Rattle.std.proofs.Common.{◌≡◌, ◌≢◌, ℕ, ◌≤◌, ◌==◌, ◌||◌, Bool, true, false, List, [], ◌∷◌, length, Option, Some, None, is_none, refl, ap, sym, ◌∙◌}
use Rattle.std.specs.List.{list_all}
use Rattle.std.proofs.lemmas.Bool.{and_parts, le-leb, leb-true}
use Rattle.hume_base.specs.Keywords.{keyword_of, keyword_text}
use Rattle.hume_base.specs.declared.keyword.Keyword.{Keyword}
use Rattle.hume_base.specs.declared.limits.TheConstants.{MAX_NAME_BYTES}
use Rattle.hume_base.specs.declared.token.Kind.TheVariants as kind
use Rattle.hume_base.proofs.KeywordTexts.{keyword_found, keyword_of-text}
use Rattle.hume_lex.specs.Spelling as spelling
use Rattle.calculus_laws.specs.Names.{has_form, is_function_name, is_name_byte}
use Rattle.calculus_laws.proofs.CallsKnown.{both}

no_keyword : (o : Option Keyword) → is_none o ≡ true → o ≡ None
no_keyword None none = refl
no_keyword (Some word) none = cc

regroup : (a b c d : Bool) → (((a || b) || c) || d) ≡ (a || (b || (c || d)))
regroup true b c d = refl
regroup false true c d = refl
regroup false false c d = refl

same_byte : (byte : ℕ) → spelling.is_name_byte byte ≡ is_name_byte byte
same_byte byte = regroup (spelling.is_small byte) (spelling.is_capital byte) (spelling.is_digit byte) (byte == 95)

each_byte : (bytes : List ℕ) → list_all is_name_byte bytes ≡ true → spelling.Each spelling.is_name_byte bytes
each_byte [] all = tt
each_byte (byte ∷ bytes) all = (let parts = and_parts (is_name_byte byte) (list_all is_name_byte bytes) all in (same_byte byte ∙ parts.0, each_byte bytes parts.1))

all_bytes : (bytes : List ℕ) → spelling.Each spelling.is_name_byte bytes → list_all is_name_byte bytes ≡ true
all_bytes [] each = refl
all_bytes (byte ∷ bytes) each = both (is_name_byte byte) (list_all is_name_byte bytes) (sym (same_byte byte) ∙ each.0) (all_bytes bytes each.1)

name_form : (name : List ℕ) → has_form name ≡ true → spelling.IsName spelling.is_small name
name_form [] form = cc
name_form (first ∷ later) form = (let parts = and_parts _ _ form in (parts.0, each_byte later parts.1))

form_name : (name : List ℕ) → spelling.IsName spelling.is_small name → has_form name ≡ true
form_name [] is = absurd is
form_name (first ∷ later) is = both _ _ is.0 (all_bytes later is.1)

differs : (name : List ℕ) → keyword_of name ≡ None → (word : Keyword) → name ≢ keyword_text word
differs name none word is = (let wrong : None ≡ Some word = sym none ∙ ap keyword_of is ∙ keyword_of-text word in cc)

none_found : (name : List ℕ) → ((word : Keyword) → name ≢ keyword_text word) → (o : Option Keyword) → keyword_of name ≡ o → is_none (keyword_of name) ≡ true
none_found name other None found = ap is_none found
none_found name other (Some word) found = absurd (other word (keyword_found name word found))

pub name_spelled : (name : List ℕ) → is_function_name name ≡ true → spelling.Spells (kind.Lower name) name × (length name ≤ MAX_NAME_BYTES)
name_spelled name is =
    let form = and_parts _ _ is in
    let rest = and_parts _ _ form.1 in
    ((refl, name_form name form.0, differs name (no_keyword (keyword_of name) rest.1)), leb-true _ _ rest.0)

pub spelled_name : (name : List ℕ) → spelling.Spells (kind.Lower name) name → length name ≤ MAX_NAME_BYTES → is_function_name name ≡ true
spelled_name name spells short =
    both _ _ (form_name name spells.1) (both _ _ (le-leb _ _ short) (none_found name spells.2 (keyword_of name) refl))
