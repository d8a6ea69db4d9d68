-- What is kept, from the end of a file on.
use Rattle.std.proofs.Common.{◌≡◌, ℕ, Bool, true, false, ◌||◌, List, [], ◌∷◌, ◌++◌, reverse, refl, ap, sym, ◌∙◌, if◌then◌else◌}
use Rattle.std.specs.List.{flat_map, list_any}
use Rattle.std.specs.Str.{bytes_eq}
use Rattle.std.proofs.lemmas.List.{reverse-append}
use Rattle.std.proofs.lemmas.List.Folds.{list_any-append}
use Rattle.c_tree.specs.declared.tree.CItem.{CItem}
use Rattle.c_tree.specs.declared.tree.CItem.TheVariants as item
use Rattle.c_used.specs.Uses.{Name, item_uses}
use Rattle.c_used.specs.Kept.{declared_by, have_declaration, is_among, is_external, is_kept, kept, use_it, with_kept}
use Rattle.c_used.specs.inner.Names.{with_names}
use Rattle.c_used.specs.inner.Kept.{has_declaration, is_kept_by, kept_before}
use Rattle.c_used.proofs.Sets.{among_with_names}

last_reversed : (items : List CItem) (one : CItem) → reverse (items ++ one ∷ []) ≡ one ∷ reverse items
last_reversed items one = reverse-append items (one ∷ [])

-- the names that are used where one declaration more is kept
pub used_by_one_more : (old new : List Name) (items more : List CItem) (one : CItem) → new ≡ with_names old (item_uses one) → more ≡ items ++ one ∷ []
    → ((name : Name) → is_among old name ≡ use_it (reverse items) name) → (name : Name) → is_among new name ≡ use_it (reverse more) name
used_by_one_more old new items more one added put used name = ap (λ names. is_among names name) added ∙ among_with_names old (item_uses one) name
    ∙ ap (λ b. is_among (item_uses one) name || b) (used name)
    ∙ sym (list_any-append (bytes_eq name) (item_uses one) (flat_map item_uses (reverse items)))
    ∙ sym (ap (λ is. use_it is name) (ap reverse put ∙ last_reversed items one))

declaration_first : (one : CItem) (behind : List CItem) → have_declaration (one ∷ behind) ≡ has_declaration one (have_declaration behind)
declaration_first (item.Part text) behind = refl
declaration_first (item.Comment text) behind = refl
declaration_first (item.Enum constants) behind = refl
declaration_first (item.Alias type name) behind = refl
declaration_first (item.Struct members name) behind = refl
declaration_first (item.Object type name) behind = refl
declaration_first (item.StructObject members name) behind = refl
declaration_first (item.Prototype head) behind = refl
declaration_first (item.Function function) behind = refl

-- whether a declaration stands before the next part once one is kept
pub begins_with_one_more : (old new : Bool) (items more : List CItem) (one : CItem) → new ≡ has_declaration one old → more ≡ items ++ one ∷ []
    → old ≡ have_declaration (reverse items) → new ≡ have_declaration (reverse more)
begins_with_one_more old new items more one first put begins = first ∙ ap (has_declaration one) begins ∙ sym (declaration_first one (reverse items))
    ∙ sym (ap have_declaration (ap reverse put ∙ last_reversed items one))

any_same : (f g : Name → Bool) → ((name : Name) → f name ≡ g name) → (names : List Name) → list_any f names ≡ list_any g names
any_same f g same [] = refl
any_same f g same (name ∷ names) = ap (λ b. b || list_any f names) (same name) ∙ ap (λ b. g name || b) (any_same f g same names)

-- what is kept by what is known of what is behind
pub kept_by : (names : List Name) (some : Bool) (behind : List CItem) → ((name : Name) → is_among names name ≡ use_it behind name)
    → some ≡ have_declaration behind → (one : CItem) → is_kept_by names some one ≡ is_kept one behind
kept_by names some behind used begins = by
  where
    same : (declared : List Name) → list_any (is_among names) declared ≡ list_any (use_it behind) declared
    same = any_same (is_among names) (use_it behind) used

    by : (one : CItem) → is_kept_by names some one ≡ is_kept one behind
    by (item.Part text) = begins
    by (item.Comment text) = refl
    by (item.Enum constants) = same (declared_by (item.Enum constants))
    by (item.Alias type name) = same (name ∷ [])
    by (item.Struct members name) = same (name ∷ [])
    by (item.Object type name) = same (name ∷ [])
    by (item.StructObject members name) = same (name ∷ [])
    by (item.Prototype head) = refl
    by (item.Function function) = ap (λ b. is_external function.head.linkage || b) (same (function.head.name ∷ []))

pub kept_one_more : (items : List CItem) (one : CItem) → is_kept one (reverse items) ≡ true → reverse (items ++ one ∷ []) ≡ with_kept one (reverse items)
kept_one_more items one is = last_reversed items one ∙ ap (λ b. if b then one ∷ reverse items else reverse items) (sym is)

pub not_kept : (items : List CItem) (one : CItem) → is_kept one (reverse items) ≡ false → reverse items ≡ with_kept one (reverse items)
not_kept items one is = ap (λ b. if b then one ∷ reverse items else reverse items) (sym is)

-- what is kept of items and the last one behind them
pub last_first : (items : List CItem) (last : CItem) (behind : List CItem)
    → kept_before (items ++ last ∷ []) behind ≡ kept_before items (with_kept last behind)
last_first [] last behind = refl
last_first (one ∷ items) last behind = ap (with_kept one) (last_first items last behind)

pub all_before : (items : List CItem) → kept_before items [] ≡ kept items
all_before [] = refl
all_before (one ∷ items) = ap (with_kept one) (all_before items)
