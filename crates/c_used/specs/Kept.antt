-- Which declarations of a file are kept. In C a name is declared before it is used, so what uses a declaration stands behind it.
use Rattle.std.specs.Prelude.{ℕ, ◌||◌, Bool, true, false, List, [], ◌∷◌, map, if◌then◌else◌}
use Rattle.std.specs.List.{flat_map, list_any}
use Rattle.std.specs.Str.{bytes_eq}
use Rattle.c_tree.specs.declared.tree.Linkage.{Linkage}
use Rattle.c_tree.specs.declared.tree.Linkage.TheVariants.{External, Static, StaticInline}
use Rattle.c_tree.specs.declared.tree.CItem.{CItem}
use Rattle.c_tree.specs.declared.tree.CItem.TheVariants as item
use Rattle.c_used.specs.Uses.{Name, item_uses}

abbrev pub is_among : List Name → Name → Bool
is_among names name = list_any (bytes_eq name) names

-- whether one of the declarations uses the name
abbrev pub use_it : List CItem → Name → Bool
use_it items name = is_among (flat_map item_uses items) name

abbrev pub is_external : Linkage → Bool
is_external External = true
is_external Static = false
is_external StaticInline = false

-- whether another file sees the declaration
abbrev pub is_seen : CItem → Bool
is_seen (item.Prototype head) = true
is_seen (item.Function function) = is_external function.head.linkage
is_seen _ = false

-- the names that the declaration declares
abbrev pub declared_by : CItem → List Name
declared_by (item.Part text) = []
declared_by (item.Comment text) = []
declared_by (item.Enum constants) = map (λ constant. constant.name) constants
declared_by (item.Alias type name) = name ∷ []
declared_by (item.Struct members name) = name ∷ []
declared_by (item.Object type name) = name ∷ []
declared_by (item.StructObject members name) = name ∷ []
declared_by (item.Prototype head) = head.name ∷ []
declared_by (item.Function function) = function.head.name ∷ []

-- whether a declaration stands before the next part
abbrev pub have_declaration : List CItem → Bool
have_declaration [] = false
have_declaration (item.Part text ∷ items) = false
have_declaration (item.Comment text ∷ items) = have_declaration items
have_declaration (declaration ∷ items) = true

-- Whether this is kept, where `behind` is what is kept behind it: a declaration that another file sees, or of which one of those uses a name,
-- the comment of a part that has such a declaration, and each other comment.
abbrev pub is_kept : CItem → List CItem → Bool
is_kept (item.Part text) behind = have_declaration behind
is_kept (item.Comment text) behind = true
is_kept declaration behind = is_seen declaration || list_any (use_it behind) (declared_by declaration)

abbrev pub with_kept : CItem → List CItem → List CItem
with_kept one behind = if is_kept one behind then one ∷ behind else behind

-- what is kept of a file
abbrev pub kept : List CItem → List CItem
kept [] = []
kept (one ∷ items) = with_kept one (kept items)
