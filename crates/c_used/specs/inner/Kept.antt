-- What is kept of a file, from its end on.
use Rattle.std.specs.Prelude.{◌||◌, Bool, true, false, List, [], ◌∷◌}
use Rattle.std.specs.List.{list_any}
use Rattle.c_tree.specs.declared.tree.CItem.{CItem}
use Rattle.c_tree.specs.declared.tree.CItem.TheVariants as item
use Rattle.c_used.specs.Uses.{Name}
use Rattle.c_used.specs.Kept.{declared_by, is_among, is_seen, with_kept}

-- whether a declaration stands before the next part, by whether one stands behind this
abbrev pub has_declaration : CItem → Bool → Bool
has_declaration (item.Part text) behind = false
has_declaration (item.Comment text) behind = behind
has_declaration declaration behind = true

-- whether this is kept, by the names that are used behind it, and by whether a declaration stands before the next part
abbrev pub is_kept_by : List Name → Bool → CItem → Bool
is_kept_by names some (item.Part text) = some
is_kept_by names some (item.Comment text) = true
is_kept_by names some declaration = is_seen declaration || list_any (is_among names) (declared_by declaration)

-- what is kept of these items and of what is kept behind them
abbrev pub kept_before : List CItem → List CItem → List CItem
kept_before [] behind = behind
kept_before (one ∷ items) behind = with_kept one (kept_before items behind)
