-- What other files see, and what a file says at its head.
use Rattle.std.specs.Prelude.{ℕ, List, [], ◌∷◌, ◌++◌, codes}
use Rattle.hume_model.specs.declared.core_tree.Core.{Core}
use Rattle.c_tree.specs.declared.tree.CItem.{CItem}
use Rattle.c_tree.specs.declared.tree.CItem.TheVariants as item
use Rattle.c_types.specs.Gathered.{Gathered}
use Rattle.c_types.specs.Declarations.{items}
use Rattle.c_used.specs.Kept.{kept}
use Rattle.c_valid.specs.Streams.{valid_prototypes}
use Rattle.c_calls.specs.Steps.{call_head}
use Rattle.c_calls.specs.Hooks.{hooks_from}

-- the headers that a file includes
abbrev pub headers : List (List ℕ)
headers = codes "stdbool.h" ∷ codes "stdint.h" ∷ []

-- the comment at the head of a program's file
abbrev pub head_comment : List ℕ → List ℕ
head_comment program =
    program ++ (codes ": made by hume. Call " ++ (program ++ (codes "_init once, then " ++ (program ++ codes "_step for each superstep."))))

-- the declarations of the functions that tell whether an object holds a value
abbrev pub valid_part : Gathered → Core → List CItem
valid_part all core = item.Part (codes "whether an object holds a value of its stream's type") ∷ valid_prototypes all core

-- the declarations of the hooks, of the two calls, and of the functions that tell whether an object holds a value
abbrev pub outer_items : Gathered → Core → List CItem
outer_items all core = hooks_from all core 0 core.nodes
    ++ item.Prototype (call_head all.names (codes "_init")) ∷ item.Prototype (call_head all.names (codes "_step")) ∷ valid_part all core

-- the same with the types that they need
abbrev pub header_items : Gathered → Core → List CItem
header_items all core = kept (items all ++ outer_items all core)
