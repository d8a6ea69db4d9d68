-- The exceptions that every program has, in the order of their numbers DIV_ZERO, RANGE and NO_CASE.
use Rattle.std.specs.Prelude.{◌≡◌, ℕ, List, [], ◌∷◌, None, codes, length, take}
use Rattle.hume_model.specs.declared.core_tree.ExnDef.{ExnDef}
use Rattle.hume_model.specs.declared.core_tree.Core.{Core}

-- an exception that carries nothing
abbrev pub plain_exception : List ℕ → ExnDef
plain_exception name = record { name = name; carries = None }

-- of a division by 0, of an index outside of a vector, and of a `case` or a call that nothing matches
abbrev pub own_exceptions : List ExnDef
own_exceptions = plain_exception (codes "DivZero") ∷ plain_exception (codes "Range") ∷ plain_exception (codes "NoCase") ∷ []

-- the core has these first
abbrev pub HasOwnExceptions : Core → Type 0
HasOwnExceptions core = take (length own_exceptions) core.exns ≡ own_exceptions
