-- A field of an object that is matched.
use Rattle.std.specs.Prelude.{ℕ, [], Option, Some, None}
use Rattle.hume_base.specs.declared.types.Ty.{Ty}
use Rattle.c_tree.specs.declared.tree.CExp.{CExp}
use Rattle.c_expressions.specs.Patterns.{Match, matching, Matching, field_of}

-- a field of an object, by its type
abbrev pub field_matched : Matching → CExp → ℕ → Option Ty → Match
field_matched part object place None = matching [] []
field_matched part object place (Some ty) = part ty (field_of object place)
