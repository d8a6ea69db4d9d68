-- The constants of exceptions, and the objects of what they carry.
use Rattle.std.specs.Prelude.{ℕ, ◌+◌, List, [], ◌∷◌, Option, Some, None, codes}
use Rattle.std.specs.List.{flat_map}
use Rattle.hume_base.specs.declared.types.Ty.{Ty}
use Rattle.hume_model.specs.declared.core_tree.ExnDef.{ExnDef}
use Rattle.c_tree.specs.declared.tree.CConstant.{CConstant}
use Rattle.c_tree.specs.declared.tree.CItem.{CItem}
use Rattle.c_tree.specs.declared.tree.CItem.TheVariants as item
use Rattle.c_names.specs.declared.names.Names.{Names}
use Rattle.c_names.specs.Names.{inner}
use Rattle.c_types.specs.Gathered.{Gathered, c_type}

-- the constant of an exception
abbrev pub exception : Names → ℕ → ExnDef → CConstant
exception names number exn = record { name = inner names (codes "RAISES_") exn.name; value = number }

-- the constants of exceptions, from a number on
abbrev pub exceptions_from : Names → ℕ → List ExnDef → List CConstant
exceptions_from names number [] = []
exceptions_from names number (exn ∷ exns) = exception names number exn ∷ exceptions_from names (number + 1) exns

abbrev pub carried_object : Gathered → List ℕ → Option Ty → List CItem
carried_object all name None = []
carried_object all name (Some ty) = item.Object (c_type all ty) (inner all.names (codes "raised_") name) ∷ []

-- the object of what an exception carries, if it carries something
abbrev pub carried_of : Gathered → ExnDef → List CItem
carried_of all exn = carried_object all exn.name exn.carries

-- exceptions have numbers from 1 on
abbrev pub exception_items : Gathered → List ExnDef → List CItem
exception_items all exns = item.Enum (exceptions_from all.names 1 exns) ∷ flat_map (carried_of all) exns
