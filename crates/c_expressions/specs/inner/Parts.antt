-- Parts of an expression beside their ways, and where they are written.
use Rattle.std.specs.Prelude.{ℕ, List, map, Option, Some, slice_get}
use Rattle.hume_base.specs.declared.types.Ty.{Ty}
use Rattle.hume_model.specs.declared.core_tree.PatC.{PatC}
use Rattle.typed_core.specs.declared.typed_tree.TypedExpr.{TypedExpr, out-TypedExpr, map-TypedExpr}
use Rattle.typed_core.specs.declared.typed_tree.TypedExpr.TheOpen.{TypedExpr-F}
use Rattle.c_expressions.specs.declared.made.Destination.{Destination}
use Rattle.c_expressions.specs.declared.made.Destination.TheVariants as to
use Rattle.c_expressions.specs.declared.parts.PartTypes.{PartTypes}
use Rattle.c_expressions.specs.declared.parts.PartTypes.TheVariants as kind
use Rattle.c_analysis.specs.Targets.{Target}
use Rattle.c_expressions.specs.Expressions.{Part, element_in, field_in, part_of}

abbrev pub nowhere : ℕ → Destination
nowhere place = to.Nowhere

-- the destination of a part: elements go to the array, others to fields of the struct
abbrev pub part_in : PartTypes → Destination → ℕ → Destination
part_in (kind.Same ty) into = element_in into
part_in _ into = field_in into

abbrev pub type_at : PartTypes → ℕ → Option Ty
type_at (kind.Same ty) place = Some ty.now
type_at (kind.Fields tys) place = slice_get tys.now place
type_at (kind.Parameters tys) place = slice_get tys.now place

abbrev pub parts_of : Target → List TypedExpr → List Part
parts_of t es = map (part_of t) es

abbrev pub arm_of : Target → PatC × TypedExpr → PatC × Part
arm_of t arm = (arm.0, part_of t arm.1)

abbrev pub arms_of : Target → List (PatC × TypedExpr) → List (PatC × Part)
arms_of t arms = map (arm_of t) arms

-- its form, with its parts beside their ways
abbrev pub layer_of : Target → TypedExpr → TypedExpr-F Part
layer_of t e = map-TypedExpr TypedExpr Part (part_of t) (out-TypedExpr e)
