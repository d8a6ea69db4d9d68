-- What several expressions tell.
use Rattle.std.specs.Prelude.{List, map}
use Rattle.hume_base.specs.declared.types.Ty.{Ty}
use Rattle.typed_core.specs.declared.typed_tree.TypedExpr.{TypedExpr}
use Rattle.c_told.specs.Told.{joined, expression_tells}

abbrev pub expressions_tell : List TypedExpr → List Ty
expressions_tell parts = joined (map expression_tells parts)
