-- Functions and their parameters.
use Rattle.std.specs.Prelude.{ℕ, List, None}
use Rattle.c_tree.specs.declared.tree.CType.{CType}
use Rattle.c_tree.specs.declared.tree.CStm.{CStm}
use Rattle.c_tree.specs.declared.tree.CHead.{CHead}
use Rattle.c_tree.specs.declared.tree.CFunction.{CFunction}
use Rattle.c_tree.specs.declared.tree.CParameter.{CParameter}
use Rattle.c_tree.specs.declared.tree.Passing.{Passing}

-- a function without a comment
abbrev pub function : CHead → List CStm → CFunction
function head body = record { comment = None; head = head; body = body }

abbrev pub parameter : CType → Passing → List ℕ → CParameter
parameter type passing name = record { ty = type; passing = passing; name = name }
