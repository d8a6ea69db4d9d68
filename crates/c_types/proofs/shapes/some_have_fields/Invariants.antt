use Rattle.std.proofs.Common.{◌≡◌, drop}
use Rattle.c_types.specs.Shapes.{some_have_fields}
use Rattle.c_types.proofs.shapes.some_have_fields.Given as goal

abbrev pub invariant-loop-con : goal.invariant-loop-con
invariant-loop-con l = some_have_fields (drop l.con-index l.cons) ≡ some_have_fields l.cons
