use Rattle.std.proofs.Common.{◌≡◌, ◌++◌, Some, drop}
use Rattle.check_typing.specs.Partial.{given}
use Rattle.check_typing.specs.WrittenTypes.{all_written}
use Rattle.check_wires.proofs.types.types.+written.Given as goal

abbrev pub invariant-written_all-loop-ty : goal.invariant-written_all-loop-ty
invariant-written_all-loop-ty l = given (all_written l.table.types (drop l.ty-index l.tys)) (λ others. Some (l.found ++ others)) ≡ all_written l.table.types l.tys
