use Rattle.std.proofs.Common.{◌≡◌, ◌++◌, Some, drop}
use Rattle.check_typing.specs.Partial.{given}
use Rattle.check_signatures.specs.inner.Named.{all_by}
use Rattle.check_signatures.proofs.types.+written.Given as goal

abbrev pub invariant-written_all-loop-ty : goal.invariant-written_all-loop-ty
invariant-written_all-loop-ty l = given (all_by l.names (drop l.ty-index l.tys)) (λ others. Some (l.found ++ others)) ≡ all_by l.names l.tys
