use Rattle.std.proofs.Common.{◌≡◌, ◌++◌, Some, map, drop}
use Rattle.check_typing.specs.Partial.{given}
use Rattle.check_typing.specs.WrittenTypes.{all_there}
use Rattle.check_signatures.specs.inner.Named.{constructor_by}
use Rattle.check_signatures.proofs.data_types.constructors.Given as goal

abbrev pub invariant-loop-con : goal.invariant-loop-con
invariant-loop-con l =
    given (all_there (map (constructor_by l.names) (drop l.con-index l.cons))) (λ others. Some (l.found ++ others))
    ≡ all_there (map (constructor_by l.names) l.cons)
