use Rattle.std.proofs.Common.{◌≡◌, ◌++◌, map, drop}
use Rattle.check_scopes.specs.inner.Kept.{fields_type}
use Rattle.check_scopes.proofs.signed.keep_constructors.Given as goal

abbrev pub invariant-loop-constructor : goal.invariant-loop-constructor
invariant-loop-constructor l = (l.context.0 ≡ l.fn.context.0) × (l.context.1 ≡ l.fn.context.1)
    × (l.context.2 ++ map fields_type (drop l.constructor-index l.constructors) ≡ l.fn.context.2 ++ map fields_type l.constructors)
