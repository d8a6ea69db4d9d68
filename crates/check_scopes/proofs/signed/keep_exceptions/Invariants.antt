use Rattle.std.proofs.Common.{◌≡◌, ◌++◌, map, drop}
use Rattle.check_scopes.specs.inner.Kept.{carried_type}
use Rattle.check_scopes.proofs.signed.keep_exceptions.Given as goal

abbrev pub invariant-loop-exception : goal.invariant-loop-exception
invariant-loop-exception l = (l.context.0 ≡ l.fn.context.0) × (l.context.1 ≡ l.fn.context.1)
    × (l.context.2 ++ map carried_type (drop l.exception-index l.exceptions) ≡ l.fn.context.2 ++ map carried_type l.exceptions)
