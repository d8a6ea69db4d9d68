use Rattle.std.proofs.Common.{◌≡◌, ◌++◌, map, drop}
use Rattle.check_scopes.specs.Known.{signature_type}
use Rattle.check_scopes.proofs.signed.keep_functions.Given as goal

abbrev pub invariant-loop-function : goal.invariant-loop-function
invariant-loop-function l = (l.context.0 ≡ l.fn.context.0) × (l.context.1 ≡ l.fn.context.1)
    × (l.context.2 ++ map signature_type (drop l.function-index l.functions) ≡ l.fn.context.2 ++ map signature_type l.functions)
