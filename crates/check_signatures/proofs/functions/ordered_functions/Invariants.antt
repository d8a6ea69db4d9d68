use Rattle.std.proofs.Common.{◌≡◌, drop, slice_get}
use Rattle.check_typing.specs.Partial.{given}
use Rattle.check_rules.specs.Declared.{function_of}
use Rattle.check_signatures.specs.inner.Named.{function_by, functions_in}
use Rattle.check_signatures.proofs.Gathered.{with_rest}
use Rattle.check_signatures.proofs.functions.ordered_functions.Given as goal

abbrev pub invariant-loop-number : goal.invariant-loop-number
invariant-loop-number l =
    with_rest (λ n. given (slice_get l.decls n) function_of) (function_by l.names) (drop l.number-index l.order) l.funs ≡ functions_in l.names l.decls l.order
