use Rattle.std.proofs.Common.{◌≡◌, drop}
use Rattle.check_scopes.specs.inner.OneByOne.{with_each_written}
use Rattle.check_scopes.proofs.environment.Environment.+push_written.Given as goal

-- what is left leads from here to where all of them lead from the start
abbrev pub invariant-push_each_written-loop-ty : goal.invariant-push_each_written-loop-ty
invariant-push_each_written-loop-ty l =
    with_each_written (drop l.ty-index l.types) l.self ≡ with_each_written l.types l.fn.self
