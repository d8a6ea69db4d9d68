use Rattle.std.proofs.Common.{◌≡◌, ◌++◌, reverse, drop}
use Rattle.check_scopes.proofs.signed.push_all.Given as goal

abbrev pub invariant-loop-ty : goal.invariant-loop-ty
invariant-loop-ty l = (l.context.0 ≡ l.fn.context.0) × (l.context.2 ≡ l.fn.context.2)
    × (reverse (drop l.ty-index l.types) ++ l.context.1 ≡ reverse l.types ++ l.fn.context.1)
