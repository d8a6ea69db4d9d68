use Rattle.std.proofs.Common.{◌≡◌, ◌∙◌, ℕ, ap, arith}
use Rattle.hume_base.specs.declared.limits.TheConstants.{MAX_EXCEPTIONS}
use Rattle.hume_exceptions.specs.Sets.{has}
use Rattle.c_functions.specs.Raising.{some_below}
use Rattle.c_functions.proofs.raising.has_some.Goals as goal

pub returns : goal.returns
returns c =
    let end : c.loop-exn.exn ≡ MAX_EXCEPTIONS = omega (arith, c.loop-exn-test.false, c.loop-exn.auto.exn-end) in
    c.loop-exn.invariant ∙ ap (λ (n : ℕ). some_below n (has c.args.set)) end
