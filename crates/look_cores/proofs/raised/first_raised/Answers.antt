use Rattle.std.proofs.Common.{◌<◌, sym, ◌∙◌, arith}
use borrow.Author.Count.{below_more}
use Rattle.hume_base.specs.declared.limits.TheConstants.{MAX_EXCEPTIONS}
use Rattle.look_cores.proofs.raised.first_raised.Goals as goal

pub loop-exn-preserved : goal.loop-exn-preserved
loop-exn-preserved c =
    let known : c.loop-exn.exn < MAX_EXCEPTIONS = omega arith in
    below_more _ _ c.loop-exn.invariant (sym (c.in_ok-may_raise.ensures known) ∙ c.if-branch.false)
