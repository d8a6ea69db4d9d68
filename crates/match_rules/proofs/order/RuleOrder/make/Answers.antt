use Rattle.std.proofs.Common.{◌≡◌, take, ap, sym, ◌∙◌, arith}
use Rattle.std.specs.List.{range_with_len}
use Rattle.std.proofs.lemmas.List.{length-set}
use Rattle.match_rules.proofs.Orders.{next_number, first_is_order}
use Rattle.match_rules.proofs.order.RuleOrder.make.Goals as goal

pub loop-i-preserved : goal.loop-i-preserved
loop-i-preserved c = (
  length-set c.loop-i.written c.loop-i.i c.loop-i.i ∙ c.loop-i.invariant.0,
  next_number c.loop-i.written c.loop-i.i (omega (arith, c.loop-i-test.true, c.requires, c.loop-i.invariant.0)) c.loop-i.invariant.1,
)

pub invariant_of-result : goal.invariant_of-result
invariant_of-result c =
    let end : c.loop-i.i ≡ c.args.rules = omega (arith, c.loop-i-test.false, c.loop-i.auto.i-end) in (
      c.requires,
      first_is_order c.args.rules (take c.args.rules c.loop-i.written)
          (ap (λ n. take n c.loop-i.written) (sym end) ∙ c.loop-i.invariant.1 ∙ ap (range_with_len 0) end),
    )
