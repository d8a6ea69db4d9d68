use Rattle.std.proofs.Common.{◌∙◌, sym, subst}
use Rattle.hume_base.specs.Least.{IsLeast, earlier_of}
use Rattle.check_names.specs.Misnamed.{BreaksNames}
use Rattle.check_names.proofs.NameRules.{least_misnamed}
use Rattle.check_names.proofs.misnamed.first_misnamed.Goals as goal

pub returns : goal.returns
returns c =
    subst (IsLeast (BreaksNames c.args.program.now.decls))
    (sym (c.earlier-3.ensures ∙ (λ i. earlier_of (c.earlier.ensures i) (c.earlier-2.ensures i))
    ∙ (λ i. earlier_of (earlier_of (c.of-repeated.ensures i) (c.of-unknown.ensures i)) (earlier_of (c.of-in_cycle.ensures i) (c.of-self_holding.ensures i)))))
    (least_misnamed c.args.program.now.decls c.in_ok-first_repeated.field-0 c.in_ok-first_unknown.field-0 c.in_ok-first_in_call_cycle.field-0 c.in_ok-first_self_holding.field-0
    c.in_ok-first_repeated.ensures c.in_ok-first_unknown.ensures c.in_ok-first_in_call_cycle.ensures c.in_ok-first_self_holding.ensures)
