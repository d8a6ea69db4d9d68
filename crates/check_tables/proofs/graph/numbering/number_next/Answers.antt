use Rattle.std.proofs.Common.{Some, None, sym, subst}
use Rattle.hume_base.specs.Least.{IsFirst}
use Rattle.check_tables.specs.graph.Orders.{IsNext}
use Rattle.check_tables.proofs.graph.numbering.number_next.Goals as goal

pub number_node-requires-clause-next : goal.number_node-requires-clause-next
number_node-requires-clause-next c = subst (λ o. IsFirst (IsNext c.args.graph.now o) (Some c.in-Some.a)) (sym c.in-Some.ensures.order) c.in-Some.ensures.next

pub returns-in-None-clause-whole : goal.returns-in-None-clause-whole
returns-in-None-clause-whole c = λ _. subst (λ o. IsFirst (IsNext c.args.graph.now o) None) (sym c.in-None.ensures.order) c.in-None.ensures.next
