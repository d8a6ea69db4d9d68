use Rattle.check_tables.proofs.graph_lemmas.Orders.{same_order}
use Rattle.check_tables.proofs.graph.laws.orders_are_unique.Goals as goal

pub returns : goal.returns
returns c = λ graph a b p q. same_order graph a b p q
