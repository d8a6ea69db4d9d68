use Rattle.check_tables.proofs.graph_lemmas.LeftOut.{all_where_no_cycle}
use Rattle.check_tables.proofs.graph.laws.orders_have_all_where_nothing_is_in_a_cycle.Goals as goal

pub returns : goal.returns
returns c = λ graph order is. all_where_no_cycle graph order is
