use Rattle.hume_net.proofs.rounds_lemmas.Streams.{others_take_nothing, others_assert_nothing}
use Rattle.hume_net.proofs.rounds.laws.other_nodes_take_and_assert_nothing.Goals as goal

pub returns-clause-take : goal.returns-clause-take
returns-clause-take c core state k n node is other = others_take_nothing core n node is state k other

pub returns-clause-assert : goal.returns-clause-assert
returns-clause-assert c core state k n node is other = others_assert_nothing core n node is state k other
