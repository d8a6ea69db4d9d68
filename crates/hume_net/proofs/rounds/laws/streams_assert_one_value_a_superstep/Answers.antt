use Rattle.hume_net.proofs.rounds_lemmas.AheadOfStreams.{all_asserted, few_asserted}
use Rattle.hume_net.proofs.rounds.laws.streams_assert_one_value_a_superstep.Goals as goal

pub returns-clause-all : goal.returns-clause-all
returns-clause-all c core state k n node is = all_asserted core state k n node is

pub returns-clause-few : goal.returns-clause-few
returns-clause-few c core state k n node is = few_asserted core state k n node is
