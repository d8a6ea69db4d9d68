use Rattle.hume_net.proofs.rounds_lemmas.Blocking.{lacks_values, blocks_at_its_end, filled_goes_on}
use Rattle.hume_net.proofs.rounds.laws.blocking_streams_lack_values.Goals as goal

pub returns-clause-lack : goal.returns-clause-lack
returns-clause-lack c core good is_bad span steps round n node is = lacks_values core good is_bad span steps round n node is

pub returns-clause-over : goal.returns-clause-over
returns-clause-over c core good is_bad span steps round n node is earlier later piece it none =
    blocks_at_its_end core good is_bad span steps round n node is earlier later piece it none

pub returns-clause-filled : goal.returns-clause-filled
returns-clause-filled c core good is_bad span steps round n node is earlier later piece it enough =
    filled_goes_on core good is_bad span steps round n node is earlier later piece it enough
