use Rattle.hume_net.proofs.rounds_lemmas.Blocking.{blocking_is, nothing_blocks, first_is, none_is_blocked}
use Rattle.hume_net.proofs.rounds.laws.blocked_rounds_are_found.Goals as goal

pub returns-clause-stream : goal.returns-clause-stream
returns-clause-stream c core good is_bad span steps round n within holds none = blocking_is core good is_bad span steps round n within holds none

pub returns-clause-no_stream : goal.returns-clause-no_stream
returns-clause-no_stream c core good is_bad span steps round none = nothing_blocks core good is_bad span steps round none

pub returns-clause-round : goal.returns-clause-round
returns-clause-round c core good is_bad span steps round n positive is holds none = first_is core good is_bad span steps round n positive is holds none

pub returns-clause-no_round : goal.returns-clause-no_round
returns-clause-no_round c core good is_bad span steps none = none_is_blocked core good is_bad span steps none
