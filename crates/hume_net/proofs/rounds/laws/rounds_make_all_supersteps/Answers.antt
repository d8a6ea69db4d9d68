use Rattle.hume_net.proofs.rounds_lemmas.RoundCounts.{round_counted, counted_round, round_begins, round_ends, none_made, made_more, all_made}
use Rattle.hume_net.proofs.rounds.laws.rounds_make_all_supersteps.Goals as goal

pub returns-clause-counted : goal.returns-clause-counted
returns-clause-counted c span steps round positive is = round_counted span steps positive round is

pub returns-clause-each : goal.returns-clause-each
returns-clause-each c span steps round positive one within = counted_round span steps positive round one within

pub returns-clause-begin : goal.returns-clause-begin
returns-clause-begin c span steps round is = round_begins span steps round is

pub returns-clause-end : goal.returns-clause-end
returns-clause-end c span steps round is = round_ends span steps round is

pub returns-clause-none : goal.returns-clause-none
returns-clause-none c span steps = none_made span steps

pub returns-clause-more : goal.returns-clause-more
returns-clause-more c span steps done = made_more span steps done

pub returns-clause-all : goal.returns-clause-all
returns-clause-all c span steps positive = all_made span steps positive
