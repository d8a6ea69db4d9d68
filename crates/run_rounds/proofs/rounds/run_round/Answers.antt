use Rattle.std.proofs.Common.{◌∙◌}
use Rattle.run_rounds.proofs.RoundMaking.{parts_over, round_told, values_failed}
use Rattle.run_rounds.proofs.rounds.run_round.Goals as goal

pub drain_outputs-requires-clause-parts : goal.drain_outputs-requires-clause-parts
drain_outputs-requires-clause-parts g c =
    parts_over c.args.engine.now c.round.new.self c.args.supersteps c.round.ensures.core c.round.ensures.state c.requires.parts

pub returns-in-Err-clause-queues : goal.returns-in-Err-clause-queues
returns-in-Err-clause-queues g c n = c.drain_outputs.ensures.queues n ∙ c.round.ensures.queues n

pub returns-in-Err-clause-ends : goal.returns-in-Err-clause-ends
returns-in-Err-clause-ends g c =
    values_failed c.args.engine.now c.round.new.self c.args.supersteps c.round.ensures.core c.round.ensures.state c.args.traced c.args.round _ _ c.in-Err.ensures.ends

pub returns-clause-queues : goal.returns-clause-queues
returns-clause-queues g c n = c.drain_outputs.ensures.queues n ∙ c.round.ensures.queues n

pub returns-clause-ends : goal.returns-clause-ends
returns-clause-ends g c =
    round_told c.args.engine.now c.round.new.self c.args.supersteps c.round.ensures.core c.round.ensures.state c.args.traced c.args.round
    c.drain_outputs.new.engine _ _ _ _ c.in-Ok.ensures.ends c.drain_outputs.ensures.core c.in-Ok.ensures.clears c.tell_wires_now.ensures.ends
