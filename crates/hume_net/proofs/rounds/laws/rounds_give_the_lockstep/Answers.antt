use Rattle.hume_net.proofs.rounds_lemmas.Rounds.{rounds_piece, rounds_gained}
use Rattle.hume_net.proofs.rounds.laws.rounds_give_the_lockstep.Goals as goal

pub returns-clause-states : goal.returns-clause-states
returns-clause-states c core coming span steps feeds later rounds it = rounds_piece core coming span steps feeds later rounds it

pub returns-clause-gains : goal.returns-clause-gains
returns-clause-gains c core coming span steps feeds later rounds done it less n node is =
    rounds_gained core coming span steps feeds later rounds done it less n node is
