use Rattle.hume_net.proofs.rounds_lemmas.Rounds.{round_piece, round_gained}
use Rattle.hume_net.proofs.rounds.laws.rounds_go_on_as_the_whole.Goals as goal

pub returns-clause-over : goal.returns-clause-over
returns-clause-over c core coming span steps done earlier later piece it filled = round_piece core coming span steps done earlier later piece it filled

pub returns-clause-gain : goal.returns-clause-gain
returns-clause-gain c core coming span steps done earlier later piece it filled n node is none =
    round_gained core coming span steps done earlier later piece it filled n node is none
