use Rattle.c_meaning.specs.Operators.{shift_left, shift_right}
use Rattle.c_meaning.proofs.Operations.{negative_shifted, shifted_far, shifted_negative}
use Rattle.c_meaning.proofs.laws.shifts_stay_within_the_type.Goals as goal

pub returns-clause-left : goal.returns-clause-left
returns-clause-left c = λ int. shifted_far int shift_left

pub returns-clause-right : goal.returns-clause-right
returns-clause-right c = λ int. shifted_far int shift_right

pub returns-clause-back : goal.returns-clause-back
returns-clause-back c = λ int. shifted_negative int shift_left

pub returns-clause-forth : goal.returns-clause-forth
returns-clause-forth c = λ int. shifted_negative int shift_right

pub returns-clause-negative : goal.returns-clause-negative
returns-clause-negative c = λ int. negative_shifted int shift_left

pub returns-clause-below : goal.returns-clause-below
returns-clause-below c = λ int. negative_shifted int shift_right
