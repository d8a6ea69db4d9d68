use Rattle.hume_front.proofs.OneRefusal.{one_refusal, accepted_unbroken}
use Rattle.hume_front.proofs.SomeAnswer.{some_answer}
use Rattle.hume_front.proofs.laws.one_answer.Goals as goal

pub returns-clause-some : goal.returns-clause-some
returns-clause-some c = some_answer

pub returns-clause-refusal : goal.returns-clause-refusal
returns-clause-refusal c = one_refusal

pub returns-clause-apart : goal.returns-clause-apart
returns-clause-apart c = accepted_unbroken
