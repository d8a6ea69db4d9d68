use Rattle.parse_errors.proofs.Answered.{answered, one_place, none_stands}
use Rattle.parse_errors.proofs.laws.each_list_has_one_answer.Goals as goal

pub returns-clause-some : goal.returns-clause-some
returns-clause-some c = answered

pub returns-clause-one : goal.returns-clause-one
returns-clause-one c = one_place

pub returns-clause-apart : goal.returns-clause-apart
returns-clause-apart c = none_stands
