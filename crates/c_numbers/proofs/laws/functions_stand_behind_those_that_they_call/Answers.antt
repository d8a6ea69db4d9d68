use Rattle.c_numbers.proofs.Standing.{all_are_declared, declared_stays}
use Rattle.c_numbers.proofs.laws.functions_stand_behind_those_that_they_call.Goals as goal

pub returns-clause-there : goal.returns-clause-there
returns-clause-there c = all_are_declared

pub returns-clause-later : goal.returns-clause-later
returns-clause-later c = declared_stays
