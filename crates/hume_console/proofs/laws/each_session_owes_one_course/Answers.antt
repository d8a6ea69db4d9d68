use Rattle.hume_console.proofs.OneCourse.{one_course, some_course}
use Rattle.hume_console.proofs.laws.each_session_owes_one_course.Goals as goal

pub returns-clause-some : goal.returns-clause-some
returns-clause-some c text source names offers = some_course text source names offers c.each_run_has_inputs.ensures

pub returns-clause-one : goal.returns-clause-one
returns-clause-one c text source names offers = one_course text source names offers
