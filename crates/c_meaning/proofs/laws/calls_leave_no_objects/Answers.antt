use Rattle.c_meaning.proofs.Counts.{calls_leave_none}
use Rattle.c_meaning.proofs.laws.calls_leave_no_objects.Goals as goal

pub returns : goal.returns
returns c = calls_leave_none
