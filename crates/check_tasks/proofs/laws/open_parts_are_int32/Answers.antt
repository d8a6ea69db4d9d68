use Rattle.check_tasks.proofs.ListLaws.{each_own_open}
use Rattle.check_tasks.proofs.laws.open_parts_are_int32.Goals as goal

pub returns : goal.returns
returns c = λ signatures scope parts all. each_own_open signatures scope parts all
