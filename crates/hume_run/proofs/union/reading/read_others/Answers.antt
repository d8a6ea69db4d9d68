use Rattle.std.proofs.Common.{refl}
use Rattle.hume_run.proofs.UnionReading.{stops_now}
use Rattle.hume_run.proofs.union.reading.read_others.Goals as goal

pub returns-in-Err-clause-memory : goal.returns-in-Err-clause-memory
returns-in-Err-clause-memory g c is = stops_now _ _ _ refl
