use Rattle.std.proofs.Common.{ap, map, string_bytes}
use Rattle.hume_run.proofs.UnionReading.{stop_behind}
use Rattle.hume_run.proofs.union.reading.+add_others.Goals as goal

pub returns-in-Err-push-clause-memory : goal.returns-in-Err-push-clause-memory
returns-in-Err-push-clause-memory g t c is =
    stop_behind _ _ _ (map string_bytes c.in-Some.later.now) _ _ _ _ (ap (map string_bytes) c.in-Some.ensures.cases.0) c.as_str.ensures.value
    c.in-Some-find.ensures.place c.in-Ok.ensures.made c.in-Ok.ensures.text c.in-Ok.ensures.short
