use Rattle.std.proofs.Common.{ap, map}
use Rattle.hume_console.proofs.BeginsCall.{serves}
use Rattle.hume_console.proofs.CourseAnswers.{served_answers}
use Rattle.hume_console.proofs.starting.start.Goals as goal

pub serve-requires-clause-begun : goal.serve-requires-clause-begun
serve-requires-clause-begun g c κs within =
    serves c.args.ready.accepted c.args.ready.places c.in-Ok-open.opened _ _ _ c.requires.accepted c.in-Ok-open.ensures (ap (map _) c.reserve.ensures.items)
    c.requires.begun

pub returns-in-Ok-serve-clause-usage : goal.returns-in-Ok-serve-clause-usage
returns-in-Ok-serve-clause-usage g c =
    let s = serves c.args.ready.accepted c.args.ready.places c.in-Ok-open.opened _ _ _ c.requires.accepted c.in-Ok-open.ensures (ap (map _) c.reserve.ensures.items)
    c.requires.begun in
    served_answers s.0 _ _ (c.in-Ok-serve.ensures s.0 s.1 s.2)
