use Rattle.check_names.specs.inner.KnownTables.{known_of}
use Rattle.check_names.proofs.Steps.{unknown_here, unknown_later}
use Rattle.check_names.proofs.known.KnownNames.lacks_one.Goals as goal

pub returns-then-lacks : goal.returns-then-lacks
returns-then-lacks c =
    unknown_here (known_of c.args.self.now) c.args.mentions.now c.loop-at.at (c.get-kind.result.0, c.get-kind.result.1.now) c.lacks.result _ c.get-kind.ensures c.lacks.ensures c.if-lacks.true c.loop-at.invariant

pub loop-at-preserved : goal.loop-at-preserved
loop-at-preserved c =
    unknown_later (known_of c.args.self.now) c.args.mentions.now c.loop-at.at (c.get-kind.result.0, c.get-kind.result.1.now) c.lacks.result _ c.get-kind.ensures c.lacks.ensures c.if-lacks.false c.loop-at.invariant
