use Rattle.phase_workers.specs.Engines.{core_of}
use Rattle.run_rounds.proofs.RunEnds.{rounds_end}
use Rattle.run_rounds.proofs.RunStarts.{stands_first}
use Rattle.run_rounds.proofs.run.Running.make_rounds.Goals as goal

pub make_rounds-requires-clause-stands : goal.make_rounds-requires-clause-stands
make_rounds-requires-clause-stands g c κs within =
    stands_first (core_of c.args.self.now.engine) c.args.self.now.traced c.args.steps _ c.args.self.now.engine c.requires.opened.fresh

pub returns-clause-ends : goal.returns-clause-ends
returns-clause-ends g c =
    rounds_end (core_of c.args.self.now.engine) c.requires.runnable c.args.self.now.traced c.args.steps _ _ _ c.ranges.steps.fits _ c.make_rounds.ensures.ends
