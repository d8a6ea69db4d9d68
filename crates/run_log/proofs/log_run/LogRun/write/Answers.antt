use Rattle.run_log.proofs.Halves.{block_as}
use Rattle.run_log.proofs.log_run.LogRun.write.Goals as goal

pub returns-clause-ends : goal.returns-clause-ends
returns-clause-ends g c = block_as c.args.self.now.net _ c.args.self.now.superstep c.args.at _ _ c.write_block.result c.in-Some.is c.write_block.ensures.ends
