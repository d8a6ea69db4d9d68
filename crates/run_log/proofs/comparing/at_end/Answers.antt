use Rattle.std.proofs.Common.{[], refl}
use Rattle.run_log.proofs.Verdicts.{failed_as, failed_none, not_ok}
use Rattle.run_log.proofs.comparing.at_end.Goals as goal

pub returns-in-Err-clause-asks : goal.returns-in-Err-clause-asks
returns-in-Err-clause-asks g c = λ name place. record {
  bytes = [];
  reads = failed_none name _ _ (failed_as _ c.read_at.result c.in-Err.failed c.in-Err.is c.read_at.ensures.failed name place);
  ends = refl;
  roomy = λ room. absurd (not_ok c.read_at.result c.in-Err.failed c.in-Err.is (c.read_at.ensures.roomy room));
}
