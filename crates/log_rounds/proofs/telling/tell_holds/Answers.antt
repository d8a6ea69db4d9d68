use Rattle.std.proofs.Common.{refl}
use Rattle.log_rounds.specs.VerifyActs.{holds_line}
use Rattle.log_rounds.proofs.Tellings.{written_out}
use Rattle.log_rounds.proofs.telling.tell_holds.Goals as goal

pub returns-clause-ends : goal.returns-clause-ends
returns-clause-ends g c = written_out holds_line holds_line c.args.out _ _ _ refl c.requires c.write_act.ensures.ends
