use Rattle.phase_workers.specs.Engines.{core_of}
use Rattle.run_rounds.proofs.RoundMaking.{not_told}
use Rattle.run_rounds.proofs.rounds.tell_wires_now.Goals as goal

pub returns-else-traced-clause-ends : goal.returns-else-traced-clause-ends
returns-else-traced-clause-ends g c = not_told (core_of c.args.engine.now) c.args.traced _ _ _ c.if-traced.false
