use Rattle.std.proofs.Common.{ap, ◌∙◌, subst}
use Rattle.hume_net.specs.Lockstep.{mid}
use Rattle.hume_net.specs.Nodes.{IsOutputStream}
use Rattle.hume_net.specs.Sides.{part_of}
use Rattle.phase_workers.specs.Engines.{core_of, state_of}
use Rattle.run_log.proofs.Forgotten.{forgotten_none}
use Rattle.run_log.proofs.forgetting.execute.Goals as goal

pub execute-requires-clause-clear : goal.execute-requires-clause-clear
execute-requires-clause-clear c = λ n is.
    ap (λ s. (part_of s n).taken) c.forget_taken.ensures.state
    ∙ forgotten_none (core_of c.args.engine) (state_of c.args.engine) n (subst (λ core. IsOutputStream core n) c.forget_taken.ensures.core is)

pub returns-clause-state : goal.returns-clause-state
returns-clause-state c =
    c.execute.ensures.state ∙ ap (λ core. mid core (state_of c.forget_taken.new.engine)) c.forget_taken.ensures.core
    ∙ ap (mid (core_of c.args.engine)) c.forget_taken.ensures.state
