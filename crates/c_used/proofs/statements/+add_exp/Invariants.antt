use Rattle.std.proofs.Common.{◌≡◌, drop}
use Rattle.c_used.specs.Uses.{exps_use}
use Rattle.c_used.specs.inner.Names.{with_names}
use Rattle.c_used.proofs.statements.+add_exp.Given as goal

abbrev pub invariant-add_exps-loop-exp : goal.invariant-add_exps-loop-exp
invariant-add_exps-loop-exp l = with_names l.names (exps_use (drop l.exp-index l.exps)) ≡ with_names l.initial.names (exps_use l.exps)
