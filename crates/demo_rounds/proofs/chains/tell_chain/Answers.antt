use Rattle.std.proofs.Common.{rules}
use Rattle.trace_print.proofs.LinesInTurn.{nothing_written}
use Rattle.demo_rounds.proofs.chains.tell_chain.Goals as goal

pub returns-in-Some-Rules-clause-ends : goal.returns-in-Some-Rules-clause-ends
returns-in-Some-Rules-clause-ends g c = nothing_written _ _ _ (search rules)

pub returns-in-Some-Rules-2-clause-ends : goal.returns-in-Some-Rules-2-clause-ends
returns-in-Some-Rules-2-clause-ends g c = nothing_written _ _ _ (search rules)

pub returns-in-Some-Rules-3-clause-ends : goal.returns-in-Some-Rules-3-clause-ends
returns-in-Some-Rules-3-clause-ends g c = nothing_written _ _ _ (search rules)
