use Rattle.std.proofs.Common.{sym}
use Rattle.hume_calls.proofs.FitPorts.{found_place}
use Rattle.hume_c.proofs.Answering.{asked_nothing}
use Rattle.hume_c.proofs.call.ask.Goals as goal

pub answer-requires-clause-source : goal.answer-requires-clause-source
answer-requires-clause-source g c = found_place _ _ _ (sym c.in-Some-find-2.ensures.place)

pub answer-requires-clause-out : goal.answer-requires-clause-out
answer-requires-clause-out g c = found_place _ _ _ (sym c.in-Some-find.ensures.place)

pub returns-in_default-find-clause-run : goal.returns-in_default-find-clause-run
returns-in_default-find-clause-run g c = asked_nothing _ _ _
