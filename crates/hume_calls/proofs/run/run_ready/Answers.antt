use Rattle.std.proofs.Common.{inl, inr, refl, sym, subst}
use Rattle.run_rounds.specs.Streams.{ArePortsApart}
use Rattle.hume_calls.proofs.RunOpened.{places_opened, runs_opened}
use Rattle.hume_calls.proofs.run.run_ready.Goals as goal

pub returns-in-Ok : goal.returns-in-Ok
returns-in-Ok g c = inr (runs_opened _ _ _ _ _ _ _ _ c.in-Ok.ensures.core c.in-Ok.ensures.traced c.run_opened.ensures)

pub returns-in-Err : goal.returns-in-Err
returns-in-Err g c = inl (refl, refl)

pub run_opened-requires-clause-apart : goal.run_opened-requires-clause-apart
run_opened-requires-clause-apart g c κs within = subst ArePortsApart (sym c.in-Ok.ensures.core) c.requires.apart

pub open-requires-clause-ready : goal.open-requires-clause-ready
open-requires-clause-ready g c = c.requires.ready

pub run_opened-requires-clause-open : goal.run_opened-requires-clause-open
run_opened-requires-clause-open g c κs within = c.in-Ok.ensures.open

pub run_opened-requires-clause-places : goal.run_opened-requires-clause-places
run_opened-requires-clause-places g c κs within = places_opened _ _ _ _ _ c.in-Ok.ensures.core c.in-Ok.ensures.places c.requires.places

pub run_opened-requires-clause-out : goal.run_opened-requires-clause-out
run_opened-requires-clause-out g c κs within = c.requires.out
