use Rattle.std.proofs.Common.{inl, inr, refl, sym, subst}
use Rattle.hume_model.specs.declared.core_tree.Core.{Core}
use Rattle.run_rounds.specs.Streams.{ArePortsApart}
use Rattle.log_rounds.specs.Opened.{IsApart}
use Rattle.hume_calls.proofs.RunOpened.{places_in}
use Rattle.hume_run.proofs.LogTexts.{ends_of}
use Rattle.hume_run.proofs.log.log_ready.Goals as goal

pub run_logged-requires-clause-steps : goal.run_logged-requires-clause-steps
run_logged-requires-clause-steps g c = c.requires.steps

pub run_logged-requires-clause-runnable : goal.run_logged-requires-clause-runnable
run_logged-requires-clause-runnable g c = c.in-Ok.ensures.runnable

pub run_logged-requires-clause-fresh : goal.run_logged-requires-clause-fresh
run_logged-requires-clause-fresh g c = c.in-Ok.ensures.fresh

pub run_logged-requires-clause-places : goal.run_logged-requires-clause-places
run_logged-requires-clause-places g c = places_in _ _ _ _ c.in-Ok.ensures.core c.requires.places

pub run_logged-requires-clause-apart : goal.run_logged-requires-clause-apart
run_logged-requires-clause-apart g c = subst ArePortsApart (sym c.in-Ok.ensures.core) c.requires.apart

pub run_logged-requires-clause-log : goal.run_logged-requires-clause-log
run_logged-requires-clause-log g c =
    (c.requires.log.0, c.requires.log.1, subst (λ (core : Core). IsApart core c.requires.log.0) (sym c.in-Ok.ensures.core) c.requires.log.2)

pub run_logged-requires-clause-out : goal.run_logged-requires-clause-out
run_logged-requires-clause-out g c = c.requires.out

pub returns-in-Ok : goal.returns-in-Ok
returns-in-Ok g c = inr (λ port place. ends_of c.args.verify _ _ _ _ _ _ _ c.in-Ok.ensures.core (c.run_logged.ensures port place))

pub returns-in-Err : goal.returns-in-Err
returns-in-Err g c = inl (refl, refl)
