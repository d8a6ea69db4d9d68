use Rattle.std.proofs.Common.{◌∙◌, ap, refl, Err}
use Rattle.hume_calls.proofs.Answering.{out_of_memory, ready_runs, refused_run, run_text, unfit_text}
use Rattle.hume_calls.proofs.RunOpened.{apart_in, places_in}
use Rattle.hume_calls.proofs.run.run_text.Goals as goal

pub made_ready-requires : goal.made_ready-requires
made_ready-requires g c = (_, c.in-Ok.ensures.accepted)

pub returns-in-Err : goal.returns-in-Err
returns-in-Err g c place = refused_run c.args.steps c.args.workers place c.args.traced _ _ _ _ _ (c.end_unaccepted.ensures _ c.in-Err.ensures.error)

pub returns-in-Ok-find_places : goal.returns-in-Ok-find_places
returns-in-Ok-find_places g c place =
    run_text c.args.steps c.args.workers place c.args.traced _ _ c.in-Ok.accepted c.in-Ok.ensures.accepted _ _ _ c.in-Ok-find_places.ensures.fit
    (λ coming. c.wants_stand_before_rounds.ensures _ coming _ _) (ready_runs _ _ _ _ _ _ _ c.made_ready.ensures.core c.run_ready.ensures)

pub returns-in-Err-Unfit : goal.returns-in-Err-Unfit
returns-in-Err-Unfit g c place =
    unfit_text c.args.steps c.args.workers place c.args.traced _ _ _ _ _ _ c.in-Ok.accepted c.in-Err-Unfit.line c.in-Ok.ensures.accepted
    (c.find_places.ensures.unfit c.in-Err-Unfit.line (c.in-Err-Unfit.is ∙ ap Err c.in-Err-Unfit.field-0-is)) c.unfit_at.ensures c.refuse.ensures

pub returns-in-Err-NoMemory : goal.returns-in-Err-NoMemory
returns-in-Err-NoMemory g c place = out_of_memory _ _ _ _ _ _ (refl, refl)

pub run_ready-requires-clause-ready : goal.run_ready-requires-clause-ready
run_ready-requires-clause-ready g c κs within = c.made_ready.ensures.ready

pub run_ready-requires-clause-places : goal.run_ready-requires-clause-places
run_ready-requires-clause-places g c κs within = places_in _ _ _ _ c.made_ready.ensures.core c.in-Ok-find_places.ensures.places

pub run_ready-requires-clause-apart : goal.run_ready-requires-clause-apart
run_ready-requires-clause-apart g c κs within = apart_in _ _ c.made_ready.ensures.core c.in-Ok-find_places.ensures.apart

pub run_ready-requires-clause-out : goal.run_ready-requires-clause-out
run_ready-requires-clause-out g c κs within = c.requires.out
