use Rattle.std.proofs.Common.{◌∙◌, ap, refl, Err}
use Rattle.hume_calls.proofs.Answering.{out_of_memory}
use Rattle.hume_run.proofs.LogTexts.{apart_ports, log_answers, refused_log, unfit_log}
use Rattle.hume_run.proofs.log.log_text.Goals as goal

pub made_ready-requires : goal.made_ready-requires
made_ready-requires g c = (_, c.in-Ok.ensures.accepted)

pub returns-in-Err : goal.returns-in-Err
returns-in-Err g c place at = refused_log c.args.steps place at c.args.verify _ _ _ _ _ (c.end_unaccepted.ensures _ c.in-Err.ensures.error)

pub returns-in-Ok-find_places : goal.returns-in-Ok-find_places
returns-in-Ok-find_places g c place at =
    log_answers c.args.steps place at _ _ c.in-Ok.accepted c.in-Ok.ensures.accepted c.requires.log.only c.requires.log.apart _ _ _ c.in-Ok-find_places.ensures.fit
    c.logged_runs_read_their_ports.ensures.record c.logged_runs_read_their_ports.ensures.verify c.args.verify _ c.args.log c.made_ready.ensures.core
    c.requires.log.place c.log_ready.ensures

pub returns-in-Err-Unfit : goal.returns-in-Err-Unfit
returns-in-Err-Unfit g c place at =
    unfit_log c.args.steps place at c.args.verify _ _ c.requires.log.only _ _ _ _ c.in-Ok.accepted c.in-Err-Unfit.line c.in-Ok.ensures.accepted
    (c.find_places.ensures.unfit c.in-Err-Unfit.line (c.in-Err-Unfit.is ∙ ap Err c.in-Err-Unfit.field-0-is)) c.unfit_at.ensures c.refuse.ensures

pub returns-in-Err-NoMemory : goal.returns-in-Err-NoMemory
returns-in-Err-NoMemory g c place at = out_of_memory _ _ _ _ _ _ (refl, refl)

pub log_ready-requires-clause-log : goal.log_ready-requires-clause-log
log_ready-requires-clause-log g c = (
  _,
  c.requires.log.place,
  apart_ports _ _ _ c.in-Ok.accepted.core c.made_ready.result.core c.made_ready.ensures.core c.requires.log.only c.in-Ok-find_places.ensures.fit,
)
