use Rattle.std.proofs.Common.{ap, ◌∙◌, subst, Vec, Global, Ok, Err}
use Rattle.phase_workers.specs.Runnable.{IsRunnable}
use Rattle.run_rounds.specs.declared.members.Member.{Member}
use Rattle.run_rounds.specs.Members.{views}
use Rattle.run_rounds.specs.Opened.{core_in, traced_in}
use Rattle.hume_calls.proofs.RunOpened.{finishes_within, out_later, places_later}
use Rattle.hume_run.proofs.UnionParts.{apart_still, lines_fail, lines_made, members_end, places_still, union_finishes_named}
use Rattle.hume_run.proofs.UnionRunning.{finish_failed, rounds_failed, run_made, table_failed}
use Rattle.hume_run.proofs.union.making.make_in_turn.Goals as goal

pub returns-in-Err : goal.returns-in-Err
returns-in-Err g c sources opened = table_failed _ _ _ _ _ _ (c.each_run_has_inputs.ensures _ (subst IsRunnable opened.core opened.is_open.runnable))
    (lines_fail _ _ c.requires.out _ _ (c.in-Err.ensures.ends sources opened))

pub returns-in-Err-run_union : goal.returns-in-Err-run_union
returns-in-Err-run_union g c sources opened = rounds_failed _ _ _ _ _ _ _
    (lines_made _ _ c.requires.out _ _ (c.in-Ok.ensures.ends sources opened))
    (members_end _ _ _ _ _ _ _ _ (Err c.in-Err-run_union.failed) (ap core_in c.in-Ok.ensures.running ∙ opened.core)
    (ap views c.deref.ensures.value ∙ ap (λ (members : Vec Member Global). views members.items) c.in-Ok.ensures.members ∙ opened.members)
    (ap traced_in c.in-Ok.ensures.running ∙ opened.untraced) c.in-Err-run_union.ensures.ends)

pub returns-in-Ok-finish_acts : goal.returns-in-Ok-finish_acts
returns-in-Ok-finish_acts g c sources opened = run_made _ _ _ _ _ _ _ _
    (lines_made _ _ c.requires.out _ _ (c.in-Ok.ensures.ends sources opened))
    (members_end _ _ _ _ _ _ _ _ (Ok c.in-Ok-run_union.blocked) (ap core_in c.in-Ok.ensures.running ∙ opened.core)
    (ap views c.deref.ensures.value ∙ ap (λ (members : Vec Member Global). views members.items) c.in-Ok.ensures.members ∙ opened.members)
    (ap traced_in c.in-Ok.ensures.running ∙ opened.untraced) c.in-Ok-run_union.ensures.ends)
    (c.in-Ok-finish_acts.ensures.ends _ (union_finishes_named _ _ _ _ _ _ _ _ _ (ap core_in c.in-Ok.ensures.running ∙ opened.core)
    (c.in-Ok.ensures.open sources opened).is_open.finishes
    (places_still _ _ _ _ _ c.in-Ok.ensures.running c.in-Ok.ensures.places c.requires.places) c.requires.out
    c.in-Ok.ensures.same_names c.in-Ok-run_union.ensures.same_names c.deref-3.ensures.value))

pub returns-in-Err-finish_acts : goal.returns-in-Err-finish_acts
returns-in-Err-finish_acts g c sources opened = finish_failed _ _ _ _ _ _ _ _
    (lines_made _ _ c.requires.out _ _ (c.in-Ok.ensures.ends sources opened))
    (members_end _ _ _ _ _ _ _ _ (Ok c.in-Ok-run_union.blocked) (ap core_in c.in-Ok.ensures.running ∙ opened.core)
    (ap views c.deref.ensures.value ∙ ap (λ (members : Vec Member Global). views members.items) c.in-Ok.ensures.members ∙ opened.members)
    (ap traced_in c.in-Ok.ensures.running ∙ opened.untraced) c.in-Ok-run_union.ensures.ends)
    _ (c.in-Err-finish_acts.ensures.ends _ (union_finishes_named _ _ _ _ _ _ _ _ _ (ap core_in c.in-Ok.ensures.running ∙ opened.core)
    (c.in-Ok.ensures.open sources opened).is_open.finishes
    (places_still _ _ _ _ _ c.in-Ok.ensures.running c.in-Ok.ensures.places c.requires.places) c.requires.out
    c.in-Ok.ensures.same_names c.in-Ok-run_union.ensures.same_names c.deref-3.ensures.value))

pub run_union-requires-clause-runnable : goal.run_union-requires-clause-runnable
run_union-requires-clause-runnable g c κs within = (c.in-Ok.ensures.open c.requires.open.0 c.requires.open.1).is_open.runnable

pub run_union-requires-clause-places : goal.run_union-requires-clause-places
run_union-requires-clause-places g c κs within = places_later _ _ _ _ _ c.in-Ok.ensures.same_names c.deref-2.ensures.value
    (places_still _ _ _ _ _ c.in-Ok.ensures.running c.in-Ok.ensures.places c.requires.places)

pub run_union-requires-clause-apart : goal.run_union-requires-clause-apart
run_union-requires-clause-apart g c κs within = apart_still _ _ c.in-Ok.ensures.running c.requires.apart

pub run_union-requires-clause-out : goal.run_union-requires-clause-out
run_union-requires-clause-out g c κs within = out_later _ _ _ _ c.in-Ok.ensures.same_names c.requires.out

pub run_union-requires-clause-opened : goal.run_union-requires-clause-opened
run_union-requires-clause-opened g c κs within = (c.in-Ok.ensures.open c.requires.open.0 c.requires.open.1).is_open.running

pub finish_acts-requires : goal.finish_acts-requires
finish_acts-requires g c = finishes_within _ _ _ _ _ _ _ _ (c.in-Ok.ensures.open c.requires.open.0 c.requires.open.1).is_open.finishes
    (places_still _ _ _ _ _ c.in-Ok.ensures.running c.in-Ok.ensures.places c.requires.places) c.requires.out
    c.in-Ok.ensures.same_names c.in-Ok-run_union.ensures.same_names c.deref-3.ensures.value
