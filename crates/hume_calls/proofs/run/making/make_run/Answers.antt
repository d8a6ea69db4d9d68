use Rattle.std.proofs.Common.{sym, subst, None}
use Rattle.hume_base.specs.Least.{IsLeast}
use Rattle.box_costs.specs.CostRules.{BreaksCosts}
use Rattle.hume_model.specs.declared.core_tree.Core.{Core}
use Rattle.run_rounds.specs.Opened.{core_in}
use Rattle.hume_calls.proofs.Telling.{table_made, table_fails}
use Rattle.hume_calls.proofs.RunOpened.{finishes_named, finishes_within, out_later, places_later}
use Rattle.hume_calls.proofs.Running.{table_failed, rounds_failed, run_made, finish_failed}
use Rattle.hume_calls.proofs.run.making.make_run.Goals as goal

pub write_table-requires-clause-within : goal.write_table-requires-clause-within
write_table-requires-clause-within g c = subst (λ (core : Core). IsLeast (BreaksCosts core) None) (sym c.core-core.ensures) c.requires.open.bounds.within

pub finish_acts-requires : goal.finish_acts-requires
finish_acts-requires g c = finishes_within _ _ _ _ _ _ _ _ c.requires.open.finishes c.requires.places c.requires.out
    c.in-Ok.ensures.same_names c.in-Ok-run.ensures.same_names c.deref-2.ensures.value

pub returns-in-Err : goal.returns-in-Err
returns-in-Err g c = table_failed _ _ _ _ _ _ (c.each_run_has_inputs.ensures _ c.requires.open.runnable)
    (table_fails _ _ c.requires.out (core_in c.args.opened.now.running) _ (rw c.core-core.ensures at c.in-Err.ensures.ends))

pub returns-in-Err-run : goal.returns-in-Err-run
returns-in-Err-run g c = rounds_failed _ _ _ _ _ _ _
    (table_made _ _ c.requires.out (core_in c.args.opened.now.running) _ (rw c.core-core.ensures at c.in-Ok.ensures.ends)) c.in-Err-run.ensures.ends

pub returns-in-Ok-finish_acts : goal.returns-in-Ok-finish_acts
returns-in-Ok-finish_acts g c = run_made _ _ _ _ _ _ _ _
    (table_made _ _ c.requires.out (core_in c.args.opened.now.running) _ (rw c.core-core.ensures at c.in-Ok.ensures.ends)) c.in-Ok-run.ensures.ends
    (c.in-Ok-finish_acts.ensures.ends _ (finishes_named _ _ _ _ _ _ _ _ c.requires.open.finishes c.requires.places c.requires.out
    c.in-Ok.ensures.same_names c.in-Ok-run.ensures.same_names c.deref-2.ensures.value))

pub returns-in-Err-finish_acts : goal.returns-in-Err-finish_acts
returns-in-Err-finish_acts g c = finish_failed _ _ _ _ _ _ _ _
    (table_made _ _ c.requires.out (core_in c.args.opened.now.running) _ (rw c.core-core.ensures at c.in-Ok.ensures.ends)) c.in-Ok-run.ensures.ends
    _ (c.in-Err-finish_acts.ensures.ends _ (finishes_named _ _ _ _ _ _ _ _ c.requires.open.finishes c.requires.places c.requires.out
    c.in-Ok.ensures.same_names c.in-Ok-run.ensures.same_names c.deref-2.ensures.value))

pub run-requires-clause-runnable : goal.run-requires-clause-runnable
run-requires-clause-runnable g c κs within = c.requires.open.runnable

pub run-requires-clause-places : goal.run-requires-clause-places
run-requires-clause-places g c κs within = places_later _ _ _ _ _ c.in-Ok.ensures.same_names c.deref.ensures.value c.requires.places

pub run-requires-clause-apart : goal.run-requires-clause-apart
run-requires-clause-apart g c κs within = c.requires.apart

pub run-requires-clause-out : goal.run-requires-clause-out
run-requires-clause-out g c κs within = out_later _ _ _ _ c.in-Ok.ensures.same_names c.requires.out

pub run-requires-clause-opened : goal.run-requires-clause-opened
run-requires-clause-opened g c κs within = c.requires.open.running
