use Rattle.std.proofs.Common.{sym, subst, None}
use Rattle.hume_base.specs.Least.{IsLeast}
use Rattle.box_costs.specs.CostRules.{BreaksCosts}
use Rattle.hume_model.specs.declared.core_tree.Core.{Core}
use Rattle.demo_rounds.specs.Opened.{core_in}
use Rattle.hume_run.proofs.DemoShown.{total_failed, chains_failed, demo_ends}
use Rattle.hume_run.proofs.demo.showing.tell.Goals as goal

pub write_total-requires-clause-within : goal.write_total-requires-clause-within
write_total-requires-clause-within g c = subst (λ (core : Core). IsLeast (BreaksCosts core) None) (sym c.core-core.ensures) c.requires.open.bounds.within

pub returns-in-Err : goal.returns-in-Err
returns-in-Err g c = total_failed c.args.steps (core_in c.args.opened.now.demo) _ _ c.requires.out _ (rw c.core-core.ensures at c.in-Err.ensures.ends)

pub returns-in-Err-run : goal.returns-in-Err-run
returns-in-Err-run g c = chains_failed c.args.steps (core_in c.args.opened.now.demo) _ _ c.requires.out _ (rw c.core-core.ensures at c.in-Ok.ensures.ends) _
    c.in-Ok.ensures.same_names c.in-Err-run.ensures.ends

pub returns : goal.returns
returns g c = demo_ends c.args.steps (core_in c.args.opened.now.demo) _ _ c.requires.out _ (rw c.core-core.ensures at c.in-Ok.ensures.ends) _ _ _
    c.in-Ok.ensures.same_names c.in-Ok-run.ensures.ends c.in-Ok-run.ensures.same_names c.finish_act.ensures.ends
