use Rattle.std.proofs.Common.{refl, subst, sym, None}
use Rattle.hume_base.specs.Least.{IsLeast}
use Rattle.box_costs.specs.CostRules.{BreaksCosts}
use Rattle.hume_console.proofs.Begins.{table_core, table_ends, table_out, table_within}
use Rattle.hume_console.proofs.serving.tell_table.Goals as goal

pub write_table-requires-clause-within : goal.write_table-requires-clause-within
write_table-requires-clause-within g c =
    let r = c.requires.begun in
    subst (λ core. IsLeast (BreaksCosts core) None) (sym (table_core r.0 c.args.opened.now _ r.2 r.3 c.core.result.now c.core.ensures)) r.6

pub write_table-requires-clause-place : goal.write_table-requires-clause-place
write_table-requires-clause-place g c =
    let r = c.requires.begun in table_within _ c.args.ports.now _ (table_out r.0 c.args.opened.now _ r.2 r.3)

pub returns-clause-ends : goal.returns-clause-ends
returns-clause-ends g c call gone begun opens =
    table_ends call c.args.opened.now _ begun opens c.core.result.now c.core.ensures _ refl refl refl _ _ c.write_table.ensures.ends
