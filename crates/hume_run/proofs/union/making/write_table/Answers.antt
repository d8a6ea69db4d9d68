use Rattle.std.proofs.Common.{[], ◌∷◌, ◌∙◌, refl, sym, subst, None}
use Rattle.hume_base.specs.Least.{IsLeast}
use Rattle.hume_model.specs.declared.core_tree.Core.{Core}
use Rattle.box_costs.specs.CostRules.{BreaksCosts}
use Rattle.trace_print.specs.table.Table.{total_line_of}
use Rattle.hume_calls.specs.Unions.{program_tables, union_core}
use Rattle.hume_run.proofs.UnionParts.{first_fail, later_end, members_there, table_is}
use Rattle.hume_run.proofs.union.making.write_table.Goals as goal

pub returns-in-Err-clause-ends : goal.returns-in-Err-clause-ends
returns-in-Err-clause-ends g c sources opened =
    first_fail _ _ (program_tables sources c.deref-2.result.now 1) (total_line_of (union_core c.args.union.now.programs.items) ∷ []) _ _
    (table_is sources c.args.union.now.programs.items c.deref-2.result.now (union_core c.args.union.now.programs.items) c.deref-2.ensures.value refl)
    (c.in-Err.ensures.ends sources 1
    (members_there sources c.args.union.now.programs.items c.deref-2.result.now _ c.deref.result.now c.deref.ensures.value c.deref-2.ensures.value
    opened.members))

pub write_total-requires-clause-within : goal.write_total-requires-clause-within
write_total-requires-clause-within g c =
    subst (λ (core : Core). IsLeast (BreaksCosts core) None) (sym c.core.ensures) c.requires.open.1.is_open.bounds.within

pub returns-clause-ends : goal.returns-clause-ends
returns-clause-ends g c sources opened =
    let made = c.in-Ok.ensures.ends sources 1
    (members_there sources c.args.union.now.programs.items c.deref-2.result.now _ c.deref.result.now c.deref.ensures.value c.deref-2.ensures.value
    opened.members) in
    later_end _ _ (program_tables sources c.deref-2.result.now 1) (total_line_of c.core.result.now ∷ []) _ _ _ _
    (table_is sources c.args.union.now.programs.items c.deref-2.result.now c.core.result.now c.deref-2.ensures.value (c.core.ensures ∙ opened.core))
    (record { same_names = c.in-Ok.ensures.same_names; made = made }) c.write_total.ensures.same_names c.write_total.ensures.ends
