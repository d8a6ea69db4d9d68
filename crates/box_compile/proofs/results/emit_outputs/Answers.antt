use Rattle.std.proofs.Common.{List, Option, ap, ◌∙◌, subst}
use Rattle.hume_model.specs.declared.core_tree.Expr.{Expr}
use Rattle.box_costs.specs.Bounds.{given_outs}
use Rattle.box_code.specs.Represents.{mask_of}
use Rattle.box_compile.specs.inner.Entries.{entry_in}
use Rattle.box_compile.proofs.Appending.{on_ok}
use Rattle.box_compile.proofs.Forms.{PartsDone}
use Rattle.box_compile.proofs.ResultForms.{outs_done}
use Rattle.box_compile.proofs.results.emit_outputs.Goals as goal

pub returns : goal.returns
returns c =
    let outs : List (Option Expr) = c.args.outs.now in
    let given : PartsDone (entry_in c.args.entries.now) c.args.places.now c.args.high c.args.writer.now c.emit_given.new.writer (given_outs outs) =
    subst (λ (l : List (Option Expr)). PartsDone (entry_in c.args.entries.now) c.args.places.now c.args.high c.args.writer.now c.emit_given.new.writer
    (given_outs l))
    c.as_slice-2.ensures c.in_ok-emit_given.ensures in
    on_ok c.emit.result (outs_done c.in_ok-mask.mask outs (c.in_ok-mask.ensures ∙ ap (λ (l : List
    (Option Expr)). mask_of l) c.as_slice.ensures) given) c.emit.ensures
