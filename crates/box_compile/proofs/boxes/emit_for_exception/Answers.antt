use Rattle.std.proofs.Common.{Option, Some, None, sym, subst}
use Rattle.hume_model.specs.declared.core_tree.HandC.{HandC}
use Rattle.box_compile.specs.inner.Boxes.{HandlerFound}
use Rattle.box_compile.specs.inner.Emitted.{Emitted}
use Rattle.box_compile.specs.inner.Entries.{entry_in}
use Rattle.box_compile.proofs.BoxCode.{handler_none, handler_some}
use Rattle.box_compile.proofs.boxes.emit_for_exception.Goals as goal

pub returns-in-None : goal.returns-in-None
returns-in-None c =
    subst (λ (wanted : Option HandC). Emitted c.args.writer.now c.args.writer.now (λ code from to. HandlerFound code
    (entry_in c.args.entries.now) wanted None)) (sym c.in-None.ensures) handler_none

pub returns-in-Ok : goal.returns-in-Ok
returns-in-Ok c =
    subst (λ (wanted : Option HandC). Emitted c.args.writer.now c.emit_handler.new.writer (λ code from to. HandlerFound code
    (entry_in c.args.entries.now) wanted (Some c.in-Ok.place))) (sym c.in-Some.ensures)
    (handler_some c.in-Some.handler.now c.in-Ok.place c.in-Ok.ensures)
