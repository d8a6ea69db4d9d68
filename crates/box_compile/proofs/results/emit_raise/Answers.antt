use Rattle.std.proofs.Common.{Option, OnOk, sym, subst}
use Rattle.hume_model.specs.declared.core_tree.Expr.{Expr}
use Rattle.hume_model.specs.declared.core_tree.Res.TheVariants as res
use Rattle.box_compile.specs.inner.Entries.{entry_in}
use Rattle.box_compile.proofs.Appending.{on_ok}
use Rattle.box_compile.proofs.ResultForms.{ResultDone, raise_alone_done, raise_with_done}
use Rattle.box_compile.proofs.results.emit_raise.Goals as goal

pub returns-in_ok-emit-in-None : goal.returns-in_ok-emit-in-None
returns-in_ok-emit-in-None c =
    let r = c.emit-in-None.result in
    subst (λ (part : Option Expr). OnOk r (ResultDone (entry_in c.args.entries.now) c.args.places.now c.args.high c.args.writer.now c.emit-in-None.new.self
    (res.Raise c.args.exn part))) (sym c.in-None.is)
    (on_ok r (raise_alone_done c.args.exn c.in_ok-emit-in-None.ensures) c.emit-in-None.ensures)

pub returns-in_ok-emit_expression-in-Some : goal.returns-in_ok-emit_expression-in-Some
returns-in_ok-emit_expression-in-Some c =
    let r = c.emit-in-Some.result in
    subst (λ (part : Option Expr). OnOk r (ResultDone (entry_in c.args.entries.now) c.args.places.now c.args.high c.args.writer.now c.emit-in-Some.new.self
    (res.Raise c.args.exn part))) (sym c.in-Some.is)
    (on_ok r (raise_with_done c.args.exn c.in-Some.part c.in_ok-emit_expression-in-Some.ensures) c.emit-in-Some.ensures)
