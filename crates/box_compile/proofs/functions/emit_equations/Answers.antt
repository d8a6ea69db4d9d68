use Rattle.std.proofs.Common.{List, take, sym, subst}
use Rattle.hume_model.specs.declared.core_tree.EqC.{EqC}
use Rattle.box_compile.specs.inner.Emitted.{Emitted}
use Rattle.box_compile.specs.inner.Entries.{entry_in, EquationsBegin}
use Rattle.box_compile.proofs.Appending.{on_ok}
use Rattle.box_compile.proofs.Taken.{taken_more, taken_all}
use Rattle.box_compile.proofs.FunctionCode.{no_equations, equations_more, equations_done}
use Rattle.box_compile.proofs.functions.emit_equations.Goals as goal

pub loop-equation-init : goal.loop-equation-init
loop-equation-init c = no_equations

pub loop-equation-preserved : goal.loop-equation-preserved
loop-equation-preserved c =
    let equations : List EqC = c.args.equations.now in
    subst (λ (l : List EqC). Emitted c.args.writer.now c.emit_equation.new.writer (λ code from to. EquationsBegin code
    (entry_in c.args.entries.now) c.args.count from to l))
    (sym (taken_more equations c.loop-equation.equation-index c.equation-item.result c.loop-equation-test.true c.equation-item.is))
    (equations_more (take c.loop-equation.equation-index equations) c.equation-item.result c.loop-equation.invariant c.in_ok-emit_equation.ensures)

pub returns : goal.returns
returns c =
    let equations : List EqC = c.args.equations.now in
    let all : Emitted c.args.writer.now c.loop-equation.writer (λ code from to. EquationsBegin code
    (entry_in c.args.entries.now) c.args.count from to equations) =
    subst (λ (l : List EqC). Emitted c.args.writer.now c.loop-equation.writer (λ code from to. EquationsBegin code
    (entry_in c.args.entries.now) c.args.count from to l))
    (taken_all equations c.loop-equation.equation-index c.loop-equation-test.false) c.loop-equation.invariant in
    on_ok c.emit.result (equations_done equations all) c.emit.ensures
