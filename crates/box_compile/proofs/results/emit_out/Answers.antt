use Rattle.std.proofs.Common.{◌≡◌, ◌+◌, Option, length, sym, subst, arith}
use Rattle.std.specs.Option.{option_to_list}
use Rattle.hume_model.specs.declared.core_tree.Expr.{Expr}
use Rattle.box_code.specs.Represents.{AllRepresent}
use Rattle.box_compile.specs.inner.Emitted.{Emitted}
use Rattle.box_compile.specs.inner.Entries.{entry_in}
use Rattle.box_compile.proofs.ResultForms.{none_given, one_given}
use Rattle.box_compile.proofs.results.emit_out.Goals as goal

pub returns-in-None : goal.returns-in-None
returns-in-None c =
    subst (λ (out : Option Expr). (c.args.high ≡ c.args.high + length (option_to_list out)) × Emitted c.args.writer.now c.args.writer.now
    (λ code from to. AllRepresent code (entry_in c.args.entries.now) c.args.places.now c.args.high from to (option_to_list out))) (sym c.in-None.is)
    (omega arith, none_given)

pub returns-in-Ok : goal.returns-in-Ok
returns-in-Ok c =
    subst (λ (out : Option Expr). (c.in_ok-top-in-Some.top ≡ c.args.high + length (option_to_list out)) × Emitted c.args.writer.now c.emit_expression.new.writer
    (λ code from to. AllRepresent code (entry_in c.args.entries.now) c.args.places.now c.args.high from to (option_to_list out))) (sym c.in-Some.is)
    (c.in_ok-top-in-Some.ensures, one_given c.in-Some.e c.in-Ok.ensures)
