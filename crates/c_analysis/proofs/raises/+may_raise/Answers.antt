use Rattle.std.proofs.Common.{◌∙◌}
use Rattle.c_analysis.specs.Targets.{target}
use Rattle.c_analysis.proofs.RaiseForms.{call_raises, case_raises, con_raises, prim_raises, tuple_raises, vect_raises}
use Rattle.c_analysis.proofs.raises.+may_raise.Goals as goal

pub may_raise-returns-in-Con : goal.may_raise-returns-in-Con
may_raise-returns-in-Con t c = c.some_may_raise.ensures ∙ con_raises (target c.args.s) c.args.e.now c.in-Con.field-0 c.in-Con.parts c.as_slice.result.now c.in-Con.is c.as_slice.ensures

pub may_raise-returns-in-Tuple : goal.may_raise-returns-in-Tuple
may_raise-returns-in-Tuple t c = c.some_may_raise-in-Tuple.ensures ∙ tuple_raises (target c.args.s) c.args.e.now c.in-Tuple.parts c.as_slice-in-Tuple.result.now c.in-Tuple.is c.as_slice-in-Tuple.ensures

pub may_raise-returns-in-Vect : goal.may_raise-returns-in-Vect
may_raise-returns-in-Vect t c = c.some_may_raise-in-Vect.ensures ∙ vect_raises (target c.args.s) c.args.e.now c.in-Vect.parts c.as_slice-in-Vect.result.now c.in-Vect.is c.as_slice-in-Vect.ensures

pub may_raise-returns-in-Prim : goal.may_raise-returns-in-Prim
may_raise-returns-in-Prim t c = c.operation_raises.ensures ∙ prim_raises (target c.args.s) c.args.e.now c.in-Prim.op c.in-Prim.field-1 c.in-Prim.parts c.as_slice-in-Prim.result.now c.in-Prim.is c.as_slice-in-Prim.ensures

pub may_raise-returns-in-Call : goal.may_raise-returns-in-Call
may_raise-returns-in-Call t c = c.call_raises.ensures ∙ call_raises (target c.args.s) c.args.e.now c.in-Call.function c.in-Call.parts c.as_slice-in-Call.result.now c.in-Call.is c.as_slice-in-Call.ensures

pub may_raise-returns-in-Case : goal.may_raise-returns-in-Case
may_raise-returns-in-Case t c = c.case_raises.ensures ∙ case_raises (target c.args.s) c.args.e.now c.in-Case.of c.in-Case.part c.in-Case.arms c.deref-in-Case.result.now c.deref-in-Case-2.result.now c.as_slice-in-Case.result.now c.in-Case.is c.deref-in-Case.ensures c.deref-in-Case-2.ensures c.as_slice-in-Case.ensures
