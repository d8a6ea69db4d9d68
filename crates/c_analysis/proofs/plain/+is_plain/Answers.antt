use Rattle.std.proofs.Common.{◌∙◌, refl}
use Rattle.c_analysis.specs.Targets.{target}
use Rattle.c_analysis.proofs.PlainForms.{call_is, prim_plain}
use Rattle.c_analysis.proofs.plain.+is_plain.Goals as goal

pub is_plain-returns-in-Prim : goal.is_plain-returns-in-Prim
is_plain-returns-in-Prim t c =
    c.operation_is_plain.ensures
    ∙ prim_plain (target c.args.s) c.args.ty.now c.args.e.now c.in-Prim.op c.in-Prim.of c.in-Prim.parts c.in-Prim.of c.as_slice.result.now
    c.in-Prim.is refl c.as_slice.ensures

pub is_plain-returns-in-Call : goal.is_plain-returns-in-Call
is_plain-returns-in-Call t c =
    c.call_is_plain.ensures
    ∙ call_is (target c.args.s) c.args.ty.now c.args.e.now c.in-Call.function c.in-Call.parts c.as_slice-in-Call.result.now c.in-Call.is c.as_slice-in-Call.ensures
