use Rattle.std.proofs.Common.{◌∙◌, arith}
use Rattle.trace_print.proofs.ValuesPut.{first_put, more_put, all_put}
use Rattle.trace_print.proofs.wire_lines.put_all.Goals as goal

pub loop-i-init : goal.loop-i-init
loop-i-init c = (
  omega arith,
  first_put c.args.types.now c.args.ty.now c.args.cell.now.values _ _ c.nth.result.now c.requires.printable c.texts_are_bounded.ensures c.requires.holds c.nth.ensures c.print_value.ensures.text,
  c.print_value.ensures.room,
)

pub loop-i-preserved : goal.loop-i-preserved
loop-i-preserved c = (
  omega arith,
  more_put c.args.types.now c.args.ty.now c.args.cell.now.values _ _ _ _ c.nth-in-loop-i.result.now c.loop-i.i c.requires.printable c.texts_are_bounded.ensures c.requires.holds
      c.loop-i.invariant.0 c.nth-in-loop-i.ensures c.loop-i.invariant.1 c.put.ensures.bytes c.print_value-in-loop-i.ensures.text,
  c.print_value-in-loop-i.ensures.room ∙ c.put.ensures.room ∙ c.loop-i.invariant.2,
)

pub returns-clause-text : goal.returns-clause-text
returns-clause-text c = all_put c.args.types.now c.args.ty.now c.args.cell.now.values _ _ c.loop-i.i
    (omega (arith, c.loop-i-test.false, c.count-count.ensures.count)) c.loop-i.invariant.1
