use Rattle.std.proofs.Common.{length, refl, sym, ◌∙◌, subst}
use Rattle.box_code.specs.Machine.{outs_in, setting_of}
use Rattle.box_machine.specs.inner.PutOutputs.{HoldsEnd}
use Rattle.box_machine.specs.inner.Stepping.{EndsIn}
use Rattle.box_machine.proofs.Closing.{few, holds_end, outs_fit}
use Rattle.box_machine.proofs.run.run_on.Goals as goal

pub run_code-halted-requires-clause-ends : goal.run_code-halted-requires-clause-ends
run_code-halted-requires-clause-ends c = (
  setting_of c.args.types.now c.args.program.now,
  record { types = c.args.types.now; same = refl },
  subst (λ o. EndsIn o (length c.args.words.now) c.args.heap.now.room) (sym c.requires.ends.is) c.requires.ends.fits,
)

pub write_outputs-base-requires-clause-enough : goal.write_outputs-base-requires-clause-enough
write_outputs-base-requires-clause-enough c =
    let halted = c.run_code-halted in
    let setting = setting_of c.args.types.now c.args.program.now in
    let is = sym (halted.ensures.end setting (record { types = c.args.types.now; same = refl })) ∙ c.requires.ends.is in
    few c.args.types.now c.args.program.now halted.result.registers halted.new.words halted.new.heap halted.result.mask halted.result.left
    (outs_in halted.result.mask c.as_slice-outs.result.now)
    c.as_slice-outs.result.now c.requires.ends.end c.as_slice-outs.ensures refl halted.ensures.top is

pub write_outputs-base-requires-clause-room : goal.write_outputs-base-requires-clause-room
write_outputs-base-requires-clause-room c =
    let halted = c.run_code-halted in
    let setting = setting_of c.args.types.now c.args.program.now in
    let is = sym (halted.ensures.end setting (record { types = c.args.types.now; same = refl })) ∙ c.requires.ends.is in (
      c.requires.ends.end.1.outs,
      outs_fit c.args.types.now c.args.program.now halted.result.registers halted.new.words halted.new.heap halted.result.mask halted.result.left
          (outs_in halted.result.mask c.as_slice-outs.result.now)
          c.as_slice-outs.result.now c.requires.ends.end c.as_slice-outs.ensures refl halted.ensures.top is c.args.out.now
          c.requires.ends.outputs_room,
    )

pub returns-clause-end : goal.returns-clause-end
returns-clause-end c = λ end is.
    let halted = c.run_code-halted in
    let setting = setting_of c.args.types.now c.args.program.now in
    let reached = sym (halted.ensures.end setting (record { types = c.args.types.now; same = refl })) ∙ is in
    let registers = halted.result.registers in
    subst (λ base. HoldsEnd end halted.result.left (record { at = registers.at; top = base; peak = registers.peak; raised = registers.raised }) halted.new.words
    halted.new.heap c.args.out.now c.write_outputs-base.new.out) (sym c.write_outputs-base.ensures.base)
    (holds_end c.args.types.now c.args.program.now registers halted.new.words halted.new.heap halted.result.mask halted.result.left
    (outs_in halted.result.mask c.as_slice-outs.result.now)
    c.as_slice-outs.result.now end c.as_slice-outs.ensures refl halted.ensures.top reached c.args.out.now c.write_outputs-base.new.out
    c.write_outputs-base.ensures.out)
