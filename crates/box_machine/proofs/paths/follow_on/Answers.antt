use Rattle.std.proofs.Common.{◌∙◌, arith}
use Rattle.std.proofs.Math.Facts.{Fits-of_lt}
use Rattle.box_machine.proofs.Following.{next_small}
use Rattle.box_machine.proofs.paths.follow_on.Goals as goal

pub overflow_cast-number : goal.overflow_cast-number
overflow_cast-number c =
    let small = next_small c.args.heap.now c.requires.held c.args.numbers.now c.loop-number.number-index c.loop-number.word c.requires.there.0
    c.loop-number-test.true (c.loop-number.invariant ∙ c.requires.there.1) in
    Fits-of_lt (omega (arith, small, c.keeps_room.ensures))
