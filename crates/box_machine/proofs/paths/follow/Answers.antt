use Rattle.std.proofs.Common.{arith}
use Rattle.std.proofs.Math.Facts.{Fits-of_lt}
use Rattle.box_machine.proofs.Following.{next_small}
use Rattle.box_machine.proofs.paths.follow.Goals as goal

pub overflow_cast-numbers : goal.overflow_cast-numbers
overflow_cast-numbers c =
    let small = next_small c.args.heap.now c.requires.held c.args.numbers.now 0 c.args.start c.requires.there.0 (omega
    (arith, c.if-numbers-eq1.true)) c.requires.there.1 in
    Fits-of_lt (omega (arith, small, c.keeps_room.ensures))
