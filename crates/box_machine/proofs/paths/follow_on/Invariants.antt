use Rattle.std.proofs.Common.{◌≡◌, drop}
use Rattle.box_code.specs.Machine.{at_path}
use Rattle.box_machine.specs.inner.Stepping.{objects_in}
use Rattle.box_machine.proofs.paths.follow_on.Given as goal

abbrev pub invariant-loop-number : goal.invariant-loop-number
invariant-loop-number l = at_path (objects_in l.heap) (drop l.number-index l.numbers) l.word ≡ at_path (objects_in l.heap) l.numbers l.start
