use Rattle.look_sources.specs.Pages.{Grows}
use Rattle.look_told.proofs.faults.put_of_outputs.Given as goal

abbrev pub invariant-loop-program : goal.invariant-loop-program
invariant-loop-program g l = Grows l.fn.page l.page

abbrev pub invariant-loop-node : goal.invariant-loop-node
invariant-loop-node g l = Grows l.fn.page l.page
