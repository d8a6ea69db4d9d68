use Rattle.look_sources.specs.Pages.{Grows}
use Rattle.look_told.proofs.faults.put_of_sources.Given as goal

abbrev pub invariant-loop-place : goal.invariant-loop-place
invariant-loop-place g l = Grows l.fn.page l.page
