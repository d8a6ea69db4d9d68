use Rattle.look_sources.specs.Pages.{Grows}
use Rattle.look_told.proofs.unfit.put_of_union.Given as goal

abbrev pub invariant-loop-node : goal.invariant-loop-node
invariant-loop-node l = Grows l.fn.page l.page
