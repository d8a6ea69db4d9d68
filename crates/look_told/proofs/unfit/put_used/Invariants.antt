use Rattle.look_sources.specs.Pages.{Grows}
use Rattle.look_told.proofs.unfit.put_used.Given as goal

abbrev pub invariant-loop-other : goal.invariant-loop-other
invariant-loop-other l = Grows l.fn.page l.page
