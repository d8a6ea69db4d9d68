use Rattle.look_sources.specs.Pages.{Grows}
use Rattle.look_told.proofs.unfit.put_unfit_port.Given as goal

abbrev pub invariant-loop-number : goal.invariant-loop-number
invariant-loop-number l = Grows l.fn.page l.page
