use Rattle.look_sources.specs.Pages.{Grows}
use Rattle.look_cores.proofs.bounds.put_handlers.Given as goal

abbrev pub invariant-loop-h : goal.invariant-loop-h
invariant-loop-h l = Grows l.fn.page l.page
