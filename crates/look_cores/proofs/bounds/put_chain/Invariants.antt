use Rattle.look_sources.specs.Pages.{Grows}
use Rattle.look_cores.proofs.bounds.put_chain.Given as goal

abbrev pub invariant-loop : goal.invariant-loop
invariant-loop l = Grows l.fn.page l.page
