use Rattle.look_sources.specs.Pages.{Grows}
use Rattle.look_cores.proofs.net.put_wires.Given as goal

abbrev pub invariant-loop-w : goal.invariant-loop-w
invariant-loop-w l = Grows l.fn.page l.page
