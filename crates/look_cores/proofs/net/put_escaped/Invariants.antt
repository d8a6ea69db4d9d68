use Rattle.look_sources.specs.Pages.{Grows}
use Rattle.look_cores.proofs.net.put_escaped.Given as goal

abbrev pub invariant-loop-byte : goal.invariant-loop-byte
invariant-loop-byte l = Grows l.fn.page l.page
