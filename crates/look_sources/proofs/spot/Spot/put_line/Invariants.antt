use Rattle.look_sources.specs.Pages.{Grows}
use Rattle.look_sources.proofs.spot.Spot.put_line.Given as goal

abbrev pub invariant-loop-byte : goal.invariant-loop-byte
invariant-loop-byte l = Grows l.fn.page l.page

abbrev pub invariant-loop-byte-2 : goal.invariant-loop-byte-2
invariant-loop-byte-2 l = Grows l.fn.page l.page
