use Rattle.look_sources.specs.Pages.{Grows}
use Rattle.look_cores.proofs.broken.tell_earlier.Given as goal

abbrev pub invariant-loop-earlier : goal.invariant-loop-earlier
invariant-loop-earlier l = Grows l.fn.note l.note
