use Rattle.look_sources.specs.Pages.{Grows}
use Rattle.look_cores.proofs.broken.tell_bounds_of.Given as goal

abbrev pub invariant-loop-n : goal.invariant-loop-n
invariant-loop-n l = Grows l.fn.note l.note
