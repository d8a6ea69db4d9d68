use Rattle.look_sources.specs.Pages.{Grows}
use Rattle.look_cores.proofs.broken.tell_set.Given as goal

abbrev pub invariant-loop-exn : goal.invariant-loop-exn
invariant-loop-exn l = Grows l.fn.note l.note
