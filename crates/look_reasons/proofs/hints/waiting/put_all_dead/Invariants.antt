use Rattle.look_sources.specs.Pages.{Grows}
use Rattle.look_reasons.proofs.hints.waiting.put_all_dead.Given as goal

abbrev pub invariant-loop-n : goal.invariant-loop-n
invariant-loop-n l = Grows l.fn.page l.page
