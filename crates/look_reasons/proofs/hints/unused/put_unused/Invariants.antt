use Rattle.look_sources.specs.Pages.{Grows}
use Rattle.look_reasons.proofs.hints.unused.put_unused.Given as goal

abbrev pub invariant-loop-i : goal.invariant-loop-i
invariant-loop-i l = Grows l.fn.page l.page
