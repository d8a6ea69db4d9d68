use Rattle.look_sources.specs.Pages.{Grows}
use Rattle.look_reasons.proofs.hints.lost.put_of_part.Given as goal

abbrev pub invariant-loop-span : goal.invariant-loop-span
invariant-loop-span l = Grows l.fn.page l.page
