use Rattle.look_sources.specs.Pages.{Grows}
use Rattle.look_reasons.proofs.hints.constant.put_constant.Given as goal

abbrev pub invariant-loop-function : goal.invariant-loop-function
invariant-loop-function l = Grows l.fn.page l.page
