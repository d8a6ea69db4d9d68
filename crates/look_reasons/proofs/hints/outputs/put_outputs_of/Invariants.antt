use Rattle.look_sources.specs.Pages.{Grows}
use Rattle.look_reasons.proofs.hints.outputs.put_outputs_of.Given as goal

abbrev pub invariant-loop-output : goal.invariant-loop-output
invariant-loop-output l = Grows l.fn.page l.page
