use Rattle.look_sources.specs.Pages.{Grows}
use Rattle.look_reasons.proofs.hints.constant.put_of_boxes.Given as goal

abbrev pub invariant-loop-n : goal.invariant-loop-n
invariant-loop-n l = Grows l.fn.page l.page
