use Rattle.look_sources.specs.Pages.{Grows}
use Rattle.look_cores.proofs.texts.+put_type.Given as goal

abbrev pub invariant-put_types-loop-i : goal.invariant-put_types-loop-i
invariant-put_types-loop-i l = Grows l.fn.page l.page
