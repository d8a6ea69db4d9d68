use Rattle.look_sources.specs.Pages.{Grows}
use Rattle.look_told.proofs.words.put_bad_word.Given as goal

abbrev pub invariant-loop-place : goal.invariant-loop-place
invariant-loop-place l = Grows l.fn.page l.page
