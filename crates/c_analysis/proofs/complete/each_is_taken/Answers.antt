use Rattle.std.proofs.Common.{◌∙◌, sym}
use Rattle.c_analysis.proofs.Lasts.{below_fails}
use Rattle.c_analysis.proofs.complete.each_is_taken.Goals as goal

pub returns-then-not-some_takes_con : goal.returns-then-not-some_takes_con
returns-then-not-some_takes_con g c =
    sym (below_fails c.args.constructors _ c.loop-place.place c.loop-place-test.true (sym c.some_takes_con.ensures ∙ c.if-not-some_takes_con.true))
