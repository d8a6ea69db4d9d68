use Rattle.std.proofs.Common.{◌∙◌, sym}
use Rattle.hume_exceptions.proofs.Lasts.{below_fails}
use Rattle.hume_exceptions.proofs.completeness.each_is_taken.Goals as goal

pub returns-then-not-some_takes_con : goal.returns-then-not-some_takes_con
returns-then-not-some_takes_con g c =
    sym (below_fails c.args.constructors _ c.loop-place.place c.loop-place-test.true (sym c.some_takes_con.ensures ∙ c.if-not-some_takes_con.true))
