use Rattle.std.proofs.Common.{◌∙◌, ap, refl, string_bytes, sym, Some}
use Rattle.hume_calls.specs.declared.order.Order.TheVariants.{Calc, Log}
use Rattle.hume_run.proofs.FurtherCalls.{further_within, source_within}
use Rattle.hume_calls.proofs.FitPorts.{found_place}
use Rattle.hume_run.proofs.top.hume.Goals as goal

pub show_demo-requires-clause-out : goal.show_demo-requires-clause-out
show_demo-requires-clause-out g c κs within = found_place _ _ _ (sym c.in-Some-find.ensures.place)

pub answer-requires-clause-source : goal.answer-requires-clause-source
answer-requires-clause-source g c κs within = found_place _ _ _ (sym c.in-Some-find-2.ensures.place)

pub answer-requires-clause-out : goal.answer-requires-clause-out
answer-requires-clause-out g c κs within = found_place _ _ _ (sym c.in-Some-find.ensures.place)

pub ask_calc-requires-clause-asked : goal.ask_calc-requires-clause-asked
ask_calc-requires-clause-asked g c κs within = sym c.read_words.ensures.order ∙ c.in-Some.is ∙ ap Some c.in-Calc.is

pub ask_calc-requires-clause-source : goal.ask_calc-requires-clause-source
ask_calc-requires-clause-source g c κs within =
    source_within string_bytes c.args.words.now (Calc c.in-Calc.steps c.in-Calc.workers c.in-Calc.source c.in-Calc.script) c.in-Calc.source
    c.in-Calc.script _ (c.in-Some.is ∙ ap Some c.in-Calc.is) c.read_words.ensures.source refl

pub ask_calc-requires-clause-script : goal.ask_calc-requires-clause-script
ask_calc-requires-clause-script g c κs within =
    further_within string_bytes c.args.words.now (Calc c.in-Calc.steps c.in-Calc.workers c.in-Calc.source c.in-Calc.script) c.in-Calc.source
    c.in-Calc.script _ (c.in-Some.is ∙ ap Some c.in-Calc.is) c.read_words.ensures.further refl

pub ask_calc-requires-clause-out : goal.ask_calc-requires-clause-out
ask_calc-requires-clause-out g c κs within = found_place _ _ _ (sym c.in-Some-find.ensures.place)

pub ask_union-requires-clause-asked : goal.ask_union-requires-clause-asked
ask_union-requires-clause-asked g c κs within = sym c.read_words.ensures.order ∙ c.in-Some.is ∙ ap Some c.in-Union.is

pub ask_union-requires-clause-out : goal.ask_union-requires-clause-out
ask_union-requires-clause-out g c κs within = found_place _ _ _ (sym c.in-Some-find.ensures.place)

pub ask_log-requires-clause-asked : goal.ask_log-requires-clause-asked
ask_log-requires-clause-asked g c = sym c.read_words.ensures.order ∙ c.in-Some.is ∙ ap Some c.in-Log.is

pub ask_log-requires-clause-source : goal.ask_log-requires-clause-source
ask_log-requires-clause-source g c =
    source_within string_bytes c.args.words.now (Log c.in-Log.steps c.in-Log.source c.in-Log.log c.in-Log.verify) c.in-Log.source c.in-Log.log _
    (c.in-Some.is ∙ ap Some c.in-Log.is) c.read_words.ensures.source refl

pub ask_log-requires-clause-log : goal.ask_log-requires-clause-log
ask_log-requires-clause-log g c =
    further_within string_bytes c.args.words.now (Log c.in-Log.steps c.in-Log.source c.in-Log.log c.in-Log.verify) c.in-Log.source c.in-Log.log _
    (c.in-Some.is ∙ ap Some c.in-Log.is) c.read_words.ensures.further refl

pub ask_log-requires-clause-out : goal.ask_log-requires-clause-out
ask_log-requires-clause-out g c = found_place _ _ _ (sym c.in-Some-find.ensures.place)
