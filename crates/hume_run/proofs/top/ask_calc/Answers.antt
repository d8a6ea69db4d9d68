use Rattle.std.proofs.Common.{refl, string_bytes, sym, map}
use Rattle.hume_calls.specs.declared.order.Order.TheVariants.{Calc}
use Rattle.hume_calls.proofs.Answering.{meant}
use Rattle.hume_run.proofs.FurtherCalls.{all_named, calc_never, ended_no_usage, further_at_place, further_headline, word_is}
use Rattle.hume_calls.proofs.FitPorts.{found_place}
use Rattle.hume_calls.proofs.ScriptWords.{words_apart}
use Rattle.hume_run.proofs.top.ask_calc.Goals as goal

pub answer_calc-requires-clause-source : goal.answer_calc-requires-clause-source
answer_calc-requires-clause-source g c κs within = found_place _ _ _ (sym c.in-Some.ensures.place)

pub answer_calc-requires-clause-script : goal.answer_calc-requires-clause-script
answer_calc-requires-clause-script g c κs within =
    further_at_place string_bytes c.args.words.now (Calc c.args.steps c.args.workers c.args.source c.args.script) c.args.source c.args.script c.requires.asked refl _ _
    (word_is string_bytes c.args.words.now c.args.source _ _ c.requires.source c.index-words-source.is c.as_str-name.ensures.value)
    c.requires.script refl (words_apart c.args.steps c.args.workers c.args.source c.args.script (map string_bytes c.args.words.now) c.requires.asked) _ _ _
    (word_is string_bytes c.args.words.now c.args.script _ _ c.requires.script c.index-words-script.is c.as_str.ensures.value) (sym c.in-Some-find.ensures.place)

pub returns-clause-usage : goal.returns-clause-usage
returns-clause-usage g c = (
  λ is. absurd (ended_no_usage (Calc c.args.steps c.args.workers c.args.source c.args.script) (calc_never c.args.steps c.args.workers c.args.source c.args.script) _ _ _ _ (c.answer_calc.ensures c.args.source c.args.script) is),
  λ usage. absurd (all_named string_bytes c.args.words.now (Calc c.args.steps c.args.workers c.args.source c.args.script) c.args.source c.args.script c.requires.asked refl _ _ _ _ _ _
      (word_is string_bytes c.args.words.now c.args.source _ _ c.requires.source c.index-words-source.is c.as_str-name.ensures.value)
      (word_is string_bytes c.args.words.now c.args.script _ _ c.requires.script c.index-words-script.is c.as_str.ensures.value)
      (meant _ _ _ c.requires.out) (sym c.in-Some.ensures.place) (sym c.in-Some-find.ensures.place) usage),
)

pub returns-clause-idle : goal.returns-clause-idle
returns-clause-idle g c is =
    absurd (ended_no_usage (Calc c.args.steps c.args.workers c.args.source c.args.script) (calc_never c.args.steps c.args.workers c.args.source c.args.script) _ _ _ _ (c.answer_calc.ensures c.args.source c.args.script) is)

pub returns-clause-run : goal.returns-clause-run
returns-clause-run g c =
    further_headline string_bytes c.args.words.now (Calc c.args.steps c.args.workers c.args.source c.args.script) c.args.source c.args.script c.requires.asked refl _ _
    (word_is string_bytes c.args.words.now c.args.source _ _ c.requires.source c.index-words-source.is c.as_str-name.ensures.value)
    c.requires.script refl _ _ _ (c.answer_calc.ensures c.args.source c.args.script)
