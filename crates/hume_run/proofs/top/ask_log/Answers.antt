use Rattle.std.proofs.Common.{refl, string_bytes, sym, map}
use Rattle.hume_calls.specs.declared.order.Order.TheVariants.{Log}
use Rattle.hume_calls.proofs.Answering.{meant}
use Rattle.hume_run.proofs.FurtherCalls.{all_named, log_never, ended_no_usage, further_at_place, further_headline, word_is}
use Rattle.hume_calls.proofs.FitPorts.{found_place}
use Rattle.hume_calls.proofs.LogWords.{log_words_apart}
use Rattle.hume_run.proofs.top.ask_log.Goals as goal

pub answer_log-requires-clause-source : goal.answer_log-requires-clause-source
answer_log-requires-clause-source g c = found_place _ _ _ (sym c.in-Some.ensures.place)

pub answer_log-requires-clause-log : goal.answer_log-requires-clause-log
answer_log-requires-clause-log g c =
    further_at_place string_bytes c.args.words.now (Log c.args.steps c.args.source c.args.log c.args.verify) c.args.source c.args.log c.requires.asked refl _ _
    (word_is string_bytes c.args.words.now c.args.source _ _ c.requires.source c.index-words-source.is c.as_str-name.ensures.value)
    c.requires.log refl (log_words_apart c.args.steps c.args.source c.args.log c.args.verify (map string_bytes c.args.words.now) c.requires.asked) _ _ _
    (word_is string_bytes c.args.words.now c.args.log _ _ c.requires.log c.index-words-log.is c.as_str.ensures.value) (sym c.in-Some-find.ensures.place)

pub returns-clause-usage : goal.returns-clause-usage
returns-clause-usage g c = (
  λ is. absurd (ended_no_usage (Log c.args.steps c.args.source c.args.log c.args.verify) (log_never c.args.steps c.args.source c.args.log c.args.verify) _ _ _ _ (c.answer_log.ensures c.args.source c.args.log) is),
  λ usage. absurd (all_named string_bytes c.args.words.now (Log c.args.steps c.args.source c.args.log c.args.verify) c.args.source c.args.log c.requires.asked refl _ _ _ _ _ _
      (word_is string_bytes c.args.words.now c.args.source _ _ c.requires.source c.index-words-source.is c.as_str-name.ensures.value)
      (word_is string_bytes c.args.words.now c.args.log _ _ c.requires.log c.index-words-log.is c.as_str.ensures.value)
      (meant _ _ _ c.requires.out) (sym c.in-Some.ensures.place) (sym c.in-Some-find.ensures.place) usage),
)

pub returns-clause-idle : goal.returns-clause-idle
returns-clause-idle g c is =
    absurd (ended_no_usage (Log c.args.steps c.args.source c.args.log c.args.verify) (log_never c.args.steps c.args.source c.args.log c.args.verify) _ _ _ _ (c.answer_log.ensures c.args.source c.args.log) is)

pub returns-clause-run : goal.returns-clause-run
returns-clause-run g c =
    further_headline string_bytes c.args.words.now (Log c.args.steps c.args.source c.args.log c.args.verify) c.args.source c.args.log c.requires.asked refl _ _
    (word_is string_bytes c.args.words.now c.args.source _ _ c.requires.source c.index-words-source.is c.as_str-name.ensures.value)
    c.requires.log refl _ _ _ (c.answer_log.ensures c.args.source c.args.log)
