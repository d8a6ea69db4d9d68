use Rattle.std.proofs.Common.{ap, map, string_bytes, sym, ◌∙◌}
use Rattle.hume_console.specs.Words.{is_standard}
use Rattle.hume_console.proofs.BeginsCall.{headline, source_own, source_word}
use Rattle.hume_console.proofs.calling.console.Goals as goal

pub answer-requires-clause-own : goal.answer-requires-clause-own
answer-requires-clause-own g c κs within =
    let is = sym c.read_words.ensures.opening ∙ c.in-Some.is in
    ap is_standard (source_word string_bytes c.args.words.now c.in-Some.opening _ _ is c.index-words-opening.is c.as_str-name.ensures.value)
    ∙ source_own (map string_bytes c.args.words.now) c.in-Some.opening is

pub returns-clause-session : goal.returns-clause-session
returns-clause-session g c =
    let is = sym c.read_words.ensures.opening ∙ c.in-Some.is in
    headline (map string_bytes c.args.words.now) c.in-Some.opening _ _ _ c.answer.result is
    (source_word string_bytes c.args.words.now c.in-Some.opening _ _ is c.index-words-opening.is c.as_str-name.ensures.value) c.answer.ensures.ends
