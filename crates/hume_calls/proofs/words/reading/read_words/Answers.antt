use Rattle.std.proofs.Common.{rules, sym, ap, ◌∙◌, length, drop, map, string_bytes, take, ◌-◌, arith}
use Rattle.hume_calls.specs.Words.{four_of, more_of}
use Rattle.hume_calls.proofs.Taken.{take_rest}
use Rattle.hume_calls.proofs.Forms.{check_if, four_words, more_words, three_words, two_words}
use Rattle.hume_calls.proofs.words.reading.read_words.Goals as goal

pub returns-in-len2-clause-order : goal.returns-in-len2-clause-order
returns-in-len2-clause-order c = sym (two_words _ c.args.words.now c.command-item.result _ c.eq.result (search rules) (search rules) c.command-item.is
    c.as_str.ensures.value c.eq.ensures ∙ ap check_if c.if-eq.true)

pub returns-in_default-2-clause-order : goal.returns-in_default-2-clause-order
returns-in_default-2-clause-order c = sym (two_words _ c.args.words.now c.command-item.result _ c.eq.result (search rules) (search rules) c.command-item.is
    c.as_str.ensures.value c.eq.ensures ∙ ap check_if c.if-eq.false)

pub returns-in_default-3-clause-order : goal.returns-in_default-3-clause-order
returns-in_default-3-clause-order c = sym (three_words _ c.args.words.now (search rules) (search rules))

pub returns-in-len4-clause-order : goal.returns-in-len4-clause-order
returns-in-len4-clause-order c =
    c.four_of.ensures.order ∙ sym (four_words _ c.args.words.now c.command-item-then-words-lt5.result c.first-item.result c.second-item.result c.third-item.result
    (search rules) (search rules) c.command-item-then-words-lt5.is c.first-item.is c.second-item.is c.third-item.is
    ∙ (λ i. four_of (sym c.deref.ensures i) (sym c.deref-in-len4.ensures i) (sym c.deref-in-len4-2.ensures i) (sym c.deref-in-len4-3.ensures i)))

pub returns-in-len4-up-clause-order : goal.returns-in-len4-up-clause-order
returns-in-len4-up-clause-order c =
    c.more_of.ensures.order ∙ sym (more_words _ c.args.words.now c.command-item-2.result c.first-item-2.result c.second-item-2.result c.third-item-2.result
    (take (length c.args.words.now - 4) (drop 4 c.args.words.now)) (search rules) c.command-item-2.is c.first-item-2.is c.second-item-2.is c.third-item-2.is
    (take_rest 4 (length c.args.words.now - 4) c.args.words.now (omega arith))
    ∙ (λ i. more_of (sym c.deref-in-len4-up.ensures i) (sym c.deref-in-len4-up-2.ensures i) (sym c.deref-in-len4-up-3.ensures i)
    (sym c.deref-in-len4-up-4.ensures i) (map string_bytes (take (length c.args.words.now - 4) (drop 4 c.args.words.now)))))
