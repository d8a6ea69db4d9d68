use Rattle.std.proofs.Common.{rules, sym, ◌∙◌, string_bytes, arith}
use Rattle.hume_look.proofs.Asking.{two_words, other_words}
use Rattle.hume_look.proofs.looking.read_word.Goals as goal

pub returns-in-len2 : goal.returns-in-len2
returns-in-len2 c =
    c.word_named.ensures ∙ sym (two_words _ c.args.words.now c.word-item.result _ (search rules) (search rules) c.word-item.is c.deref.ensures)

pub returns-in_default : goal.returns-in_default
returns-in_default c = sym (other_words _ c.args.words.now (λ h. omega arith))
