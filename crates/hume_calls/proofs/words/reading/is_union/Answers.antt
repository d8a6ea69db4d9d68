use Rattle.std.proofs.Common.{arith, refl, string_bytes, take}
use Rattle.hume_calls.proofs.Forms.{counted_words}
use Rattle.hume_calls.proofs.words.reading.is_union.Goals as goal

pub returns : goal.returns
returns c = counted_words string_bytes c.args.words.now (take c.args.count c.args.words.now) c.args.count c.differ.result (omega (arith, c.if-count-lt2.false))
    (omega (arith, c.if-count-gt-MAX_PROGRAMS.false)) (omega (arith, c.if-words-count.false)) refl c.differ.ensures
