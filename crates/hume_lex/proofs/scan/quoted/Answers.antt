use Rattle.std.proofs.Common.{sym, ap, ◌∙◌}
use Rattle.hume_lex.specs.inner.Scan.{starts_with_byte}
use Rattle.hume_lex.proofs.Scans.{quoted_scan}
use Rattle.hume_lex.proofs.scan.quoted.Goals as goal

pub returns-then-starts_with_byte : goal.returns-then-starts_with_byte
returns-then-starts_with_byte c =
    quoted_scan c.quotable_len-len.result c.args.after.now _ c.quotable_len-len.ensures (c.in_ok-text.ensures ∙ c.split_at.ensures.front) c.if-len-gt0.true c.if-len-le-MAX_PORT_NAME_BYTES.true
    (ap (starts_with_byte 34) (sym c.split_at.ensures.back) ∙ sym c.starts_with_byte.ensures ∙ c.if-starts_with_byte.true)
