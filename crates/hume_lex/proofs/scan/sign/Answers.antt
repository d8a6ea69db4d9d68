use Rattle.hume_lex.proofs.Scans.{comment_scan}
use Rattle.hume_lex.proofs.scan.sign.Goals as goal

pub returns-then-next-eq45 : goal.returns-then-next-eq45
returns-then-next-eq45 c = comment_scan c.args.byte c.line_len.result c.args.after.now c.if-byte-eq45.true c.if-next-eq45.true c.in-len1-up.len_at_least c.line_len.ensures
