use Rattle.std.proofs.Common.{sym, drop}
use Rattle.hume_streams.proofs.RowCuts.{length-cut_rows}
use Rattle.hume_streams.proofs.rows.Rows.count.Goals as goal

pub returns : goal.returns
returns c = sym (length-cut_rows c.args.self.now.width c.args.self.now.count (drop c.args.self.now.start c.args.self.now.words.items))
