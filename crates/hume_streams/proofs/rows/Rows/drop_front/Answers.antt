use Rattle.std.proofs.Common.{drop, arith}
use Rattle.hume_streams.proofs.RowCuts.{length-cut_rows, cut_rows-drop}
use Rattle.hume_streams.proofs.rows.Rows.drop_front.Goals as goal

pub returns-clause-rows : goal.returns-clause-rows
returns-clause-rows c =
    let rows = c.args.self.now in
    let l = length-cut_rows rows.width rows.count (drop rows.start rows.words.items) in
    cut_rows-drop rows.width rows.count rows.start rows.words.items (omega (arith, l, c.requires))
