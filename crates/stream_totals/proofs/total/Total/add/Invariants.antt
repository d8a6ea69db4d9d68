use Rattle.std.proofs.Common.{◌≡◌, take}
use Rattle.hume_streams.specs.Logs.{log_view}
use Rattle.stream_totals.specs.Totals.{sum_from}
use Rattle.stream_totals.proofs.total.Total.add.Given as goal

abbrev pub invariant-loop-place : goal.invariant-loop-place
invariant-loop-place l = record {
  sum : l.self.sum ≡ sum_from l.fn.self.sum (take l.place (log_view l.log).values);
  count : l.self.count ≡ l.fn.self.count;
}
