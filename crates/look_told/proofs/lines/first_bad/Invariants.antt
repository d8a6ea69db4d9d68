use Rattle.std.proofs.Common.{◌≡◌}
use Rattle.hume_base.specs.Sizes.{size_of}
use Rattle.hume_streams.specs.Queues.{queue_view}
use Rattle.look_told.proofs.lines.first_bad.Given as goal

abbrev pub invariant-values : goal.invariant-values
invariant-values g l = record {
  width : size_of l.types l.ty ≡ (queue_view l.queue).width;
  span : (queue_view l.queue).span ≡ 1;
}
