use Rattle.std.proofs.Common.{◌<◌, length, arith, refl, subst, rules}
use Rattle.hume_streams.specs.Queues.{queue_view}
use Rattle.hume_streams.specs.Contents.{unread_in}
use Rattle.hume_streams.specs.inner.Buffers.{IsNext}
use Rattle.hume_streams.proofs.Filling.{with_buffer, filled_start, filled_read, filled_line, line_smaller, fills_end, fills_bad, fills_refused, fills_failed, tells_long}
use Rattle.hume_streams.proofs.queue.InQueue.fill.Goals as goal

pub values-init : goal.values-init
values-init g c = filled_start _ _ _ _ _

pub returns-in-Err-clause-fills : goal.returns-in-Err-clause-fills
returns-in-Err-clause-fills g c = fills_failed _ _ _ _ _ _ _ _ _ _ c.values.invariant (omega arith) c.in-Err.ensures.failed refl refl

pub returns-in-Ok-End-clause-fills : goal.returns-in-Ok-End-clause-fills
returns-in-Ok-End-clause-fills g c =
    let buffer = c.next_line.new.self in
    let next = subst (λ n. IsNext (unread_in buffer) buffer.ended n) c.in-Ok-End.field-0-is c.in-Ok-End.ensures.next.1 in
    let few : length (queue_view c.values.self).values < c.args.want = omega arith in
    fills_end _ _ _ _ _ _ _ (filled_read _ _ _ _ _ _ _ _ _ _ c.values.invariant few c.in-Ok-End.ensures.next.0 refl refl) next

pub returns-in-Ok-TooLong-clause-fills : goal.returns-in-Ok-TooLong-clause-fills
returns-in-Ok-TooLong-clause-fills g c =
    let buffer = c.next_line.new.self in
    let next = subst (λ n. IsNext (unread_in buffer) buffer.ended n) c.in-Ok-TooLong.field-0-is c.in-Ok-TooLong.ensures.next.1 in
    let few : length (queue_view c.values.self).values < c.args.want = omega arith in
    fills_bad _ _ _ _ _ _ _ _ _ (filled_read _ _ _ _ _ _ _ _ _ _ c.values.invariant few c.in-Ok-TooLong.ensures.next.0 refl refl) few
    (tells_long _ _ (with_buffer (queue_view c.values.self) buffer) next) c.bad_line.ensures

pub returns-then-not-read_line-clause-fills : goal.returns-then-not-read_line-clause-fills
returns-then-not-read_line-clause-fills g c =
    let buffer = c.next_line.new.self in
    let next = subst (λ n. IsNext (unread_in buffer) buffer.ended n) c.in-Ok-Line.field-0-is c.in-Ok-Line.ensures.next.1 in
    let few : length (queue_view c.values.self).values < c.args.want = omega arith in
    fills_refused _ _ _ _ (with_buffer (queue_view c.values.self) buffer) _ _ _ c.in-Ok-Line.count _ (filled_read _ _ _ _ _ _ _ _ _ _ c.values.invariant few c.in-Ok-Line.ensures.next.0 refl refl) few
    next (c.read_line.ensures.bad (search rules)) (c.read_line.ensures.kept (search rules)) c.bad_line-then-not-read_line.ensures

pub values-preserved : goal.values-preserved
values-preserved g c =
    let buffer = c.next_line.new.self in
    let next = subst (λ n. IsNext (unread_in buffer) buffer.ended n) c.in-Ok-Line.field-0-is c.in-Ok-Line.ensures.next.1 in
    let few : length (queue_view c.values.self).values < c.args.want = omega arith in
    filled_line _ _ _ _ (with_buffer (queue_view c.values.self) buffer) _ _ _ c.in-Ok-Line.count (filled_read _ _ _ _ _ _ _ _ _ _ c.values.invariant few c.in-Ok-Line.ensures.next.0 refl refl) few
    next (c.read_line.ensures.good (search rules))

pub values-smaller : goal.values-smaller
values-smaller g c =
    let few : length (queue_view c.values.self).values < c.args.want = omega arith in
    line_smaller c.args.types.now c.args.ty.now _ _ _ c.in-Ok-Line.count _ few (c.read_line.ensures.good (search rules))
