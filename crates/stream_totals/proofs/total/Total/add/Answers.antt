use Rattle.std.proofs.Common.{◌≤◌, ◌+◌, ◌*◌, ◌^◌, ◌+ℤ◌, length, ap, ◌∙◌, arith}
use Rattle.hume_streams.specs.Logs.{log_view}
use Rattle.stream_totals.specs.Totals.{number_of}
use Rattle.stream_totals.proofs.Sums.{more_fits, more_exact, so_far_within, sum_more, total_more, wide_within, wide_exact, of_sum}
use Rattle.stream_totals.proofs.total.Total.add.Goals as goal

pub overflow_add-self : goal.overflow_add-self
overflow_add-self c =
    let few = c.requires.few in
    let within : c.loop-place.place ≤ length (log_view c.args.log.now).values = omega (arith, c.loop-place-test.true, c.count-count.ensures) in
    more_fits c.loop-place.self.sum c.from.result (length few.0 * 2 ^ 63 + c.loop-place.place * 2 ^ 63) (omega (arith, few.2, c.loop-place.auto.place-end, c.count-count.type_inv))
    (of_sum c.loop-place.self.sum _ _ c.loop-place.invariant.sum (so_far_within c.args.self.now few.0 (log_view c.args.log.now).values c.loop-place.place few.1 within))
    (wide_within c.number.result c.from.result c.at.result.now c.number.ensures c.from.ensures)

pub loop-place-preserved : goal.loop-place-preserved
loop-place-preserved c =
    let few = c.requires.few in
    let within : c.loop-place.place ≤ length (log_view c.args.log.now).values = omega (arith, c.loop-place-test.true, c.count-count.ensures) in
    let wide = wide_exact c.number.result c.from.result c.at.result.now c.number.ensures c.from.ensures in
    record {
      sum =
          more_exact c.loop-place.self.sum c.from.result (length few.0 * 2 ^ 63 + c.loop-place.place * 2 ^ 63)
          (omega (arith, few.2, c.loop-place.auto.place-end, c.count-count.type_inv))
          (of_sum c.loop-place.self.sum _ _ c.loop-place.invariant.sum
          (so_far_within c.args.self.now few.0 (log_view c.args.log.now).values c.loop-place.place few.1 within))
          (wide_within c.number.result c.from.result c.at.result.now c.number.ensures c.from.ensures)
          ∙ ap (λ number. c.loop-place.self.sum +ℤ number) wide
          ∙ ap (λ sum. sum +ℤ number_of c.at.result.now) c.loop-place.invariant.sum
          ∙ sum_more c.args.self.now.sum (log_view c.args.log.now).values c.loop-place.place c.at.result.now c.at.ensures;
      count = c.loop-place.invariant.count;
    }

pub returns : goal.returns
returns c rows is =
    total_more c.args.self.now _ rows (log_view c.args.log.now).values c.loop-place.place is
    (omega (arith, c.loop-place-test.false, c.count-count.ensures)) c.loop-place.invariant.sum
    (omega (arith, c.loop-place.invariant.count, c.from-2.ensures, c.count-count.ensures))
