use Rattle.std.proofs.Common.{◌<◌, length, subst, sym}
use Rattle.check_tables.proofs.graph_lemmas.Chains.{no_cycle}
use Rattle.check_tables.proofs.graph_lemmas.LedBack.{cycle_back}
use Rattle.check_tables.proofs.graph.cycle.first_in_cycle.Goals as goal

pub first_of_left_out-requires-clause-none : goal.first_of_left_out-requires-clause-none
first_of_left_out-requires-clause-none c = λ a lt hit cycle.
    let p = c.in_ok-progress.ensures.progress in
    no_cycle c.args.graph.now c.in_ok-progress.progress.order p.numbering a ((p.marked a lt).0 (rw c.as_slice.ensures at hit)) cycle

pub first_of_left_out-requires-clause-back_none : goal.first_of_left_out-requires-clause-back_none
first_of_left_out-requires-clause-back_none c = λ a lt hit cycle.
    let p = c.in_ok-back_progress.ensures.progress in
    let back = c.in_ok-back.back in
    let within : a < length back = subst (λ k. a < k) (sym c.in_ok-back.ensures.long) lt in
    no_cycle back c.in_ok-back_progress.back_progress.order p.numbering a ((p.marked a within).0 (rw c.as_slice-2.ensures at hit)) (cycle_back c.args.graph.now back c.in_ok-back.ensures a cycle)
