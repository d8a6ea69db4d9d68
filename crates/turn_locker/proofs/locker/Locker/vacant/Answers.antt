use Rattle.std.proofs.Common.{rules, ◌≡◌, ◌+◌, subst, ℕ, List, replicate}
use Rattle.std.specs.Prelude.{Option, None}
use Rattle.atomic_table.specs.Table.{opening}
use Rattle.turn_locker.specs.Held.{items_of}
use Rattle.turn_locker.specs.Rule.{KeepsTurns}
use Rattle.turn_locker.specs.Views.{newcomer}
use Rattle.turn_locker.proofs.Ends.{opens}
use Rattle.turn_locker.proofs.locker.Locker.vacant.Goals as goal

pub vacant-requires : goal.vacant-requires
vacant-requires g c =
    let count : items_of c.args.plan ≡ c.args.plan.nodes + c.len.result = search rules in
    let words : replicate (items_of c.args.plan) 1 ≡ c.as_slice.result.now = search rules in
    subst (λ (y : List ℕ × ℕ). KeepsTurns {T = g.row.T.Denot} g.T.Timed.number_of g.T.Timed.time_of g.T.Timed.right c.args.plan
    (opening y.0 (replicate {A = Option g.row.T.Denot} y.1 None) (newcomer c.args.plan)))
    (λ k. (words k, count k)) (opens g.T.Timed.number_of g.T.Timed.time_of g.T.Timed.right c.args.plan c.requires.plan.0)
