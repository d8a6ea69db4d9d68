use Rattle.std.proofs.Common.{◌<◌, ℕ, ap, sym, ◌∙◌, subst}
use Rattle.hume_net.specs.declared.plan.Plan.{Plan}
use Rattle.turn_locker.specs.Closing.{AreHome}
use Rattle.turn_locker.specs.Held.{items_of}
use Rattle.turn_locker.specs.Seats.{LockerView}
use Rattle.turn_locker.proofs.Ends.{closes, are_home}
use Rattle.turn_locker.proofs.locker.Locker.close.Goals as goal

pub take_all-requires-clause-full : goal.take_all-requires-clause-full
take_all-requires-clause-full g c =
    let whole = closes g.T.Timed.number_of g.T.Timed.time_of g.T.Timed.right _ _ _ _ _ c.requires.whole c.requires.free c.close_with.ensures.values.2 in
    let values = c.close_with.ensures.values in let locker = c.self.invariant in
    (values.1, values.0, c.close_with.ensures.counts.1 ∙ locker.2, whole.2 ∙ (ap items_of locker.0 ∙ sym locker.3))

pub take_all-requires-clause-values : goal.take_all-requires-clause-values
take_all-requires-clause-values g c =
    let whole = closes g.T.Timed.number_of g.T.Timed.time_of g.T.Timed.right _ _ _ _ _ c.requires.whole c.requires.free c.close_with.ensures.values.2 in
    let locker = c.self.invariant in
    λ item lt. let k = whole.3 item (subst (λ (n : ℕ). item < n) (locker.3 ∙ ap items_of (sym locker.0)) lt) in (k.0, k.1)

pub returns : goal.returns
returns g c =
    let whole = closes g.T.Timed.number_of g.T.Timed.time_of g.T.Timed.right _ _ _ _ _ c.requires.whole c.requires.free c.close_with.ensures.values.2 in
    let locker = c.self.invariant in
    subst (λ (p : Plan). AreHome g.T.Timed.number_of g.T.Timed.time_of g.T.Timed.right p c.take_all.result.items)
    (locker.0 ∙ ap (λ (l : LockerView). l.plan) c.self.view_is)
    (are_home g.T.Timed.number_of g.T.Timed.time_of g.T.Timed.right _ whole.0 _ c.take_all.result.items whole.1 whole.2 whole.3 c.take_all.ensures)
