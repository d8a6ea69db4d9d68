use Rattle.std.proofs.Common.{rules, ◌<◌, ◌∷◌, Some, None, sym, subst, ap, ◌∙◌}
use Rattle.atomic_table.specs.Table.{rest}
use Rattle.hume_net.specs.declared.plan.Plan.{Plan}
use Rattle.turn_locker.specs.declared.view.View.{View}
use Rattle.turn_locker.specs.Held.{items_of}
use Rattle.turn_locker.specs.Seats.{LockerView}
use Rattle.turn_locker.proofs.Seats.{claims_seat}
use Rattle.turn_locker.proofs.Steps.{claims_step}
use Rattle.turn_locker.proofs.locker.Locker.try_claim.Goals as goal

pub compare_exchange-requires : goal.compare_exchange-requires
compare_exchange-requires g c =
    let looked = c.look-word.ensures in let view = ap (λ m. m.0) looked.view in
    let key = sym (c.self.invariant.0 ∙ ap (λ (l : LockerView). l.plan) c.self.view_is) in (
      search rules,
      search rules,
      claims_step _ _ _ _ _ _ _ c.args.time _ _ (search rules) (subst (λ (p : Plan). c.args.item < items_of p) key c.requires.item) looked.own.share
          (ap (λ m. m.1) looked.view) (ap (λ (v : View). v.out) view),
    )

pub exchange-requires : goal.exchange-requires
exchange-requires g c = let did = c.compare_exchange.ensures.2.0 c.if-compare_exchange-word.false in let has = ap (λ m. m.1) did.1 in
    (search rules, (Some did.0, has ∙ (λ k. (c.args.item, Some did.0) ∷ sym (ap rest has) k)))

pub returns-clause-own : goal.returns-clause-own
returns-clause-own g c =
    let looked = c.look-word.ensures in let did = c.compare_exchange.ensures.2.0 c.if-compare_exchange-word.false in let moved = c.exchange.ensures in
    claims_seat c.args.self.now c.exchange.new.seat c.args.item (g.T.Timed.time_of did.0) c.look-word.new.seat.me.0
    (moved.0 ∙ (c.compare_exchange.ensures.0 ∙ looked.own.table)) looked.own.plan looked.own.share
    (moved.3 ∙ ap (λ m. (m.0, (c.args.item, None) ∷ rest m.1)) did.1)
