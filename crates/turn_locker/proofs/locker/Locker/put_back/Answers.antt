use Rattle.std.proofs.Common.{rules, ◌<◌, sym, subst, ap, ◌∙◌, refl, arith}
use Rattle.hume_net.specs.declared.plan.Plan.{Plan}
use Rattle.turn_locker.specs.declared.view.View.{View}
use Rattle.turn_locker.specs.Asking.{MayPutBack}
use Rattle.turn_locker.specs.Seats.{LockerView}
use Rattle.turn_locker.proofs.Steps.{releases_step, slot_put_back}
use Rattle.turn_locker.proofs.locker.Locker.put_back.Goals as goal

pub fill-word-requires-clause-held : goal.fill-word-requires-clause-held
fill-word-requires-clause-held g c = λ κs le. (_, c.requires.may.is_held)

pub store-requires : goal.store-requires
store-requires g c =
    let out = c.fill-word.ensures.out in let value = c.requires.value in let view = ap (λ m. m.0) out in let t = g.T.Timed.time_of c.args.value in
    let word = c.fill-word.ensures.word t c.requires.may.is_held in let key = sym (c.self.invariant.0 ∙ ap (λ (l : LockerView). l.plan) c.self.view_is) in (
      search rules,
      search rules,
      releases_step _ _ _ _ _ _ _ t _ c.args.value _ (subst (λ (v : View). 0 < v.share) (sym view) c.requires.own.share) (ap (λ m. m.1) out)
          (ap (λ (v : View). v.out) view)
          value.0 refl value.1 (omega (arith, word))
          (subst (λ (y : Plan × View). MayPutBack y.0 c.args.item t y.1) (λ k. (key k, sym view k)) (slot_put_back _ _ _ _ c.requires.may)),
    )
