use Rattle.std.proofs.Common.{rules, ◌≡◌, ◌<◌, ◌+◌, ◌-◌, ◌/◌, sym, subst, ap, ◌∙◌, arith}
use Rattle.hume_net.specs.declared.plan.Plan.{Plan}
use Rattle.turn_locker.specs.declared.view.View.{View}
use Rattle.turn_locker.specs.Asking.{MayPass}
use Rattle.turn_locker.specs.Seats.{LockerView}
use Rattle.turn_locker.specs.Views.{passes}
use Rattle.turn_locker.proofs.Passes.{passes_step, held_to_pass, slot_pass}
use Rattle.turn_locker.proofs.locker.Locker.pass.Goals as goal

pub fill-word-requires-clause-held : goal.fill-word-requires-clause-held
fill-word-requires-clause-held g c = λ κs le. (_, held_to_pass _ _ _ _ c.requires.may)

pub store-requires : goal.store-requires
store-requires g c =
    let out = c.fill-word.ensures.out in let value = c.requires.value in let time = c.requires.time in let view = ap (λ m. m.0) out in
    let t = g.T.Timed.time_of c.args.value in
    let word = c.fill-word.ensures.word (t - 1) (held_to_pass _ _ _ _ c.requires.may) in let pos = time.0 in
    let key = sym (c.self.invariant.0 ∙ ap (λ (l : LockerView). l.plan) c.self.view_is) in (
      search rules,
      search rules,
      passes_step _ _ _ _ _ _ _ (t - 1) _ c.args.value _ (ap (λ (v : View). v.plan) view ∙ (c.requires.own.plan ∙ key))
          (subst (λ (v : View). 0 < v.share) (sym view) c.requires.own.share)
          (ap (λ m. m.1) out) (ap (λ (v : View). v.out) view)
          (subst (λ (y : Plan × View). MayPass y.0 c.args.item (t - 1) y.1) (λ k. (key k, sym view k)) (slot_pass _ _ _ _ c.requires.may))
          value.0 (omega (arith, pos)) value.1 (omega (arith, word, pos)),
    )

pub returns-clause-view : goal.returns-clause-view
returns-clause-view g c =
    let t = g.T.Timed.time_of c.args.value in let pos = c.requires.time.0 in let view = ap (λ m. m.0) c.fill-word.ensures.out in
    let word = c.fill-word.ensures.word (t - 1) (held_to_pass _ _ _ _ c.requires.may) in
    let time : (c.fill-word.result + 1) / 2 - 1 ≡ t - 1 = omega (arith, word, pos) in
    ap (λ m. m.0) c.store.ensures.2 ∙ (λ k. passes ((ap (λ (v : View). v.plan) view ∙ c.requires.own.plan) k) c.args.item (time k) (view k))
