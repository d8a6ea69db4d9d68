use Rattle.std.proofs.Common.{rules, ap, ◌∙◌}
use Rattle.turn_locker.specs.declared.view.View.{View}
use Rattle.turn_locker.specs.Held.{held_at}
use Rattle.turn_locker.proofs.Steps.{grasps_step}
use Rattle.turn_locker.proofs.locker.Locker.fill.Goals as goal

pub load-word-requires : goal.load-word-requires
load-word-requires g c = let looked = c.look.ensures in let held = c.requires.held in let view = ap (λ m. m.0) looked.view in (
  search rules,
  search rules,
  grasps_step _ _ _ _ _ _ _ held.0 _ looked.own.share (ap (λ m. m.1) looked.view) (ap (λ (v : View). v.out) view)
      (ap (λ (v : View). held_at c.args.item v.held) view ∙ held.1),
)
