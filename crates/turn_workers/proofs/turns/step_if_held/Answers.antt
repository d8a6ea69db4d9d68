use Rattle.std.proofs.Common.{◌≡◌, length, refl, sym, subst, arith}
use Rattle.turn_workers.specs.inner.Halves.{IsHeld}
use Rattle.turn_workers.proofs.Going.{side_of_groups}
use Rattle.turn_workers.proofs.Held.{all_made, all_ready, held_same}
use Rattle.turn_workers.proofs.turns.step_if_held.Goals as goal

pub step_group-requires-clause-ready : goal.step_group-requires-clause-ready
step_group-requires-clause-ready g c κs within =
    let of = c.requires.shared.of_groups in
    let group = c.args.group.now in
    let side = c.args.side.now in
    let few = c.requires.few in
    let all : c.args.held ≡ length side = omega arith in
    let held = subst (λ k. IsHeld g.O.Opens.opened g.O.Opens.plan g.O.Opens.grouping g.O.Opens.steps side k group.number group.time group.members.items
    group.home.items) all c.requires.group in
    all_ready g.O.Opens.opened g.O.Opens.plan g.O.Opens.grouping g.O.Opens.steps of.grouping group.number group.time group.members.items side
    (side_of_groups g.O.Opens.plan g.O.Opens.grouping c.args.locker.now of group.number group.time side c.requires.side) group.home.items held

pub returns-clause-group : goal.returns-clause-group
returns-clause-group g c =
    let of = c.requires.shared.of_groups in
    let group = c.args.group.now in
    let side = c.args.side.now in
    let few = c.requires.few in
    let all : c.args.held ≡ length side = omega arith in
    let held = subst (λ k. IsHeld g.O.Opens.opened g.O.Opens.plan g.O.Opens.grouping g.O.Opens.steps side k group.number group.time group.members.items
    group.home.items) all c.requires.group in
    let new = c.step_group.new.group in
    let made = held_same g.O.Opens.opened g.O.Opens.plan g.O.Opens.grouping g.O.Opens.steps side _ c.step_group.ensures.number c.step_group.ensures.time refl
    refl (all_made g.O.Opens.opened g.O.Opens.plan g.O.Opens.grouping g.O.Opens.steps of.grouping group.number group.time group.members.items side
    (side_of_groups g.O.Opens.plan g.O.Opens.grouping c.args.locker.now of group.number group.time side c.requires.side) group.home.items
    of.planned held c.requires.time new.members.items new.home.items c.step_group.ensures.made c.step_group.ensures.long.0
    c.step_group.ensures.long.1) in
    subst (λ k. IsHeld g.O.Opens.opened g.O.Opens.plan g.O.Opens.grouping g.O.Opens.steps side k new.number new.time new.members.items new.home.items) (sym all)
    made
