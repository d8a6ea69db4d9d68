use Rattle.std.proofs.Common.{◌≡◌, length, ap, ◌∙◌, subst, arith}
use Rattle.turn_workers.specs.inner.Placed.{AreGroupsAtRest, IsGroupAtRest, still_holds}
use Rattle.turn_workers.proofs.Placed.{groups_less, last_group}
use Rattle.turn_workers.proofs.placing.place_groups.Goals as goal

pub place_group-requires-clause-group : goal.place_group-requires-clause-group
place_group-requires-clause-group g c = λ κs le.
    let are = subst (AreGroupsAtRest g.O.Opens.opened g.O.Opens.plan g.O.Opens.grouping g.O.Opens.steps) c.in-Some.ensures.items c.placing.invariant.groups in
    let ok = c.pop.new.self.ok.0 in
    let count = c.len.ensures in
    let same : length c.pop.new.self.items ≡ c.len.result = omega (arith, ok, count) in
    subst (λ i. IsGroupAtRest g.O.Opens.opened g.O.Opens.plan g.O.Opens.grouping g.O.Opens.steps i c.in-Some.group) same
    (last_group g.O.Opens.opened g.O.Opens.plan g.O.Opens.grouping g.O.Opens.steps c.pop.new.self.items c.in-Some.group are)

pub placing-preserved : goal.placing-preserved
placing-preserved g c =
    let are = subst (AreGroupsAtRest g.O.Opens.opened g.O.Opens.plan g.O.Opens.grouping g.O.Opens.steps) c.in-Some.ensures.items c.placing.invariant.groups in
    let shorter = c.in-Some.ensures.len in
    let count = c.len.ensures in
    let few = c.placing.invariant.few in
    record {
      own = c.place_group.ensures.own;
      view = c.place_group.ensures.view ∙ ap (still_holds c.args.locker.now.plan) count;
      few = omega (arith, shorter, few);
      groups = groups_less g.O.Opens.opened g.O.Opens.plan g.O.Opens.grouping g.O.Opens.steps c.pop.new.self.items c.in-Some.group are;
      capacity = c.pop.ensures.capacity ∙ c.placing.invariant.capacity;
    }
