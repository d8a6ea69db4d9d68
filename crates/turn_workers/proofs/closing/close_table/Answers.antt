use Rattle.std.proofs.Common.{◌≡◌, ◌+◌, ◌<◌, ◌≤◌, ℕ, length, Some, slice_get, ap, sym, ◌∙◌, subst, arith}
use Rattle.hume_net.specs.declared.plan.Plan.{Plan}
use Rattle.hume_net.specs.Plan.{IsPlan, plan_of, wires_of}
use Rattle.hume_net.specs.Times.{AreBalanced, wire_time}
use Rattle.hume_net.proofs.Plans.{wires_counted}
use Rattle.superstep_core.specs.declared.grouping.Grouping.{Grouping}
use Rattle.superstep_core.specs.Groups.{IsGrouping, quotient}
use Rattle.turn_workers.specs.declared.cells.Group.{Group as AGroup}
use Rattle.turn_workers.specs.declared.cells.NetCell.TheVariants.{Group}
use Rattle.turn_workers.specs.Members.{members_from}
use Rattle.turn_workers.specs.inner.Closed.{AreGroupsBack, AreWiresBack}
use Rattle.turn_workers.specs.inner.Gathered.{AreScattered}
use Rattle.turn_workers.specs.inner.Itemed.{cells_of, AreItems}
use Rattle.turn_workers.specs.inner.Unstowed.{AreUnstowed, HaveInner}
use Rattle.turn_workers.proofs.Closed.{back_in_place, back_right, back_until}
use Rattle.turn_workers.proofs.TakenBack.{all_items, cells_first, groups_back, have_inner, items_first, long, wires_back}
use Rattle.turn_workers.proofs.closing.close_table.Goals as goal

pub unpack_wires-requires-clause-items : goal.unpack_wires-requires-clause-items
unpack_wires-requires-clause-items g c = λ κs le.
    let core = c.args.core.now in
    let shape = g.O.Opens.grouping in
    let of = c.requires.of in
    let values = c.close-items.result.items in
    all_items _ g.O.Opens.opened g.O.Opens.plan shape g.O.Opens.steps of.0.grouping c.args.locker.plan of.0.is values c.close-items.ensures

pub unpack_groups-requires-clause-items : goal.unpack_groups-requires-clause-items
unpack_groups-requires-clause-items g c = λ κs le.
    let core = c.args.core.now in
    let shape = g.O.Opens.grouping in
    let of = c.requires.of in
    let values = c.close-items.result.items in
    let all = long _ g.O.Opens.opened g.O.Opens.plan shape g.O.Opens.steps of.0.grouping c.args.locker.plan of.0.is values c.close-items.ensures in
    let few : shape.count ≤ length values = omega (arith, all) in
    subst (λ xs. AreItems g.O.Opens.opened g.O.Opens.plan shape g.O.Opens.steps (cells_of xs)) (sym c.unpack_wires.ensures.items)
    (items_first _ g.O.Opens.opened g.O.Opens.plan shape g.O.Opens.steps shape.count values few (all_items _ g.O.Opens.opened g.O.Opens.plan shape g.O.Opens.steps of.0.grouping c.args.locker.plan of.0.is values c.close-items.ensures))

pub scatter-requires-clause-groups : goal.scatter-requires-clause-groups
scatter-requires-clause-groups g c = λ j own here.
    let core = c.args.core.now in
    let shape = g.O.Opens.grouping in
    let of = c.requires.of in
    let values = c.close-items.result.items in
    let all = long _ g.O.Opens.opened g.O.Opens.plan shape g.O.Opens.steps of.0.grouping c.args.locker.plan of.0.is values c.close-items.ensures in
    let few : shape.count ≤ length values = omega (arith, all) in
    let are = λ (i : ℕ) (group : AGroup) (at : slice_get c.unpack_groups.new.groups.items i ≡ Some group).
    cells_first _ shape.count values few i (Group group) (ap (λ xs. slice_get (cells_of xs) i) (sym c.unpack_wires.ensures.items)
    ∙ c.unpack_groups.ensures.groups i group at) in
    let back = groups_back _ g.O.Opens.opened g.O.Opens.plan shape g.O.Opens.steps of.0.grouping c.args.locker.plan of.0.is values c.close-items.ensures
    c.unpack_groups.new.groups.items c.unpack_groups.ensures.count are in
    let nodes : g.O.Opens.plan.nodes ≡ c.len.result = ap (λ (p : Plan). p.nodes) of.3 ∙ sym c.len.ensures in
    (back.right j own here).numbers ∙ (λ i. members_from (sym of.1 i) (back.number j own here i) 0 (nodes i))

pub unstow-requires-clause-groups : goal.unstow-requires-clause-groups
unstow-requires-clause-groups g c =
    let core = c.args.core.now in
    let shape = g.O.Opens.grouping in
    let of = c.requires.of in
    let values = c.close-items.result.items in
    let all = long _ g.O.Opens.opened g.O.Opens.plan shape g.O.Opens.steps of.0.grouping c.args.locker.plan of.0.is values c.close-items.ensures in
    let few : shape.count ≤ length values = omega (arith, all) in
    let are = λ (i : ℕ) (group : AGroup) (at : slice_get c.unpack_groups.new.groups.items i ≡ Some group).
    cells_first _ shape.count values few i (Group group) (ap (λ xs. slice_get (cells_of xs) i) (sym c.unpack_wires.ensures.items)
    ∙ c.unpack_groups.ensures.groups i group at) in
    subst (λ (z : Plan × Grouping). HaveInner z.0 z.1 c.scatter.new.groups.items) (λ i. (sym of.2 i, sym of.1 i))
    (have_inner _ g.O.Opens.opened g.O.Opens.plan shape g.O.Opens.steps of.0.grouping c.args.locker.plan of.0.is values c.close-items.ensures
    c.unpack_groups.new.groups.items c.unpack_groups.ensures.count are c.scatter.new.groups.items c.scatter.ensures.rest)

pub returns-clause-place : goal.returns-clause-place
returns-clause-place g c =
    let core = c.args.core.now in
    let shape = g.O.Opens.grouping in
    let of = c.requires.of in
    let values = c.close-items.result.items in
    let all = long _ g.O.Opens.opened g.O.Opens.plan shape g.O.Opens.steps of.0.grouping c.args.locker.plan of.0.is values c.close-items.ensures in
    let few : shape.count ≤ length values = omega (arith, all) in
    let are = λ (i : ℕ) (group : AGroup) (at : slice_get c.unpack_groups.new.groups.items i ≡ Some group).
    cells_first _ shape.count values few i (Group group) (ap (λ xs. slice_get (cells_of xs) i) (sym c.unpack_wires.ensures.items)
    ∙ c.unpack_groups.ensures.groups i group at) in
    let to_core : c.args.locker.plan ≡ quotient (plan_of core) shape = of.0.is ∙ ap (λ p. quotient p shape) of.3 in
    let planned = subst IsPlan of.3 of.0.planned in
    let grouping = subst (λ p. IsGrouping p shape) of.3 of.0.grouping in
    let clock = c.close-items.ensures.clock in
    let balanced = subst (λ p. AreBalanced p clock) to_core c.close-items.ensures.balanced in
    let ties = subst (λ p. (w : ℕ) → w < wires_of p → clock (p.nodes + w) ≡ wire_time p clock w) to_core c.close-items.ensures.wires in
    let counted = wires_counted core in
    let same_wires = ap wires_of of.3 in
    let kept = c.unpack_wires.ensures.long in
    let was = c.requires.home in
    let unstowed = subst (λ (z : Plan × Grouping). AreUnstowed z.0 z.1 (wires_of z.0) c.unpack_wires.new.home.items c.unstow.new.home.items
    c.scatter.new.groups.items c.unstow.new.groups.items) (λ i. (of.2 i, of.1 i)) c.unstow.ensures in
    let back = subst (λ p. AreGroupsBack g.O.Opens.opened p shape g.O.Opens.steps clock c.unpack_groups.new.groups.items) of.3 (groups_back _ g.O.Opens.opened g.O.Opens.plan shape g.O.Opens.steps of.0.grouping c.args.locker.plan of.0.is values c.close-items.ensures
    c.unpack_groups.new.groups.items c.unpack_groups.ensures.count are) in
    let wires = subst (λ p. AreWiresBack g.O.Opens.opened p shape g.O.Opens.steps clock c.unpack_groups.new.groups.items c.unstow.new.home.items) of.3
    (wires_back _ g.O.Opens.opened g.O.Opens.plan shape g.O.Opens.steps of.0.grouping c.args.locker.plan of.0.is values c.close-items.ensures
    c.unpack_groups.new.groups.items c.unpack_groups.ensures.count are
    c.scatter.new.groups.items c.scatter.ensures.rest c.scatter.ensures.count c.unpack_wires.new.home.items c.unstow.new.home.items
    (omega (arith, counted, same_wires, kept, was)) c.unpack_wires.ensures.home c.unstow.new.groups.items unstowed of.0.planned) in
    let scattered = subst (λ (z : Grouping × ℕ). AreScattered z.0 c.unpack_groups.new.groups.items z.1 c.scatter.new.nodes.items)
    (λ i. (of.1 i, c.len.ensures i)) c.scatter.ensures.nodes in
    back_in_place g.O.Opens.opened core shape g.O.Opens.steps planned grouping clock balanced ties c.unpack_groups.new.groups.items back
    c.scatter.new.nodes.items scattered c.unstow.new.home.items wires

pub returns-clause-until : goal.returns-clause-until
returns-clause-until g c =
    let core = c.args.core.now in
    let shape = g.O.Opens.grouping in
    let of = c.requires.of in
    let values = c.close-items.result.items in
    let all = long _ g.O.Opens.opened g.O.Opens.plan shape g.O.Opens.steps of.0.grouping c.args.locker.plan of.0.is values c.close-items.ensures in
    let few : shape.count ≤ length values = omega (arith, all) in
    let are = λ (i : ℕ) (group : AGroup) (at : slice_get c.unpack_groups.new.groups.items i ≡ Some group).
    cells_first _ shape.count values few i (Group group) (ap (λ xs. slice_get (cells_of xs) i) (sym c.unpack_wires.ensures.items)
    ∙ c.unpack_groups.ensures.groups i group at) in
    let to_core : c.args.locker.plan ≡ quotient (plan_of core) shape = of.0.is ∙ ap (λ p. quotient p shape) of.3 in
    let planned = subst IsPlan of.3 of.0.planned in
    let grouping = subst (λ p. IsGrouping p shape) of.3 of.0.grouping in
    let clock = c.close-items.ensures.clock in
    let balanced = subst (λ p. AreBalanced p clock) to_core c.close-items.ensures.balanced in
    let ties = subst (λ p. (w : ℕ) → w < wires_of p → clock (p.nodes + w) ≡ wire_time p clock w) to_core c.close-items.ensures.wires in
    let counted = wires_counted core in
    let same_wires = ap wires_of of.3 in
    let kept = c.unpack_wires.ensures.long in
    let was = c.requires.home in
    let unstowed = subst (λ (z : Plan × Grouping). AreUnstowed z.0 z.1 (wires_of z.0) c.unpack_wires.new.home.items c.unstow.new.home.items
    c.scatter.new.groups.items c.unstow.new.groups.items) (λ i. (of.2 i, of.1 i)) c.unstow.ensures in
    let back = subst (λ p. AreGroupsBack g.O.Opens.opened p shape g.O.Opens.steps clock c.unpack_groups.new.groups.items) of.3 (groups_back _ g.O.Opens.opened g.O.Opens.plan shape g.O.Opens.steps of.0.grouping c.args.locker.plan of.0.is values c.close-items.ensures
    c.unpack_groups.new.groups.items c.unpack_groups.ensures.count are) in
    let wires = subst (λ p. AreWiresBack g.O.Opens.opened p shape g.O.Opens.steps clock c.unpack_groups.new.groups.items c.unstow.new.home.items) of.3
    (wires_back _ g.O.Opens.opened g.O.Opens.plan shape g.O.Opens.steps of.0.grouping c.args.locker.plan of.0.is values c.close-items.ensures
    c.unpack_groups.new.groups.items c.unpack_groups.ensures.count are
    c.scatter.new.groups.items c.scatter.ensures.rest c.scatter.ensures.count c.unpack_wires.new.home.items c.unstow.new.home.items
    (omega (arith, counted, same_wires, kept, was)) c.unpack_wires.ensures.home c.unstow.new.groups.items unstowed of.0.planned) in
    let scattered = subst (λ (z : Grouping × ℕ). AreScattered z.0 c.unpack_groups.new.groups.items z.1 c.scatter.new.nodes.items)
    (λ i. (of.1 i, c.len.ensures i)) c.scatter.ensures.nodes in
    back_until g.O.Opens.opened core shape g.O.Opens.steps planned grouping clock balanced ties c.unpack_groups.new.groups.items back
    c.scatter.new.nodes.items scattered c.unstow.new.home.items wires

pub returns-clause-right : goal.returns-clause-right
returns-clause-right g c =
    let core = c.args.core.now in
    let shape = g.O.Opens.grouping in
    let of = c.requires.of in
    let values = c.close-items.result.items in
    let all = long _ g.O.Opens.opened g.O.Opens.plan shape g.O.Opens.steps of.0.grouping c.args.locker.plan of.0.is values c.close-items.ensures in
    let few : shape.count ≤ length values = omega (arith, all) in
    let are = λ (i : ℕ) (group : AGroup) (at : slice_get c.unpack_groups.new.groups.items i ≡ Some group).
    cells_first _ shape.count values few i (Group group) (ap (λ xs. slice_get (cells_of xs) i) (sym c.unpack_wires.ensures.items)
    ∙ c.unpack_groups.ensures.groups i group at) in
    let to_core : c.args.locker.plan ≡ quotient (plan_of core) shape = of.0.is ∙ ap (λ p. quotient p shape) of.3 in
    let planned = subst IsPlan of.3 of.0.planned in
    let grouping = subst (λ p. IsGrouping p shape) of.3 of.0.grouping in
    let clock = c.close-items.ensures.clock in
    let balanced = subst (λ p. AreBalanced p clock) to_core c.close-items.ensures.balanced in
    let ties = subst (λ p. (w : ℕ) → w < wires_of p → clock (p.nodes + w) ≡ wire_time p clock w) to_core c.close-items.ensures.wires in
    let counted = wires_counted core in
    let same_wires = ap wires_of of.3 in
    let kept = c.unpack_wires.ensures.long in
    let was = c.requires.home in
    let unstowed = subst (λ (z : Plan × Grouping). AreUnstowed z.0 z.1 (wires_of z.0) c.unpack_wires.new.home.items c.unstow.new.home.items
    c.scatter.new.groups.items c.unstow.new.groups.items) (λ i. (of.2 i, of.1 i)) c.unstow.ensures in
    let back = subst (λ p. AreGroupsBack g.O.Opens.opened p shape g.O.Opens.steps clock c.unpack_groups.new.groups.items) of.3 (groups_back _ g.O.Opens.opened g.O.Opens.plan shape g.O.Opens.steps of.0.grouping c.args.locker.plan of.0.is values c.close-items.ensures
    c.unpack_groups.new.groups.items c.unpack_groups.ensures.count are) in
    let wires = subst (λ p. AreWiresBack g.O.Opens.opened p shape g.O.Opens.steps clock c.unpack_groups.new.groups.items c.unstow.new.home.items) of.3
    (wires_back _ g.O.Opens.opened g.O.Opens.plan shape g.O.Opens.steps of.0.grouping c.args.locker.plan of.0.is values c.close-items.ensures
    c.unpack_groups.new.groups.items c.unpack_groups.ensures.count are
    c.scatter.new.groups.items c.scatter.ensures.rest c.scatter.ensures.count c.unpack_wires.new.home.items c.unstow.new.home.items
    (omega (arith, counted, same_wires, kept, was)) c.unpack_wires.ensures.home c.unstow.new.groups.items unstowed of.0.planned) in
    let scattered = subst (λ (z : Grouping × ℕ). AreScattered z.0 c.unpack_groups.new.groups.items z.1 c.scatter.new.nodes.items)
    (λ i. (of.1 i, c.len.ensures i)) c.scatter.ensures.nodes in
    back_right g.O.Opens.opened core shape g.O.Opens.steps planned grouping clock balanced ties c.unpack_groups.new.groups.items back
    c.scatter.new.nodes.items scattered c.unstow.new.home.items wires
