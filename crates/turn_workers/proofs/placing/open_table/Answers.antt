use Rattle.std.proofs.Common.{◌≡◌, ℕ, length, vec_len, sym, ◌∙◌, subst, arith}
use Rattle.hume_net.specs.declared.plan.Plan.{Plan}
use Rattle.hume_net.specs.Plan.{IsPlan, plan_of, wires_of}
use Rattle.hume_net.proofs.Plans.{wires_counted}
use Rattle.superstep_core.specs.declared.grouping.Grouping.{Grouping}
use Rattle.superstep_core.specs.Groups.{IsGrouping}
use Rattle.turn_workers.specs.inner.Gathered.{AreGathered, AreStowed}
use Rattle.turn_workers.specs.inner.Placed.{AreGroupsAtRest}
use Rattle.turn_workers.proofs.Opened.{crossing_at_rest, groups_at_rest, none_stowed}
use Rattle.turn_workers.proofs.placing.open_table.Goals as goal

pub stow-requires-clause-cells : goal.stow-requires-clause-cells
stow-requires-clause-cells g c = λ w less.
    let wires = c.requires.place.1 in
    let home_ok = c.args.home.now.ok.0 in
    let is = c.requires.place.0.wires w (omega (arith, less, wires, home_ok)) in
    (is.cell, is.there)

pub stow-requires-clause-begun : goal.stow-requires-clause-begun
stow-requires-clause-begun g c =
    let core = c.args.core.now in
    let shape = g.O.Opens.grouping in
    let of = c.requires.of in
    let to_core = of.2 ∙ of.3 in
    let nodes = c.args.nodes.now.items in
    let home = c.args.home.now.items in
    let place = c.requires.place.0 in
    let wires = c.requires.place.1 in
    let counted = wires_counted core in
    let count = place.count in
    let nodes_ok = c.args.nodes.now.ok.0 in
    let home_ok = c.args.home.now.ok.0 in
    let len = c.len.ensures in
    let all_nodes : vec_len c.args.nodes.now ≡ length core.nodes = omega (arith, nodes_ok, count) in
    let all_wires : c.len.result ≡ wires_of (plan_of core) = omega (arith, len, home_ok, wires, counted) in
    let gathered = subst (λ (q : Grouping × ℕ × ℕ). AreGathered q.0 q.1 q.2 0 nodes c.gather.new.groups.items) (λ i. (of.1 i, all_nodes i, all_wires i))
    c.gather.ensures.groups in
    subst (λ (q : Plan × Grouping). AreStowed q.0 q.1 0 home home c.gather.new.groups.items c.gather.new.groups.items)
    (λ i. (sym to_core i, sym of.1 i)) (none_stowed (plan_of core) shape (length core.nodes) 0 nodes home c.gather.new.groups.items gathered)

pub place_crossing-requires-clause-cells : goal.place_crossing-requires-clause-cells
place_crossing-requires-clause-cells g c = λ κs le.
    let core = c.args.core.now in
    let shape = g.O.Opens.grouping in
    let of = c.requires.of in
    let to_core = of.2 ∙ of.3 in
    let nodes = c.args.nodes.now.items in
    let home = c.args.home.now.items in
    let place = c.requires.place.0 in
    let wires = c.requires.place.1 in
    let counted = wires_counted core in
    let count = place.count in
    let nodes_ok = c.args.nodes.now.ok.0 in
    let home_ok = c.args.home.now.ok.0 in
    let len = c.len.ensures in
    let all_nodes : vec_len c.args.nodes.now ≡ length core.nodes = omega (arith, nodes_ok, count) in
    let all_wires : c.len.result ≡ wires_of (plan_of core) = omega (arith, len, home_ok, wires, counted) in
    let gathered = subst (λ (q : Grouping × ℕ × ℕ). AreGathered q.0 q.1 q.2 0 nodes c.gather.new.groups.items) (λ i. (of.1 i, all_nodes i, all_wires i))
    c.gather.ensures.groups in
    let planned = subst IsPlan of.3 of.0.planned in
    let grouping = subst (λ p. IsGrouping p shape) of.3 of.0.grouping in
    let stowed = subst (λ (q : Plan × Grouping). AreStowed q.0 q.1 (wires_of q.0) home c.stow.new.home.items c.gather.new.groups.items
    c.stow.new.groups.items) (λ i. (to_core i, of.1 i)) c.stow.ensures.stowed in
    crossing_at_rest g.O.Opens.opened core shape g.O.Opens.steps planned grouping nodes home place c.requires.begun c.requires.right c.stow.new.home.items
    c.gather.new.groups.items c.stow.new.groups.items gathered stowed (c.gather.ensures.count ∙ c.requires.groups.0)

pub place_groups-requires-clause-groups : goal.place_groups-requires-clause-groups
place_groups-requires-clause-groups g c = λ κs le.
    let core = c.args.core.now in
    let shape = g.O.Opens.grouping in
    let of = c.requires.of in
    let to_core = of.2 ∙ of.3 in
    let nodes = c.args.nodes.now.items in
    let home = c.args.home.now.items in
    let place = c.requires.place.0 in
    let wires = c.requires.place.1 in
    let counted = wires_counted core in
    let count = place.count in
    let nodes_ok = c.args.nodes.now.ok.0 in
    let home_ok = c.args.home.now.ok.0 in
    let len = c.len.ensures in
    let all_nodes : vec_len c.args.nodes.now ≡ length core.nodes = omega (arith, nodes_ok, count) in
    let all_wires : c.len.result ≡ wires_of (plan_of core) = omega (arith, len, home_ok, wires, counted) in
    let gathered = subst (λ (q : Grouping × ℕ × ℕ). AreGathered q.0 q.1 q.2 0 nodes c.gather.new.groups.items) (λ i. (of.1 i, all_nodes i, all_wires i))
    c.gather.ensures.groups in
    let planned = subst IsPlan of.3 of.0.planned in
    let grouping = subst (λ p. IsGrouping p shape) of.3 of.0.grouping in
    let stowed = subst (λ (q : Plan × Grouping). AreStowed q.0 q.1 (wires_of q.0) home c.stow.new.home.items c.gather.new.groups.items
    c.stow.new.groups.items) (λ i. (to_core i, of.1 i)) c.stow.ensures.stowed in
    subst (λ p. AreGroupsAtRest g.O.Opens.opened p shape g.O.Opens.steps c.stow.new.groups.items) (sym of.3)
    (groups_at_rest g.O.Opens.opened core shape g.O.Opens.steps planned grouping nodes home place c.requires.begun c.requires.right c.stow.new.home.items
    c.gather.new.groups.items c.stow.new.groups.items gathered stowed (c.gather.ensures.count ∙ c.requires.groups.0))
