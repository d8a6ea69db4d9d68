use Rattle.std.proofs.Common.{◌≡◌, ◌<◌, ◌+◌, ◌%◌, length, get_or, slice_set, ap, sym, ◌∙◌, subst, arith}
use Rattle.std.proofs.lemmas.Option.{slice_get-get_or}
use Rattle.hume_net.specs.declared.plan.Plan.{Plan}
use Rattle.box_step.specs.declared.nodes.cell.BoxCell.{BoxCell}
use Rattle.step_turns.specs.Homes.{IsHome, IsSideOf}
use Rattle.step_turns.specs.Rounds.{IsWholeSide}
use Rattle.step_turns.proofs.OneTurn.{any_default, has_room, has_span}
use Rattle.turn_workers.specs.Members.{numbers_of}
use Rattle.turn_workers.specs.inner.Halves.{IsMidway}
use Rattle.turn_workers.proofs.Midway.{due, is_node, one_stepped, side_home}
use Rattle.turn_workers.proofs.halves.step_member.Goals as goal

pub side_of-side-requires : goal.side_of-side-requires
side_of-side-requires g c =
    let core = c.args.core.now in
    let k = c.args.k in
    let members = c.args.members.now in
    let home = c.args.home.now in
    let midway = subst (λ (p : Plan). IsMidway g.O.Opens.opened p c.args.time k (numbers_of members) members home) c.requires.plan c.requires.midway in
    let cell = get_or members k c.index-members-k.result in
    let there = slice_get-get_or members k c.index-members-k.result c.requires.inside in (
      core,
      c.requires.sides.0,
      c.requires.sides.1,
      subst (λ n. n < length core.nodes) (sym c.number-node.ensures)
          (is_node g.O.Opens.opened core c.args.time k c.requires.sides.0 (numbers_of members) members home midway cell there),
    )

pub turn-requires-clause-time : goal.turn-requires-clause-time
turn-requires-clause-time g c κs within =
    let core = c.args.core.now in
    let k = c.args.k in
    let members = c.args.members.now in
    let home = c.args.home.now in
    let midway = subst (λ (p : Plan). IsMidway g.O.Opens.opened p c.args.time k (numbers_of members) members home) c.requires.plan c.requires.midway in
    let d = c.index-members-k-2.result in
    let cell = get_or members k d in
    let there = slice_get-get_or members k d c.requires.inside in
    let now = due g.O.Opens.opened core c.args.time k c.requires.sides.0 (numbers_of members) members home midway cell there in
    let early = c.requires.time.0 in
    let short : g.O.Opens.steps < 4294967296 = c.requires.time.1 in
    omega (arith, now, early, short)

pub turn-requires-clause-room : goal.turn-requires-clause-room
turn-requires-clause-room g c κs within = λ even.
    let core = c.args.core.now in
    let k = c.args.k in
    let members = c.args.members.now in
    let home = c.args.home.now in
    let midway = subst (λ (p : Plan). IsMidway g.O.Opens.opened p c.args.time k (numbers_of members) members home) c.requires.plan c.requires.midway in
    let d = c.index-members-k-2.result in
    let cell = get_or members k d in
    let there = slice_get-get_or members k d c.requires.inside in
    let now = due g.O.Opens.opened core c.args.time k c.requires.sides.0 (numbers_of members) members home midway cell there in
    let some = c.requires.some in
    has_room some.0 cell c.args.time now (midway.nodes k cell there some.0 some.1)
    (has_span some.0 g.O.Opens.steps some.2 c.args.time c.requires.time.0 (sym (ap (λ t. t % 2) now) ∙ even))

pub turn-requires-clause-side : goal.turn-requires-clause-side
turn-requires-clause-side g c κs within =
    let core = c.args.core.now in
    let k = c.args.k in
    let members = c.args.members.now in
    let home = c.args.home.now in
    let midway = subst (λ (p : Plan). IsMidway g.O.Opens.opened p c.args.time k (numbers_of members) members home) c.requires.plan c.requires.midway in
    let d = c.index-members-k-2.result in
    let cell = get_or members k d in
    let there = slice_get-get_or members k d c.requires.inside in
    let now = due g.O.Opens.opened core c.args.time k c.requires.sides.0 (numbers_of members) members home midway cell there in
    let number : c.number-node.result ≡ cell.number = c.number-node.ensures
    ∙ ap (λ (x : BoxCell). x.number) (any_default members k c.index-members-k.result d c.requires.inside) in
    let less = subst (λ n. n < length core.nodes) (sym number)
    (is_node g.O.Opens.opened core c.args.time k c.requires.sides.0 (numbers_of members) members home midway cell there) in
    let whole = subst (λ n. IsWholeSide core n c.args.time c.requires.sides.0 c.side_of-side.result.now) number
    (c.side_of-side.ensures core c.requires.sides.0 c.requires.sides.1 less) in
    subst (λ t. IsSideOf core cell.number t c.side_of-side.result.now) (sym now) whole.is

pub turn-requires-clause-home : goal.turn-requires-clause-home
turn-requires-clause-home g c κs within = λ place w found.
    let core = c.args.core.now in
    let k = c.args.k in
    let members = c.args.members.now in
    let home = c.args.home.now in
    let midway = subst (λ (p : Plan). IsMidway g.O.Opens.opened p c.args.time k (numbers_of members) members home) c.requires.plan c.requires.midway in
    let d = c.index-members-k-2.result in
    let cell = get_or members k d in
    let there = slice_get-get_or members k d c.requires.inside in
    let now = due g.O.Opens.opened core c.args.time k c.requires.sides.0 (numbers_of members) members home midway cell there in
    let number : c.number-node.result ≡ cell.number = c.number-node.ensures
    ∙ ap (λ (x : BoxCell). x.number) (any_default members k c.index-members-k.result d c.requires.inside) in
    let less = subst (λ n. n < length core.nodes) (sym number)
    (is_node g.O.Opens.opened core c.args.time k c.requires.sides.0 (numbers_of members) members home midway cell there) in
    let whole = subst (λ n. IsWholeSide core n c.args.time c.requires.sides.0 c.side_of-side.result.now) number
    (c.side_of-side.ensures core c.requires.sides.0 c.requires.sides.1 less) in
    subst (λ t. IsHome w t home) (sym now)
    (side_home g.O.Opens.opened core c.args.time k c.requires.sides.0 (numbers_of members) members home midway cell there c.side_of-side.result.now whole
    place w found)

pub turn-requires-clause-right : goal.turn-requires-clause-right
turn-requires-clause-right g c κs within =
    let core = c.args.core.now in
    let k = c.args.k in
    let members = c.args.members.now in
    let home = c.args.home.now in
    let midway = subst (λ (p : Plan). IsMidway g.O.Opens.opened p c.args.time k (numbers_of members) members home) c.requires.plan c.requires.midway in
    let d = c.index-members-k-2.result in
    let cell = get_or members k d in
    let there = slice_get-get_or members k d c.requires.inside in
    let now = due g.O.Opens.opened core c.args.time k c.requires.sides.0 (numbers_of members) members home midway cell there in
    let some = c.requires.some in
    (some.0, c.requires.opens some.0 some.1, record { kind = midway.nodes k cell there some.0 some.1; wires = midway.wires some.0 some.1 })

pub returns-clause-midway : goal.returns-clause-midway
returns-clause-midway g c =
    let core = c.args.core.now in
    let k = c.args.k in
    let members = c.args.members.now in
    let home = c.args.home.now in
    let midway = subst (λ (p : Plan). IsMidway g.O.Opens.opened p c.args.time k (numbers_of members) members home) c.requires.plan c.requires.midway in
    let d = c.index-members-k-2.result in
    let cell = get_or members k d in
    let there = slice_get-get_or members k d c.requires.inside in
    let now = due g.O.Opens.opened core c.args.time k c.requires.sides.0 (numbers_of members) members home midway cell there in
    let number : c.number-node.result ≡ cell.number = c.number-node.ensures
    ∙ ap (λ (x : BoxCell). x.number) (any_default members k c.index-members-k.result d c.requires.inside) in
    let less = subst (λ n. n < length core.nodes) (sym number)
    (is_node g.O.Opens.opened core c.args.time k c.requires.sides.0 (numbers_of members) members home midway cell there) in
    let whole = subst (λ n. IsWholeSide core n c.args.time c.requires.sides.0 c.side_of-side.result.now) number
    (c.side_of-side.ensures core c.requires.sides.0 c.requires.sides.1 less) in
    let after = one_stepped g.O.Opens.opened core c.args.time k c.requires.sides.0 (numbers_of members) members home midway cell there
    c.side_of-side.result.now whole c.turn.new.node c.turn.new.home c.turn.ensures.number (c.turn.ensures.time ∙ ap (λ t. t + 1) now)
    (λ p w found. subst (λ t. IsHome w (t + 1) c.turn.new.home) now (c.turn.ensures.home p w found)) c.turn.ensures.others
    (λ opening is. c.turn.ensures.right opening (c.requires.opens opening is) (record {
      kind = midway.nodes k cell there opening is;
      wires = midway.wires opening is;
    })) in
    subst (λ (p : Plan). IsMidway g.O.Opens.opened p c.args.time (k + 1) (numbers_of members) (slice_set members k c.turn.new.node) c.turn.new.home) (sym c.requires.plan) after
