use Rattle.std.proofs.Common.{◌≡◌, ◌+◌, [], ◌∷◌, ap, ◌∙◌}
use Rattle.turn_locker.specs.declared.view.View.{View}
use Rattle.turn_locker.specs.Seats.{view_of}
use Rattle.turn_workers.specs.inner.Stacks.{pairs_of}
use Rattle.turn_workers.proofs.Going.{group_may_pass, all_gone}
use Rattle.turn_workers.proofs.turns.try_turn.Goals as goal

pub pass_group-requires-clause-may : goal.pass_group-requires-clause-may
pass_group-requires-clause-may g c = λ κs le.
    let some = c.in-Some.ensures.some in
    let number = c.args.number in
    let side = c.args.side.now in
    let v = view_of c.turn_wires-made.new.seat in
    let held : v.held ≡ (number, c.args.time) ∷ [] = c.turn_wires-made.ensures.held
    ∙ (ap (λ (v : View). v.held) c.in-Some.ensures.claimed ∙ ap (λ hs. (number, c.args.time) ∷ hs) c.requires.idle.free.0) in
    let passed : v.passed ≡ pairs_of number side = c.if-made.ensures.passed ∙ ap (λ n. pairs_of n side) some.0 in
    let later : c.turn_wires-made.new.group.time ≡ c.args.time + 1 = c.if-made.ensures.time ∙ ap (λ t. t + 1) some.1 in
    let is : c.turn_wires-made.new.group.number ≡ number = c.turn_wires-made.ensures.number ∙ some.0 in
    group_may_pass g.O.Opens.plan g.O.Opens.grouping c.args.locker.now c.requires.shared.of_groups number c.args.time side c.requires.side c.requires.number v held passed
    c.turn_wires-made.new.group.number c.turn_wires-made.new.group.time is later

pub returns-then-made-clause-idle : goal.returns-then-made-clause-idle
returns-then-made-clause-idle g c =
    let some = c.in-Some.ensures.some in
    let number = c.args.number in
    let side = c.args.side.now in
    let v = view_of c.turn_wires-made.new.seat in
    let held : v.held ≡ (number, c.args.time) ∷ [] = c.turn_wires-made.ensures.held
    ∙ (ap (λ (v : View). v.held) c.in-Some.ensures.claimed ∙ ap (λ hs. (number, c.args.time) ∷ hs) c.requires.idle.free.0) in
    let passed : v.passed ≡ pairs_of number side = c.if-made.ensures.passed ∙ ap (λ n. pairs_of n side) some.0 in
    let later : c.turn_wires-made.new.group.time ≡ c.args.time + 1 = c.if-made.ensures.time ∙ ap (λ t. t + 1) some.1 in
    let is : c.turn_wires-made.new.group.number ≡ number = c.turn_wires-made.ensures.number ∙ some.0 in
    record {
      own = c.pass_group.ensures.own;
      free = all_gone g.O.Opens.plan g.O.Opens.grouping c.args.locker.now c.requires.shared.of_groups number c.args.time side c.requires.side c.requires.number v held passed
          c.turn_wires-made.new.group.number c.turn_wires-made.new.group.time is later (view_of c.pass_group.new.seat) c.pass_group.ensures.view;
    }
