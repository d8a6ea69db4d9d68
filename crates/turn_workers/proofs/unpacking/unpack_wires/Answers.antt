use Rattle.std.proofs.Common.{rules, ◌≡◌, ◌-◌, ◌<◌, length, take, vec_len, Some, slice_get, ap, ◌∙◌, arith}
use Rattle.std.proofs.lemmas.List.{length-set, take-take}
use Rattle.turn_workers.specs.inner.Itemed.{cells_of}
use Rattle.turn_workers.proofs.Unpacked.{number_within, one_wire_home, taken_item}
use Rattle.turn_workers.proofs.unpacking.unpack_wires.Goals as goal

pub into_wire-requires-clause-number : goal.into_wire-requires-clause-number
into_wire-requires-clause-number g c = λ κs le.
    let above : c.args.count < vec_len c.unpacking.items = search rules in
    let count = c.requires.count.0 in
    let shorter = c.in-Some.ensures.len in let ok = c.pop.new.self.ok.0 in
    let it = taken_item g.O.Opens.opened g.O.Opens.plan g.O.Opens.grouping g.O.Opens.steps (vec_len c.unpacking.items) c.args.items.now.items c.unpacking.items.items c.pop.new.self.items c.in-Some.item
    c.requires.items c.unpacking.invariant.left c.in-Some.ensures.items (omega (arith, shorter, ok)) in
    let number = it.1.number in omega (arith, number, above, shorter, ok, count)

pub into_wire-requires-clause-right : goal.into_wire-requires-clause-right
into_wire-requires-clause-right g c = λ κs le.
    let shorter = c.in-Some.ensures.len in let ok = c.pop.new.self.ok.0 in
    let it = taken_item g.O.Opens.opened g.O.Opens.plan g.O.Opens.grouping g.O.Opens.steps (vec_len c.unpacking.items) c.args.items.now.items c.unpacking.items.items c.pop.new.self.items c.in-Some.item
    c.requires.items c.unpacking.invariant.left c.in-Some.ensures.items (omega (arith, shorter, ok)) in
    it.1.right

pub put_home-requires : goal.put_home-requires
put_home-requires g c =
    let shorter = c.in-Some.ensures.len in let ok = c.pop.new.self.ok.0 in
    let it = taken_item g.O.Opens.opened g.O.Opens.plan g.O.Opens.grouping g.O.Opens.steps (vec_len c.unpacking.items) c.args.items.now.items c.unpacking.items.items c.pop.new.self.items c.in-Some.item
    c.requires.items c.unpacking.invariant.left c.in-Some.ensures.items (omega (arith, shorter, ok)) in
    let is = it.0 ∙ ap (λ x. Some x) c.into_wire.ensures in
    let long = c.unpacking.invariant.long in
    let whole = c.requires.grouping.1 in
    number_within g.O.Opens.opened g.O.Opens.plan g.O.Opens.grouping g.O.Opens.steps c.requires.grouping.0 (cells_of c.args.items.now.items) c.requires.items (length c.pop.new.self.items) _ c.into_wire.result is
    c.unpacking.home.items (omega (arith, long, whole))

pub unpacking-preserved : goal.unpacking-preserved
unpacking-preserved g c =
    let above : c.args.count < vec_len c.unpacking.items = search rules in
    let count = c.requires.count.0 in
    let shorter = c.in-Some.ensures.len in let ok = c.pop.new.self.ok.0 in
    let it = taken_item g.O.Opens.opened g.O.Opens.plan g.O.Opens.grouping g.O.Opens.steps (vec_len c.unpacking.items) c.args.items.now.items c.unpacking.items.items c.pop.new.self.items c.in-Some.item
    c.requires.items c.unpacking.invariant.left c.in-Some.ensures.items (omega (arith, shorter, ok)) in
    let is = it.0 ∙ ap (λ x. Some x) c.into_wire.ensures in
    let long = c.unpacking.invariant.long in
    let whole = c.requires.grouping.1 in
    let inside = number_within g.O.Opens.opened g.O.Opens.plan g.O.Opens.grouping g.O.Opens.steps c.requires.grouping.0 (cells_of c.args.items.now.items) c.requires.items (length c.pop.new.self.items) _ c.into_wire.result is
    c.unpacking.home.items (omega (arith, long, whole)) in
    record {
      left = c.in-Some.ensures.rest ∙ (ap (take (vec_len c.unpacking.items - 1)) c.unpacking.invariant.left
          ∙ (take-take (vec_len c.unpacking.items - 1) (vec_len c.unpacking.items) c.args.items.now.items (omega arith)
          ∙ ap (λ n. take n c.args.items.now.items) (let e : vec_len c.unpacking.items - 1 ≡ vec_len c.pop.new.self = omega (arith, shorter) in e)));
      least = omega (arith, shorter, above, count);
      back = λ q m other from there. ap (λ xs. slice_get xs other.number) c.put_home.ensures
          ∙ one_wire_home g.O.Opens.opened g.O.Opens.plan g.O.Opens.grouping g.O.Opens.steps c.requires.grouping.0 (cells_of c.args.items.now.items) c.requires.items (length c.pop.new.self.items) _ c.into_wire.result is
          c.unpacking.home.items inside
          (λ r k cell later at. c.unpacking.invariant.back r k cell (omega (arith, later, shorter, ok)) at)
          q m other (omega (arith, from, ok)) there;
      long = ap length c.put_home.ensures ∙ (length-set c.unpacking.home.items c.into_wire.result.number (Some c.into_wire.result) ∙ long);
    }
