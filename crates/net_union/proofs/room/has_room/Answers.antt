use Rattle.std.proofs.Common.{rules, ◌≡◌, ◌+◌, ◌-◌, ◌≤◌, length, map, nat_le, sum, true, sym, ◌∙◌, arith}
use Rattle.std.proofs.lemmas.Bool.Decides.{nat_tests}
use Rattle.hume_base.specs.declared.limits.TheConstants.{MAX_EXCEPTIONS, MAX_FUNCTIONS, MAX_NODES, MAX_WIRES, MAX_WIRE_WORDS}
use Rattle.hume_model.specs.Limits.{wire_words}
use Rattle.net_union.proofs.RoomTests.{BothFit, fits_then_room, room_then_fits}
use Rattle.net_union.proofs.room.has_room.Goals as goal

pub returns : goal.returns
returns c =
    let a = c.args.a.now in
    let b = c.args.b.now in
    let functions : length a.funs + length b.funs ≤ MAX_FUNCTIONS = search rules in
    let exceptions : length a.exns + (length b.exns - 3) ≤ MAX_EXCEPTIONS = search rules in
    let nodes : length a.nodes + length b.nodes ≤ MAX_NODES = search rules in
    let wires : length a.wires + length b.wires ≤ MAX_WIRES = search rules in
    let words : c.fits-5.result ≡ nat_le (sum (map (wire_words a) a.wires) + sum (map (wire_words b) b.wires)) MAX_WIRE_WORDS = search rules in (
      λ yes. fits_then_room a b c.requires.first c.requires.second (record {
        functions = functions;
        exceptions = exceptions;
        nodes = nodes;
        wires = wires;
        words = (
            let is : nat_le (sum (map (wire_words a) a.wires) + sum (map (wire_words b) b.wires)) MAX_WIRE_WORDS ≡ true = sym words ∙ yes in
            grind (arith, nat_tests));
      }),
      λ room.
          let fit : BothFit a b c.requires.first c.requires.second = room_then_fits a b c.requires.first c.requires.second room in
          let few = fit.words in
          let is : nat_le (sum (map (wire_words a) a.wires) + sum (map (wire_words b) b.wires)) MAX_WIRE_WORDS ≡ true = grind (arith, nat_tests) in
          words ∙ is,
    )
