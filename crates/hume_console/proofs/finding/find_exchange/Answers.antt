use Rattle.std.proofs.Common.{◌≡◌, eqb, true, false, sym, ◌∙◌, arith}
use Rattle.std.specs.Prelude.{slice_index_or}
use Rattle.std.proofs.lemmas.Bool.{eq-eqb, ne_eqb}
use Rattle.hume_console.proofs.Exchanges.{none_from_std_out, may_be_made}
use Rattle.hume_console.proofs.finding.find_exchange.Goals as goal

pub returns-then-of_node-places : goal.returns-then-of_node-places
returns-then-of_node-places g c = λ source session placed.
    let out : eqb (slice_index_or c.args.places.now.streams.items c.in_ok-node.node 0) c.args.places.now.std_out ≡ true =
    eq-eqb _ _ (omega (arith, c.of_node.ensures, c.if-of_node-places.true)) in
    none_from_std_out _ source session _ _ c.args.stream.now c.args.port.now c.in_ok-node.node c.in_ok-to.to
    (sym c.in_ok-node.ensures.number) (sym c.in_ok-to.ensures.place) out placed

pub returns : goal.returns
returns g c = λ source session placed.
    let out : eqb (slice_index_or c.args.places.now.streams.items c.in_ok-node.node 0) c.args.places.now.std_out ≡ false =
    ne_eqb _ _ (λ same. absurd (omega (arith, same, c.of_node.ensures, c.if-of_node-places.false))) in (
      sym c.in_ok-node.ensures.number,
      may_be_made _ source session _ _ c.args.stream.now c.args.port.now c.in_ok-node.node c.in_ok-to.to
          (sym c.in_ok-node.ensures.number) (sym c.in_ok-to.ensures.place) out
          (sym (c.is_taken.ensures source session _ c.args.port.now placed (sym c.in_ok-to.ensures.place)) ∙ c.if-is_taken.false) placed,
      sym c.in_ok-to.ensures.place,
    )
