use Rattle.std.proofs.Common.{◌≡◌, ◌+◌, ◌<◌, length, refl, Some, slice_get, slice_index_or, sym, ap, ◌∙◌, subst, arith}
use Rattle.box_step.specs.nodes.Beginnings.{HasItsProgram}
use Rattle.phase_workers.specs.inner.Making.{AreFirstNodes, first_opening}
use Rattle.phase_workers.proofs.Indexes.{index_at, some_at}
use Rattle.phase_workers.proofs.MadeCells.{bare_at, begins, for_node, node_more}
use Rattle.phase_workers.proofs.making.make_nodes.Goals as goal

pub loop-n-init : goal.loop-n-init
loop-n-init c = record {
  nodes = record {
    long = ap length c.new-nodes.ensures.items;
    each = λ n cell at. (let none = ap (λ xs. slice_get xs n) (sym c.new-nodes.ensures.items) ∙ at in cc);
  };
  rest = refl;
}

pub make-requires-clause-program : goal.make-requires-clause-program
make-requires-clause-program c =
    let core = c.args.core.now in
    let n = c.loop-n.n in
    let less : n < length core.nodes = omega (arith, c.loop-n-test.true, c.len-n-end.ensures) in
    let it = some_at core.nodes n less in
    let found = index_at core.nodes n it.0 c.index-as_slice-n.result it.1
    (c.index-as_slice-n.is ∙ ap (λ ns. slice_index_or ns n c.index-as_slice-n.result) c.as_slice.ensures) in
    let at : slice_get core.nodes n ≡ Some c.index-as_slice-n.result = it.1 ∙ ap (λ x. Some x) (sym found) in
    let next = for_node core c.args.programs c.requires.programs c.requires.within n c.index-as_slice-n.result c.loop-n.rest c.next_program-program.new.rest
    c.next_program-program.result at c.loop-n.invariant.rest c.next_program-program.ensures in
    subst (λ o. HasItsProgram o c.next_program-program.result)
    (sym (bare_at core c.args.bare.now c.requires.opens.core_is n c.index-as_slice-n.result at)) next.its

pub loop-n-preserved : goal.loop-n-preserved
loop-n-preserved c =
    let core = c.args.core.now in
    let n = c.loop-n.n in
    let less : n < length core.nodes = omega (arith, c.loop-n-test.true, c.len-n-end.ensures) in
    let it = some_at core.nodes n less in
    let found = index_at core.nodes n it.0 c.index-as_slice-n.result it.1
    (c.index-as_slice-n.is ∙ ap (λ ns. slice_index_or ns n c.index-as_slice-n.result) c.as_slice.ensures) in
    let at : slice_get core.nodes n ≡ Some c.index-as_slice-n.result = it.1 ∙ ap (λ x. Some x) (sym found) in
    let next = for_node core c.args.programs c.requires.programs c.requires.within n c.index-as_slice-n.result c.loop-n.rest c.next_program-program.new.rest
    c.next_program-program.result at c.loop-n.invariant.rest c.next_program-program.ensures in
    let opening = first_opening core c.args.span in
    let right = c.in_ok-cell.ensures.right opening c.requires.opens
    (begins core c.args.programs c.requires.programs c.requires.within n c.args.span c.index-as_slice-n.result c.next_program-program.new.rest
    c.next_program-program.result at next) in
    record {
      nodes = subst (AreFirstNodes core c.args.span (n + 1)) (sym c.in_ok-push.ensures.items)
          (node_more core c.args.span n c.loop-n.nodes.items c.in_ok-cell.cell c.loop-n.invariant.nodes
          (record { number = c.in_ok-cell.ensures.number; time = c.in_ok-cell.ensures.time; right = right }));
      rest = next.left;
    }

pub returns : goal.returns
returns c =
    let all : c.loop-n.n ≡ length c.args.core.now.nodes = omega (arith, c.loop-n-test.false, c.loop-n.auto.n-end, c.len-n-end.ensures) in
    subst (λ k. AreFirstNodes c.args.core.now c.args.span k c.loop-n.nodes.items) all c.loop-n.invariant.nodes
