use Rattle.check_scopes.proofs.types_lemmas.Trees.{below_next, parts_next}
use Rattle.check_scopes.proofs.types.tree_table.parts_of.Goals as goal

pub loop-number-preserved : goal.loop-number-preserved
loop-number-preserved c = (
  parts_next c.args.trees.now c.args.numbers.now c.loop-number.number-index _ c.loop-number.parts c.push.new.self _ c.loop-number-test.true
      c.loop-number.invariant.0 c.in_ok-push.ensures.ok c.in_ok-part_of.ensures.is,
  below_next _ c.loop-number.number-index _ c.args.numbers.now c.loop-number-test.true c.loop-number.invariant.1 c.in_ok-part_of.ensures.within,
)
