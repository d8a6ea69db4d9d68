use Rattle.std.proofs.Common.{◌++◌, refl, sym, ◌∙◌}
use Rattle.std.specs.List.{filter_map}
use Rattle.hume_check.specs.inner.CoreTrees.{slot_at}
use Rattle.hume_check.proofs.Slots.{all_taken, one_taken, none_taken}
use Rattle.hume_check.proofs.core_trees.in_order.Goals as goal
use Rattle.hume_check.proofs.core_trees.in_order.Goals.{in-Some+in_ok-push, in_default}

pub loop-number-init : goal.loop-number-init
loop-number-init c = λ i. c.new-found.ensures i ++ filter_map (slot_at (c.into_vec-slots.ensures i)) c.args.order.now

pub loop-number-preserved : goal.loop-number-preserved
loop-number-preserved c = elim c.match-take_at.branch [
  | in-Some+in_ok-push w ↦
      one_taken c.args.order.now c.requires _ c.loop-number.number-index _ c.loop-number-test.true refl c.loop-number.found c.loop-number.slots.items
      c.take_at.new.slots.items c.loop-number.invariant c.take_at.ensures.left w.in-Some.trees c.match-take_at.found
      (sym w.in-Some.is ∙ c.take_at.ensures.taken) (w.found-is ∙ w.in_ok-push.ensures.ok)
  | in_default w ↦
      none_taken c.args.order.now c.requires _ c.loop-number.number-index _ c.loop-number-test.true refl c.loop-number.found c.loop-number.slots.items
      c.take_at.new.slots.items c.loop-number.invariant c.take_at.ensures.left c.match-take_at.found (sym w.in_default.is ∙ c.take_at.ensures.taken)
      w.found-is
]

pub returns : goal.returns
returns c =
    all_taken c.args.order.now c.requires _ c.loop-number.found c.loop-number.slots.items c.loop-number.number-index c.loop-number-test.false
    c.loop-number.invariant
