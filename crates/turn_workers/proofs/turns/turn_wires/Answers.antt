use Rattle.std.proofs.Common.{◌∙◌}
use Rattle.turn_workers.proofs.Stacks.{none_passed}
use Rattle.turn_workers.proofs.turns.turn_wires.Goals as goal

pub let_go_side-requires-clause-passed : goal.let_go_side-requires-clause-passed
let_go_side-requires-clause-passed g c κs within =
    none_passed _ _ _ _ _ c.step_if_held-made.ensures.whole (c.claim_side-claimed.ensures.passed ∙ c.requires.passed)
