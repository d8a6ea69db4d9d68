use Rattle.hume_base.proofs.Least.{IsLeast-either}
use Rattle.space_costs.proofs.findings.least_broken.Goals as goal

pub returns : goal.returns
returns c =
    rw (c.earlier-3.ensures, c.earlier-2.ensures, c.earlier.ensures)
    (IsLeast-either _ _ _ _ c.least_past-heap.ensures (IsLeast-either _ _ _ _ c.least_past-stack.ensures (IsLeast-either _ _ _ _ c.least_in_sum-space.ensures c.least_past-work.ensures)))
