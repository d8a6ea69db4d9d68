-- A plan with room for more items than workers ever have groups.
use Rattle.std.proofs.Common.{◌+◌, ◌*◌, ◌<◌, ◌≤◌, ◌^◌, ℕ, length, arith}
use Rattle.hume_model.specs.declared.core_tree.Core.{Core}
use Rattle.hume_net.specs.declared.plan.Plan.{Plan}
use Rattle.hume_net.specs.Plan.{plan_of, wires_of}
use Rattle.turn_locker.specs.Held.{items_of}

pub few_nodes : (core : Core) → items_of (plan_of core) + 2 ^ 18 < 2 ^ 32 → length core.nodes < 2 ^ 32
few_nodes core few = omega (arith, few)

pub few_wires : (plan : Plan) → items_of plan + 2 ^ 18 < 2 ^ 32 → wires_of plan < 2 ^ 32
few_wires plan few = omega (arith, few)

pub few_groups : (plan : Plan) (workers count : ℕ) → workers ≤ 2 ^ 16 → items_of plan + 2 ^ 18 < 2 ^ 32 → count ≤ 4 * workers → count + wires_of plan < 2 ^ 32
few_groups plan workers count low few most = omega (arith, low, few, most)
