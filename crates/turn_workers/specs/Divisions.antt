-- How a net is divided among workers.
use Rattle.std.specs.Prelude.{◌≡◌, ◌<◌, ◌^◌}
use Rattle.hume_net.specs.declared.plan.Plan.{Plan}
use Rattle.superstep_core.specs.Groups.{IsGrouping, quotient}
use Rattle.turn_locker.specs.Held.{items_of}
use Rattle.turn_workers.specs.declared.division.Division.{Division}
use Rattle.turn_workers.specs.Ways.{AreWays}

-- The groups are those of the plan, and few enough for a locker. The sides are those of the groups.
pub record IsDivision (plan : Plan) (division : Division) : Type 0 where
  pub of : division.plan ≡ plan
  pub groups : IsGrouping plan division.groups
  pub few : items_of (quotient plan division.groups) < 2 ^ 32
  pub ways : AreWays (quotient plan division.groups) division.ways
