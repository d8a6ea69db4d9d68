use Rattle.std.proofs.Common.{◌≡◌, ◌++◌, List, map, take, drop, true}
use Rattle.hume_base.specs.declared.types.Value.{Value}
use Rattle.hume_model.specs.BoxTyping.{port_types}
use Rattle.hume_model.specs.Matching.{fits}
use Rattle.hume_net.specs.HalfSteps.{oldest}
use Rattle.box_costs.specs.ResultSpending.{built_values}
use Rattle.wire_cells.specs.Cells.{CellView}
use Rattle.wire_cells.specs.Homes.{AreAtHome, AreOthersKept}
use Rattle.match_rules.specs.Inputs.{AreCellsOf, AreBuilt}
use Rattle.match_rules.specs.inner.Consuming.{consumed}
use Rattle.match_rules.proofs.inputs.take_inputs.Given as goal

abbrev pub invariant-loop-i : goal.invariant-loop-i
invariant-loop-i l = record {
  built : (cells : List CellView) (values : List (List Value)) → AreAtHome l.side l.fn.home cells
      → AreCellsOf l.fn.core (port_types l.fn.ports) cells values → fits l.fn.rule.pats (map oldest values) ≡ true
      → AreBuilt (built_values (take l.i l.fn.rule.pats) (map oldest values)) l.fn.heap l.heap l.fn.stack l.stack;
  at : (cells : List CellView) → AreAtHome l.side l.fn.home cells
      → AreAtHome l.side l.home (consumed (take l.i l.fn.rule.pats) (take l.i cells) ++ drop l.i cells);
  others : AreOthersKept l.side l.fn.home l.home;
}
