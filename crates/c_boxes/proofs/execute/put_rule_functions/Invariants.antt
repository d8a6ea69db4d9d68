use Rattle.std.proofs.Common.{◌≡◌, ◌++◌, drop}
use Rattle.c_analysis.specs.Targets.{target}
use Rattle.c_boxes.specs.Boxes.{rule_functions}
use Rattle.c_boxes.specs.inner.Nodes.{shown}
use Rattle.c_boxes.proofs.execute.put_rule_functions.Given as goal

abbrev pub invariant-loop-place : goal.invariant-loop-place
invariant-loop-place l = l.items ++ rule_functions (target l.s) (shown l.node) l.place (drop l.place l.rules)
    ≡ l.initial.items ++ rule_functions (target l.s) (shown l.node) 0 l.rules
