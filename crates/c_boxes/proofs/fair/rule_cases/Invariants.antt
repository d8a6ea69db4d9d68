use Rattle.std.proofs.Common.{◌≡◌, ◌++◌, drop}
use Rattle.c_analysis.specs.Targets.{target}
use Rattle.c_boxes.specs.Boxes.{rule_cases}
use Rattle.c_boxes.specs.inner.Nodes.{shown}
use Rattle.c_boxes.proofs.fair.rule_cases.Given as goal

abbrev pub invariant-loop-place : goal.invariant-loop-place
invariant-loop-place l =
    let rest = rule_cases (target l.s) (shown l.node) l.place (drop l.place l.rules) l.next in
    let all = rule_cases (target l.s) (shown l.node) 0 l.rules l.initial.next in
    record {
      cases : l.cases ++ rest.cases ≡ all.cases;
      next : rest.next ≡ all.next;
    }
