use Rattle.std.proofs.Common.{◌≡◌, drop}
use Rattle.c_analysis.specs.Targets.{target}
use Rattle.c_expressions.specs.inner.Ways.{ways_before}
use Rattle.c_boxes.specs.Rules.{rules_made}
use Rattle.c_boxes.specs.inner.Nodes.{shown}
use Rattle.c_boxes.proofs.rules.rules_made.Given as goal

abbrev pub invariant-loop-place : goal.invariant-loop-place
invariant-loop-place l = ways_before l.ways (rules_made (target l.s) (shown l.node) l.place (drop l.place l.rules) l.next)
    ≡ rules_made (target l.s) (shown l.node) 0 l.rules l.initial.next
