use Rattle.std.proofs.Common.{◌≡◌, ◌++◌, drop}
use Rattle.c_analysis.specs.Targets.{target}
use Rattle.c_boxes.specs.Rules.{positions_match}
use Rattle.c_boxes.specs.inner.Nodes.{shown}
use Rattle.c_boxes.proofs.rules.positions_match.Given as goal

abbrev pub invariant-loop-place : goal.invariant-loop-place
invariant-loop-place l =
    let rest = positions_match (target l.s) (shown l.node) l.place (drop l.place l.positions) in
    let all = positions_match (target l.s) (shown l.node) 0 l.positions in
    record {
      tests : l.tests ++ rest.tests ≡ all.tests;
      objects : l.scope ++ rest.objects ≡ l.initial.scope ++ all.objects;
    }
