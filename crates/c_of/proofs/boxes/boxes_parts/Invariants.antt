use Rattle.std.proofs.Common.{◌≡◌, ◌++◌, ◌≤◌, drop}
use Rattle.c_analysis.specs.Targets.{target}
use Rattle.c_of.specs.File.{boxes_parts}
use Rattle.c_of.proofs.boxes.boxes_parts.Given as goal

abbrev pub invariant-loop-number : goal.invariant-loop-number
invariant-loop-number l = record {
  items : l.items ++ boxes_parts (target l.s) l.number (drop l.number l.nodes) (drop l.place l.trees) ≡ boxes_parts (target l.s) 0 l.nodes l.trees;
  place : l.place ≤ l.number;
}
