use Rattle.std.proofs.Common.{◌≡◌, length, take}
use Rattle.box_costs.specs.Bounds.{built_patterns}
use Rattle.box_code.specs.Paths.{spots_from}
use Rattle.box_compile.proofs.finding.find_in_rule.Given as goal

abbrev pub invariant-loop-pat : goal.invariant-loop-pat
invariant-loop-pat l = record {
  count : l.built.count ≡ length (built_patterns (take l.pat-index l.pats));
  spots : l.built.found.spots ≡ spots_from (built_patterns (take l.pat-index l.pats)) 0;
}
