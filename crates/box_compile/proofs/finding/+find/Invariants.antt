use Rattle.std.proofs.Common.{◌≡◌, ◌++◌, map, take, length}
use Rattle.box_code.specs.Paths.{tests_at, spots_at, of_fields}
use Rattle.box_compile.proofs.finding.+find.Given as goal

abbrev pub invariant-find_in_fields-loop-i : goal.invariant-find_in_fields-loop-i
invariant-find_in_fields-loop-i l = record {
  count : l.count ≡ length l.parts;
  tests : l.found.tests ≡ l.fn.found.tests ++ of_fields (map tests_at (take l.i l.parts)) l.spot 0;
  spots : l.found.spots ≡ l.fn.found.spots ++ of_fields (map spots_at (take l.i l.parts)) l.spot 0;
}
