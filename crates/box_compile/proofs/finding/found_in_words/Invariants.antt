use Rattle.std.proofs.Common.{◌≡◌, map, take, length}
use Rattle.box_code.specs.Paths.{tests_at, spots_at, of_words}
use Rattle.box_compile.proofs.finding.found_in_words.Given as goal

abbrev pub invariant-loop-i : goal.invariant-loop-i
invariant-loop-i l = record {
  count : l.count ≡ length l.pats;
  tests : l.found.tests ≡ of_words (map tests_at (take l.i l.pats)) 0;
  spots : l.found.spots ≡ of_words (map spots_at (take l.i l.pats)) 0;
}
