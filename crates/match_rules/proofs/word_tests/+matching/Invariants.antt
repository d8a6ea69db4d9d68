use Rattle.std.proofs.Common.{◌≡◌, map, drop}
use Rattle.match_rules.specs.inner.WordTests.{word_test, tests_pass}
use Rattle.match_rules.proofs.word_tests.+matching.Given as goal

abbrev pub invariant-parts_match-loop-i : goal.invariant-parts_match-loop-i
invariant-parts_match-loop-i l =
    tests_pass l.types (map (word_test l.types) (drop l.i l.patterns)) (drop l.i l.tys) l.rest
    ≡ tests_pass l.types (map (word_test l.types) l.patterns) l.tys l.words
