use Rattle.std.proofs.Common.{◌+◌, ◌*◌, ◌≡◌, ◌++◌, drop, map}
use denote.Param.Weighed.{most}
use Rattle.hume_model.specs.declared.core_tree.PatC.{size-PatC}
use Rattle.c_expressions.specs.Patterns.{fields_match, matched}
use Rattle.c_analysis.specs.Targets.{target}
use Rattle.c_expressions.proofs.patterns.+matched.Given as goal

abbrev pub decreases-matched : goal.decreases-matched
decreases-matched l = 8 * size-PatC l.pattern.now

abbrev pub decreases-match_fields : goal.decreases-match_fields
decreases-match_fields l = 8 * most size-PatC l.parts.now + 2

abbrev pub decreases-match_field : goal.decreases-match_field
decreases-match_field l = 8 * size-PatC l.part.now + 1

abbrev pub decreases-match_constructor : goal.decreases-match_constructor
decreases-match_constructor l = 8 * most size-PatC l.parts.now + 4

abbrev pub decreases-match_record : goal.decreases-match_record
decreases-match_record l = 8 * most size-PatC l.parts.now + 3

abbrev pub decreases-match_inner : goal.decreases-match_inner
decreases-match_inner l = 8 * most size-PatC l.parts.now + 3

abbrev pub invariant-match_fields-loop-place : goal.invariant-match_fields-loop-place
invariant-match_fields-loop-place l = record {
  tests : l.tests ++ (fields_match l.object l.place (drop l.place l.tys) (map (matched (target l.s)) (drop l.place l.parts))).tests
      ≡ l.initial.tests ++ (fields_match l.object 0 l.tys (map (matched (target l.s)) l.parts)).tests;
  objects : l.scope ++ (fields_match l.object l.place (drop l.place l.tys) (map (matched (target l.s)) (drop l.place l.parts))).objects
      ≡ l.initial.scope ++ (fields_match l.object 0 l.tys (map (matched (target l.s)) l.parts)).objects;
}
