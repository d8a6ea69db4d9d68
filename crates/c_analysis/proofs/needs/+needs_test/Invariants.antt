use Rattle.std.proofs.Common.{◌+◌, ◌*◌, ◌≡◌, drop, map}
use denote.Param.Weighed.{most}
use Rattle.hume_model.specs.declared.core_tree.PatC.{size-PatC}
use Rattle.c_analysis.specs.Needs.{needed, some_field}
use Rattle.c_analysis.specs.Targets.{target}
use Rattle.c_analysis.proofs.needs.+needs_test.Given as goal

abbrev pub decreases-needs_test : goal.decreases-needs_test
decreases-needs_test l = 2 * size-PatC l.pattern.now

abbrev pub decreases-fields_need_test : goal.decreases-fields_need_test
decreases-fields_need_test l = 2 * most size-PatC l.parts.now + 1

abbrev pub invariant-fields_need_test-loop-place : goal.invariant-fields_need_test-loop-place
invariant-fields_need_test-loop-place l =
    some_field (drop l.place l.tys) (map (needed (target l.s)) (drop l.place l.parts)) ≡ some_field l.tys (map (needed (target l.s)) l.parts)
