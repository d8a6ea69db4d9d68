use Rattle.std.proofs.Common.{◌∙◌}
use Rattle.std.proofs.lemmas.Option.{slice_get_past}
use Rattle.c_analysis.specs.Targets.{target}
use Rattle.c_expressions.proofs.MatchForms.{no_objects, no_tests, objects_go_on, tests_go_on}
use Rattle.c_expressions.proofs.patterns.+matched.Goals as goal

pub match_field-returns-in-None-clause-tests : goal.match_field-returns-in-None-clause-tests
match_field-returns-in-None-clause-tests t c =
    no_tests (target c.args.s) c.args.object.now c.args.place c.args.tys.now c.args.part.now c.args.tests.now (slice_get_past c.args.tys.now c.args.place c.in-None.ensures.lookup.3)

pub match_field-returns-in-None-clause-objects : goal.match_field-returns-in-None-clause-objects
match_field-returns-in-None-clause-objects t c =
    no_objects (target c.args.s) c.args.object.now c.args.place c.args.tys.now c.args.part.now c.args.scope.now (slice_get_past c.args.tys.now c.args.place c.in-None.ensures.lookup.3)

pub match_fields-loop-place-preserved : goal.match_fields-loop-place-preserved
match_fields-loop-place-preserved t c =
    let s = target c.args.s in
    let made = c.in_ok-match_field.ensures in
    record {
      tests = tests_go_on s c.args.object.now c.loop-place.place c.args.tys.now c.args.parts.now c.index-parts-place.result c.loop-place.tests c.match_field.new.tests
          c.loop-place-test.true c.index-parts-place.is made.tests
          ∙ c.loop-place.invariant.tests;
      objects = objects_go_on s c.args.object.now c.loop-place.place c.args.tys.now c.args.parts.now c.index-parts-place.result c.loop-place.scope c.match_field.new.scope
          c.loop-place-test.true c.index-parts-place.is made.objects
          ∙ c.loop-place.invariant.objects;
    }
