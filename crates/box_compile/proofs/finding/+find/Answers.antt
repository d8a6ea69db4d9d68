use Rattle.std.proofs.Common.{◌<◌, ◌++◌, ap, ◌∙◌, arith, length}
use Rattle.box_code.specs.Paths.{tests_at, spots_at}
use Rattle.box_compile.proofs.Patterns.{fields_more}
use Rattle.box_compile.proofs.finding.+find.Goals as goal

pub find_in_fields-loop-i-preserved : goal.find_in_fields-loop-i-preserved
find_in_fields-loop-i-preserved t c =
    let parts = c.args.parts.now in
    let part = c.index-parts-i.result in
    let low : c.loop-i.i < length parts = omega (arith, c.loop-i-test.true, c.loop-i.invariant.count) in
    record {
      count = c.loop-i.invariant.count;
      tests = fields_more tests_at parts c.loop-i.i part low c.index-parts-i.is c.args.spot.now _ _ _ c.loop-i.invariant.tests
          (c.in_ok-find.ensures.tests ∙ ap (λ spot. c.loop-i.found.tests ++ tests_at part spot) c.in_ok-field.ensures);
      spots = fields_more spots_at parts c.loop-i.i part low c.index-parts-i.is c.args.spot.now _ _ _ c.loop-i.invariant.spots
          (c.in_ok-find.ensures.spots ∙ ap (λ spot. c.loop-i.found.spots ++ spots_at part spot) c.in_ok-field.ensures);
    }
