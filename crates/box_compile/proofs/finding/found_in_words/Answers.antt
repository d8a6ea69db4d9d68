use Rattle.std.proofs.Common.{◌<◌, ◌++◌, ap, ◌∙◌, arith, length}
use Rattle.box_code.specs.Paths.{tests_at, spots_at}
use Rattle.box_compile.proofs.Patterns.{words_more}
use Rattle.box_compile.proofs.finding.found_in_words.Goals as goal

pub loop-i-preserved : goal.loop-i-preserved
loop-i-preserved c =
    let pats = c.args.pats.now in
    let pat = c.index-pats-i.result in
    let low : c.loop-i.i < length pats = omega (arith, c.loop-i-test.true, c.loop-i.invariant.count) in
    record {
      count = c.loop-i.invariant.count;
      tests = words_more tests_at pats c.loop-i.i pat low c.index-pats-i.is _ _ c.loop-i.invariant.tests
          (c.in_ok-find.ensures.tests ∙ ap (λ spot. c.loop-i.found.tests ++ tests_at pat spot) c.root.ensures);
      spots = words_more spots_at pats c.loop-i.i pat low c.index-pats-i.is _ _ c.loop-i.invariant.spots
          (c.in_ok-find.ensures.spots ∙ ap (λ spot. c.loop-i.found.spots ++ spots_at pat spot) c.root.ensures);
    }
