use Rattle.std.proofs.Common.{List, length, take, sym, ◌∙◌, ap}
use Rattle.hume_model.specs.declared.core_tree.InPat.{InPat}
use Rattle.box_costs.specs.Bounds.{built_patterns}
use Rattle.box_code.specs.Paths.{spots_from}
use Rattle.box_compile.proofs.Taken.{taken_more}
use Rattle.box_compile.proofs.BoxCode.{position_more}
use Rattle.box_compile.proofs.finding.find_in_rule.Goals as goal

pub loop-pat-preserved : goal.loop-pat-preserved
loop-pat-preserved c =
    let pats : List InPat = c.args.pats.now in
    let more = taken_more pats c.loop-pat.pat-index c.pat-item.result c.loop-pat-test.true c.pat-item.is in
    let both = position_more (take c.loop-pat.pat-index pats) c.pat-item.result c.loop-pat.built.count c.find_in_position.new.built.count
    c.loop-pat.built.found.spots c.find_in_position.new.built.found.spots
    c.loop-pat.invariant.count c.loop-pat.invariant.spots c.in_ok-find_in_position.ensures.count c.in_ok-find_in_position.ensures.spots in
    record {
      count = both.0 ∙ sym (ap (λ (l : List InPat). length (built_patterns l)) more);
      spots = both.1 ∙ sym (ap (λ (l : List InPat). spots_from (built_patterns l) 0) more);
    }
