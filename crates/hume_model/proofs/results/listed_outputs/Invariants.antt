use Rattle.std.proofs.Common.{◌≡◌, map, drop}
use Rattle.std.specs.Option.{option_map}
use Rattle.hume_model.specs.Outcomes.{outs_in_order, after_outputs}
use Rattle.hume_model.specs.Results.{meaning_in}
use Rattle.hume_model.proofs.results.listed_outputs.Given as goal

abbrev pub invariant-loop-out : goal.invariant-loop-out
invariant-loop-out l =
    let meaning = option_map (meaning_in l.core) in
    after_outputs l.values (outs_in_order (map meaning (drop l.out-index l.outs)) l.env) ≡ outs_in_order (map meaning l.outs) l.env
