use Rattle.std.proofs.Common.{◌≡◌, drop, false}
use Rattle.std.specs.List.{filter_map}
use Rattle.hume_model.specs.Completeness.{is_irrefutable}
use Rattle.c_analysis.proofs.Lasts.{last_or}
use Rattle.c_analysis.proofs.complete.last_is_irrefutable.Given as goal

abbrev pub invariant-loop-item : goal.invariant-loop-item
invariant-loop-item g l =
    last_or is_irrefutable l.last (filter_map g.A.Alternative.pattern (drop l.item-index l.items)) ≡ last_or is_irrefutable false (filter_map g.A.Alternative.pattern l.items)
