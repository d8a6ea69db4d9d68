use Rattle.std.proofs.Common.{◌≡◌, drop}
use Rattle.std.specs.List.{list_all}
use Rattle.hume_model.specs.Completeness.{is_irrefutable}
use Rattle.c_analysis.proofs.complete.+irrefutable.Given as goal

abbrev pub invariant-are_irrefutable-loop-pattern : goal.invariant-are_irrefutable-loop-pattern
invariant-are_irrefutable-loop-pattern l = list_all is_irrefutable (drop l.pattern-index l.patterns) ≡ list_all is_irrefutable l.patterns
