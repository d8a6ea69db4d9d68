use Rattle.std.proofs.Common.{◌≡◌, true}
use Rattle.std.specs.List.{filter_map, list_any}
use Rattle.hume_model.specs.declared.core_tree.PatC.{PatC, out-PatC}
use Rattle.hume_model.specs.Completeness.{all_below, takes_con}
use Rattle.c_analysis.proofs.complete.each_is_taken.Given as goal

abbrev pub invariant-loop-place : goal.invariant-loop-place
invariant-loop-place g l = all_below l.place (λ place. list_any (λ (p : PatC). takes_con place (out-PatC p)) (filter_map g.A.Alternative.pattern l.items)) ≡ true
