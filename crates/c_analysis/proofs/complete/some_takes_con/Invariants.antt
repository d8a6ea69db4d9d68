use Rattle.std.proofs.Common.{◌≡◌, drop}
use Rattle.std.specs.List.{filter_map, list_any}
use Rattle.hume_model.specs.declared.core_tree.PatC.{PatC, out-PatC}
use Rattle.hume_model.specs.Completeness.{takes_con}
use Rattle.c_analysis.proofs.complete.some_takes_con.Given as goal

abbrev pub invariant-loop-item : goal.invariant-loop-item
invariant-loop-item g l =
    list_any (λ (p : PatC). takes_con l.place (out-PatC p)) (filter_map g.A.Alternative.pattern (drop l.item-index l.items))
    ≡ list_any (λ (p : PatC). takes_con l.place (out-PatC p)) (filter_map g.A.Alternative.pattern l.items)
