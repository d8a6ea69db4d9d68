-- What may be raised in a core with the same functions and types.
use Rattle.std.proofs.Common.{◌≡◌, ℕ, zero, suc, ◌==◌, Bool, List, length, slice_get, refl, sym, ◌∙◌, if◌then◌else◌}
use Rattle.hume_model.specs.declared.core_tree.NodeC.{NodeC}
use Rattle.hume_model.specs.declared.core_tree.BoxC.{BoxC}
use Rattle.hume_model.specs.declared.core_tree.Res.{Res, fold-Res}
use Rattle.hume_model.specs.declared.core_tree.Core.{Core}
use Rattle.hume_model.specs.HandlerRules.{LeavesUnhandled, RaisesAgain}
use Rattle.hume_model.specs.Raising.{function_raises, raises_below, raises_with, result_may_raise, result_raises_step}

module _ (core : Core) (nodes : List NodeC) where
  abbrev new : Core
  new = record core { nodes = nodes }

  below_kept : (bound : ℕ) → raises_below new bound ≡ raises_below core bound
  unfolding raises_below
  below_kept zero = refl
  below_kept (suc bound) = λ i exn function.
      if function == bound
      then function_raises core.types (raises_with core.types (below_kept bound i exn) exn) exn (slice_get core.funs bound)
      else below_kept bound i exn function

  pub raising_kept : (exn : ℕ) (res : Res) → result_may_raise new exn res ≡ result_may_raise core exn res
  raising_kept exn res = λ i.
      fold-Res Bool (result_raises_step core.types (raises_with core.types (below_kept (length core.funs) i exn) exn) exn) res

  pub unhandled_kept : (b : BoxC) → LeavesUnhandled new b → LeavesUnhandled core b
  unhandled_kept b leaves = record {
    number = leaves.number;
    rule = leaves.rule;
    there = leaves.there;
    exn = leaves.exn;
    known = leaves.known;
    raises = sym (raising_kept leaves.exn leaves.rule.result) ∙ leaves.raises;
    unhandled = leaves.unhandled;
  }

  pub again_kept : (b : BoxC) → RaisesAgain new b → RaisesAgain core b
  again_kept b again = record {
    number = again.number;
    handler = again.handler;
    there = again.there;
    exn = again.exn;
    known = again.known;
    raises = sym (raising_kept again.exn again.handler.result) ∙ again.raises;
  }
