-- What a fold makes of a moved result, where each level makes the like of the moved level.
use Rattle.std.proofs.Common.{◌≡◌, ℕ, ◌&&◌, Bool, true, Option, sym, ◌∙◌}
use Rattle.std.specs.List.{list_all}
use Rattle.std.specs.Option.{option_map}
use Rattle.hume_model.specs.declared.core_tree.Expr.{Expr}
use Rattle.hume_model.specs.declared.core_tree.Res.{Res, fold-Res, map-Res}
use Rattle.hume_model.specs.declared.core_tree.Res.TheOpen.{Res-F}
use Rattle.hume_model.specs.Calls.{if_there}
use Rattle.union_laws.specs.declared.moves.Moves.{Moves}
use Rattle.union_laws.specs.Moving.{moved_result, moved_result_layer}
use Rattle.union_laws.specs.inner.Names.{named_in, result_names}
use Rattle.union_laws.specs.inner.ResultCalls.{known_in, parts_known, result_calls}
use Rattle.union_laws.proofs.MovedFolds.{any_forms, names_are}
use Rattle.union_laws.proofs.NamedResultFolds.{named_result_same}

level_is : (X : Type 0) (bound : ℕ) (y : Res-F X) → named_in bound any_forms y ≡ known_in bound y
level_is X bound (Res-F.Outs outs) = λ i. list_all (λ (out : Option Expr). if_there (option_map (names_are bound i) out)) outs
level_is X bound (Res-F.If t a b) = λ i. names_are bound i t
level_is X bound (Res-F.Case e forms arms) = λ i. names_are bound i e
level_is X bound (Res-F.Let e b) = λ i. names_are bound i e
level_is X bound (Res-F.Raise x e) = λ i. if_there (option_map (names_are bound i) e)

results_are : (bound : ℕ) (r : Res) → result_names bound any_forms r ≡ result_calls bound r
results_are bound r = λ i. fold-Res Bool (λ y. level_is Bool bound y i && parts_known y) r

pub moved_result_same : (X : Type 0) (step other : Res-F X → X) (g : X → X) (moves : Moves) (bound : ℕ)
    → ((y : Res-F X) → known_in bound y ≡ true → other (moved_result_layer moves (map-Res X X g y)) ≡ g (step y))
    → (r : Res) → result_calls bound r ≡ true → fold-Res X other (moved_result moves r) ≡ g (fold-Res X step r)
moved_result_same X step other g moves bound alike r known =
    named_result_same X step other g moves bound any_forms (λ y is. alike y (sym (level_is X bound y) ∙ is)) r (results_are bound r ∙ known)
