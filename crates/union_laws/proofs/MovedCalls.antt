-- The functions of a program that stands in a larger one give there what they give in their own.
use Rattle.std.proofs.Common.{◌≡◌, ℕ, zero, suc, ◌+◌, ◌<◌, true, List, [], ◌∷◌, length, Some, slice_get, refl, ap, sym, ◌∙◌, arith}
use Rattle.std.proofs.lemmas.Bool.{ltb-true}
use Rattle.std.proofs.lemmas.Option.{slice_get_within}
use Rattle.hume_base.specs.declared.types.Value.{Value}
use Rattle.hume_model.specs.declared.core_tree.Expr.{Expr}
use Rattle.hume_model.specs.declared.core_tree.FunC.{FunC}
use Rattle.hume_model.specs.declared.core_tree.Core.{Core}
use Rattle.hume_model.specs.Calls.{CallsGoDown, calls_below}
use Rattle.hume_model.specs.Meaning.{call_below, call_of, eval_with}
use Rattle.hume_model.specs.Results.{meaning_in}
use Rattle.hume_model.proofs.Evaluation.{call-at}
use Rattle.union_laws.specs.declared.moves.Moves.{Moves}
use Rattle.union_laws.specs.Moving.{moved, moved_function}
use Rattle.union_laws.specs.inner.Outcomes.{moved_outcome}
use Rattle.union_laws.proofs.MovedMeaning.{function_same, meaning_same}

-- what is within a list is there
pub there_is : {X : Type 0} (xs : List X) (n : ℕ) → n < length xs → (x : X) × (slice_get xs n ≡ Some x)
there_is [] n within = absurd (omega arith)
there_is (x ∷ xs) zero within = (x, refl)
there_is (x ∷ xs) (suc n) within = there_is xs n (omega arith)

module _ (moves : Moves) (small large : Core) (down : CallsGoDown small)
    (funs : (n : ℕ) (function : FunC) → slice_get small.funs n ≡ Some function → slice_get large.funs (moves.funs + n) ≡ Some (moved_function moves function)) where
  called : (n f k m : ℕ) → f < n → f < length small.funs → f < k → moves.funs + f < m → (args : List Value)
      → call_below large m (moves.funs + f) args ≡ moved_outcome moves (call_below small k f args)
  called zero f k m less within below above args = absurd (omega arith)
  called (suc n) f k m less within below above args =
      let at = there_is small.funs f within in
      call-at large m (moves.funs + f) args above
      ∙ ap (λ o. call_of (eval_with (call_below large (moves.funs + f))) o args) (funs f at.0 at.1)
      ∙ function_same moves f (call_below small f) (call_below large (moves.funs + f))
      (λ g known vs. let lower : g < f = ltb-true g f known in called n g f (moves.funs + f) (omega (arith, lower, less)) (omega (arith, lower, within)) lower (omega (arith, lower)) vs)
      at.0 (down f at.0 at.1) args
      ∙ ap (moved_outcome moves) (sym (call-at small k f args below ∙ ap (λ o. call_of (eval_with (call_below small f)) o args) at.1))

  -- an expression that calls the program's own functions comes to the like in the larger program
  pub moved_means : (e : Expr) → calls_below (length small.funs) e ≡ true → (env : List Value)
      → meaning_in large (moved moves e) env ≡ moved_outcome moves (meaning_in small e env)
  moved_means e known env =
      meaning_same moves (length small.funs) (call_below small (length small.funs)) (call_below large (length large.funs))
      (λ f less vs.
      let within : f < length small.funs = ltb-true f (length small.funs) less in
      let at = there_is small.funs f within in
      called (suc f) f (length small.funs) (length large.funs) (omega arith) within within (slice_get_within large.funs (moves.funs + f) _ (funs f at.0 at.1)) vs)
      e known env
