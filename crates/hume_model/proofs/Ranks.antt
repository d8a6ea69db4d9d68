-- Why an evaluation ends: a call leads to functions of smaller numbers, and all else to a smaller tree.
use Rattle.std.proofs.Common.{◌≡◌, ℕ, zero, suc, ◌+◌, ◌*◌, ◌<◌, ◌≤◌, max, List, [], ◌∷◌, Some, slice_get, arith}
use Rattle.std.proofs.Math.Nat.{mul-le-mul_right}
use denote.Param.Weighed.{most}
use Rattle.hume_model.specs.declared.core_tree.PatC.{PatC}
use Rattle.hume_model.specs.declared.core_tree.Expr.{Expr, size-Expr, size_is-Expr}
use Rattle.hume_model.specs.declared.core_tree.EqC.{EqC}
use Rattle.hume_model.specs.declared.core_tree.FunC.{FunC}
use Rattle.hume_model.specs.declared.core_tree.Core.{Core}

abbrev pub arms_size : List (PatC × Expr) → ℕ
arms_size arms = most (λ arm. max 0 (max (size-Expr arm.1) 0)) arms

abbrev pub equations_size : List EqC → ℕ
equations_size equations = most (λ (equation : EqC). size-Expr equation.body) equations

abbrev pub largest : List FunC → ℕ
largest functions = most (λ (function : FunC). equations_size function.equations) functions

unfoldable pub rank : Core → ℕ → ℕ
rank core bound = bound * (2 + largest core.funs)

pub slice_get-most : {X : Type 0} (weight : X → ℕ) (xs : List X) (i : ℕ) (x : X) → slice_get xs i ≡ Some x → weight x ≤ most weight xs
slice_get-most weight [] i x found = cc
slice_get-most weight (y ∷ xs) zero x found = let e : y ≡ x = cc in rw (← e) (omega arith)
slice_get-most weight (y ∷ xs) (suc i) x found = let later : weight x ≤ most weight xs = slice_get-most weight xs i x found in omega arith

pub rank-falls : (core : Core) (bound number : ℕ) (function : FunC) → slice_get core.funs number ≡ Some function → number < bound
    → rank core number + equations_size function.equations + 1 < rank core bound
unfolding rank
rank-falls core bound number function found below =
    let small : equations_size function.equations ≤ largest core.funs = slice_get-most (λ (function : FunC). equations_size function.equations) core.funs number function found in
    let steps : suc number * (2 + largest core.funs) ≤ bound * (2 + largest core.funs) = mul-le-mul_right (2 + largest core.funs) (omega arith) in
    omega arith

pub some_size : (e : Expr) → 0 < size-Expr e
some_size e = rw (size_is-Expr e) (omega arith)
