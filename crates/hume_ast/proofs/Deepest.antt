-- How deep each of a list is, and the deepest.
use Rattle.std.proofs.Common.{ℕ, ◌≤◌, List, [], ◌∷◌, arith}
use Rattle.std.specs.Prelude.{Option, Some, None}
use Rattle.hume_ast.specs.Fits.{Each, OneOrMore, IfThere}
use Rattle.hume_ast.specs.Depth.{greatest, if_there}

module _ {A : Type 0} (P : A → Type 0) (depth : A → ℕ) (bound : ℕ) (deep : (x : A) → P x → depth x ≤ bound) where
  pub each_deep : (xs : List A) → Each P xs → greatest depth xs ≤ bound
  each_deep [] f = omega arith
  each_deep (x ∷ xs) f = omega (arith, deep x f.0, each_deep xs f.1)

  pub there_deep : (o : Option A) → IfThere P o → if_there depth o ≤ bound
  there_deep None f = omega arith
  there_deep (Some x) f = deep x f

module _ {A : Type 0} (P Q : A → Type 0) (depth : A → ℕ) (bound : ℕ) (moved : (x : A) → depth x ≤ bound → P x → Q x) where
  pub each_moved : (xs : List A) → greatest depth xs ≤ bound → Each P xs → Each Q xs
  each_moved [] d f = tt
  each_moved (x ∷ xs) d f = (moved x (omega arith) f.0, each_moved xs (omega arith) f.1)

  pub some_moved : (xs : List A) → greatest depth xs ≤ bound → OneOrMore P xs → OneOrMore Q xs
  some_moved xs d f = (f.0, each_moved xs d f.1)

  pub there_moved : (o : Option A) → if_there depth o ≤ bound → IfThere P o → IfThere Q o
  there_moved None d f = tt
  there_moved (Some x) d f = moved x d f
