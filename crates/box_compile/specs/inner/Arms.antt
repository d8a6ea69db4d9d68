-- Alternatives that have been written, whatever others follow them.
use Rattle.std.specs.Prelude.{ℕ, List, ◌++◌, Option}
use Rattle.hume_model.specs.declared.core_tree.PatC.{PatC}
use Rattle.hume_model.specs.declared.core_tree.Expr.{Expr}
use Rattle.box_code.specs.Represents.{ArmsStand}

-- with the others behind them they stand there, and all end at the same place
pub record ArmsBegin (code : List ℕ) (entry : ℕ → Option ℕ) (places : List ℕ) (high end from to : ℕ) (arms : List (PatC × Expr)) : Type 0 where
  pub followed : (others : List (PatC × Expr)) → ArmsStand code entry places high to end others → ArmsStand code entry places high from end (arms ++ others)
