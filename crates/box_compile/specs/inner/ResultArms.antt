-- Alternatives of results that have been written, whatever others follow them.
use Rattle.std.specs.Prelude.{ℕ, List, ◌++◌, Option}
use Rattle.hume_model.specs.declared.core_tree.PatC.{PatC}
use Rattle.hume_model.specs.declared.core_tree.Res.{Res}
use Rattle.box_code.specs.Represents.{ResultArmsStand}

-- with the others behind them they stand there
pub record ResultArmsBegin (code : List ℕ) (entry : ℕ → Option ℕ) (places : List ℕ) (high from to : ℕ) (arms : List (PatC × Res)) : Type 0 where
  pub followed : (end : ℕ) (others : List (PatC × Res)) → ResultArmsStand code entry places high to end others
      → ResultArmsStand code entry places high from end (arms ++ others)
