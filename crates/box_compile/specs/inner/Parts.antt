-- Single tests and fields, and lists of tests and of words, as they stand in a code.
use Rattle.std.specs.Prelude.{◌≡◌, ℕ, List, Option}
use Rattle.hume_model.specs.declared.core_tree.Expr.{Expr}
use Rattle.box_code.specs.declared.instr.Path.{Path}
use Rattle.box_code.specs.declared.instr.Instr.{Instr}
use Rattle.box_code.specs.declared.instr.Instr.TheVariants.{Field}
use Rattle.box_code.specs.Words.{StandsAt, fields_in}
use Rattle.box_code.specs.Paths.{Spot, Test}
use Rattle.box_code.specs.Represents.{depth_of, instr_of_test, spot_of, PathIs, AllRepresent}

-- the instruction stands there, with these field numbers as its path
pub record StandsWithPath (code : List ℕ) (instr : Instr) (path : Path) (numbers : List ℕ) (from to : ℕ) : Type 0 where
  pub instr_stands : StandsAt code from instr to
  pub same : fields_in code path ≡ numbers

-- the test stands there
pub record TestStands (code : List ℕ) (high other from to : ℕ) (test : Test) : Type 0 where
  pub path : Path
  pub is : PathIs code high path (spot_of test)
  pub instr_stands : StandsAt code from (instr_of_test high other path test) to

-- the word at the spot is pushed
pub record FieldStands (code : List ℕ) (high from to : ℕ) (spot : Spot) : Type 0 where
  pub path : Path
  pub is : PathIs code high path spot
  pub instr_stands : StandsAt code from (Field (depth_of high spot.place) path) to

-- the parts stand there, and the instruction behind them
pub record PartsThen (code : List ℕ) (entry : ℕ → Option ℕ) (places : List ℕ) (high from to : ℕ) (parts : List Expr) (instr : Instr) : Type 0 where
  pub mid : ℕ
  pub parts_stand : AllRepresent code entry places high from mid parts
  pub instr_stands : StandsAt code mid instr to
