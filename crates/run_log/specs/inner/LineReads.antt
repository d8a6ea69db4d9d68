-- What is told of the bytes that were read in the place of a line, and which fault that is.
use Rattle.std.specs.Prelude.{◌≡◌, ◌≤◌, ◌<◌, ◌+◌, ℕ, List, length, Option, None, Some, IsTrue, IsFalse}
use Rattle.hume_model.specs.declared.core_tree.Core.{Core}
use Rattle.run_log.specs.declared.fault.LogFault.{LogFault}
use Rattle.run_log.specs.declared.half.Half.{Half}
use Rattle.run_log.specs.declared.line_read.LineRead.{LineRead}
use Rattle.run_log.specs.Faults.{EndsWithin, blamed, lines_before}

-- What is told of the bytes that were read in the place of a line: whether they agree with it as far as there are any, and whether
-- they are as many as it has.
pub record IsLineRead (line bytes : List ℕ) (told : LineRead) : Type 0 where
  pub few : length bytes ≤ length line
  pub agrees : IsTrue told.agrees → EndsWithin line bytes
  pub differs : IsFalse told.agrees → EndsWithin line bytes → ⊥
  pub whole : IsTrue told.whole → length bytes ≡ length line
  pub short : IsFalse told.whole → length bytes < length line

-- the fault of a line at a place of a block, where this was told of it
pub record IsFaultOf (core : Core) (half : Half) (superstep place : ℕ) (told : LineRead) (fault : Option LogFault) : Type 0 where
  pub right : IsTrue told.agrees → IsTrue told.whole → fault ≡ None
  pub cut : IsTrue told.agrees → IsFalse told.whole
      → fault ≡ Some (record { line = lines_before core half superstep + place + 1; node = None })
  pub wrong : IsFalse told.agrees
      → fault ≡ Some (record { line = lines_before core half superstep + place + 1; node = blamed core half superstep place })
