-- Patterns whose code has been written.
use Rattle.std.specs.Prelude.{◌≡◌, ℕ, List, length}
use Rattle.hume_model.specs.declared.core_tree.PatC.{PatC}
use Rattle.box_code.specs.Paths.{Spot, Test, root, spots_at, tests_at}
use Rattle.box_code.specs.Represents.{FieldsStand, TestsStand}
use Rattle.box_compile.specs.inner.Emitted.{Emitted}

-- the tests of the pattern, whose value is the word at `place`, and then the words of its variables
pub record PatternWritten (old new : List ℕ) (place high other : ℕ) (pat : PatC) (count : ℕ) : Type 0 where
  pub mid : List ℕ
  pub tests : Emitted old mid (λ code from to. TestsStand code high other from to (tests_at pat (root place)))
  pub fields : Emitted mid new (λ code from to. FieldsStand code high from to (spots_at pat (root place)))
  pub all : count ≡ length (spots_at pat (root place))

-- these tests, and then the words at these spots, of which there are so many
pub record FoundWritten (old new : List ℕ) (high other : ℕ) (tests : List Test) (spots : List Spot) (count : ℕ) : Type 0 where
  pub mid : List ℕ
  pub tests_stand : Emitted old mid (λ code from to. TestsStand code high other from to tests)
  pub fields_stand : Emitted mid new (λ code from to. FieldsStand code high from to spots)
  pub all : count ≡ length spots
