-- The variables and the tests of patterns, and how many tests run when a value is tried.
use Rattle.std.specs.Prelude.{ℕ, ◌+◌, ◌==◌, Bool, true, false, List, [], ◌∷◌, map, sum, if◌then◌else◌}
use Rattle.hume_base.specs.declared.types.Value.{Value, out-Value}
use Rattle.hume_base.specs.declared.types.Value.TheOpen.{Value-F}
use Rattle.hume_model.specs.declared.core_tree.PatC.{PatC, fold-PatC}
use Rattle.hume_model.specs.declared.core_tree.PatC.TheOpen.{PatC-F}

-- one level of a pattern, with how many variables its parts have
abbrev pub variables_step : PatC-F ℕ → ℕ
variables_step PatC-F.Var = 1
variables_step PatC-F.Any = 0
variables_step (PatC-F.Word word) = 0
variables_step (PatC-F.Con place parts) = sum parts
variables_step (PatC-F.Tuple parts) = sum parts

-- how many variables a pattern has
abbrev pub variables_of : PatC → ℕ
variables_of = fold-PatC ℕ variables_step

-- how many variables several patterns have together
abbrev pub variables_of_all : List PatC → ℕ
variables_of_all pats = sum (map variables_of pats)

-- one level of a pattern, with how many tests its parts have: each word and each constructor is one
abbrev pub tests_step : PatC-F ℕ → ℕ
tests_step PatC-F.Var = 0
tests_step PatC-F.Any = 0
tests_step (PatC-F.Word word) = 1
tests_step (PatC-F.Con place parts) = 1 + sum parts
tests_step (PatC-F.Tuple parts) = sum parts

-- how many tests a pattern has
abbrev pub tests_of : PatC → ℕ
tests_of = fold-PatC ℕ tests_step

-- how many tests several patterns have together
abbrev pub tests_of_all : List PatC → ℕ
tests_of_all pats = sum (map tests_of pats)

-- Tests that ran, up to the first that failed, that one included; and whether all passed.
pub record Tried : Type 0 where
  pub passed : Bool
  pub tests : ℕ

abbrev pub tried : Bool → ℕ → Tried
tried passed tests = record { passed = passed; tests = tests }

-- the ones, and the others only where those passed
abbrev pub then_tried : Tried → Tried → Tried
then_tried x y = if x.passed then tried y.passed (x.tests + y.tests) else x

-- values tried from left to right
abbrev pub all_tried : List (Value → Tried) → List Value → Tried
all_tried [] values = tried true 0
all_tried (part ∷ parts) [] = tried false 0
all_tried (part ∷ parts) (value ∷ values) = then_tried (part value) (all_tried parts values)

abbrev pub word_tried : ℕ → Value-F Value → Tried
word_tried word (Value-F.Word other) = tried (other == word) 1
word_tried word _ = tried false 1

-- the constructor comes before its fields
abbrev pub con_tried : ℕ → List (Value → Tried) → Value-F Value → Tried
con_tried place parts (Value-F.Con other values) = then_tried (tried (other == place) 1) (all_tried parts values)
con_tried place parts _ = tried false 1

abbrev pub tuple_tried : List (Value → Tried) → Value-F Value → Tried
tuple_tried parts (Value-F.Tuple values) = all_tried parts values
tuple_tried parts _ = tried false 0

-- one level of a pattern, with what comes of trying its parts
abbrev pub tried_step : PatC-F (Value → Tried) → Value → Tried
tried_step PatC-F.Var value = tried true 0
tried_step PatC-F.Any value = tried true 0
tried_step (PatC-F.Word word) value = word_tried word (out-Value value)
tried_step (PatC-F.Con place parts) value = con_tried place parts (out-Value value)
tried_step (PatC-F.Tuple parts) value = tuple_tried parts (out-Value value)

-- what comes of trying the value
abbrev pub tries : PatC → Value → Tried
tries = fold-PatC (Value → Tried) tried_step

-- the same for several patterns and values
abbrev pub tries_all : List PatC → List Value → Tried
tries_all pats values = all_tried (map tries pats) values
