-- The tests of patterns and the words of their variables, as paths of field numbers from words on the stack.
use Rattle.std.specs.Prelude.{ℕ, suc, List, [], ◌∷◌, ◌++◌, map}
use Rattle.hume_model.specs.declared.core_tree.PatC.{PatC, fold-PatC}
use Rattle.hume_model.specs.declared.core_tree.PatC.TheOpen.{PatC-F}

-- Where a word is found: from the word at a place, counted from the bottom of the frame, by a path of field numbers.
pub record Spot : Type 0 where
  pub place : ℕ
  pub path : List ℕ

-- the word at the place itself
abbrev pub root : ℕ → Spot
root place = record { place = place; path = [] }

-- the field of that number of the object there
abbrev pub field_of_spot : Spot → ℕ → Spot
field_of_spot spot number = record { place = spot.place; path = spot.path ++ number ∷ [] }

pub data Test : Type 0 where
  WordIs : (spot : Spot) (word : ℕ) → Test
  TagIs : (spot : Spot) (tag : ℕ) → Test

-- what comes of the parts at the fields from a number on, from left to right
abbrev pub of_fields : {X : Type 0} → List (Spot → List X) → Spot → ℕ → List X
of_fields [] spot number = []
of_fields (part ∷ parts) spot number = part (field_of_spot spot number) ++ of_fields parts spot (suc number)

-- what comes of the parts at the words from a place on
abbrev pub of_words : {X : Type 0} → List (Spot → List X) → ℕ → List X
of_words [] place = []
of_words (part ∷ parts) place = part (root place) ++ of_words parts (suc place)

-- one level of a pattern, with the tests of its parts: a constructor comes before its fields
abbrev pub tests_at_step : PatC-F (Spot → List Test) → Spot → List Test
tests_at_step PatC-F.Var spot = []
tests_at_step PatC-F.Any spot = []
tests_at_step (PatC-F.Word word) spot = WordIs spot word ∷ []
tests_at_step (PatC-F.Con place parts) spot = TagIs spot place ∷ of_fields parts spot 0
tests_at_step (PatC-F.Tuple parts) spot = of_fields parts spot 0

-- the tests of a pattern whose value is found there
abbrev pub tests_at : PatC → Spot → List Test
tests_at = fold-PatC (Spot → List Test) tests_at_step

-- one level of a pattern, with where the variables of its parts are found
abbrev pub spots_at_step : PatC-F (Spot → List Spot) → Spot → List Spot
spots_at_step PatC-F.Var spot = spot ∷ []
spots_at_step PatC-F.Any spot = []
spots_at_step (PatC-F.Word word) spot = []
spots_at_step (PatC-F.Con place parts) spot = of_fields parts spot 0
spots_at_step (PatC-F.Tuple parts) spot = of_fields parts spot 0

-- where the values of a pattern's variables are found
abbrev pub spots_at : PatC → Spot → List Spot
spots_at = fold-PatC (Spot → List Spot) spots_at_step

-- the same for patterns whose values are the words from a place on
abbrev pub tests_from : List PatC → ℕ → List Test
tests_from pats place = of_words (map tests_at pats) place

abbrev pub spots_from : List PatC → ℕ → List Spot
spots_from pats place = of_words (map spots_at pats) place
