-- Which values a pattern matches, and what its variables then stand for.
use Rattle.std.specs.Prelude.{ℕ, ◌==◌, List, [], ◌∷◌, ◌++◌, map, Option, Some, None, if◌then◌else◌}
use Rattle.hume_base.specs.declared.types.Value.{Value, out-Value}
use Rattle.hume_base.specs.declared.types.Value.TheOpen.{Value-F}
use Rattle.hume_model.specs.declared.core_tree.PatC.{PatC, fold-PatC}
use Rattle.hume_model.specs.declared.core_tree.PatC.TheOpen.{PatC-F}

-- what a pattern's variables stand for, if the value matches
abbrev pub Match : Type 0
Match = Value → Option (List Value)

-- the variables of both, the left ones first
abbrev pub both_match : Option (List Value) → Option (List Value) → Option (List Value)
both_match None more = None
both_match (Some values) None = None
both_match (Some values) (Some more) = Some (values ++ more)

-- the variables of several patterns, each of which its value matches
abbrev pub all_match : List Match → List Value → Option (List Value)
all_match [] values = Some []
all_match (part ∷ parts) [] = None
all_match (part ∷ parts) (value ∷ values) = both_match (part value) (all_match parts values)

-- a word matches itself alone
abbrev pub match_word : ℕ → Value-F Value → Option (List Value)
match_word word (Value-F.Word other) = if other == word then Some [] else None
match_word word _ = None

-- a constructor matches itself, with fields that match
abbrev pub match_con : ℕ → List Match → Value-F Value → Option (List Value)
match_con place parts (Value-F.Con other values) = if other == place then all_match parts values else None
match_con place parts _ = None

-- a tuple matches a tuple of parts that match
abbrev pub match_tuple : List Match → Value-F Value → Option (List Value)
match_tuple parts (Value-F.Tuple values) = all_match parts values
match_tuple parts _ = None

-- one level of a pattern, with what its parts match in their places
abbrev pub match_step : PatC-F Match → Match
match_step PatC-F.Var value = Some (value ∷ [])
match_step PatC-F.Any value = Some []
match_step (PatC-F.Word word) value = match_word word (out-Value value)
match_step (PatC-F.Con place parts) value = match_con place parts (out-Value value)
match_step (PatC-F.Tuple parts) value = match_tuple parts (out-Value value)

-- the values of the variables of a pattern that the value matches
abbrev pub matches : PatC → Match
matches = fold-PatC Match match_step

-- the same for several patterns and values
abbrev pub matches_all : List PatC → List Value → Option (List Value)
matches_all pats values = all_match (map matches pats) values
