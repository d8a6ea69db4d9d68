-- Patterns and rules that are apart: no value, or no inputs, fit both.
use Rattle.std.specs.Prelude.{ℕ, ◌==◌, not, ◌||◌, Bool, false, List, [], ◌∷◌}
use Rattle.hume_model.specs.declared.core_tree.PatC.{PatC, fold-PatC, out-PatC}
use Rattle.hume_model.specs.declared.core_tree.PatC.TheOpen.{PatC-F}
use Rattle.hume_model.specs.declared.core_tree.InPat.{InPat}
use Rattle.hume_model.specs.declared.core_tree.InPat.TheVariants.{Built}

-- whether a pattern is apart from another one
abbrev pub Apart : Type 0
Apart = PatC → Bool

-- some part is apart from the other pattern's part in its place
abbrev pub some_apart : List Apart → List PatC → Bool
some_apart [] others = false
some_apart (part ∷ parts) [] = false
some_apart (part ∷ parts) (other ∷ others) = part other || some_apart parts others

-- the other pattern is a different word
abbrev pub word_apart : ℕ → PatC-F PatC → Bool
word_apart word (PatC-F.Word other) = not (other == word)
word_apart word _ = false

-- the other pattern is a different constructor, or the same one with some field apart
abbrev pub con_apart : ℕ → List Apart → PatC-F PatC → Bool
con_apart place parts (PatC-F.Con other others) = not (other == place) || some_apart parts others
con_apart place parts _ = false

-- the other pattern is a tuple with some part apart
abbrev pub tuple_apart : List Apart → PatC-F PatC → Bool
tuple_apart parts (PatC-F.Tuple others) = some_apart parts others
tuple_apart parts _ = false

-- one level of a pattern, with what its parts are apart from
abbrev pub apart_step : PatC-F Apart → Apart
apart_step PatC-F.Var other = false
apart_step PatC-F.Any other = false
apart_step (PatC-F.Word word) other = word_apart word (out-PatC other)
apart_step (PatC-F.Con place parts) other = con_apart place parts (out-PatC other)
apart_step (PatC-F.Tuple parts) other = tuple_apart parts (out-PatC other)

-- the two patterns are apart: different words, different constructors, or the same constructor or tuples with some parts apart
abbrev pub apart : PatC → Apart
apart = fold-PatC Apart apart_step

-- two positions are apart where both are patterns that are
abbrev pub apart_at : InPat → InPat → Bool
apart_at (Built pattern) (Built other) = apart pattern other
apart_at _ other = false

-- two rules are apart where their positions are apart at some input
abbrev pub some_apart_at : List InPat → List InPat → Bool
some_apart_at [] others = false
some_apart_at (pat ∷ pats) [] = false
some_apart_at (pat ∷ pats) (other ∷ others) = apart_at pat other || some_apart_at pats others
