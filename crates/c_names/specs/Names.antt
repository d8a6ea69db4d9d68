-- The names of a C file, by the names of the source.
use Rattle.std.specs.Prelude.{ℕ, Bool, List, [], ◌∷◌, ◌++◌, codes, nat_eq, if◌then◌else◌}
use Rattle.std.specs.List.{list_any, starts_with}
use Rattle.c_forms.specs.Expressions.{numbered}
use Rattle.c_names.specs.declared.names.Names.{Names}

-- with these words names begin that no other file sees
abbrev pub words : List (List ℕ)
words = codes "f_" ∷ codes "T_" ∷ codes "C_" ∷ codes "b_" ∷ codes "s_" ∷ codes "RAISES_" ∷ codes "raised_"
    ∷ codes "execute_" ∷ codes "super_" ∷ codes "rule" ∷ codes "handle_" ∷ codes "to_" ∷ codes "add_" ∷ codes "sub_"
    ∷ codes "mul_" ∷ codes "div_" ∷ codes "mod_" ∷ codes "neg_" ∷ codes "less_" ∷ codes "most_" ∷ codes "same_" ∷ codes "valid_" ∷ []

-- whether a name begins with one of them
abbrev pub begins_with_word : List ℕ → Bool
begins_with_word name = list_any (λ word. starts_with nat_eq name word) words

-- What stands before the words: a mark, where the names that other files see begin like one of them.
abbrev pub mark_of : List ℕ → List ℕ
mark_of program = if begins_with_word (program ++ codes "_") then codes "x" else []

-- how the names of a program begin
abbrev pub names_of : List ℕ → Names
names_of program = record { program = program; mark = mark_of program }

-- a name that no other file sees
abbrev pub inner : Names → List ℕ → List ℕ → List ℕ
inner names word name = names.mark ++ (word ++ name)

-- a name that other files see
abbrev pub outer : Names → List ℕ → List ℕ → List ℕ
outer names word name = names.program ++ (word ++ name)

-- the function of a rule, by its number from 1 on
abbrev pub rule_name : Names → ℕ → List ℕ → List ℕ
rule_name names number name = inner names (numbered (codes "rule") number ++ codes "_") name
