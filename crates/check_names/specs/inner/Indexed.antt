-- Tables that tell the numbers beside a name.
use Rattle.std.specs.Prelude.{◌≡◌, ℕ, List, [], ◌∷◌, Option, Some, None, IsTrue}
use Rattle.check_names.specs.declared.owner_index.OwnerIndex.{OwnerIndex}
use Rattle.check_tables.specs.names.Names.{number_of}
use Rattle.check_names.specs.Leading.{numbers_of}

abbrev pub listed : Option ℕ → List ℕ
listed None = []
listed (Some number) = number ∷ []

-- beside a name there is just the number that a table has
abbrev pub IsIndex : List (List ℕ × ℕ) → List (List ℕ × ℕ) → Type 0
IsIndex table owners = (name : List ℕ) → numbers_of name owners ≡ listed (number_of name table)

-- where names are distinct the table is asked in place of the list
abbrev pub IsIndexed : OwnerIndex → Type 0
IsIndexed index = IsTrue index.distinct → IsIndex index.table index.owners
