-- What the tables of names hold.
use Rattle.std.specs.Prelude.{◌≡◌, ℕ, suc, ◌+◌, ◌<◌, ◌^◌, List, [], ◌∷◌, ◌++◌, map, length, Option, option_map, option_and_then, slice_get}
use Rattle.std.specs.List.{flat_map}
use Rattle.hume_base.specs.declared.types.ConDef.{ConDef}
use Rattle.hume_base.specs.declared.types.SumDef.{SumDef}
use Rattle.hume_model.specs.declared.core_tree.ExnDef.{ExnDef}
use Rattle.check_typing.specs.Signatures.{Constructor}
use Rattle.check_typing.specs.declared.signatures.Signature.{Signature}
use Rattle.check_typing.specs.declared.signatures.Signatures.{Signatures}
use Rattle.check_tables.specs.names.Names.{with_names}
use Rattle.check_scopes.specs.signatures.Numbered.{seen}
use Rattle.check_scopes.specs.declared.signatures.constructors.ConstructorTable.{ConstructorTable}

-- the names of several, each with its number, the first of which has number n
abbrev pub numbered_from : {A : Type 0} → (A → List ℕ) → ℕ → List A → List (List ℕ × ℕ)
numbered_from name_of n [] = []
numbered_from name_of n (x ∷ xs) = (name_of x, n) ∷ numbered_from name_of (suc n) xs

-- each name with the number of the first that has it
abbrev pub table_of : {A : Type 0} → (A → List ℕ) → List A → List (List ℕ × ℕ)
table_of name_of xs = with_names [] (numbered_from name_of 0 xs)

abbrev pub name_of_constructor : ConDef → List ℕ
name_of_constructor con = con.name

-- the constructors of all data types, in their order
abbrev pub all_constructors : List SumDef → List ConDef
all_constructors sums = flat_map (λ (one : SumDef). one.cons) sums

-- a constructor at a place of a data type
abbrev pub place_of : ℕ → ℕ → ConDef → Constructor
place_of data_type at con = record { sum = data_type; place = at; fields = con.fields }

-- the constructors of one data type from a place on, each with its number, the first of which has number n
abbrev pub those_of_one : ℕ → ℕ → ℕ → List ConDef → List (Constructor × ℕ)
those_of_one data_type at n [] = []
those_of_one data_type at n (con ∷ cons) = (place_of data_type at con, n) ∷ those_of_one data_type (suc at) (suc n) cons

-- the constructors of data types, the first of which has the number, in the same way
abbrev pub those_of_all : ℕ → ℕ → List SumDef → List (Constructor × ℕ)
those_of_all data_type n [] = []
those_of_all data_type n (one ∷ sums) = those_of_one data_type 0 n one.cons ++ those_of_all (suc data_type) (n + length one.cons) sums

-- all constructors in the order of their numbers, and each name with the number of the first that has it
pub record IsConstructorTable (sums : List SumDef) (table : ConstructorTable) : Type 0 where
  pub names : table.names ≡ table_of name_of_constructor (all_constructors sums)
  pub all : map seen table.all.items ≡ those_of_all 0 0 sums

-- what has the number, with the number
abbrev pub numbered_item : {A : Type 0} → List A → Option ℕ → Option (ℕ × A)
numbered_item xs number = option_and_then (λ n. option_map (λ x. (n, x)) (slice_get xs n)) number

-- numbers of functions, exceptions and data types have 32 bits
pub record AreFew (signatures : Signatures) : Type 0 where
  pub functions : length signatures.funs < 2 ^ 32
  pub exceptions : length signatures.exns < 2 ^ 32
  pub data_types : length signatures.types.sums < 2 ^ 32

-- the tables are those of the signatures
pub record AreTables (signatures : Signatures) (functions exceptions data_types : List (List ℕ × ℕ)) (constructors : ConstructorTable) : Type 0 where
  pub functions_are : functions ≡ table_of (λ (function : Signature). function.name) signatures.funs
  pub exceptions_are : exceptions ≡ table_of (λ (exn : ExnDef). exn.name) signatures.exns
  pub data_types_are : data_types ≡ table_of (λ (one : SumDef). one.name) signatures.types.sums
  pub constructors_are : IsConstructorTable signatures.types.sums constructors
  pub few : AreFew signatures
