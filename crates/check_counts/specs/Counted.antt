-- How many parameters, fields and carried values names have. Where several have one name the first is meant.
use Rattle.std.specs.Prelude.{ℕ, ◌-◌, ◌==◌, not, Bool, false, List, [], ◌∷◌, ◌++◌, map, length, Option, Some, None}
use Rattle.std.specs.List.{flat_map}
use Rattle.hume_ast.specs.declared.tree.TyExp.{TyExp}
use Rattle.hume_ast.specs.declared.tree.Decl.{Decl}
use Rattle.hume_ast.specs.declared.tree.Decl.TheVariants.{Sum, Exn, Fun}
use Rattle.check_names.specs.DeclaredNames.{given_exceptions}
use Rattle.check_tables.specs.names.Names.{number_of, with_names}
use Rattle.check_counts.specs.declared.counts.Counts.{Counts}

-- the declarations of a program, each with the place of its first token
abbrev pub Decls : Type 0
Decls = List (ℕ × Decl)

-- a function has a type for each parameter, and after them that of its result
abbrev pub parameters : List TyExp → ℕ
parameters tys = length tys - 1

-- how many values an exception carries: one or none
abbrev pub carried : Option TyExp → ℕ
carried None = 0
carried (Some ty) = 1

-- the functions that a declaration declares, with the number of their parameters
abbrev pub functions_of : Decl → List (List ℕ × ℕ)
functions_of (Fun name tys equations) = (name, parameters tys) ∷ []
functions_of _ = []

-- the constructors, with the number of their fields
abbrev pub constructors_of : Decl → List (List ℕ × ℕ)
constructors_of (Sum name cons) = map (λ con. (con.0, length con.1)) cons
constructors_of _ = []

-- the exceptions, with the number of values that they carry: none or one
abbrev pub exceptions_of : Decl → List (List ℕ × ℕ)
exceptions_of (Exn name ty) = (name, carried ty) ∷ []
exceptions_of _ = []

-- the exceptions that every program has carry nothing
abbrev pub own_exceptions : List (List ℕ × ℕ)
own_exceptions = map (λ name. (name, 0)) given_exceptions

-- what all declarations declare, one after another
abbrev pub all_declared : (Decl → List (List ℕ × ℕ)) → Decls → List (List ℕ × ℕ)
all_declared declared decls = flat_map (λ (d : ℕ × Decl). declared d.1) decls

-- the counts of all names that a program declares, each name once
abbrev pub counted : Decls → Counts
counted decls = record {
  functions = with_names [] (all_declared functions_of decls);
  constructors = with_names [] (all_declared constructors_of decls);
  exceptions = with_names [] (own_exceptions ++ all_declared exceptions_of decls);
}

-- there is another count, and it is not this one
abbrev pub differs : Option ℕ → ℕ → Bool
differs None count = false
differs (Some other) count = not (count == other)

-- the name has another count; one that isn't declared has none
abbrev pub is_other : List (List ℕ × ℕ) → List ℕ → ℕ → Bool
is_other counts name count = differs (number_of name counts) count
