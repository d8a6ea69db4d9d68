-- The names that a declaration declares.
use Rattle.std.specs.Prelude.{ℕ, List, [], ◌∷◌, ◌++◌, map, codes}
use Rattle.hume_ast.specs.declared.tree.Decl.{Decl}
use Rattle.hume_ast.specs.declared.tree.Decl.TheVariants.{Sum, Exn, Fun, BoxD, Stream}

-- the names of the data types that a declaration declares
abbrev pub types_of : Decl → List (List ℕ)
types_of (Sum name constructors) = name ∷ []
types_of _ = []

-- of the constructors of a data type
abbrev pub constructors_of : Decl → List (List ℕ)
constructors_of (Sum name constructors) = map (λ constructor. constructor.0) constructors
constructors_of _ = []

-- the names of the exceptions that a declaration declares
abbrev pub exceptions_of : Decl → List (List ℕ)
exceptions_of (Exn name carried) = name ∷ []
exceptions_of _ = []

-- the names of the functions that a declaration declares
abbrev pub functions_of : Decl → List (List ℕ)
functions_of (Fun name types equations) = name ∷ []
functions_of _ = []

-- of a box or a stream
abbrev pub nodes_of : Decl → List (List ℕ)
nodes_of (BoxD name inputs outputs fair rules handlers) = name ∷ []
nodes_of (Stream name incoming port) = name ∷ []
nodes_of _ = []

-- of the inputs and the outputs of a box
abbrev pub ports_of : Decl → List (List ℕ)
ports_of (BoxD name inputs outputs fair rules handlers) = map (λ input. input.0) inputs ++ map (λ output. output.0) outputs
ports_of _ = []

-- of the exceptions that a box handles
abbrev pub handled_of : Decl → List (List ℕ)
handled_of (BoxD name inputs outputs fair rules handlers) = map (λ handler. handler.0) handlers
handled_of _ = []

-- the exceptions that nothing declares
abbrev pub given_exceptions : List (List ℕ)
given_exceptions = codes "DivZero" ∷ codes "Range" ∷ codes "NoCase" ∷ []
