-- What a program has from the tokens that it is read from, whatever the rules ask.
use Rattle.std.specs.Prelude.{ℕ, ◌≤◌, List, length}
use Rattle.hume_base.specs.declared.limits.TheConstants.{MAX_CONSTRUCTORS}
use Rattle.hume_ast.specs.declared.tree.TyExp.{TyExp}
use Rattle.hume_ast.specs.declared.tree.Decl.{Decl}
use Rattle.hume_ast.specs.declared.tree.Decl.TheVariants.{Sum, Exn, Fun, BoxD, Stream, Wire}
use Rattle.hume_ast.specs.declared.tree.Program.{Program}
use Rattle.hume_ast.specs.Fits.{Each}
use Rattle.hume_model.specs.Limits.{IsName, IsPortName}

-- names of constructors
abbrev pub AreConstructorNames : List (List ℕ × List TyExp) → Type 0
AreConstructorNames cons = Each (λ (con : List ℕ × List TyExp). IsName con.0) cons

-- names of inputs or outputs
abbrev pub ArePlaceNames : List (List ℕ × TyExp) → Type 0
ArePlaceNames places = Each (λ (place : List ℕ × TyExp). IsName place.0) places

-- each name that the declaration declares has a byte, and no more than a token of a name may have; so has that of a port outside
abbrev pub HasNames : Decl → Type 0
HasNames (Sum name cons) = IsName name × AreConstructorNames cons
HasNames (Exn name ty) = IsName name
HasNames (Fun name tys equations) = IsName name
HasNames (BoxD name ins outs fair rules handlers) = IsName name × ArePlaceNames ins × ArePlaceNames outs
HasNames (Stream name from port) = IsName name × IsPortName port
HasNames (Wire source target depth initial) = Unit {0}

-- a data type has no more constructors than a source may have tokens
abbrev pub HasConstructors : Decl → Type 0
HasConstructors (Sum name cons) = length cons ≤ MAX_CONSTRUCTORS
HasConstructors _ = Unit {0}

-- names and constructors of the program are as tokens make them
pub record IsOfTokens (program : Program) : Type 0 where
  pub names : Each (λ (d : ℕ × Decl). HasNames d.1) program.decls
  pub constructors : Each (λ (d : ℕ × Decl). HasConstructors d.1) program.decls
