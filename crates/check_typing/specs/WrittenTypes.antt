-- The types that are written.
use Rattle.std.specs.Prelude.{ℕ, ◌&&◌, nat_le, Bool, List, [], ◌∷◌, map, Option, Some}
use Rattle.hume_base.specs.declared.limits.TheConstants.{MAX_WIDTH, MAX_LENGTH}
use Rattle.hume_base.specs.declared.types.Ty.{Ty, Bool as BoolTy, Char as CharTy, Int, Nat, Vector, Named, Tuple}
use Rattle.hume_base.specs.declared.types.Types.{Types}
use Rattle.hume_ast.specs.declared.tree.TyExp.{TyExp, fold-TyExp}
use Rattle.hume_ast.specs.declared.tree.TyExp.TheOpen.{TyExp-F}
use Rattle.check_typing.specs.Partial.{given, when}
use Rattle.check_typing.specs.Signatures.{sum_named}

-- what is there in each place, if nothing is missing
abbrev pub all_there : {A : Type 0} → List (Option A) → Option (List A)
all_there [] = Some []
all_there (x ∷ xs) = given x (λ first. given (all_there xs) (λ others. Some (first ∷ others)))

-- so many bits a number may have
abbrev pub is_width : ℕ → Bool
is_width bits = nat_le 1 bits && nat_le bits MAX_WIDTH

-- so many elements a vector may have
abbrev pub is_length : ℕ → Bool
is_length count = nat_le 1 count && nat_le count MAX_LENGTH

-- one level of a type, with its parts in their places
abbrev pub written_step : Types → TyExp-F (Option Ty) → Option Ty
written_step types TyExp-F.Bool = Some BoolTy
written_step types TyExp-F.Char = Some CharTy
written_step types (TyExp-F.Int bits) = when (is_width bits) (Some (Int bits))
written_step types (TyExp-F.Nat bits) = when (is_width bits) (Some (Nat bits))
written_step types (TyExp-F.Vector count item) = when (is_length count) (given item (λ ty. Some (Vector count ty)))
written_step types (TyExp-F.Named name) = given (sum_named name types) (λ found. Some (Named found.0))
written_step types (TyExp-F.Tuple parts) = given (all_there parts) (λ tys. Some (Tuple tys))

-- the type that is written, none where a name in it is unknown, or a width or a length is none that types may have
abbrev pub written : Types → TyExp → Option Ty
written types = fold-TyExp (Option Ty) (written_step types)

-- several of them
abbrev pub all_written : Types → List TyExp → Option (List Ty)
all_written types tys = all_there (map (written types) tys)
