-- The last of several types.
use Rattle.std.proofs.Common.{◌≡◌, List, [], ◌∷◌, ◌++◌, sym}
use Rattle.std.proofs.lemmas.Grind.{common_steps}
use Rattle.hume_base.specs.declared.types.Ty.{Ty}
use Rattle.c_types.specs.Gathered.{Gathered, with_added}
use Rattle.c_told.specs.Told.{with_all}
use Rattle.c_told.proofs.ToldForms.{more_types}

pub last_type : (all : Gathered) (xs : List Ty) (ty : Ty) → with_all all (xs ++ ty ∷ []) ≡ with_added (with_all all xs) ty
last_type all xs ty = sym (more_types all xs (ty ∷ []))

pub ruleset last_steps = (common_steps, last_type)
