-- One level of a type, and one name more.
use Rattle.std.proofs.Common.{◌≡◌, List, [], ◌∷◌, ◌++◌, Some, refl, ap}
use Rattle.std.proofs.lemmas.Grind.{common_steps}
use Rattle.hume_base.specs.declared.types.Ty.{Ty}
use Rattle.check_typing.specs.Partial.{given}
use Rattle.check_typing.specs.Declarations.{parted}
use Rattle.hume_base.specs.declared.types.Ty.{the_lemmas as ty_lemmas}
use Rattle.hume_ast.specs.declared.tree.TyExp.{the_lemmas as written_lemmas}
use Rattle.check_tables.proofs.names_lemmas.Lookup.{with_names-append}

pub ruleset type_steps = (common_steps, ty_lemmas, written_lemmas)

pub ruleset name_steps = (common_steps, with_names-append)

-- types with one behind them
pub parted-last : (tys : List Ty) (ty : Ty) → parted (tys ++ ty ∷ []) ≡ Some (tys, ty)
parted-last [] ty = refl
parted-last (t ∷ []) ty = refl
parted-last (t ∷ u ∷ tys) ty = ap (λ o. given o (λ others. Some (t ∷ others.0, others.1))) (parted-last (u ∷ tys) ty)

pub ruleset parted_steps = (common_steps, parted-last)
