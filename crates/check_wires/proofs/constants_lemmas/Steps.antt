-- One level of an expression and of a type.
use Rattle.std.proofs.Common.{◌≡◌, suc, List, [], ◌∷◌, map, length, Option, Some, None, refl, ap}
use Rattle.std.proofs.lemmas.Grind.{common_steps}
use Rattle.hume_base.specs.declared.types.Ty.{Ty, the_lemmas as ty_lemmas}
use Rattle.hume_base.specs.declared.types.Value.{Value}
use Rattle.hume_ast.specs.declared.tree.Exp.{Exp, the_lemmas as exp_lemmas}
use Rattle.check_typing.specs.Partial.{given}
use Rattle.check_rules.specs.Constants.{values_of}

-- more or fewer parts than types have no values
pub uneven : (value : Exp → Ty → Option Value) (parts : List Exp) (tys : List Ty) → (length parts ≡ length tys → ⊥)
    → None ≡ values_of (map value parts) tys
uneven value [] [] h = absurd (h refl)
uneven value [] (ty ∷ tys) h = refl
uneven value (part ∷ parts) [] h = refl
uneven value (part ∷ parts) (ty ∷ tys) h = by (value part ty) (uneven value parts tys (λ e. h (ap suc e)))
  where
    by : (first : Option Value) → None ≡ values_of (map value parts) tys
        → None ≡ given first (λ v. given (values_of (map value parts) tys) (λ vs. Some (v ∷ vs)))
    by None e = refl
    by (Some v) e = ap (λ o. given o (λ vs. Some (v ∷ vs))) e

pub ruleset exp_steps = (common_steps, exp_lemmas)

pub ruleset value_steps = (common_steps, exp_lemmas, ty_lemmas, uneven)
