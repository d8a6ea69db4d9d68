-- The words that build the values of a type, form by form.
use Rattle.std.proofs.Common.{◌≡◌, ℕ, ap, sym, ◌∙◌}
use Rattle.hume_base.specs.declared.types.Ty.{Ty, roll-Ty, map-Ty, fold-roll-Ty}
use Rattle.hume_base.specs.declared.types.Ty.TheOpen.{Ty-F}
use Rattle.box_costs.specs.Building.{build_step, build_with}

pub build_form : (named : ℕ → ℕ) (t : Ty) (x : Ty-F Ty) → roll-Ty x ≡ t → build_with named t ≡ build_step named (map-Ty Ty ℕ (build_with named) x)
build_form named t x is = ap (build_with named) (sym is) ∙ fold-roll-Ty ℕ (build_step named) x
