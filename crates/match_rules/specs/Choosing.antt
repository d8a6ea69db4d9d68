-- Which rule of a box is the first that fits.
use Rattle.std.specs.Prelude.{ℕ, List, Option, slice_get}
use Rattle.std.specs.List.{find}
use Rattle.hume_base.specs.declared.types.Value.{Value}
use Rattle.hume_model.specs.declared.core_tree.BoxC.{BoxC}
use Rattle.hume_model.specs.Firing.{rule_fits}

-- the number of the first rule in the order that fits
abbrev pub first_fitting : BoxC → List ℕ → List (Option Value) → Option ℕ
first_fitting b order ins = find (λ number. rule_fits ins (slice_get b.rules number)) order
