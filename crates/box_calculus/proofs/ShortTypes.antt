-- Positions and parts past the end of the types bind nothing.
use Rattle.std.proofs.Common.{◌≡◌, ℕ, ◌<◌, ◌≤◌, List, [], drop, length, map, refl, drop-cons}
use Rattle.std.proofs.lemmas.Grind.{common_steps}
use Rattle.std.proofs.lemmas.List.{drop_all}
use Rattle.hume_base.specs.declared.types.Ty.{Ty}
use Rattle.hume_base.specs.declared.types.Types.{Types}
use Rattle.hume_model.specs.declared.core_tree.PatC.{PatC}
use Rattle.hume_model.specs.declared.core_tree.PatC.TheVariants as pat
use Rattle.hume_model.specs.declared.core_tree.PortC.{PortC}
use Rattle.hume_model.specs.declared.core_tree.InPat.{InPat}
use Rattle.hume_model.specs.declared.core_tree.InPat.TheVariants.{Star}
use Rattle.hume_model.specs.BoxTyping.{port_types}
use Rattle.calculus_laws.specs.VariableTypes.{parts_bind, pattern_binds, rule_binds}

pub parts_bind-short : (types : Types) (parts : List PatC) (tys : List Ty) (i : ℕ) → i < length parts → length tys ≤ i
    → parts_bind (map (pattern_binds types) (drop i parts)) (drop i tys) ≡ []
parts_bind-short types parts tys i within short = rw (drop-cons parts i pat.Any, drop_all i tys short) refl

pub rule_binds-short : (types : Types) (pats : List InPat) (ins : List PortC) (i : ℕ) → i < length pats → length ins ≤ i
    → rule_binds types (drop i pats) (port_types (drop i ins)) ≡ []
rule_binds-short types pats ins i within short = rw (drop-cons pats i Star, drop_all i ins short) refl

pub ruleset type_steps = (common_steps, parts_bind-short, rule_binds-short)
