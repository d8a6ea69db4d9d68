-- The types that are written in a `case`.
use Rattle.std.proofs.Common.{◌≡◌, List, [], ◌∷◌, ◌++◌, map, refl, ap, sym, ◌∙◌}
use Rattle.std.specs.List.{flat_map}
use Rattle.hume_ast.specs.declared.tree.TyExp.{TyExp}
use Rattle.hume_ast.specs.declared.tree.Pat.{Pat}
use Rattle.hume_ast.specs.declared.tree.Exp.{Exp, Case, fold-roll-Exp}
use Rattle.hume_ast.specs.declared.tree.Exp.TheOpen.{Exp-F}
use Rattle.hume_ast.specs.declared.tree.Exp.TheVariants.{rolls-Case}
use Rattle.check_rules.specs.SizeRules.{all_of, written_in_step, written_in}

abbrev with_types : Pat × Exp → Pat × List TyExp
with_types arm = (arm.0, written_in arm.1)

in_arms : (arms : List (Pat × Exp))
    → all_of (map (λ (arm : Pat × List TyExp). arm.1) (map with_types arms)) ≡ flat_map (λ (arm : Pat × Exp). written_in arm.1) arms
in_arms [] = refl
in_arms (arm ∷ arms) = ap (λ l. written_in arm.1 ++ l) (in_arms arms)

pub case_casts : (part : Exp) (arms : List (Pat × Exp)) → written_in (Case part arms) ≡ written_in part ++ flat_map (λ (arm : Pat × Exp). written_in arm.1) arms
case_casts part arms =
    ap written_in (sym (rolls-Case part arms)) ∙ fold-roll-Exp (List TyExp) written_in_step (Exp-F.Case part arms)
    ∙ ap (λ l. written_in part ++ l) (in_arms arms)
