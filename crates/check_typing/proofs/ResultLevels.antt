-- What is said of a result, one level down.
use Rattle.std.proofs.Common.{◌≡◌, List, [], ◌∷◌, map, Some, None, refl, ap, ◌∙◌}
use Rattle.hume_ast.specs.declared.tree.Pat.{Pat}
use Rattle.hume_ast.specs.declared.tree.Exp.{Exp, roll-Exp, rec-roll-Exp, map-Exp}
use Rattle.hume_ast.specs.declared.tree.Exp.TheOpen.{Exp-F}
use Rattle.check_typing.specs.Typing.{Judged, typing, typing_step}
use Rattle.check_typing.specs.Results.{AsResult, result_arm_with, result_step, result_level, as_result, case_result, tuple_result}
use Rattle.check_typing.specs.declared.signatures.Signatures.{Signatures}
use Rattle.check_typing.proofs.TypingLevels.{map-map, natural as typing_natural}

arms-map : {X : Type 0} (v : X → Exp) (k : Exp → AsResult) (arms : List (Pat × X))
    → map (result_arm_with X (λ p. k (v p))) arms ≡ map (result_arm_with Exp k) (map (λ arm. (arm.0, v arm.1)) arms)
arms-map v k [] = refl
arms-map v k (arm ∷ arms) = ap (λ ys. result_arm_with _ k (arm.0, v arm.1) ∷ ys) (arms-map v k arms)

step : (s : Signatures) (X : Type 0) (v : X → Exp) (k : Exp → AsResult) (j : Judged) (x : Exp-F X)
    → result_step s X v (λ p. k (v p)) j x ≡ result_step s Exp (λ y. y) k j (map-Exp X Exp v x)
step s X v k j (Exp-F.Case a arms) = ap (case_result s j (typing s (v a))) (arms-map v k arms)
step s X v k j (Exp-F.Tuple parts) = ap (tuple_result j) (map-map v k parts)
step s X v k j (Exp-F.Raise name None) = refl
step s X v k j (Exp-F.Raise name (Some a)) = refl
step s X v k j _ = refl

natural : (s : Signatures) (X : Type 0) (v : X → Exp) (k : Exp → AsResult) (x : Exp-F X)
    → result_level s X v (λ p. k (v p)) x ≡ result_level s Exp (λ y. y) k (map-Exp X Exp v x)
natural s X v k x =
    step s X v k (typing_step s X (λ p. typing s (v p)) x) x
    ∙ ap (λ j. result_step s Exp (λ y. y) k j (map-Exp X Exp v x)) (typing_natural s X v (typing s) x)

-- what is said of a result is said of one level of it
pub result_roll : (s : Signatures) (x : Exp-F Exp) → as_result s (roll-Exp x) ≡ result_level s Exp (λ y. y) (as_result s) x
result_roll s = rec-roll-Exp AsResult (result_level s) (natural s)
