-- What is said of an expression, one level down.
use Rattle.std.proofs.Common.{◌≡◌, List, [], ◌∷◌, map, Some, None, refl, ap}
use Rattle.hume_ast.specs.declared.tree.Pat.{Pat}
use Rattle.hume_ast.specs.declared.tree.Exp.{Exp, roll-Exp, rec-roll-Exp, map-Exp}
use Rattle.hume_ast.specs.declared.tree.Exp.TheOpen.{Exp-F}
use Rattle.check_typing.specs.Typing.{Judged, arm_with, typing_step, typing, app_typing, con_typing, tuple_typing, vector_typing, case_typing}
use Rattle.check_typing.specs.declared.signatures.Signatures.{Signatures}

pub map-map : {X Y : Type 0} {Z : Type 1} (v : X → Y) (k : Y → Z) (xs : List X) → map (λ x. k (v x)) xs ≡ map k (map v xs)
map-map v k [] = refl
map-map v k (x ∷ xs) = ap (λ ys. k (v x) ∷ ys) (map-map v k xs)

arms-map : {X : Type 0} (v : X → Exp) (k : Exp → Judged) (arms : List (Pat × X))
    → map (arm_with X (λ p. k (v p))) arms ≡ map (arm_with Exp k) (map (λ arm. (arm.0, v arm.1)) arms)
arms-map v k [] = refl
arms-map v k (arm ∷ arms) = ap (λ ys. arm_with _ k (arm.0, v arm.1) ∷ ys) (arms-map v k arms)

pub natural : (s : Signatures) (X : Type 0) (v : X → Exp) (k : Exp → Judged) (x : Exp-F X)
    → typing_step s X (λ p. k (v p)) x ≡ typing_step s Exp k (map-Exp X Exp v x)
natural s X v k (Exp-F.Case a arms) = ap (case_typing s (k (v a))) (arms-map v k arms)
natural s X v k (Exp-F.App name parts) = ap (app_typing s name) (map-map v k parts)
natural s X v k (Exp-F.Con name parts) = ap (con_typing s name) (map-map v k parts)
natural s X v k (Exp-F.Tuple parts) = ap tuple_typing (map-map v k parts)
natural s X v k (Exp-F.Vect parts) = ap vector_typing (map-map v k parts)
natural s X v k (Exp-F.Raise name None) = refl
natural s X v k (Exp-F.Raise name (Some a)) = refl
natural s X v k _ = refl

-- what is said of an expression is said of one level of it
pub typing_roll : (s : Signatures) (x : Exp-F Exp) → typing s (roll-Exp x) ≡ typing_step s Exp (typing s) x
typing_roll s = rec-roll-Exp Judged (λ X v. typing_step s X) (natural s)
