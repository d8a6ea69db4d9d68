-- The walk finds exactly what is said of an expression.
use Rattle.std.proofs.Common.{◌≡◌, List, [], ◌∷◌, map, Some, None, refl, ap, sym, subst, ◌∙◌}
use Rattle.hume_base.specs.declared.types.Ty.{Ty}
use Rattle.hume_ast.specs.declared.tree.Pat.{Pat}
use Rattle.hume_ast.specs.declared.tree.Exp.{Exp, roll-Exp, fold-roll-Exp, ind-Exp, map-Exp}
use Rattle.hume_ast.specs.declared.tree.Exp.TheOpen.{Exp-F}
use Rattle.check_typing.specs.Signatures.{Scope}
use Rattle.check_typing.specs.Cores.{Cored}
use Rattle.check_typing.specs.Typing.{arm_with, typing, typing_step, HasByItself, IsCheckedAgainst}
use Rattle.check_typing.specs.inner.Walk.{Walk, walk, walk_step}
use Rattle.check_typing.specs.declared.signatures.Signatures.{Signatures}
use Rattle.check_typing.proofs.Maybe.{some-same}
use Rattle.check_typing.proofs.TypingLevels.{typing_roll}
use Rattle.check_typing.proofs.FormsAgree.{Agrees, agrees_literal, agrees_letter, agrees_truth, agrees_star, agrees_let, agrees_if, agrees_binary, agrees_not, agrees_neg, agrees_cast, agrees_raise, agrees_raise_with, agrees_update}
use Rattle.check_typing.proofs.PartsAgree.{AllAgree, agrees_app, agrees_con, agrees_tuple, agrees_vector}
use Rattle.check_typing.proofs.ArmsAgree.{AllArmsAgree, agrees_case}

module _ (s : Signatures) where
  abbrev AgreesOn : Exp → Type 0
  AgreesOn e = Agrees (typing s e) (walk s e)

  abbrev Known : Type 0
  Known = (e : Exp) × AgreesOn e

  abbrev parts : Exp-F Known → Exp-F Exp
  parts y = map-Exp Known Exp (λ e. e.0) y

  all_known : (es : List Known) → AllAgree (map (typing s) (map (λ e. e.0) es)) (map (walk s) (map (λ e. e.0) es))
  all_known [] = tt
  all_known (e ∷ es) = (e.1, all_known es)

  abbrev expressions : List (Pat × Known) → List (Pat × Exp)
  expressions arms = map (λ arm. (arm.0, arm.1.0)) arms

  arms_known : (arms : List (Pat × Known))
      → AllArmsAgree (map (arm_with Exp (typing s)) (expressions arms)) (map (λ arm. (arm.0, walk s arm.1)) (expressions arms))
  arms_known [] = tt
  arms_known (arm ∷ arms) = (refl, arm.1.1, arms_known arms)

  level : (y : Exp-F Known) → Agrees (typing_step s Exp (typing s) (parts y)) (walk_step s (map-Exp Exp Walk (walk s) (parts y)))
  level (Exp-F.Let x a b) = agrees_let x _ _ _ _ a.1 b.1
  level (Exp-F.If a b d) = agrees_if _ _ _ _ b.1 d.1 _ _ a.1
  level (Exp-F.Case a arms) = agrees_case s _ _ _ _ a.1 (arms_known arms)
  level (Exp-F.Raise x None) = agrees_raise s x
  level (Exp-F.Raise x (Some a)) = agrees_raise_with s x _ _ a.1
  level (Exp-F.Binary sign a b) = agrees_binary sign _ _ _ _ a.1 b.1
  level (Exp-F.Neg a) = agrees_neg _ _ a.1
  level (Exp-F.Not a) = agrees_not _ _ a.1
  level (Exp-F.App f es) = agrees_app s f _ _ (all_known es)
  level (Exp-F.Con c es) = agrees_con _ _ (all_known es) s c
  level (Exp-F.Update a b d) = agrees_update _ _ _ _ _ _ a.1 b.1 d.1
  level (Exp-F.Num negative n) = agrees_literal negative n
  level (Exp-F.Letter b) = agrees_letter b
  level (Exp-F.Truth b) = agrees_truth b
  level (Exp-F.Paren a) = a.1
  level (Exp-F.Tuple es) = agrees_tuple _ _ (all_known es)
  level (Exp-F.Cast a ty) = agrees_cast _ _ a.1 s ty
  level (Exp-F.Vect es) = agrees_vector _ _ (all_known es)
  level Exp-F.Star = agrees_star

  rolled : (y : Exp-F Known) → AgreesOn (roll-Exp (parts y))
  rolled y = subst (λ j. Agrees j (walk s (roll-Exp (parts y)))) (sym (typing_roll s (parts y)))
      (subst (Agrees (typing_step s Exp (typing s) (parts y))) (sym (fold-roll-Exp Walk (walk_step s) (parts y))) (level y))

  pub walk_agrees : (e : Exp) → Agrees (typing s e) (walk s e)
  walk_agrees = ind-Exp AgreesOn (λ x y is. subst (λ x. AgreesOn (roll-Exp x)) is (rolled y))

  -- no two types, and no two cores
  pub one_type : (scope : Scope) (e : Exp) (t u : Ty) (c d : Cored) → HasByItself s scope e t c → HasByItself s scope e u d → (t ≡ u) × (c ≡ d)
  one_type scope e t u c d h k =
      let x = walk_agrees e in
      let same : (t, c) ≡ (u, d) = some-same _ _ (sym (x.has_own scope t c h) ∙ x.has_own scope u d k) in
      (ap (λ p. p.0) same, ap (λ p. p.1) same)

  pub one_core : (scope : Scope) (e : Exp) (t : Ty) (c d : Cored) → IsCheckedAgainst s scope e t c → IsCheckedAgainst s scope e t d → c ≡ d
  one_core scope e t c d h k = let x = walk_agrees e in some-same _ _ (sym (x.checked_against scope t c h) ∙ x.checked_against scope t d k)
