-- The walk over a result finds exactly what is said of it.
use Rattle.std.proofs.Common.{◌≡◌, List, [], ◌∷◌, map, Some, None, refl, ap, sym, subst, ◌∙◌}
use Rattle.hume_base.specs.declared.types.Ty.{Ty}
use Rattle.hume_ast.specs.declared.tree.Pat.{Pat}
use Rattle.hume_ast.specs.declared.tree.Exp.{Exp, roll-Exp, fold-roll-Exp, ind-Exp, map-Exp}
use Rattle.hume_ast.specs.declared.tree.Exp.TheOpen.{Exp-F}
use Rattle.check_typing.specs.Signatures.{Scope}
use Rattle.check_typing.specs.Typing.{Judged, typing, typing_step}
use Rattle.check_typing.specs.Results.{CoredRes, as_result, result_step, result_level, result_arm_with, IsResult}
use Rattle.check_typing.specs.inner.Walk.{Walk, walk, walk_step}
use Rattle.check_typing.specs.inner.ResultWalk.{ResultWalk, result_walk, result_walk_step, result_walk_form}
use Rattle.check_typing.specs.declared.signatures.Signatures.{Signatures}
use Rattle.check_typing.proofs.Maybe.{some-same}
use Rattle.check_typing.proofs.TypingLevels.{typing_roll}
use Rattle.check_typing.proofs.ResultLevels.{result_roll}
use Rattle.check_typing.proofs.FormsAgree.{Agrees}
use Rattle.check_typing.proofs.WalkAgrees.{walk_agrees}
use Rattle.check_typing.proofs.ResultsAgree.{ResultAgrees, AllResultsAgree, AllResultArmsAgree, agrees_plain, agrees_star_result, agrees_tuple_result, agrees_paren_result, agrees_raise_result, agrees_raise_with_result, agrees_let_result, agrees_if_result, agrees_case_result}

module _ (s : Signatures) where
  -- the walk over a result goes with the walk over the expression
  abbrev Goes : Exp → Type 0
  Goes e = (result_walk s e).walk ≡ walk s e

  abbrev Going : Type 0
  Going = (e : Exp) × Goes e

  abbrev walks : Exp-F Exp → Exp-F Walk
  walks x = map-Exp ResultWalk Walk (λ part. part.walk) (map-Exp Exp ResultWalk (result_walk s) x)

  many : (es : List Going) → map (λ (p : ResultWalk). p.walk) (map (result_walk s) (map (λ e. e.0) es)) ≡ map (walk s) (map (λ e. e.0) es)
  many [] = refl
  many (e ∷ es) = λ i. e.1 i ∷ many es i

  abbrev bare : List (Pat × Going) → List (Pat × Exp)
  bare as' = map (λ arm. (arm.0, arm.1.0)) as'

  abbrev found : List (Pat × Exp) → List (Pat × ResultWalk)
  found as' = map (λ arm. (arm.0, result_walk s arm.1)) as'

  abbrev along : List (Pat × ResultWalk) → List (Pat × Walk)
  along as' = map (λ arm. (arm.0, arm.1.walk)) as'

  abbrev walked : List (Pat × Exp) → List (Pat × Walk)
  walked as' = map (λ arm. (arm.0, walk s arm.1)) as'

  arms : (as' : List (Pat × Going)) → along (found (bare as')) ≡ walked (bare as')
  arms [] = refl
  arms (a ∷ as') = λ i. (a.0, a.1.1 i) ∷ arms as' i

  going : (y : Exp-F Going) → walks (map-Exp Going Exp (λ e. e.0) y) ≡ map-Exp Exp Walk (walk s) (map-Exp Going Exp (λ e. e.0) y)
  going (Exp-F.Let x a b) = λ i. Exp-F.Let x (a.1 i) (b.1 i)
  going (Exp-F.If a b d) = λ i. Exp-F.If (a.1 i) (b.1 i) (d.1 i)
  going (Exp-F.Case a as') = λ i. Exp-F.Case (a.1 i) (arms as' i)
  going (Exp-F.Raise x None) = refl
  going (Exp-F.Raise x (Some a)) = λ i. Exp-F.Raise x (Some (a.1 i))
  going (Exp-F.Binary sign a b) = λ i. Exp-F.Binary sign (a.1 i) (b.1 i)
  going (Exp-F.Neg a) = λ i. Exp-F.Neg (a.1 i)
  going (Exp-F.Not a) = λ i. Exp-F.Not (a.1 i)
  going (Exp-F.App f es) = ap (Exp-F.App f) (many es)
  going (Exp-F.Con c es) = ap (Exp-F.Con c) (many es)
  going (Exp-F.Update a b d) = λ i. Exp-F.Update (a.1 i) (b.1 i) (d.1 i)
  going (Exp-F.Num negative n) = refl
  going (Exp-F.Letter b) = refl
  going (Exp-F.Truth b) = refl
  going (Exp-F.Paren a) = λ i. Exp-F.Paren (a.1 i)
  going (Exp-F.Tuple es) = ap Exp-F.Tuple (many es)
  going (Exp-F.Cast a ty) = λ i. Exp-F.Cast (a.1 i) ty
  going (Exp-F.Vect es) = ap Exp-F.Vect (many es)
  going Exp-F.Star = refl

  form : (w : Walk) (x : Exp-F ResultWalk) → (result_walk_form s w x).walk ≡ w
  form w (Exp-F.Raise x None) = refl
  form w (Exp-F.Raise x (Some a)) = refl
  form w _ = refl

  -- the walk that goes along, one level down
  pub walk_level : (x : Exp-F Exp) → (result_walk s (roll-Exp x)).walk ≡ walk_step s (walks x)
  walk_level x = ap (λ (r : ResultWalk). r.walk) (fold-roll-Exp ResultWalk (result_walk_step s) x)
      ∙ form (walk_step s (walks x)) (map-Exp Exp ResultWalk (result_walk s) x)

  pub goes : (e : Exp) → Goes e
  goes = ind-Exp Goes (λ x y is. subst (λ x. Goes (roll-Exp x)) is
      (walk_level (map-Exp Going Exp (λ e. e.0) y) ∙ ap (walk_step s) (going y)
      ∙ sym (fold-roll-Exp Walk (walk_step s) (map-Exp Going Exp (λ e. e.0) y))))

  part : (e : Exp) → Agrees (typing s e) (result_walk s e).walk
  part e = subst (Agrees (typing s e)) (sym (goes e)) (walk_agrees s e)

  abbrev AgreesOn : Exp → Type 0
  AgreesOn e = ResultAgrees (as_result s e) (result_walk s e)

  abbrev Known : Type 0
  Known = (e : Exp) × AgreesOn e

  abbrev parts : Exp-F Known → Exp-F Exp
  parts y = map-Exp Known Exp (λ e. e.0) y

  all_known : (es : List Known) → AllResultsAgree (map (as_result s) (map (λ e. e.0) es)) (map (result_walk s) (map (λ e. e.0) es))
  all_known [] = tt
  all_known (e ∷ es) = (e.1, all_known es)

  abbrev expressions : List (Pat × Known) → List (Pat × Exp)
  expressions as' = map (λ arm. (arm.0, arm.1.0)) as'

  arms_known : (as' : List (Pat × Known))
      → AllResultArmsAgree (map (result_arm_with Exp (as_result s)) (expressions as')) (map (λ arm. (arm.0, result_walk s arm.1)) (expressions as'))
  arms_known [] = tt
  arms_known (a ∷ as') = (refl, a.1.1, arms_known as')

  level : (y : Exp-F Known) (j : Judged) (w : Walk) → Agrees j w
      → ResultAgrees (result_step s Exp (λ e. e) (as_result s) j (parts y)) (result_walk_form s w (map-Exp Exp ResultWalk (result_walk s) (parts y)))
  level (Exp-F.Let x a b) j w o = agrees_let_result j w o _ _ (part a.0) x _ _ b.1
  level (Exp-F.If a b d) j w o = agrees_if_result j w o _ _ (part a.0) _ _ _ _ b.1 d.1
  level (Exp-F.Case a as') j w o = agrees_case_result j w o _ _ (part a.0) s _ _ (arms_known as')
  level (Exp-F.Raise x None) j w o = agrees_raise_result j w o s x
  level (Exp-F.Raise x (Some a)) j w o = agrees_raise_with_result j w o _ _ (part a.0) s x
  level (Exp-F.Paren a) j w o = agrees_paren_result j w o _ _ a.1
  level (Exp-F.Tuple es) j w o = agrees_tuple_result j w o _ _ (all_known es)
  level Exp-F.Star j w o = agrees_star_result j w o
  level _ j w o = agrees_plain j w o

  whole : (x : Exp-F Exp) → Agrees (typing_step s Exp (typing s) x) (walk_step s (walks x))
  whole x =
      subst (λ j. Agrees j (walk_step s (walks x))) (typing_roll s x) (subst (Agrees (typing s (roll-Exp x))) (walk_level x) (part (roll-Exp x)))

  rolled : (y : Exp-F Known) → AgreesOn (roll-Exp (parts y))
  rolled y = subst (λ r. ResultAgrees r (result_walk s (roll-Exp (parts y)))) (sym (result_roll s (parts y)))
      (subst (ResultAgrees (result_level s Exp
      (λ e. e) (as_result s) (parts y))) (sym (fold-roll-Exp ResultWalk (result_walk_step s) (parts y))) (level y _ _ (whole (parts y))))

  pub result_walk_agrees : (e : Exp) → AgreesOn e
  result_walk_agrees = ind-Exp AgreesOn (λ x y is. subst (λ x. AgreesOn (roll-Exp x)) is (rolled y))

  -- no result has two cores
  pub one_result : (scope : Scope) (e : Exp) (tys : List Ty) (c d : CoredRes) → IsResult s scope e tys c → IsResult s scope e tys d → c ≡ d
  one_result scope e tys c d h k = let x = result_walk_agrees e in some-same _ _ (sym (x.result_to scope tys c h) ∙ x.result_to scope tys d k)
