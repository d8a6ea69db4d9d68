-- The core of an expression has its type, if no literal in it is out of range.
use Rattle.std.proofs.Common.{List, [], ◌∷◌, map, Some, None, sym, subst}
use Rattle.hume_ast.specs.declared.tree.Pat.{Pat}
use Rattle.hume_ast.specs.declared.tree.Exp.{Exp, roll-Exp, ind-Exp, map-Exp}
use Rattle.hume_ast.specs.declared.tree.Exp.TheOpen.{Exp-F}
use Rattle.hume_model.specs.declared.core_tree.Core.{Core}
use Rattle.check_typing.specs.Typing.{arm_with, typing, typing_step}
use Rattle.check_typing.specs.CoreSignatures.{HasSignatures}
use Rattle.check_typing.specs.declared.signatures.Signatures.{Signatures}
use Rattle.check_typing.proofs.TypingLevels.{typing_roll}
use Rattle.check_typing.proofs.FormsTyped.{IsSound, AllSound, AllArmsSound, sound_literal, sound_letter, sound_truth, sound_star, sound_let, sound_if, sound_binary, sound_update, sound_not, sound_neg, sound_cast, sound_raise, sound_raise_with, sound_app, sound_con, sound_tuple, sound_vector, sound_case}

module _ (s : Signatures) (core : Core) (of : HasSignatures s core) where
  abbrev Sound : Exp → Type 0
  Sound e = IsSound s core of (typing s e)

  abbrev Known : Type 0
  Known = (e : Exp) × Sound e

  abbrev parts : Exp-F Known → Exp-F Exp
  parts y = map-Exp Known Exp (λ e. e.0) y

  all_known : (es : List Known) → AllSound s core of (map (typing s) (map (λ e. e.0) es))
  all_known [] = tt
  all_known (e ∷ es) = (e.1, all_known es)

  abbrev expressions : List (Pat × Known) → List (Pat × Exp)
  expressions arms = map (λ arm. (arm.0, arm.1.0)) arms

  arms_known : (arms : List (Pat × Known)) → AllArmsSound s core of (map (arm_with Exp (typing s)) (expressions arms))
  arms_known [] = tt
  arms_known (arm ∷ arms) = (arm.1.1, arms_known arms)

  level : (y : Exp-F Known) → IsSound s core of (typing_step s Exp (typing s) (parts y))
  level (Exp-F.Let x a b) = sound_let s core of x _ _ a.1 b.1
  level (Exp-F.If a b d) = sound_if s core of _ _ b.1 d.1 _ a.1
  level (Exp-F.Case a arms) = sound_case s core of _ a.1 _ (arms_known arms)
  level (Exp-F.Raise x None) = sound_raise s core of x
  level (Exp-F.Raise x (Some a)) = sound_raise_with s core of x _ a.1
  level (Exp-F.Binary sign a b) = sound_binary s core of _ _ a.1 b.1 sign
  level (Exp-F.Neg a) = sound_neg s core of _ a.1
  level (Exp-F.Not a) = sound_not s core of _ a.1
  level (Exp-F.App f es) = sound_app s core of f _ (all_known es)
  level (Exp-F.Con c es) = sound_con s core of _ (all_known es) c
  level (Exp-F.Update a b d) = sound_update s core of _ _ _ a.1 b.1 d.1
  level (Exp-F.Num negative n) = sound_literal s core of negative n
  level (Exp-F.Letter b) = sound_letter s core of b
  level (Exp-F.Truth b) = sound_truth s core of b
  level (Exp-F.Paren a) = a.1
  level (Exp-F.Tuple es) = sound_tuple s core of _ (all_known es)
  level (Exp-F.Cast a ty) = sound_cast s core of _ a.1 ty
  level (Exp-F.Vect es) = sound_vector s core of _ (all_known es)
  level Exp-F.Star = sound_star s core of

  pub sound : (e : Exp) → Sound e
  sound = ind-Exp Sound (λ x y is. subst (λ x. Sound (roll-Exp x)) is (subst (IsSound s core of) (sym (typing_roll s (parts y))) (level y)))
