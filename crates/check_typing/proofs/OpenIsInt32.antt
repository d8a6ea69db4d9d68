-- An open expression, where no type is expected, is checked against int 32.
use Rattle.std.proofs.Common.{◌≡◌, ◌↔◌, ℕ, List, [], ◌∷◌, ◌++◌, map, Some, None, refl, sym, subst, ◌∙◌, Bool, true, false, ◌&&◌}
use Rattle.std.proofs.lemmas.Bool.{false≢true, and_parts}
use Rattle.hume_base.specs.declared.types.Ty.{Ty}
use Rattle.hume_ast.specs.declared.tree.BinOp.{BinOp}
use Rattle.hume_ast.specs.declared.tree.BinOp.TheVariants as sign
use Rattle.hume_ast.specs.declared.tree.Exp.{Exp, roll-Exp, ind-Exp, map-Exp}
use Rattle.hume_ast.specs.declared.tree.Exp.TheOpen.{Exp-F}
use Rattle.hume_model.specs.declared.core_tree.Op.TheVariants as op
use Rattle.check_typing.specs.Signatures.{Scope}
use Rattle.check_typing.specs.Cores.{Cored}
use Rattle.check_typing.specs.Typing.{Judged, Arm, FirstType, either_type, FirstArmType, ArmHas, all_arms_open, Alternatives, case_typing, Branches, Arithmetic, Negation, opened, int32, let_typing, neg_typing, binary_typing, arm_with, typing, typing_step, HasByItself, IsCheckedAgainst}
use Rattle.check_typing.specs.declared.signatures.Signatures.{Signatures}
use Rattle.check_typing.proofs.TypingLevels.{typing_roll}

record Opens (j : Judged) : Type 0 where
  to : j.is_open ≡ true → (s : Scope) (t : Ty) (c : Cored) → j.has s t c → (t ≡ int32) × j.checked s int32 c
  from : j.is_open ≡ true → (s : Scope) (t : Ty) (c : Cored) → (t ≡ int32) × j.checked s int32 c → j.has s t c

never : (j : Judged) → j.is_open ≡ false → Opens j
never j off = record { to = λ o s t c h. absurd (false≢true (sym off ∙ o)); from = λ o s t c h. absurd (false≢true (sym off ∙ o)) }

opens_opened : (checked : Scope → Ty → Cored → Type 0) → Opens (opened checked)
opens_opened checked = record {
  to = λ o s t c h. (h.0, subst (λ u. checked s u c) h.0 h.1);
  from = λ o s t c h. (h.0, subst (λ u. checked s u c) (sym h.0) h.1);
}

opens_let : (x : List ℕ) (a b : Judged) → Opens b → Opens (let_typing x a b)
opens_let x a b q = record {
  to = λ o s t c h. let r = q.to o (s ++ (x, h.0) ∷ []) t h.2 h.4 in (r.0, (h.0, h.1, h.2, h.3, r.1, h.5));
  from = λ o s t c h. (h.1.0, h.1.1, h.1.2, h.1.3, q.from o (s ++ (x, h.1.0) ∷ []) t h.1.2 (h.0, h.1.4), h.1.5);
}

opens_neg : (a : Judged) → Opens a → Opens (neg_typing a)
opens_neg a q = record {
  to = λ o s t c h.
      let r = q.to o s t h.0 h.2 in
      (r.0, subst (λ u. Negation a.checked s u c) r.0 (h.0, h.1, subst (λ u. a.checked s u h.0) (sym r.0) r.1, h.3));
  from = λ o s t c h.
      let n : Negation a.checked s t c = subst (λ u. Negation a.checked s u c) (sym h.0) h.1 in
      (n.0, n.1, q.from o s t n.0 (h.0, subst (λ u. a.checked s u n.0) h.0 n.2), n.3);
}

first_to : (x y : Bool) (t : Ty) (A B : Type 0) → x ≡ true → y ≡ true → either_type x (either_type y (t ≡ int32) B) A → t ≡ int32
first_to true true t A B p q h = h
first_to true false t A B p q h = absurd (false≢true q)
first_to false y t A B p q h = absurd (false≢true p)

first_from : (x y : Bool) (t : Ty) (A B : Type 0) → x ≡ true → y ≡ true → t ≡ int32 → either_type x (either_type y (t ≡ int32) B) A
first_from true true t A B p q h = h
first_from true false t A B p q h = absurd (false≢true q)
first_from false y t A B p q h = absurd (false≢true p)

-- two parts of one type, both open
opens_two : (a b : Judged) (checked : Scope → Ty → Cored → Type 0)
    → Opens (record { is_open = a.is_open && b.is_open; has = λ s t c. FirstType (a ∷ b ∷ []) s t × checked s t c; checked = checked })
opens_two a b checked = record {
  to =
      λ o s t c h. let p =
      and_parts a.is_open b.is_open o in let e = first_to a.is_open b.is_open t _ _ p.0 p.1 h.0 in (e, subst (λ u. checked s u c) e h.1);
  from =
      λ o s t c h. let p =
      and_parts a.is_open b.is_open o in (first_from a.is_open b.is_open t _ _ p.0 p.1 h.0, subst (λ u. checked s u c) (sym h.0) h.1);
}

opens_binary : (sign : BinOp) (a b : Judged) → Opens (binary_typing sign a b)
opens_binary sign.Add a b = opens_two a b (Arithmetic op.Add a b)
opens_binary sign.Sub a b = opens_two a b (Arithmetic op.Sub a b)
opens_binary sign.Mul a b = opens_two a b (Arithmetic op.Mul a b)
opens_binary sign.Div a b = opens_two a b (Arithmetic op.Div a b)
opens_binary sign.Mod a b = opens_two a b (Arithmetic op.Mod a b)
opens_binary sign.Or a b = never _ refl
opens_binary sign.And a b = never _ refl
opens_binary sign.Eq a b = never _ refl
opens_binary sign.Ne a b = never _ refl
opens_binary sign.Lt a b = never _ refl
opens_binary sign.Le a b = never _ refl
opens_binary sign.Gt a b = never _ refl
opens_binary sign.Ge a b = never _ refl
opens_binary sign.At a b = never _ refl

module _ (s : Signatures) (scope : Scope) (of t : Ty) where
  arms_to : (arms : List Arm) → all_arms_open arms ≡ true → FirstArmType s scope of arms t → t ≡ int32
  arms_to [] o h = h
  arms_to (arm ∷ arms) o h = let p = and_parts arm.body.is_open (all_arms_open arms) o in arms_to arms p.1 (by arm.body.is_open p.0 h)
    where
      by : (x : Bool) → x ≡ true → either_type x (FirstArmType s scope of arms t) (ArmHas s scope of arm t) → FirstArmType s scope of arms t
      by true e h = h
      by false e h = absurd (false≢true e)

  arms_from : (arms : List Arm) → all_arms_open arms ≡ true → t ≡ int32 → FirstArmType s scope of arms t
  arms_from [] o h = h
  arms_from (arm ∷ arms) o h = let p = and_parts arm.body.is_open (all_arms_open arms) o in by arm.body.is_open p.0 (arms_from arms p.1 h)
    where
      by : (x : Bool) → x ≡ true → FirstArmType s scope of arms t → either_type x (FirstArmType s scope of arms t) (ArmHas s scope of arm t)
      by true e h = h
      by false e h = absurd (false≢true e)

opens_case : (s : Signatures) (a : Judged) (arms : List Arm) → Opens (case_typing s a arms)
opens_case s a arms = record {
  to = λ o scope t c h. let e = arms_to s scope h.0 t arms o h.1 in (e, (h.0, subst (λ u. Alternatives s a arms scope h.0 u c) e h.2));
  from = λ o scope t c h. (h.1.0, arms_from s scope h.1.0 t arms o h.0, subst (λ u. Alternatives s a arms scope h.1.0 u c) (sym h.0) h.1.1);
}

module _ (s : Signatures) where
  abbrev Known : Type 0
  Known = (e : Exp) × Opens (typing s e)

  app_never : (name : List ℕ) (es : List Known) → Opens (typing_step s Exp (typing s) (map-Exp Known Exp (λ e. e.0) (Exp-F.App name es)))
  app_never name [] = never _ refl
  app_never name (e ∷ es) = never _ refl

  level : (y : Exp-F Known) → Opens (typing_step s Exp (typing s) (map-Exp Known Exp (λ e. e.0) y))
  level (Exp-F.Let x a b) = opens_let x (typing s a.0) (typing s b.0) b.1
  level (Exp-F.If a b d) = opens_two (typing s b.0) (typing s d.0) (Branches (typing s a.0) (typing s b.0) (typing s d.0))
  level (Exp-F.Case a arms) = opens_case s (typing s a.0) (map (arm_with Exp (typing s)) (map (λ arm. (arm.0, arm.1.0)) arms))
  level (Exp-F.Raise x None) = opens_opened _
  level (Exp-F.Raise x (Some a)) = opens_opened _
  level (Exp-F.Binary sign a b) = opens_binary sign (typing s a.0) (typing s b.0)
  level (Exp-F.Neg a) = opens_neg (typing s a.0) a.1
  level (Exp-F.Not a) = never _ refl
  level (Exp-F.App f es) = app_never f es
  level (Exp-F.Con c es) = never _ refl
  level (Exp-F.Update a b d) = never _ refl
  level (Exp-F.Num negative n) = opens_opened _
  level (Exp-F.Letter b) = never _ refl
  level (Exp-F.Truth b) = never _ refl
  level (Exp-F.Paren a) = a.1
  level (Exp-F.Tuple es) = never _ refl
  level (Exp-F.Cast a ty) = never _ refl
  level (Exp-F.Vect es) = never _ refl
  level Exp-F.Star = never _ refl

  opens : (e : Exp) → Opens (typing s e)
  opens =
      ind-Exp (λ e. Opens (typing s e)) (λ x y is. subst (λ x. Opens (typing s (roll-Exp x))) is
      (subst Opens (sym (typing_roll s (map-Exp Known Exp (λ e. e.0) y))) (level y)))

  pub open_is_int32 : (scope : Scope) (e : Exp) (t : Ty) (c : Cored) → (typing s e).is_open ≡ true
      → HasByItself s scope e t c ↔ ((t ≡ int32) × IsCheckedAgainst s scope e int32 c)
  open_is_int32 scope e t c o = let x = opens e in (x.to o scope t c, x.from o scope t c)
