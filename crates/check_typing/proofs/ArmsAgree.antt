-- The walk finds exactly what is said of a `case`.
use Rattle.std.proofs.Common.{◌≡◌, List, [], ◌∷◌, ◌++◌, Option, Some, refl, ap, sym, subst, ◌∙◌, Bool, true, false, ◌&&◌, if◌then◌else◌}
use Rattle.hume_base.specs.declared.types.Ty.{Ty}
use Rattle.hume_ast.specs.declared.tree.Pat.{Pat}
use Rattle.check_typing.specs.Partial.{given}
use Rattle.check_typing.specs.Signatures.{Scope}
use Rattle.check_typing.specs.Patterns.{pattern}
use Rattle.check_typing.specs.Cores.{Cored, CoredArm, case_core}
use Rattle.check_typing.specs.Typing.{Judged, Arm, int32, ArmsChecked, ArmHas, FirstArmType, either_type, all_arms_open, case_typing}
use Rattle.check_typing.specs.inner.Walk.{Walk, arms_against, arms_own, arm_walks_open, case_walk}
use Rattle.check_typing.specs.declared.signatures.Signatures.{Signatures}
use Rattle.check_typing.proofs.Maybe.{given-at, given-inv, some-same}
use Rattle.check_typing.proofs.FormsAgree.{Agrees}

-- alternatives in their places
abbrev pub AllArmsAgree : List Arm → List (Pat × Walk) → Type 0
AllArmsAgree [] [] = Unit {0}
AllArmsAgree (arm ∷ arms) (w ∷ ws) = (arm.pat ≡ w.0) × Agrees arm.body w.1 × AllArmsAgree arms ws
AllArmsAgree _ _ = ⊥

module _ (s : Signatures) (scope : Scope) (u : Ty) where
  arms_to : (arms : List Arm) (ws : List (Pat × Walk)) → AllArmsAgree arms ws → (t : Ty) (cs : List CoredArm) → ArmsChecked s scope u arms t cs
      → arms_against s scope u ws t ≡ Some cs
  arms_to [] [] g t [] h = refl
  arms_to [] [] g t (c ∷ cs) h = absurd h
  arms_to (arm ∷ arms) (a ∷ ws) g t (c ∷ cs) h =
      given-at _ _ (h.0, c.0) (ap (λ p. pattern s p u) (sym g.0) ∙ h.1) ∙ given-at _ _ c.1 (g.1.checked_against (scope ++ h.0) t c.1 h.2)
      ∙ given-at _ _ cs (arms_to arms ws g.2 t cs h.3)
  arms_to (arm ∷ arms) (a ∷ ws) g t [] h = absurd h
  arms_to [] (a ∷ ws) g t cs h = absurd g
  arms_to (arm ∷ arms) [] g t cs h = absurd g

  arms_from : (arms : List Arm) (ws : List (Pat × Walk)) → AllArmsAgree arms ws → (t : Ty) (cs : List CoredArm)
      → arms_against s scope u ws t ≡ Some cs → ArmsChecked s scope u arms t cs
  arms_from [] [] g t [] h = tt
  arms_from [] [] g t (c ∷ cs) h = cc
  arms_from (arm ∷ arms) (a ∷ ws) g t cs h =
      let k = given-inv (pattern s a.0 u) (λ p. given (a.1.against (scope ++ p.0) t) (λ c. given (arms_against s scope u ws t)
      (λ cs. Some ((p.1, c) ∷ cs)))) cs h in
      let m = given-inv (a.1.against (scope ++ k.0.0) t) (λ c. given (arms_against s scope u ws t) (λ cs. Some ((k.0.1, c) ∷ cs))) cs k.2 in
      let n = given-inv (arms_against s scope u ws t) (λ cs. Some ((k.0.1, m.0) ∷ cs)) cs m.2 in
      subst (ArmsChecked s scope u (arm ∷ arms) t) (some-same _ _ n.2)
      (k.0.0, ap (λ p. pattern s p u) g.0 ∙ k.1, g.1.against_checked _ t m.0 m.1, arms_from arms ws g.2 t n.0 n.1)
  arms_from [] (a ∷ ws) g t cs h = absurd g
  arms_from (arm ∷ arms) [] g t cs h = absurd g

  abbrev rest_open : Pat × Walk → List (Pat × Walk) → Option (Ty × List CoredArm)
  rest_open a ws =
      given (arms_own s scope u ws) (λ r. given (pattern s a.0 u) (λ p. given (a.1.against (scope ++ p.0) r.0) (λ c. Some (r.0, (p.1, c) ∷ r.1))))

  abbrev rest_closed : Pat × Walk → List (Pat × Walk) → Option (Ty × List CoredArm)
  rest_closed a ws =
      given (pattern s a.0 u) (λ p. given (a.1.own (scope ++ p.0)) (λ q. given (arms_against s scope u ws q.0) (λ cs. Some (q.0, (p.1, q.1) ∷ cs))))

  arms_own_to : (arms : List Arm) (ws : List (Pat × Walk)) → AllArmsAgree arms ws → (t : Ty) (cs : List CoredArm) → FirstArmType s scope u arms t
      → ArmsChecked s scope u arms t cs
      → arms_own s scope u ws ≡ Some (t, cs)
  arms_own_to [] [] g t [] f h = λ i. Some (sym f i, [])
  arms_own_to [] [] g t (c ∷ cs) f h = absurd h
  arms_own_to (arm ∷ arms) (a ∷ ws) g t (c ∷ cs) f h =
      ap (λ o. if o then rest_open a ws else rest_closed a ws) (sym g.1.is_open) ∙ by arm.body.is_open (λ f. arms_own_to arms ws g.2 t cs f h.3) f
    where
      by : (o : Bool) → (FirstArmType s scope u arms t → arms_own s scope u ws ≡ Some (t, cs))
          → either_type o (FirstArmType s scope u arms t) (ArmHas s scope u arm t)
          → (if o then rest_open a ws else rest_closed a ws) ≡ Some (t, c ∷ cs)
      by true rest f =
          given-at _ _ (t, cs) (rest f) ∙ given-at _ _ (h.0, c.0) (ap (λ p. pattern s p u) (sym g.0) ∙ h.1)
          ∙ given-at _ _ c.1 (g.1.checked_against (scope ++ h.0) t c.1 h.2)
      by false rest f =
          let both : (f.0, f.1) ≡ (h.0, c.0) = some-same _ _ (sym f.3 ∙ h.1) in
          let own : a.1.own (scope ++ h.0) ≡ Some (t, f.2) = ap (λ r. a.1.own (scope ++ r.0)) (sym both) ∙ g.1.has_own (scope ++ f.0) t f.2 f.4 in
          let core : f.2 ≡ c.1 = some-same _ _ (sym (g.1.own_against (scope ++ h.0) t f.2 own) ∙ g.1.checked_against (scope ++ h.0) t c.1 h.2) in
          given-at _ _ (h.0, c.0) (ap (λ p. pattern s p u) (sym g.0) ∙ h.1) ∙ given-at _ _ (t, f.2) own
          ∙ given-at _ _ cs (arms_to arms ws g.2 t cs h.3)
          ∙ (λ i. Some (t, (c.0, core i) ∷ cs))
  arms_own_to (arm ∷ arms) (a ∷ ws) g t [] f h = absurd h
  arms_own_to [] (a ∷ ws) g t cs f h = absurd g
  arms_own_to (arm ∷ arms) [] g t cs f h = absurd g

  abbrev OwnArms : List Arm → Ty × List CoredArm → Type 0
  OwnArms arms r = FirstArmType s scope u arms r.0 × ArmsChecked s scope u arms r.0 r.1

  arms_own_from : (arms : List Arm) (ws : List (Pat × Walk)) → AllArmsAgree arms ws → (r : Ty × List CoredArm) → arms_own s scope u ws ≡ Some r
      → OwnArms arms r
  arms_own_from [] [] g r h = subst (OwnArms []) (some-same (int32, []) r h) (refl, tt)
  arms_own_from (arm ∷ arms) (a ∷ ws) g r h =
      by arm.body.is_open (λ r. arms_own_from arms ws g.2 r) (ap (λ o. if o then rest_open a ws else rest_closed a ws) g.1.is_open ∙ h)
    where
      by : (o : Bool) → ((r : Ty × List CoredArm) → arms_own s scope u ws ≡ Some r → OwnArms arms r)
          → (if o then rest_open a ws else rest_closed a ws) ≡ Some r
          → either_type o (FirstArmType s scope u arms r.0) (ArmHas s scope u arm r.0) × ArmsChecked s scope u (arm ∷ arms) r.0 r.1
      by true rest h =
          let k = given-inv (arms_own s scope u ws) (λ r. given (pattern s a.0 u) (λ p. given (a.1.against (scope ++ p.0) r.0)
          (λ c. Some (r.0, (p.1, c) ∷ r.1)))) r h in
          let m = given-inv (pattern s a.0 u) (λ p. given (a.1.against (scope ++ p.0) k.0.0) (λ c. Some (k.0.0, (p.1, c) ∷ k.0.1))) r k.2 in
          let n = given-inv (a.1.against (scope ++ m.0.0) k.0.0) (λ c. Some (k.0.0, (m.0.1, c) ∷ k.0.1)) r m.2 in
          let f = rest k.0 k.1 in
          subst (λ r. FirstArmType s scope u arms r.0 × ArmsChecked s scope u (arm ∷ arms) r.0 r.1) (some-same (k.0.0, (m.0.1, n.0) ∷ k.0.1) r n.2)
          (f.0, (m.0.0, ap (λ p. pattern s p u) g.0 ∙ m.1, g.1.against_checked _ k.0.0 n.0 n.1, f.1))
      by false rest h =
          let k = given-inv (pattern s a.0 u) (λ p. given (a.1.own (scope ++ p.0)) (λ q. given (arms_against s scope u ws q.0)
          (λ cs. Some (q.0, (p.1, q.1) ∷ cs)))) r h in
          let m = given-inv (a.1.own (scope ++ k.0.0)) (λ q. given (arms_against s scope u ws q.0) (λ cs. Some (q.0, (k.0.1, q.1) ∷ cs))) r k.2 in
          let n = given-inv (arms_against s scope u ws m.0.0) (λ cs. Some (m.0.0, (k.0.1, m.0.1) ∷ cs)) r m.2 in
          let is = ap (λ p. pattern s p u) g.0 ∙ k.1 in
          subst (λ r. ArmHas s scope u arm r.0 × ArmsChecked s scope u (arm ∷ arms) r.0 r.1) (some-same (m.0.0, (k.0.1, m.0.1) ∷ n.0) r n.2) (
            (k.0.0, k.0.1, m.0.1, is, g.1.own_has _ m.0.0 m.0.1 m.1),
            (k.0.0, is, g.1.against_checked _ m.0.0 m.0.1 (g.1.own_against _ m.0.0 m.0.1 m.1), arms_from arms ws g.2 m.0.0 n.0 n.1),
          )
  arms_own_from [] (a ∷ ws) g r h = absurd g
  arms_own_from (arm ∷ arms) [] g r h = absurd g

open_same : (arms : List Arm) (ws : List (Pat × Walk)) → AllArmsAgree arms ws → all_arms_open arms ≡ arm_walks_open ws
open_same [] [] g = refl
open_same (arm ∷ arms) (a ∷ ws) g = λ i. g.1.is_open i && open_same arms ws g.2 i
open_same [] (a ∷ ws) g = absurd g
open_same (arm ∷ arms) [] g = absurd g

pub agrees_case : (s : Signatures) (j : Judged) (w : Walk) (arms : List Arm) (ws : List (Pat × Walk)) → Agrees j w → AllArmsAgree arms ws
    → Agrees (case_typing s j arms) (case_walk s w ws)
agrees_case s j w arms ws q g = record {
  is_open = open_same arms ws g;
  has_own = λ scope t c h.
      given-at _ _ (h.0, h.2.0) (q.has_own scope h.0 h.2.0 h.2.2) ∙ given-at _ _ (t, h.2.1) (arms_own_to s scope h.0 arms ws g t h.2.1 h.1 h.2.3)
      ∙ (λ i. Some (t, sym h.2.4 i));
  own_has = own;
  checked_against = to;
  against_checked = λ scope t c h.
      let k = given-inv (w.own scope) (λ r. given (arms_against s scope r.0 ws t) (λ cs. Some (case_core r.0 r.1 cs))) c h in
      let m = given-inv (arms_against s scope k.0.0 ws t) (λ cs. Some (case_core k.0.0 k.0.1 cs)) c k.2 in
      (k.0.0, (k.0.1, m.0, q.own_has scope k.0.0 k.0.1 k.1, arms_from s scope k.0.0 arms ws g t m.0 m.1, sym (some-same _ _ m.2)));
  own_against = λ scope t c h. let k = own scope t c h in to scope t c (k.0, k.2);
}
  where
    own : (scope : Scope) (t : Ty) (c : Cored) → (case_walk s w ws).own scope ≡ Some (t, c) → (case_typing s j arms).has scope t c
    own scope t c h =
        let k = given-inv (w.own scope) (λ r. given (arms_own s scope r.0 ws) (λ a. Some (a.0, case_core r.0 r.1 a.1))) (t, c) h in
        let m = given-inv (arms_own s scope k.0.0 ws) (λ a. Some (a.0, case_core k.0.0 k.0.1 a.1)) (t, c) k.2 in
        let e : (m.0.0, case_core k.0.0 k.0.1 m.0.1) ≡ (t, c) = some-same _ _ m.2 in
        let f = arms_own_from s scope k.0.0 arms ws g (t, m.0.1) (m.1 ∙ (λ i. Some ((e i).0, m.0.1))) in
        (k.0.0, f.0, (k.0.1, m.0.1, q.own_has scope k.0.0 k.0.1 k.1, f.1, sym (ap (λ r. r.1) e)))

    to : (scope : Scope) (t : Ty) (c : Cored) → (case_typing s j arms).checked scope t c → (case_walk s w ws).against scope t ≡ Some c
    to scope t c h =
        given-at _ _ (h.0, h.1.0) (q.has_own scope h.0 h.1.0 h.1.2) ∙ given-at _ _ h.1.1 (arms_to s scope h.0 arms ws g t h.1.1 h.1.3)
        ∙ ap Some (sym h.1.4)
