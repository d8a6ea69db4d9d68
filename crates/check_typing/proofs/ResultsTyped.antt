-- The typed core of a result gives outputs of their types, if no literal in it is out of range.
use Rattle.std.proofs.Common.{◌≡◌, ℕ, List, [], ◌∷◌, ◌++◌, map, Option, Some, None, ap, sym, subst, ◌∙◌, Bool, false, ◌||◌}
use Rattle.std.specs.List.{list_any}
use Rattle.std.proofs.lemmas.Bool.{or_parts}
use Rattle.std.proofs.lemmas.List.{map-append}
use Rattle.hume_base.specs.declared.types.Ty.{Ty, Bool as BoolTy}
use Rattle.hume_ast.specs.declared.tree.Pat.{Pat}
use Rattle.hume_ast.specs.declared.tree.Exp.{Exp, roll-Exp, ind-Exp, map-Exp}
use Rattle.hume_ast.specs.declared.tree.Exp.TheOpen.{Exp-F}
use Rattle.hume_model.specs.declared.core_tree.Core.{Core}
use Rattle.hume_model.specs.Typing.{IsPattern}
use Rattle.typed_core.specs.declared.typed_tree.TypedExpr.{TypedExpr}
use Rattle.typed_core.specs.ResultTyping.{OutsAreTyped, ResultIsTyped, ResultArmsAreTyped}
use Rattle.check_typing.specs.Signatures.{Scope}
use Rattle.check_typing.specs.Typing.{Judged, typing}
use Rattle.check_typing.specs.Results.{CoredRes, CoredOut, CoredResArm, AsResult, ResultArm, outs_core, let_result_core, if_result_core, case_result_core, raise_result_core, raise_with_result_core, result_arm_cores, AllOutputs, OutputsOf, leaf, Valued, NoOutputs, star_result, tuple_result, plain_result, followed, raise_result, raise_with_result, let_result, if_result, ArmsResult, case_result, result_arm_with, result_step, as_result}
use Rattle.check_typing.specs.CoreSignatures.{scope_types, HasSignatures}
use Rattle.check_typing.specs.declared.signatures.Signatures.{Signatures}
use Rattle.check_typing.proofs.TypingLevels.{typing_roll}
use Rattle.check_typing.proofs.ResultLevels.{result_roll}
use Rattle.check_typing.proofs.PatternsTyped.{pattern_typed}
use Rattle.check_typing.proofs.FormsTyped.{IsSound, one_more, exn_stands}
use Rattle.check_typing.proofs.ExpressionsTyped.{sound}

module _ (s : Signatures) (core : Core) (of : HasSignatures s core) where
  abbrev outs_of : List CoredOut → List (Option TypedExpr)
  outs_of outs = map (λ (out : CoredOut). out.0) outs

  abbrev some_wide : List CoredOut → Bool
  some_wide outs = list_any (λ (out : CoredOut). out.1) outs

  -- the output may stand before others
  abbrev MayLead : Scope → Ty → CoredOut → Type 0
  MayLead scope t out =
      out.1 ≡ false → (outs : List (Option TypedExpr)) (tys : List Ty) → OutsAreTyped core (scope_types scope) outs tys → OutsAreTyped core (scope_types scope) (out.0 ∷ outs) (t ∷ tys)

  abbrev AreOuts : Scope → List Ty → List CoredOut → Type 0
  AreOuts scope tys outs = some_wide outs ≡ false → OutsAreTyped core (scope_types scope) (outs_of outs) tys

  abbrev Gives : Scope → List Ty → CoredRes → Type 0
  Gives scope tys c = c.1 ≡ false → ResultIsTyped core tys (scope_types scope) c.0

  abbrev AllLead : (Scope → Ty → CoredOut → Type 0) → Type 0
  AllLead P = (scope : Scope) (t : Ty) (out : CoredOut) → P scope t out → MayLead scope t out

  abbrev AllOuts : (Scope → List Ty → List CoredOut → Type 0) → Type 0
  AllOuts Q = (scope : Scope) (tys : List Ty) (outs : List CoredOut) → Q scope tys outs → AreOuts scope tys outs

  abbrev AllGive : (Scope → List Ty → CoredRes → Type 0) → Type 0
  AllGive R = (scope : Scope) (tys : List Ty) (c : CoredRes) → R scope tys c → Gives scope tys c

  pub record IsSoundResult (r : AsResult) : Type 0 where
    pub result : AllGive r.result
    pub output : AllLead r.output
    pub outputs : AllOuts r.outputs

  shown : (scope : Scope) (tys : List Ty) (c d : CoredRes) → c ≡ d → Gives scope tys d → Gives scope tys c
  shown scope tys c d e f off =
      subst (λ (r : CoredRes). ResultIsTyped core tys (scope_types scope) r.0) (sym e) (f (ap (λ (r : CoredRes). r.1) (sym e) ∙ off))

  module _ (P : Scope → Ty → CoredOut → Type 0) (Q : Scope → List Ty → List CoredOut → Type 0) (p : AllLead P) (q : AllOuts Q) where
    outs_typed : AllOuts (OutputsOf P Q)
    outs_typed scope [] outs h off = q scope [] outs h off
    outs_typed scope (t ∷ []) outs h off =
        let flags = or_parts h.0.1 false (ap some_wide (sym h.2) ∙ off) in
        subst (λ os. OutsAreTyped core (scope_types scope) (outs_of os) (t ∷ [])) (sym h.2) (p scope t h.0 h.1 flags.0 [] [] OutsAreTyped.none)
    outs_typed scope (t ∷ u ∷ ts) outs h off = q scope (t ∷ u ∷ ts) outs h off

    sound_leaf : IsSoundResult (leaf P Q)
    sound_leaf = record {
      result = λ scope tys c h. shown scope tys c (outs_core h.0) h.2 (λ off. ResultIsTyped.outputs (outs_typed scope tys h.0 h.1 off));
      output = p;
      outputs = q;
    }

  no_outs : AllOuts NoOutputs
  no_outs scope tys outs h = absurd h

  abbrev pub AllSoundResults : List AsResult → Type 0
  AllSoundResults [] = Unit {0}
  AllSoundResults (r ∷ rs) = IsSoundResult r × AllSoundResults rs

  all_outs : (rs : List AsResult) → AllSoundResults rs → (scope : Scope) (ts : List Ty) (outs : List CoredOut) → AllOutputs scope rs ts outs
      → AreOuts scope ts outs
  all_outs [] g scope [] [] h off = OutsAreTyped.none
  all_outs [] g scope (t ∷ ts) outs h off = absurd h
  all_outs [] g scope [] (out ∷ outs) h off = absurd h
  all_outs (r ∷ rs) g scope (t ∷ ts) (out ∷ outs) h off =
      let flags = or_parts out.1 (some_wide outs) off in g.0.output scope t out h.0 flags.0 (outs_of outs) ts (all_outs rs g.1 scope ts outs h.1 flags.1)
  all_outs (r ∷ rs) g scope [] outs h off = absurd h
  all_outs (r ∷ rs) g scope (t ∷ ts) [] h off = absurd h

  abbrev pub AllSoundArms : List ResultArm → Type 0
  AllSoundArms [] = Unit {0}
  AllSoundArms (arm ∷ arms) = IsSoundResult arm.body × AllSoundArms arms

  abbrev some_arm_wide : List CoredResArm → Bool
  some_arm_wide cs = list_any (λ (arm : CoredResArm). arm.0.1 || arm.1.1) cs

  arms_give : (scope : Scope) (u : Ty) (tys : List Ty) (arms : List ResultArm) → AllSoundArms arms → (cs : List CoredResArm)
      → ArmsResult s scope u arms tys cs → some_arm_wide cs ≡ false
      → ResultArmsAreTyped core tys (scope_types scope) u (result_arm_cores cs)
  arms_give scope u tys [] g [] h off = ResultArmsAreTyped.no_arm
  arms_give scope u tys [] g (c ∷ cs) h off = absurd h
  arms_give scope u tys (arm ∷ arms) g (c ∷ cs) h off =
      let flags = or_parts (c.0.1 || c.1.1) (some_arm_wide cs) off in
      let two = or_parts c.0.1 c.1.1 flags.0 in
      let p : IsPattern core.types u c.0.0 (scope_types h.0) =
      subst (λ types. IsPattern types u c.0.0 (scope_types h.0)) (sym of.types) (pattern_typed s arm.pat u (h.0, c.0) h.1 two.0) in
      let body = subst (λ vars. ResultIsTyped core tys vars c.1.0) (map-append (λ (v : List ℕ
      × Ty). v.1) scope h.0) (g.0.result (scope ++ h.0) tys c.1 h.2 two.1) in
      ResultArmsAreTyped.one_arm p body (arms_give scope u tys arms g.1 cs h.3 flags.1)
  arms_give scope u tys (arm ∷ arms) g [] h off = absurd h

  module _ (j : Judged) (w : IsSound s core of j) where
    value_leads : AllLead (Valued j)
    value_leads scope t out h off outs tys others =
        subst (λ (o : CoredOut). OutsAreTyped core (scope_types scope) (o.0 ∷ outs) (t ∷ tys)) (sym h.2)
        (OutsAreTyped.value (w.checked scope t h.0 h.1 (ap (λ (o : CoredOut). o.1) (sym h.2) ∙ off)) others)

    sound_plain : IsSoundResult (plain_result j)
    sound_plain = sound_leaf (Valued j) NoOutputs value_leads no_outs

    sound_tuple : (rs : List AsResult) → AllSoundResults rs → IsSoundResult (tuple_result j rs)
    sound_tuple rs g = sound_leaf (Valued j) _ value_leads (λ scope tys outs h. all_outs rs g scope tys outs h)

    sound_followed : (R : Scope → List Ty → CoredRes → Type 0) → AllGive R → IsSoundResult (followed j R)
    sound_followed R r = record { result = r; output = value_leads; outputs = no_outs }

    sound_raise : (name : List ℕ) → IsSoundResult (raise_result s name j)
    sound_raise name = sound_followed _ (λ scope tys c h. shown scope tys c (raise_result_core h.0) h.2 (λ off.
        ResultIsTyped.raise_alone h.0 h.1.0 (exn_stands s core of name h.0 h.1.0 h.1.1) h.1.2))

    module _ (a : Judged) (p : IsSound s core of a) where
      sound_raise_with : (name : List ℕ) → IsSoundResult (raise_with_result s name j a)
      sound_raise_with name = sound_followed _ (λ scope tys c h. shown scope tys c (raise_with_result_core h.0 h.1) h.3 (λ off.
          ResultIsTyped.raise_with h.0 h.2.0 h.2.1 (exn_stands s core of name h.0 h.2.0 h.2.2) h.2.3 (p.checked scope h.2.1 h.1 h.2.4 off)))

      sound_let : (name : List ℕ) (r : AsResult) → IsSoundResult r → IsSoundResult (let_result j name a r)
      sound_let name r q = sound_followed _ (λ scope tys c h. shown scope tys c (let_result_core h.0 h.1 h.2) h.5 (λ off.
          let flags = or_parts h.1.1 h.2.1 off in
          ResultIsTyped.binding h.0 (p.has scope h.0 h.1 h.3 flags.0)
          (subst (λ vars. ResultIsTyped core tys vars h.2.0) (one_more scope name h.0) (q.result (scope ++ (name, h.0) ∷ []) tys h.2 h.4 flags.1))))

      sound_if : (r q : AsResult) → IsSoundResult r → IsSoundResult q → IsSoundResult (if_result j a r q)
      sound_if r q rs qs = sound_followed _ (λ scope tys c h. shown scope tys c (if_result_core h.0 h.1 h.2) h.6 (λ off.
          let first = or_parts h.0.1 (h.1.1 || h.2.1) off in
          let two = or_parts h.1.1 h.2.1 first.1 in
          ResultIsTyped.choice (p.checked scope BoolTy h.0 h.3 first.0) (rs.result scope tys h.1 h.4 two.0) (qs.result scope tys h.2 h.5 two.1)))

      sound_case : (arms : List ResultArm) → AllSoundArms arms → IsSoundResult (case_result s j a arms)
      sound_case arms g = sound_followed _ (λ scope tys c h. shown scope tys c (case_result_core h.0 h.1 h.2) h.5 (λ off.
          let flags = or_parts h.1.1 (some_arm_wide h.2) off in
          ResultIsTyped.alternatives h.0 (p.has scope h.0 h.1 h.3 flags.0) (arms_give scope h.0 tys arms g h.2 h.4 flags.1)))

  sound_star : IsSoundResult star_result
  sound_star =
      sound_leaf _ NoOutputs (λ scope t out h off outs tys others. subst
      (λ (o : CoredOut). OutsAreTyped core (scope_types scope) (o.0 ∷ outs) (t ∷ tys)) (sym h) (OutsAreTyped.star others)) no_outs

  abbrev Known : Type 0
  Known = (e : Exp) × IsSoundResult (as_result s e)

  abbrev parts : Exp-F Known → Exp-F Exp
  parts y = map-Exp Known Exp (λ e. e.0) y

  all_known : (es : List Known) → AllSoundResults (map (as_result s) (map (λ e. e.0) es))
  all_known [] = tt
  all_known (e ∷ es) = (e.1, all_known es)

  abbrev expressions : List (Pat × Known) → List (Pat × Exp)
  expressions arms = map (λ arm. (arm.0, arm.1.0)) arms

  arms_known : (arms : List (Pat × Known)) → AllSoundArms (map (result_arm_with Exp (as_result s)) (expressions arms))
  arms_known [] = tt
  arms_known (arm ∷ arms) = (arm.1.1, arms_known arms)

  part : (e : Exp) → IsSound s core of (typing s e)
  part e = sound s core of e

  level : (y : Exp-F Known) (j : Judged) → IsSound s core of j → IsSoundResult (result_step s Exp (λ e. e) (as_result s) j (parts y))
  level (Exp-F.Let x a b) j w = sound_let j w _ (part a.0) x _ b.1
  level (Exp-F.If a b d) j w = sound_if j w _ (part a.0) _ _ b.1 d.1
  level (Exp-F.Case a arms) j w = sound_case j w _ (part a.0) _ (arms_known arms)
  level (Exp-F.Raise x None) j w = sound_raise j w x
  level (Exp-F.Raise x (Some a)) j w = sound_raise_with j w _ (part a.0) x
  level (Exp-F.Paren a) j w = a.1
  level (Exp-F.Tuple es) j w = sound_tuple j w _ (all_known es)
  level Exp-F.Star j w = sound_star
  level _ j w = sound_plain j w

  rolled : (y : Exp-F Known) → IsSoundResult (as_result s (roll-Exp (parts y)))
  rolled y =
      subst IsSoundResult (sym (result_roll s (parts y))) (level y _
      (subst (IsSound s core of) (typing_roll s (parts y)) (part (roll-Exp (parts y)))))

  pub sound_result : (e : Exp) → IsSoundResult (as_result s e)
  sound_result = ind-Exp (λ e. IsSoundResult (as_result s e)) (λ x y is. subst (λ x. IsSoundResult (as_result s (roll-Exp x))) is (rolled y))
