-- The walk over a result finds exactly what is said of it, form by form.
use Rattle.std.proofs.Common.{◌≡◌, ℕ, List, [], ◌∷◌, ◌++◌, Option, Some, refl, ap, sym, subst, ◌∙◌}
use Rattle.hume_base.specs.declared.types.Ty.{Ty, Bool as BoolTy}
use Rattle.hume_ast.specs.declared.tree.Pat.{Pat}
use Rattle.check_typing.specs.Partial.{given}
use Rattle.check_typing.specs.Signatures.{Scope, exn_named}
use Rattle.check_typing.specs.Patterns.{pattern}
use Rattle.check_typing.specs.Typing.{Judged}
use Rattle.check_typing.specs.Results.{CoredRes, CoredOut, CoredResArm, AsResult, ResultArm, value_out, outs_core, let_result_core, if_result_core, case_result_core, raise_result_core, raise_with_result_core, AllOutputs, OutputsOf, leaf, Valued, NoOutputs, star_result, tuple_result, plain_result, followed, raise_result, raise_with_result, let_result, if_result, ArmsResult, case_result}
use Rattle.check_typing.specs.inner.Walk.{Walk, raised_alone, raised_with}
use Rattle.check_typing.specs.inner.ResultWalk.{ResultWalk, outputs_of, leaf_walk, valued, no_outputs, all_outputs, followed_walk, star_result_walk, tuple_result_walk, plain_result_walk, paren_result_walk, raise_result_walk, raise_with_result_walk, let_result_walk, if_result_walk, arms_result, case_result_walk}
use Rattle.check_typing.specs.declared.signatures.Signatures.{Signatures}
use Rattle.check_typing.proofs.Maybe.{given-at, given-inv, some-same}
use Rattle.check_typing.proofs.FormsAgree.{Agrees, raised_alone-to, raised_alone-from, raised_with-to, raised_with-from}

abbrev To : {A B : Type 0} → (Scope → A → B → Type 0) → (Scope → A → Option B) → Type 0
To P f = (scope : Scope) (t : _) (c : _) → P scope t c → f scope t ≡ Some c

abbrev From : {A B : Type 0} → (Scope → A → B → Type 0) → (Scope → A → Option B) → Type 0
From P f = (scope : Scope) (t : _) (c : _) → f scope t ≡ Some c → P scope t c

pub record ResultAgrees (r : AsResult) (w : ResultWalk) : Type 0 where
  pub result_to : To r.result w.result
  pub result_from : From r.result w.result
  pub output_to : To r.output w.output
  pub output_from : From r.output w.output
  pub outputs_to : To r.outputs w.outputs
  pub outputs_from : From r.outputs w.outputs

module _ (P : Scope → Ty → CoredOut → Type 0) (Q : Scope → List Ty → List CoredOut → Type 0) (f : Scope → Ty → Option CoredOut) (g : Scope → List Ty → Option (List CoredOut))
    (pf : To P f) (fp : From P f) (qg : To Q g) (gq : From Q g) where
  of_to : (scope : Scope) (tys : List Ty) (outs : List CoredOut) → OutputsOf P Q scope tys outs → outputs_of f g scope tys ≡ Some outs
  of_to scope [] outs h = qg scope [] outs h
  of_to scope (t ∷ []) outs h = given-at _ _ h.0 (pf scope t h.0 h.1) ∙ ap Some (sym h.2)
  of_to scope (t ∷ u ∷ ts) outs h = qg scope (t ∷ u ∷ ts) outs h

  of_from : (scope : Scope) (tys : List Ty) (outs : List CoredOut) → outputs_of f g scope tys ≡ Some outs → OutputsOf P Q scope tys outs
  of_from scope [] outs h = gq scope [] outs h
  of_from scope (t ∷ []) outs h = let k = given-inv (f scope t) (λ out. Some (out ∷ [])) outs h in (k.0, fp scope t k.0 k.1, sym (some-same _ _ k.2))
  of_from scope (t ∷ u ∷ ts) outs h = gq scope (t ∷ u ∷ ts) outs h

  agrees_leaf : (w : Walk) → ResultAgrees (leaf P Q) (leaf_walk w f g)
  agrees_leaf w = record {
    result_to = λ scope tys c h. given-at _ _ h.0 (of_to scope tys h.0 h.1) ∙ ap Some (sym h.2);
    result_from = λ scope tys c h.
        let k = given-inv (outputs_of f g scope tys) (λ outs. Some (outs_core outs)) c h in (k.0, of_from scope tys k.0 k.1, sym (some-same _ _ k.2));
    output_to = pf;
    output_from = fp;
    outputs_to = qg;
    outputs_from = gq;
  }

none_to : To NoOutputs no_outputs
none_to scope tys c h = absurd h

none_from : From NoOutputs no_outputs
none_from scope tys c h = cc

-- parts in their places
abbrev pub AllResultsAgree : List AsResult → List ResultWalk → Type 0
AllResultsAgree [] [] = Unit {0}
AllResultsAgree (r ∷ rs) (w ∷ ws) = ResultAgrees r w × AllResultsAgree rs ws
AllResultsAgree _ _ = ⊥

outputs_to : (rs : List AsResult) (ws : List ResultWalk) → AllResultsAgree rs ws → (scope : Scope) (ts : List Ty) (cs : List CoredOut)
    → AllOutputs scope rs ts cs → all_outputs scope ws ts ≡ Some cs
outputs_to [] [] g scope [] [] h = refl
outputs_to [] [] g scope (t ∷ ts) cs h = absurd h
outputs_to [] [] g scope [] (c ∷ cs) h = absurd h
outputs_to (r ∷ rs) (w ∷ ws) g scope (t ∷ ts) (c ∷ cs) h =
    given-at _ _ c (g.0.output_to scope t c h.0) ∙ given-at _ _ cs (outputs_to rs ws g.1 scope ts cs h.1)
outputs_to (r ∷ rs) (w ∷ ws) g scope [] cs h = absurd h
outputs_to (r ∷ rs) (w ∷ ws) g scope (t ∷ ts) [] h = absurd h
outputs_to [] (w ∷ ws) g scope ts cs h = absurd g
outputs_to (r ∷ rs) [] g scope ts cs h = absurd g

outputs_from : (rs : List AsResult) (ws : List ResultWalk) → AllResultsAgree rs ws → (scope : Scope) (ts : List Ty) (cs : List CoredOut)
    → all_outputs scope ws ts ≡ Some cs → AllOutputs scope rs ts cs
outputs_from [] [] g scope [] [] h = tt
outputs_from [] [] g scope [] (c ∷ cs) h = cc
outputs_from [] [] g scope (t ∷ ts) cs h = cc
outputs_from (r ∷ rs) (w ∷ ws) g scope [] cs h = cc
outputs_from (r ∷ rs) (w ∷ ws) g scope (t ∷ ts) cs h =
    let k = given-inv (w.output scope t) (λ c. given (all_outputs scope ws ts) (λ cs. Some (c ∷ cs))) cs h in
    let m = given-inv (all_outputs scope ws ts) (λ cs. Some (k.0 ∷ cs)) cs k.2 in
    subst (AllOutputs scope (r ∷ rs) (t ∷ ts)) (some-same _ _ m.2) (g.0.output_from scope t k.0 k.1, outputs_from rs ws g.1 scope ts m.0 m.1)
outputs_from [] (w ∷ ws) g scope ts cs h = absurd g
outputs_from (r ∷ rs) [] g scope ts cs h = absurd g

-- alternatives in their places
abbrev pub AllResultArmsAgree : List ResultArm → List (Pat × ResultWalk) → Type 0
AllResultArmsAgree [] [] = Unit {0}
AllResultArmsAgree (arm ∷ arms) (w ∷ ws) = (arm.pat ≡ w.0) × ResultAgrees arm.body w.1 × AllResultArmsAgree arms ws
AllResultArmsAgree _ _ = ⊥

module _ (s : Signatures) (scope : Scope) (u : Ty) (tys : List Ty) where
  arms_to : (arms : List ResultArm) (ws : List (Pat × ResultWalk)) → AllResultArmsAgree arms ws → (cs : List CoredResArm)
      → ArmsResult s scope u arms tys cs → arms_result s scope u ws tys ≡ Some cs
  arms_to [] [] g [] h = refl
  arms_to [] [] g (c ∷ cs) h = absurd h
  arms_to (arm ∷ arms) (w ∷ ws) g (c ∷ cs) h =
      given-at _ _ (h.0, c.0) (ap (λ p. pattern s p u) (sym g.0) ∙ h.1) ∙ given-at _ _ c.1 (g.1.result_to (scope ++ h.0) tys c.1 h.2)
      ∙ given-at _ _ cs (arms_to arms ws g.2 cs h.3)
  arms_to (arm ∷ arms) (w ∷ ws) g [] h = absurd h
  arms_to [] (w ∷ ws) g cs h = absurd g
  arms_to (arm ∷ arms) [] g cs h = absurd g

  arms_from : (arms : List ResultArm) (ws : List (Pat × ResultWalk)) → AllResultArmsAgree arms ws → (cs : List CoredResArm)
      → arms_result s scope u ws tys ≡ Some cs → ArmsResult s scope u arms tys cs
  arms_from [] [] g [] h = tt
  arms_from [] [] g (c ∷ cs) h = cc
  arms_from (arm ∷ arms) (w ∷ ws) g cs h =
      let k = given-inv (pattern s w.0 u) (λ p. given (w.1.result (scope ++ p.0) tys) (λ c. given (arms_result s scope u ws tys)
      (λ cs. Some ((p.1, c) ∷ cs)))) cs h in
      let m = given-inv (w.1.result (scope ++ k.0.0) tys) (λ c. given (arms_result s scope u ws tys) (λ cs. Some ((k.0.1, c) ∷ cs))) cs k.2 in
      let n = given-inv (arms_result s scope u ws tys) (λ cs. Some ((k.0.1, m.0) ∷ cs)) cs m.2 in
      subst (ArmsResult s scope u (arm ∷ arms) tys) (some-same _ _ n.2)
      (k.0.0, ap (λ p. pattern s p u) g.0 ∙ k.1, g.1.result_from _ tys m.0 m.1, arms_from arms ws g.2 n.0 n.1)
  arms_from [] (w ∷ ws) g cs h = absurd g
  arms_from (arm ∷ arms) [] g cs h = absurd g

-- forms, of which j is said as expressions
module _ (j : Judged) (w : Walk) (whole : Agrees j w) where
  value_to : To (Valued j) (valued w)
  value_to scope t c h = given-at _ _ h.0 (whole.checked_against scope t h.0 h.1) ∙ ap Some (sym h.2)

  value_from : From (Valued j) (valued w)
  value_from scope t c h =
      let k = given-inv (w.against scope t) (λ e. Some (value_out e)) c h in (k.0, whole.against_checked scope t k.0 k.1, sym (some-same _ _ k.2))

  pub agrees_plain : ResultAgrees (plain_result j) (plain_result_walk w)
  agrees_plain = agrees_leaf (Valued j) NoOutputs (valued w) no_outputs value_to value_from none_to none_from w

  pub agrees_star_result : ResultAgrees star_result (star_result_walk w)
  agrees_star_result =
      agrees_leaf _ NoOutputs _ no_outputs (λ scope t c h. ap Some (sym h)) (λ scope t c h. sym (some-same _ _ h)) none_to none_from w

  pub agrees_tuple_result : (rs : List AsResult) (ws : List ResultWalk) → AllResultsAgree rs ws
      → ResultAgrees (tuple_result j rs) (tuple_result_walk w ws)
  agrees_tuple_result rs ws g =
      agrees_leaf (Valued j) _ (valued w) _ value_to value_from (λ scope ts cs h. outputs_to rs ws g scope ts cs h)
      (λ scope ts cs h. outputs_from rs ws g scope ts cs h) w

  pub agrees_paren_result : (r : AsResult) (a : ResultWalk) → ResultAgrees r a → ResultAgrees r (paren_result_walk w a)
  agrees_paren_result r a g = record {
    result_to = g.result_to;
    result_from = g.result_from;
    output_to = g.output_to;
    output_from = g.output_from;
    outputs_to = g.outputs_to;
    outputs_from = g.outputs_from;
  }

  agrees_followed : (P : Scope → List Ty → CoredRes → Type 0) (f : Scope → List Ty → Option CoredRes) → To P f → From P f
      → ResultAgrees (followed j P) (followed_walk w f)
  agrees_followed P f to from = record {
    result_to = to;
    result_from = from;
    output_to = value_to;
    output_from = value_from;
    outputs_to = none_to;
    outputs_from = none_from;
  }

  pub agrees_raise_result : (s : Signatures) (name : List ℕ) → ResultAgrees (raise_result s name j) (raise_result_walk s name w)
  agrees_raise_result s name = agrees_followed _ _
      (λ scope tys c h. given-at _ _ h.0 (raised_alone-to s name h.0 h.1) ∙ ap Some (sym h.2))
      (λ scope tys c h.
      let k = given-inv (raised_alone (exn_named name s))
      (λ number. Some (raise_result_core number)) c h in (k.0, raised_alone-from s name k.0 k.1, sym (some-same _ _ k.2)))

  module _ (ja : Judged) (a : Walk) (p : Agrees ja a) where
    pub agrees_raise_with_result : (s : Signatures) (name : List ℕ) → ResultAgrees (raise_with_result s name j ja) (raise_with_result_walk s name w a)
    agrees_raise_with_result s name = agrees_followed _ _
        (λ scope tys c h. given-at _ _ (h.0, h.1) (raised_with-to s name ja a p scope h.0 h.1 h.2) ∙ ap Some (sym h.3))
        (λ scope tys c h.
        let k = given-inv (raised_with (exn_named name s) a scope) (λ raised. Some (raise_with_result_core raised.0 raised.1)) c h in
        (k.0.0, k.0.1, raised_with-from s name ja a p scope k.0.0 k.0.1 k.1, sym (some-same _ _ k.2)))

    pub agrees_let_result : (x : List ℕ) (r : AsResult) (b : ResultWalk) → ResultAgrees r b
        → ResultAgrees (let_result j x ja r) (let_result_walk w x a b)
    agrees_let_result x r b q = agrees_followed _ _
        (λ scope tys c h. given-at _ _ (h.0, h.1) (p.has_own scope h.0 h.1 h.3) ∙ given-at _ _ h.2 (q.result_to _ tys h.2 h.4) ∙ ap Some (sym h.5))
        (λ scope tys c h.
        let k = given-inv (a.own scope) (λ p. given (b.result (scope ++ (x, p.0) ∷ []) tys) (λ r. Some (let_result_core p.0 p.1 r))) c h in
        let m = given-inv (b.result (scope ++ (x, k.0.0) ∷ []) tys) (λ r. Some (let_result_core k.0.0 k.0.1 r)) c k.2 in
        (k.0.0, k.0.1, m.0, p.own_has scope k.0.0 k.0.1 k.1, q.result_from _ tys m.0 m.1, sym (some-same _ _ m.2)))

    pub agrees_if_result : (r q : AsResult) (b d : ResultWalk) → ResultAgrees r b → ResultAgrees q d
        → ResultAgrees (if_result j ja r q) (if_result_walk w a b d)
    agrees_if_result r q b d rb qd = agrees_followed _ _
        (λ scope tys c h.
        given-at _ _ h.0 (p.checked_against scope BoolTy h.0 h.3) ∙ given-at _ _ h.1 (rb.result_to scope tys h.1 h.4)
        ∙ given-at _ _ h.2 (qd.result_to scope tys h.2 h.5) ∙ ap Some (sym h.6))
        (λ scope tys c h.
        let k = given-inv (a.against scope BoolTy) (λ t. given (b.result scope tys) (λ yes. given (d.result scope tys)
        (λ no. Some (if_result_core t yes no)))) c h in
        let m = given-inv (b.result scope tys) (λ yes. given (d.result scope tys) (λ no. Some (if_result_core k.0 yes no))) c k.2 in
        let n = given-inv (d.result scope tys) (λ no. Some (if_result_core k.0 m.0 no)) c m.2 in
        (k.0, m.0, n.0, p.against_checked scope BoolTy k.0 k.1, rb.result_from scope tys m.0 m.1, qd.result_from scope tys n.0 n.1, sym (some-same _ _ n.2)))

    pub agrees_case_result : (s : Signatures) (arms : List ResultArm) (ws : List (Pat × ResultWalk)) → AllResultArmsAgree arms ws
        → ResultAgrees (case_result s j ja arms) (case_result_walk s w a ws)
    agrees_case_result s arms ws g = agrees_followed _ _
        (λ scope tys c h. given-at _ _ (h.0, h.1) (p.has_own scope h.0 h.1 h.3) ∙ given-at _ _ h.2 (arms_to s scope h.0 tys arms ws g h.2 h.4)
        ∙ ap Some (sym h.5))
        (λ scope tys c h.
        let k = given-inv (a.own scope) (λ p. given (arms_result s scope p.0 ws tys) (λ all. Some (case_result_core p.0 p.1 all))) c h in
        let m = given-inv (arms_result s scope k.0.0 ws tys) (λ all. Some (case_result_core k.0.0 k.0.1 all)) c k.2 in
        (k.0.0, k.0.1, m.0, p.own_has scope k.0.0 k.0.1 k.1, arms_from s scope k.0.0 tys arms ws g m.0 m.1, sym (some-same _ _ m.2)))
