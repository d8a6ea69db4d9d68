-- The walk finds exactly what is said of calls, constructors, tuples and vectors.
use Rattle.std.proofs.Common.{◌≡◌, ℕ, suc, ◌==◌, List, [], ◌∷◌, length, Option, Some, refl, ap, sym, subst, ◌∙◌, Bool, true, false, if◌then◌else◌}
use Rattle.std.proofs.lemmas.Bool.{eqb-true, eq-eqb}
use Rattle.hume_base.specs.declared.types.Ty.{Ty, Tuple as TupleTy, Vector as VectorTy, Named as NamedTy}
use Rattle.check_typing.specs.Partial.{given, when}
use Rattle.check_typing.specs.Signatures.{Scope, Constructor, variable_named, fun_named, con_named}
use Rattle.check_typing.specs.Cores.{Cored, variable_core, call_core, con_core, tuple_core, vector_core}
use Rattle.check_typing.specs.Typing.{Judged, int32, AllHave, AllChecked, EachChecked, either_type, FirstType, app_typing, con_typing, tuple_typing, vector_typing}
use Rattle.check_typing.specs.inner.Walk.{Walk, tuple_parts, vector_parts, all_against, all_own, app_walk, con_walk, tuple_walk, each_against, each_own, vector_walk}
use Rattle.check_typing.specs.declared.signatures.Signature.{Signature}
use Rattle.check_typing.specs.declared.signatures.Signatures.{Signatures}
use Rattle.check_typing.proofs.Maybe.{given-at, given-inv, when-at, when-inv, some-same, tuple_parts-at, tuple_parts-inv, vector_parts-at, vector_parts-inv}
use Rattle.check_typing.proofs.FormsAgree.{Agrees, agrees_closed}

-- parts in their places
abbrev pub AllAgree : List Judged → List Walk → Type 0
AllAgree [] [] = Unit {0}
AllAgree (j ∷ js) (w ∷ ws) = Agrees j w × AllAgree js ws
AllAgree _ _ = ⊥

all_to : (js : List Judged) (ws : List Walk) → AllAgree js ws → (scope : Scope) (ts : List Ty) (cs : List Cored) → AllChecked scope js ts cs
    → all_against scope ws ts ≡ Some cs
all_to [] [] g scope [] [] h = refl
all_to [] [] g scope (t ∷ ts) cs h = absurd h
all_to [] [] g scope [] (c ∷ cs) h = absurd h
all_to (j ∷ js) (w ∷ ws) g scope (t ∷ ts) (c ∷ cs) h =
    given-at _ _ c (g.0.checked_against scope t c h.0) ∙ given-at _ _ cs (all_to js ws g.1 scope ts cs h.1)
all_to (j ∷ js) (w ∷ ws) g scope [] cs h = absurd h
all_to (j ∷ js) (w ∷ ws) g scope (t ∷ ts) [] h = absurd h
all_to [] (w ∷ ws) g scope ts cs h = absurd g
all_to (j ∷ js) [] g scope ts cs h = absurd g

all_from : (js : List Judged) (ws : List Walk) → AllAgree js ws → (scope : Scope) (ts : List Ty) (cs : List Cored)
    → all_against scope ws ts ≡ Some cs → AllChecked scope js ts cs
all_from [] [] g scope [] [] h = tt
all_from [] [] g scope [] (c ∷ cs) h = cc
all_from [] [] g scope (t ∷ ts) cs h = cc
all_from (j ∷ js) (w ∷ ws) g scope [] cs h = cc
all_from (j ∷ js) (w ∷ ws) g scope (t ∷ ts) cs h =
    let k = given-inv (w.against scope t) (λ c. given (all_against scope ws ts) (λ cs. Some (c ∷ cs))) cs h in
    let m = given-inv (all_against scope ws ts) (λ cs. Some (k.0 ∷ cs)) cs k.2 in
    subst (AllChecked scope (j ∷ js) (t ∷ ts)) (some-same _ _ m.2) (g.0.against_checked scope t k.0 k.1, all_from js ws g.1 scope ts m.0 m.1)
all_from [] (w ∷ ws) g scope ts cs h = absurd g
all_from (j ∷ js) [] g scope ts cs h = absurd g

have_to : (js : List Judged) (ws : List Walk) → AllAgree js ws → (scope : Scope) (ts : List Ty) (cs : List Cored) → AllHave scope js ts cs
    → all_own scope ws ≡ Some (ts, cs)
have_to [] [] g scope [] [] h = refl
have_to [] [] g scope (t ∷ ts) cs h = absurd h
have_to [] [] g scope [] (c ∷ cs) h = absurd h
have_to (j ∷ js) (w ∷ ws) g scope (t ∷ ts) (c ∷ cs) h =
    given-at _ _ (t, c) (g.0.has_own scope t c h.0) ∙ given-at _ _ (ts, cs) (have_to js ws g.1 scope ts cs h.1)
have_to (j ∷ js) (w ∷ ws) g scope [] cs h = absurd h
have_to (j ∷ js) (w ∷ ws) g scope (t ∷ ts) [] h = absurd h
have_to [] (w ∷ ws) g scope ts cs h = absurd g
have_to (j ∷ js) [] g scope ts cs h = absurd g

have_from : (js : List Judged) (ws : List Walk) → AllAgree js ws → (scope : Scope) (p : List Ty × List Cored) → all_own scope ws ≡ Some p
    → AllHave scope js p.0 p.1
have_from [] [] g scope p h = subst (λ r. AllHave scope [] r.0 r.1) (some-same ([], []) p h) tt
have_from (j ∷ js) (w ∷ ws) g scope p h =
    let k = given-inv (w.own scope) (λ p. given (all_own scope ws) (λ q. Some (p.0 ∷ q.0, p.1 ∷ q.1))) p h in
    let m = given-inv (all_own scope ws) (λ q. Some (k.0.0 ∷ q.0, k.0.1 ∷ q.1)) p k.2 in
    subst (λ r. AllHave scope (j ∷ js) r.0 r.1) (some-same (k.0.0 ∷ m.0.0, k.0.1 ∷ m.0.1) p m.2) (g.0.own_has scope k.0.0 k.0.1 k.1, have_from js ws g.1 scope m.0 m.1)
have_from [] (w ∷ ws) g scope p h = absurd g
have_from (j ∷ js) [] g scope p h = absurd g

-- what has types by itself is checked against them
own_all : (js : List Judged) (ws : List Walk) → AllAgree js ws → (scope : Scope) (ts : List Ty) (cs : List Cored) → AllHave scope js ts cs
    → AllChecked scope js ts cs
own_all [] [] g scope [] [] h = tt
own_all [] [] g scope (t ∷ ts) cs h = absurd h
own_all [] [] g scope [] (c ∷ cs) h = absurd h
own_all (j ∷ js) (w ∷ ws) g scope (t ∷ ts) (c ∷ cs) h =
    (g.0.against_checked scope t c (g.0.own_against scope t c (g.0.has_own scope t c h.0)), own_all js ws g.1 scope ts cs h.1)
own_all (j ∷ js) (w ∷ ws) g scope [] cs h = absurd h
own_all (j ∷ js) (w ∷ ws) g scope (t ∷ ts) [] h = absurd h
own_all [] (w ∷ ws) g scope ts cs h = absurd g
own_all (j ∷ js) [] g scope ts cs h = absurd g

pub agrees_app : (s : Signatures) (name : List ℕ) (js : List Judged) (ws : List Walk) → AllAgree js ws
    → Agrees (app_typing s name js) (app_walk s name ws)
agrees_app s name [] [] g = agrees_closed _ _
    (λ scope t c h. given-at _ _ (h.0, t) h.1 ∙ (λ i. Some (t, sym h.2 i)))
    (λ scope t c h.
    let k = given-inv (variable_named name scope) (λ found. Some (found.1, variable_core found.0)) (t, c) h in
    let e : (k.0.1, variable_core k.0.0) ≡ (t, c) = some-same _ _ k.2 in
    (k.0.0, k.1 ∙ (λ i. Some (k.0.0, (e i).0)), sym (ap (λ r. r.1) e)))
agrees_app s name (j ∷ js) (w ∷ ws) g = agrees_closed _ _
    (λ scope t c h. given-at _ _ (h.0, h.1) h.3 ∙ given-at _ _ h.2 (all_to (j ∷ js) (w ∷ ws) g scope h.1.params h.2 h.5)
    ∙ (λ i. Some (sym h.4 i, sym h.6 i)))
    (λ scope t c h.
    let k = given-inv (fun_named name s) (λ (found : ℕ
    × Signature). given (all_against scope (w ∷ ws) found.1.params) (λ cs. Some (found.1.gives, call_core found.0 cs))) (t, c) h in
    let m = given-inv (all_against scope (w ∷ ws) k.0.1.params) (λ cs. Some (k.0.1.gives, call_core k.0.0 cs)) (t, c) k.2 in
    let e : (k.0.1.gives, call_core k.0.0 m.0) ≡ (t, c) = some-same _ _ m.2 in
    (k.0.0, k.0.1, m.0, k.1, sym (ap (λ r. r.0) e), all_from (j ∷ js) (w ∷ ws) g scope k.0.1.params m.0 m.1, sym (ap (λ r. r.1) e)))
agrees_app s name [] (w ∷ ws) g = absurd g
agrees_app s name (j ∷ js) [] g = absurd g

module _ (js : List Judged) (ws : List Walk) (g : AllAgree js ws) where
  pub agrees_con : (s : Signatures) (name : List ℕ) → Agrees (con_typing s name js) (con_walk s name ws)
  agrees_con s name = agrees_closed _ _
      (λ scope t c h. given-at _ _ h.0 h.2 ∙ given-at _ _ h.1 (all_to js ws g scope h.0.fields h.1 h.4) ∙ (λ i. Some (sym h.3 i, sym h.5 i)))
      (λ scope t c h.
      let k = given-inv (con_named name s) (λ (con : Constructor). given (all_against scope ws con.fields)
      (λ cs. Some (NamedTy con.sum, con_core con.place cs))) (t, c) h in
      let m = given-inv (all_against scope ws k.0.fields) (λ cs. Some (NamedTy k.0.sum, con_core k.0.place cs)) (t, c) k.2 in
      let e : (NamedTy k.0.sum, con_core k.0.place m.0) ≡ (t, c) = some-same _ _ m.2 in
      (k.0, m.0, k.1, sym (ap (λ r. r.0) e), all_from js ws g scope k.0.fields m.0 m.1, sym (ap (λ r. r.1) e)))

  pub agrees_tuple : Agrees (tuple_typing js) (tuple_walk ws)
  agrees_tuple = record {
    is_open = refl;
    has_own = λ scope t c h. given-at _ _ (h.0, h.1) (have_to js ws g scope h.0 h.1 h.3) ∙ (λ i. Some (sym h.2 i, sym h.4 i));
    own_has = own;
    checked_against = to;
    against_checked = λ scope t c h.
        let k = given-inv (tuple_parts t) (λ tys. given (all_against scope ws tys) (λ cs. Some (tuple_core cs))) c h in
        let m = given-inv (all_against scope ws k.0) (λ cs. Some (tuple_core cs)) c k.2 in
        (k.0, m.0, tuple_parts-inv t k.0 k.1, all_from js ws g scope k.0 m.0 m.1, sym (some-same _ _ m.2));
    own_against = λ scope t c h. let k = own scope t c h in to scope t c (k.0, k.1, k.2, own_all js ws g scope k.0 k.1 k.3, k.4);
  }
    where
      own : (scope : Scope) (t : Ty) (c : Cored) → (tuple_walk ws).own scope ≡ Some (t, c) → (tuple_typing js).has scope t c
      own scope t c h =
          let k = given-inv (all_own scope ws) (λ p. Some (TupleTy p.0, tuple_core p.1)) (t, c) h in
          let e : (TupleTy k.0.0, tuple_core k.0.1) ≡ (t, c) = some-same _ _ k.2 in
          (k.0.0, k.0.1, sym (ap (λ r. r.0) e), have_from js ws g scope k.0 k.1, sym (ap (λ r. r.1) e))

      to : (scope : Scope) (t : Ty) (c : Cored) → (tuple_typing js).checked scope t c → (tuple_walk ws).against scope t ≡ Some c
      to scope t c h = given-at _ _ h.0 (tuple_parts-at t h.0 h.2) ∙ given-at _ _ h.1 (all_to js ws g scope h.0 h.1 h.3) ∙ ap Some (sym h.4)

-- parts of one type
each_to : (js : List Judged) (ws : List Walk) → AllAgree js ws → (scope : Scope) (t : Ty) (cs : List Cored) → EachChecked scope js t cs
    → each_against scope ws t ≡ Some cs
each_to [] [] g scope t [] h = refl
each_to [] [] g scope t (c ∷ cs) h = absurd h
each_to (j ∷ js) (w ∷ ws) g scope t (c ∷ cs) h =
    given-at _ _ c (g.0.checked_against scope t c h.0) ∙ given-at _ _ cs (each_to js ws g.1 scope t cs h.1)
each_to (j ∷ js) (w ∷ ws) g scope t [] h = absurd h
each_to [] (w ∷ ws) g scope t cs h = absurd g
each_to (j ∷ js) [] g scope t cs h = absurd g

each_from : (js : List Judged) (ws : List Walk) → AllAgree js ws → (scope : Scope) (t : Ty) (cs : List Cored) → each_against scope ws t ≡ Some cs
    → EachChecked scope js t cs
each_from [] [] g scope t [] h = tt
each_from [] [] g scope t (c ∷ cs) h = cc
each_from (j ∷ js) (w ∷ ws) g scope t cs h =
    let k = given-inv (w.against scope t) (λ c. given (each_against scope ws t) (λ cs. Some (c ∷ cs))) cs h in
    let m = given-inv (each_against scope ws t) (λ cs. Some (k.0 ∷ cs)) cs k.2 in
    subst (EachChecked scope (j ∷ js) t) (some-same _ _ m.2) (g.0.against_checked scope t k.0 k.1, each_from js ws g.1 scope t m.0 m.1)
each_from [] (w ∷ ws) g scope t cs h = absurd g
each_from (j ∷ js) [] g scope t cs h = absurd g

module _ (scope : Scope) where
  abbrev rest_open : Walk → List Walk → Option (Ty × List Cored)
  rest_open w ws = given (each_own scope ws) (λ others. given (w.against scope others.0) (λ first. Some (others.0, first ∷ others.1)))

  abbrev rest_closed : Walk → List Walk → Option (Ty × List Cored)
  rest_closed w ws = given (w.own scope) (λ first. given (each_against scope ws first.0) (λ others. Some (first.0, first.1 ∷ others)))

  each_own_to : (js : List Judged) (ws : List Walk) → AllAgree js ws → (t : Ty) (cs : List Cored) → FirstType js scope t
      → EachChecked scope js t cs → each_own scope ws ≡ Some (t, cs)
  each_own_to [] [] g t [] f h = λ i. Some (sym f i, [])
  each_own_to [] [] g t (c ∷ cs) f h = absurd h
  each_own_to (j ∷ js) (w ∷ ws) g t (c ∷ cs) f h =
      ap (λ o. if o then rest_open w ws else rest_closed w ws) (sym g.0.is_open) ∙ by j.is_open (λ f. each_own_to js ws g.1 t cs f h.1) f
    where
      by : (o : Bool) → (FirstType js scope t → each_own scope ws ≡ Some (t, cs))
          → either_type o (FirstType js scope t) ((d : Cored) × j.has scope t d)
          → (if o then rest_open w ws else rest_closed w ws) ≡ Some (t, c ∷ cs)
      by true rest f = given-at _ _ (t, cs) (rest f) ∙ given-at _ _ c (g.0.checked_against scope t c h.0)
      by false rest f =
          let own : w.own scope ≡ Some (t, f.0) = g.0.has_own scope t f.0 f.1 in
          let core : f.0 ≡ c = some-same _ _ (sym (g.0.own_against scope t f.0 own) ∙ g.0.checked_against scope t c h.0) in
          given-at _ _ (t, f.0) own ∙ given-at _ _ cs (each_to js ws g.1 scope t cs h.1) ∙ (λ i. Some (t, core i ∷ cs))
  each_own_to (j ∷ js) (w ∷ ws) g t [] f h = absurd h
  each_own_to [] (w ∷ ws) g t cs f h = absurd g
  each_own_to (j ∷ js) [] g t cs f h = absurd g

  abbrev OwnEach : List Judged → Ty × List Cored → Type 0
  OwnEach js r = FirstType js scope r.0 × EachChecked scope js r.0 r.1

  each_own_from : (js : List Judged) (ws : List Walk) → AllAgree js ws → (r : Ty × List Cored) → each_own scope ws ≡ Some r → OwnEach js r
  each_own_from [] [] g r h = subst (OwnEach []) (some-same (int32, []) r h) (refl, tt)
  each_own_from (j ∷ js) (w ∷ ws) g r h =
      by j.is_open (λ r. each_own_from js ws g.1 r) (ap (λ o. if o then rest_open w ws else rest_closed w ws) g.0.is_open ∙ h)
    where
      by : (o : Bool) → ((r : Ty × List Cored) → each_own scope ws ≡ Some r → OwnEach js r)
          → (if o then rest_open w ws else rest_closed w ws) ≡ Some r
          → either_type o (FirstType js scope r.0) ((d : Cored) × j.has scope r.0 d) × EachChecked scope (j ∷ js) r.0 r.1
      by true rest h =
          let k = given-inv (each_own scope ws) (λ others. given (w.against scope others.0) (λ first. Some (others.0, first ∷ others.1))) r h in
          let m = given-inv (w.against scope k.0.0) (λ first. Some (k.0.0, first ∷ k.0.1)) r k.2 in
          let f = rest k.0 k.1 in
          subst (λ r. FirstType js scope r.0
          × EachChecked scope (j ∷ js) r.0 r.1) (some-same (k.0.0, m.0 ∷ k.0.1) r m.2) (f.0, (g.0.against_checked scope k.0.0 m.0 m.1, f.1))
      by false rest h =
          let k = given-inv (w.own scope) (λ first. given (each_against scope ws first.0) (λ others. Some (first.0, first.1 ∷ others))) r h in
          let m = given-inv (each_against scope ws k.0.0) (λ others. Some (k.0.0, k.0.1 ∷ others)) r k.2 in
          subst (λ r. ((d : Cored) × j.has scope r.0 d) × EachChecked scope (j ∷ js) r.0 r.1) (some-same (k.0.0, k.0.1 ∷ m.0) r m.2) (
            (k.0.1, g.0.own_has scope k.0.0 k.0.1 k.1),
            (g.0.against_checked scope k.0.0 k.0.1 (g.0.own_against scope k.0.0 k.0.1 k.1), each_from js ws g.1 scope k.0.0 m.0 m.1),
          )
  each_own_from [] (w ∷ ws) g r h = absurd g
  each_own_from (j ∷ js) [] g r h = absurd g

same_length : (js : List Judged) (ws : List Walk) → AllAgree js ws → length js ≡ length ws
same_length [] [] g = refl
same_length (j ∷ js) (w ∷ ws) g = ap suc (same_length js ws g.1)
same_length [] (w ∷ ws) g = absurd g
same_length (j ∷ js) [] g = absurd g

module _ (js : List Judged) (ws : List Walk) (g : AllAgree js ws) where
  pub agrees_vector : Agrees (vector_typing js) (vector_walk ws)
  agrees_vector = record {
    is_open = refl;
    has_own = λ scope t c h.
        let is : t ≡ VectorTy (length ws) h.0 = h.2.1 ∙ ap (λ n. VectorTy n h.0) (same_length js ws g) in
        given-at _ _ (h.0, h.2.0) (each_own_to scope js ws g h.0 h.2.0 h.1 h.2.2) ∙ (λ i. Some (sym is i, sym h.2.3 i));
    own_has = own;
    checked_against = to;
    against_checked = λ scope t c h.
        let k = given-inv (vector_parts t) (λ of. when (length ws == of.0) (given (each_against scope ws of.1) (λ cs. Some (vector_core cs)))) c h in
        let l = when-inv (length ws == k.0.0) (given (each_against scope ws k.0.1) (λ cs. Some (vector_core cs))) c k.2 in
        let m = given-inv (each_against scope ws k.0.1) (λ cs. Some (vector_core cs)) c l.1 in
        let long : length js ≡ k.0.0 = same_length js ws g ∙ eqb-true _ _ l.0 in (
          k.0.1,
          (
            m.0,
            vector_parts-inv t k.0.0 k.0.1 k.1
                ∙ ap (λ n. VectorTy n k.0.1) (sym long),
            each_from js ws g scope k.0.1 m.0 m.1,
            sym (some-same _ _ m.2),
          ),
        );
    own_against = λ scope t c h. let k = own scope t c h in to scope t c (k.0, k.2);
  }
    where
      own : (scope : Scope) (t : Ty) (c : Cored) → (vector_walk ws).own scope ≡ Some (t, c) → (vector_typing js).has scope t c
      own scope t c h =
          let k = given-inv (each_own scope ws) (λ all. Some (VectorTy (length ws) all.0, vector_core all.1)) (t, c) h in
          let e : (VectorTy (length ws) k.0.0, vector_core k.0.1) ≡ (t, c) = some-same _ _ k.2 in
          let f = each_own_from scope js ws g k.0 k.1 in
          (k.0.0, f.0, (k.0.1, sym (ap (λ r. r.0) e) ∙ ap (λ n. VectorTy n k.0.0) (sym (same_length js ws g)), f.1, sym (ap (λ r. r.1) e)))

      to : (scope : Scope) (t : Ty) (c : Cored) → (vector_typing js).checked scope t c → (vector_walk ws).against scope t ≡ Some c
      to scope t c h =
          given-at _ _ (length js, h.0) (vector_parts-at t (length js) h.0 h.1.1)
          ∙ when-at _ _ (eq-eqb (length ws) (length js) (sym (same_length js ws g)))
          ∙ given-at _ _ h.1.0 (each_to js ws g scope h.0 h.1.0 h.1.2) ∙ ap Some (sym h.1.3)
