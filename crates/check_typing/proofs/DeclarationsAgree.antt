-- The walk over equations, rules, handlers and declarations finds exactly what is said of them.
use Rattle.std.proofs.Common.{◌≡◌, ◌↔◌, ℕ, List, [], ◌∷◌, Option, Some, None, refl, ap, sym, subst, ◌∙◌}
use Rattle.hume_base.specs.declared.types.Ty.{Ty}
use Rattle.hume_ast.specs.declared.tree.TyExp.{TyExp}
use Rattle.hume_ast.specs.declared.tree.Decl.{Decl}
use Rattle.hume_ast.specs.declared.tree.Decl.TheVariants.{Sum, Exn, Fun, BoxD, Stream, Wire}
use Rattle.hume_model.specs.declared.core_tree.ExnDef.{ExnDef}
use Rattle.check_typing.specs.Partial.{given}
use Rattle.check_typing.specs.Signatures.{exn_named}
use Rattle.check_typing.specs.Patterns.{patterns, positions}
use Rattle.check_typing.specs.Declarations.{InPlaces, CoredRule, CoredHandler, CoredDeclaration, function_core, box_core, equation_core, IsEquation, WrittenRule, rule_core, IsRule, WrittenHandler, carried_vars, handler_core, IsHandler, signature_written, ports_written, IsFunction, IsBox, IsTyped, HasNoType}
use Rattle.check_typing.specs.inner.Walk.{walk}
use Rattle.check_typing.specs.inner.ResultWalk.{result_walk}
use Rattle.check_typing.specs.inner.DeclarationWalk.{found_of_all, equation_walk, rule_walk, handler_walk, function_walk, box_walk, declaration_walk}
use Rattle.check_typing.specs.declared.signatures.Signature.{Signature}
use Rattle.check_typing.specs.declared.signatures.Signatures.{Signatures}
use Rattle.check_typing.proofs.Maybe.{given-at, given-inv, some-same, not_some}
use Rattle.check_typing.proofs.WalkAgrees.{walk_agrees}
use Rattle.check_typing.proofs.ResultWalkAgrees.{result_walk_agrees}

-- what belongs is what is found
abbrev pub Finds : {A B : Type 0} → (A → B → Type 0) → (A → Option B) → Type 0
Finds Belongs find = (x : _) (c : _) → Belongs x c ↔ (find x ≡ Some c)

pub only_one : {A B : Type 0} (Belongs : A → B → Type 0) (find : A → Option B) → Finds Belongs find → (x : A) (c d : B) → Belongs x c
    → Belongs x d → c ≡ d
only_one Belongs find f x c d h k = some-same _ _ (sym ((f x c).0 h) ∙ (f x d).0 k)

module _ {A B : Type 0} (Belongs : A → B → Type 0) (find : A → Option B) (f : Finds Belongs find) where
  all_to : (xs : List A) (cs : List B) → InPlaces Belongs xs cs → found_of_all find xs ≡ Some cs
  all_to [] [] h = refl
  all_to [] (c ∷ cs) h = absurd h
  all_to (x ∷ xs) [] h = absurd h
  all_to (x ∷ xs) (c ∷ cs) h = given-at _ _ c ((f x c).0 h.0) ∙ given-at _ _ cs (all_to xs cs h.1)

  all_from : (xs : List A) (cs : List B) → found_of_all find xs ≡ Some cs → InPlaces Belongs xs cs
  all_from [] [] h = tt
  all_from [] (c ∷ cs) h = cc
  all_from (x ∷ xs) cs h =
      let k = given-inv (find x) (λ first. given (found_of_all find xs) (λ others. Some (first ∷ others))) cs h in
      let m = given-inv (found_of_all find xs) (λ others. Some (k.0 ∷ others)) cs k.2 in
      subst (InPlaces Belongs (x ∷ xs)) (some-same _ _ m.2) ((f x k.0).1 k.1, all_from xs m.0 m.1)

  pub finds_all : Finds (InPlaces Belongs) (found_of_all find)
  finds_all xs cs = (all_to xs cs, all_from xs cs)

module _ (s : Signatures) where
  pub finds_equation : (signature : Signature) → Finds (IsEquation s signature) (equation_walk s signature)
  finds_equation signature equation c = (to, from)
    where
      to : IsEquation s signature equation c → equation_walk s signature equation ≡ Some c
      to h = given-at _ _ (h.vars, h.pats) h.binds
          ∙ given-at _ _ h.body ((walk_agrees s equation.2).checked_against h.vars signature.gives h.body h.typed) ∙ ap Some (sym h.is)

      from : equation_walk s signature equation ≡ Some c → IsEquation s signature equation c
      from h =
          let k = given-inv (patterns s equation.1 signature.params) (λ bound. given ((walk s equation.2).against bound.0 signature.gives)
          (λ body. Some (equation_core bound.1 body))) c h in
          let m = given-inv ((walk s equation.2).against k.0.0 signature.gives) (λ body. Some (equation_core k.0.1 body)) c k.2 in
          record {
            vars = k.0.0;
            pats = k.0.1;
            body = m.0;
            binds = k.1;
            typed = (walk_agrees s equation.2).against_checked k.0.0 signature.gives m.0 m.1;
            is = sym (some-same _ _ m.2);
          }

  pub finds_rule : (ins outs : List Ty) → Finds (IsRule s ins outs) (rule_walk s ins outs)
  finds_rule ins outs rule c = (to, from)
    where
      to : IsRule s ins outs rule c → rule_walk s ins outs rule ≡ Some c
      to h = given-at _ _ (h.vars, h.pats) h.binds ∙ given-at _ _ h.result ((result_walk_agrees s rule.1).result_to h.vars outs h.result h.gives)
          ∙ ap Some (sym h.is)

      from : rule_walk s ins outs rule ≡ Some c → IsRule s ins outs rule c
      from h =
          let k = given-inv (positions s rule.0 ins) (λ bound. given ((result_walk s rule.1).result bound.0 outs)
          (λ result. Some (rule_core bound.1 result))) c h in
          let m = given-inv ((result_walk s rule.1).result k.0.0 outs) (λ result. Some (rule_core k.0.1 result)) c k.2 in
          record {
            vars = k.0.0;
            pats = k.0.1;
            result = m.0;
            binds = k.1;
            gives = (result_walk_agrees s rule.1).result_from k.0.0 outs m.0 m.1;
            is = sym (some-same _ _ m.2);
          }

  pub finds_handler : (outs : List Ty) → Finds (IsHandler s outs) (handler_walk s outs)
  finds_handler outs handler c = (to, from)
    where
      to : IsHandler s outs handler c → handler_walk s outs handler ≡ Some c
      to h =
          given-at _ _ (h.number, h.exn) h.known ∙ given-at _ _ (h.vars, h.bound) h.binds
          ∙ given-at _ _ h.result ((result_walk_agrees s handler.2).result_to h.vars outs h.result h.gives) ∙ ap Some (sym h.is)

      from : handler_walk s outs handler ≡ Some c → IsHandler s outs handler c
      from h =
          let k = given-inv (exn_named handler.0 s) (λ (found : ℕ × ExnDef). given (carried_vars found.1.carries handler.1) (λ carried.
          given ((result_walk s handler.2).result carried.0 outs) (λ result. Some (handler_core found.0 carried.1 result)))) c h in
          let l = given-inv (carried_vars k.0.1.carries handler.1) (λ carried.
          given ((result_walk s handler.2).result carried.0 outs) (λ result. Some (handler_core k.0.0 carried.1 result))) c k.2 in
          let m = given-inv ((result_walk s handler.2).result l.0.0 outs) (λ result. Some (handler_core k.0.0 l.0.1 result)) c l.2 in
          record {
            number = k.0.0;
            exn = k.0.1;
            vars = l.0.0;
            bound = l.0.1;
            result = m.0;
            known = k.1;
            binds = l.1;
            gives = (result_walk_agrees s handler.2).result_from l.0.0 outs m.0 m.1;
            is = sym (some-same _ _ m.2);
          }

  pub finds_function : (name : List ℕ) (tys : List TyExp) → Finds (IsFunction s name tys) (function_walk s name tys)
  finds_function name tys equations cs = (to, from)
    where
      to : IsFunction s name tys equations cs → function_walk s name tys equations ≡ Some cs
      to h = given-at _ _ h.signature h.is_written
          ∙ (finds_all (IsEquation s h.signature) (equation_walk s h.signature) (finds_equation h.signature) equations cs).0 h.have

      from : function_walk s name tys equations ≡ Some cs → IsFunction s name tys equations cs
      from h =
          let k = given-inv (signature_written s.types name tys)
          (λ (signature : Signature). found_of_all (equation_walk s signature) equations) cs h in
          record { signature = k.0; is_written = k.1; have = (finds_all (IsEquation s k.0) (equation_walk s k.0) (finds_equation k.0) equations cs).1 k.2 }

  pub box_to : (inputs outputs : List (List ℕ × TyExp)) (rules : List WrittenRule) (handlers : List WrittenHandler) (rs : List CoredRule)
      (hs : List CoredHandler)
      → IsBox s inputs outputs rules handlers rs hs → box_walk s inputs outputs rules handlers ≡ Some (rs, hs)
  box_to inputs outputs rules handlers rs hs h =
      given-at _ _ h.ins h.inputs_are ∙ given-at _ _ h.outs h.outputs_are
      ∙ given-at _ _ rs ((finds_all (IsRule s h.ins h.outs) (rule_walk s h.ins h.outs) (finds_rule h.ins h.outs) rules rs).0 h.rules_have)
      ∙ given-at _ _ hs ((finds_all (IsHandler s h.outs) (handler_walk s h.outs) (finds_handler h.outs) handlers hs).0 h.handlers_have)

  pub box_from : (inputs outputs : List (List ℕ × TyExp)) (rules : List WrittenRule) (handlers : List WrittenHandler) (rs : List CoredRule)
      (hs : List CoredHandler)
      → box_walk s inputs outputs rules handlers ≡ Some (rs, hs) → IsBox s inputs outputs rules handlers rs hs
  box_from inputs outputs rules handlers rs hs h =
      let k = given-inv (ports_written s.types inputs) (λ ins. given (ports_written s.types outputs) (λ outs.
      given (found_of_all (rule_walk s ins outs) rules) (λ rs. given (found_of_all (handler_walk s outs) handlers)
      (λ hs. Some (rs, hs))))) (rs, hs) h in
      let l = given-inv (ports_written s.types outputs) (λ outs.
      given (found_of_all (rule_walk s k.0 outs) rules) (λ rs. given (found_of_all (handler_walk s outs) handlers)
      (λ hs. Some (rs, hs)))) (rs, hs) k.2 in
      let m = given-inv (found_of_all (rule_walk s k.0 l.0) rules) (λ rs. given (found_of_all (handler_walk s l.0) handlers)
      (λ hs. Some (rs, hs))) (rs, hs) l.2 in
      let n = given-inv (found_of_all (handler_walk s l.0) handlers) (λ hs. Some (m.0, hs)) (rs, hs) m.2 in
      let e : (m.0, n.0) ≡ (rs, hs) = some-same _ _ n.2 in
      record {
        ins = k.0;
        outs = l.0;
        inputs_are = k.1;
        outputs_are = l.1;
        rules_have = (finds_all (IsRule s k.0 l.0) (rule_walk s k.0 l.0) (finds_rule k.0 l.0) rules rs).1 (m.1 ∙ (λ i. Some ((e i).0)));
        handlers_have = (finds_all (IsHandler s l.0) (handler_walk s l.0) (finds_handler l.0) handlers hs).1 (n.1 ∙ (λ i. Some ((e i).1)));
      }

  typed_to : (decl : Decl) (c : CoredDeclaration) → IsTyped s decl c → declaration_walk s decl ≡ Some c
  typed_to (Fun name tys equations) c h = given-at _ _ h.0 ((finds_function name tys equations h.0).0 h.1) ∙ ap Some (sym h.2)
  typed_to (BoxD name inputs outputs fair rules handlers) c h = given-at _ _ (h.0, h.1) (box_to inputs outputs rules handlers h.0 h.1 h.2)
      ∙ ap Some (sym h.3)
  typed_to (Sum name constructors) c h = ap Some (sym h)
  typed_to (Exn name carries) c h = ap Some (sym h)
  typed_to (Stream name from port) c h = ap Some (sym h)
  typed_to (Wire source target depth initial) c h = ap Some (sym h)

  typed_from : (decl : Decl) (c : CoredDeclaration) → declaration_walk s decl ≡ Some c → IsTyped s decl c
  typed_from (Fun name tys equations) c h =
      let k = given-inv (function_walk s name tys equations) (λ cs. Some (function_core cs)) c h in
      (k.0, (finds_function name tys equations k.0).1 k.1, sym (some-same _ _ k.2))
  typed_from (BoxD name inputs outputs fair rules handlers) c h =
      let k = given-inv (box_walk s inputs outputs rules handlers) (λ found. Some (box_core found.0 found.1)) c h in
      (k.0.0, k.0.1, box_from inputs outputs rules handlers k.0.0 k.0.1 k.1, sym (some-same _ _ k.2))
  typed_from (Sum name constructors) c h = sym (some-same _ _ h)
  typed_from (Exn name carries) c h = sym (some-same _ _ h)
  typed_from (Stream name from port) c h = sym (some-same _ _ h)
  typed_from (Wire source target depth initial) c h = sym (some-same _ _ h)

  pub finds_declaration : Finds (IsTyped s) (declaration_walk s)
  finds_declaration decl c = (typed_to decl c, typed_from decl c)

  none_to : (decl : Decl) (o : Option CoredDeclaration) → declaration_walk s decl ≡ o → HasNoType s decl → o ≡ None
  none_to decl None is untyped = refl
  none_to decl (Some c) is untyped = absurd (untyped c (typed_from decl c is))

  -- what is not found is not typed
  pub finds_none : (decl : Decl) → HasNoType s decl ↔ (declaration_walk s decl ≡ None)
  finds_none decl = (none_to decl (declaration_walk s decl) refl, λ e c h. not_some c (sym e ∙ typed_to decl c h))
