-- What a box comes to.
use Rattle.std.proofs.Common.{◌≡◌, ℕ, ◌||◌, Bool, false, List, [], ◌++◌, Option, Some, None, refl, ap, sym, ◌∙◌}
use Rattle.std.proofs.lemmas.Grind.{common_steps}
use Rattle.std.proofs.lemmas.List.{nil_from_length}
use Rattle.hume_base.specs.declared.types.Ty.{Ty, Tuple as TupleTy}
use Rattle.hume_base.specs.declared.types.Ty.TheVariants.{outs-Tuple}
use Rattle.hume_ast.specs.declared.tree.TyExp.{TyExp}
use Rattle.typed_core.specs.declared.typed_tree.TypedRule.{TypedRule}
use Rattle.typed_core.specs.declared.typed_tree.TypedHandler.{TypedHandler}
use Rattle.hume_model.specs.declared.core_tree.ExnDef.{ExnDef}
use Rattle.check_typing.specs.Partial.{given}
use Rattle.check_typing.specs.Signatures.{Scope, exn_named}
use Rattle.check_typing.specs.Patterns.{CoredPosition, positions}
use Rattle.check_typing.specs.Results.{CoredRes}
use Rattle.check_typing.specs.Declarations.{CoredRule, WrittenRule, CoredHandler, WrittenHandler, some_so, cores_alone, rule_core, carried_vars, handler_core, ports_written}
use Rattle.check_typing.specs.inner.ResultWalk.{result_walk}
use Rattle.check_typing.specs.inner.DeclarationWalk.{found_of_all, rule_walk, handler_walk, box_walk}
use Rattle.check_typing.proofs.Maybe.{given-inv, some-same, tuple_parts-at}
use Rattle.check_scopes.specs.Known.{Known, with_type}
use Rattle.check_tasks.specs.results.ResultStates.{ResultState}
use Rattle.check_tasks.specs.results.ResultTasks.{part_types, scope_of, signatures_of, last_outputs}
use Rattle.check_declarations.specs.boxes.inner.Boxes.{with_ports, box_found}
use Rattle.check_declarations.specs.boxes.inner.Ports.{known_in, ported, unported}
use Rattle.check_declarations.specs.boxes.inner.Rules.{rule_at, rules_at, together}
use Rattle.check_declarations.specs.boxes.inner.Handlers.{handler_at, handlers_at}

flat : {A B C : Type 0} (o : Option A) (r : A → Option B) (f : A × B → C)
    → given (given o (λ x. given (r x) (λ c. Some (x, c)))) (λ p. Some (f p)) ≡ given o (λ x. given (r x) (λ c. Some (f (x, c))))
flat None r f = refl
flat (Some x) r f = behind (r x)
  where
    behind : (o : Option _) → given (given o (λ c. Some (x, c))) (λ p. Some (f p)) ≡ given o (λ c. Some (f (x, c)))
    behind None = refl
    behind (Some c) = refl

module _ (state : ResultState) (ins outs : List Ty) (none : scope_of state ≡ []) where
  -- with the types of the ports
  abbrev with_both : ResultState
  with_both = known_in state (with_type (TupleTy outs) (with_type (TupleTy ins) state.0.0))

  outputs_are : last_outputs with_both ≡ outs
  outputs_are = ap part_types (outs-Tuple outs)

  rule_is : (rule : WrittenRule) → rule_walk (signatures_of state) ins outs rule ≡ rule_at with_both rule.0 rule.1
  rule_is rule =
      (λ i. given (positions (signatures_of state) rule.0 ins) (λ bound.
      given ((result_walk (signatures_of state) rule.1).result (sym none i ++ bound.0) (sym outputs_are i)) (λ c. Some (core (bound, c)))))
      ∙ sym (flat (positions (signatures_of state) rule.0 ins) result core)
      ∙ (λ i. given (given (sym (tuple_parts-at (TupleTy ins) ins refl) i) (λ tys. given (positions (signatures_of state) rule.0 tys) (λ bound.
      given (result bound) (λ c. Some (bound, c))))) (λ parts. Some (core parts)))
    where
      core : (Scope × List CoredPosition) × CoredRes → CoredRule
      core parts = rule_core parts.0.1 parts.1

      result : Scope × List CoredPosition → Option CoredRes
      result bound = (result_walk (signatures_of state) rule.1).result (scope_of state ++ bound.0) (last_outputs with_both)

  handler_is : (handler : WrittenHandler) → handler_walk (signatures_of state) outs handler ≡ handler_at with_both handler
  handler_is handler =
      (λ i. given (exn_named handler.0 (signatures_of state)) (λ (found : ℕ × ExnDef). given (carried_vars found.1.carries handler.1) (λ carried.
      given ((result_walk (signatures_of state) handler.2).result (sym none i ++ carried.0) (sym outputs_are i)) (λ c.
      Some (handler_core found.0 carried.1 c)))))
      ∙ by_exception (exn_named handler.0 (signatures_of state))
    where
      result : Scope → Option CoredRes
      result vars = (result_walk (signatures_of state) handler.2).result (scope_of state ++ vars) (last_outputs with_both)

      core : (ℕ × Scope × Bool) × CoredRes → Option CoredHandler
      core parts = Some (handler_core parts.0.0 parts.0.2 parts.1)

      by_result : (number : ℕ) (carried : Scope × Bool) (o : Option CoredRes)
          → given o (λ c. Some (handler_core number carried.1 c)) ≡ given (given o (λ c. Some ((number, carried.0, carried.1), c))) core
      by_result number carried None = refl
      by_result number carried (Some c) = refl

      by_carried : (number : ℕ) (o : Option (Scope × Bool))
          → given o (λ carried. given (result carried.0) (λ c. Some (handler_core number carried.1 c)))
          ≡ given (given o (λ carried. given (result carried.0) (λ c. Some ((number, carried.0, carried.1), c)))) core
      by_carried number None = refl
      by_carried number (Some carried) = by_result number carried (result carried.0)

      by_exception : (o : Option (ℕ × ExnDef))
          → given o (λ (found : ℕ × ExnDef). given (carried_vars found.1.carries handler.1) (λ carried.
          given (result carried.0) (λ c. Some (handler_core found.0 carried.1 c))))
          ≡ given (given o (λ (found : ℕ × ExnDef). given (carried_vars found.1.carries handler.1) (λ carried.
          given (result carried.0) (λ c. Some ((found.0, carried.0, carried.1), c))))) core
      by_exception None = refl
      by_exception (Some found) = by_carried found.0 (carried_vars found.1.carries handler.1)

  rules_are : (rules : List WrittenRule) → found_of_all (rule_walk (signatures_of state) ins outs) rules ≡ rules_at with_both rules
  rules_are rules = λ i. found_of_all (λ rule. rule_is rule i) rules

  handlers_are : (handlers : List WrittenHandler) → found_of_all (handler_walk (signatures_of state) outs) handlers ≡ handlers_at with_both handlers
  handlers_are handlers = λ i. found_of_all (λ handler. handler_is handler i) handlers

-- the cores of rules and of handlers, if there are both
abbrev both_found : Option (List CoredRule) → Option (List CoredHandler) → Option (List CoredRule × List CoredHandler)
both_found rs hs = given rs (λ rs. given hs (λ hs. Some (rs, hs)))

both_together : (rs : Option (List CoredRule)) (hs : Option (List CoredHandler)) (r : List TypedRule × Bool) (h : List TypedHandler × Bool)
    → together ([], false) rs ≡ Some r → together ([], false) hs ≡ Some h → box_found (both_found rs hs) ≡ Some (r.0, h.0, r.1 || h.1)
both_together None hs r h first second = cc
both_together (Some rs) None r h first second = cc
both_together (Some rs) (Some hs) r h first second =
    let one = some-same (cores_alone rs, some_so rs) r first in
    let other = some-same (cores_alone hs, some_so hs) h second in
    λ i. Some ((one i).0, (other i).0, (one i).1 || (other i).1)

not_first : (rs : Option (List CoredRule)) (hs : Option (List CoredHandler)) → together ([], false) rs ≡ None → both_found rs hs ≡ None
not_first None hs h = refl
not_first (Some rs) hs h = cc

not_second : (rs : Option (List CoredRule)) (hs : Option (List CoredHandler)) → together ([], false) hs ≡ None → both_found rs hs ≡ None
not_second None hs h = refl
not_second (Some rs) None h = refl
not_second (Some rs) (Some hs) h = cc

module _ (state mid : ResultState) (inputs outputs : List (List ℕ × TyExp)) (entered : ported inputs outputs state ≡ Some mid) where
  abbrev both_known : List Ty → List Ty → Known
  both_known ins outs = with_type (TupleTy outs) (with_type (TupleTy ins) state.0.0)

  -- the types of the inputs and those of the outputs
  parts : (ins : List Ty) × (ports_written (signatures_of state).types inputs ≡ Some ins)
      × (outs : List Ty) × (ports_written (signatures_of state).types outputs ≡ Some outs) × (known_in state (both_known ins outs) ≡ mid)
  parts =
      let e = given-inv (with_ports inputs outputs state.0.0) (λ known. Some (known_in state known)) mid entered in
      let k = given-inv (ports_written (signatures_of state).types inputs)
      (λ ins. given (ports_written (signatures_of state).types outputs) (λ outs. Some (both_known ins outs))) e.0 e.1 in
      let l = given-inv (ports_written (signatures_of state).types outputs) (λ outs. Some (both_known k.0 outs)) e.0 k.2 in
      (k.0, k.1, l.0, l.1, ap (known_in state) (some-same (both_known k.0 l.0) e.0 l.2) ∙ some-same (known_in state e.0) mid e.2)

  pub box_left : unported mid ≡ state
  box_left = ap unported (sym parts.4)

  module _ (none : scope_of state ≡ []) (rules : List WrittenRule) (handlers : List WrittenHandler) where
    box_is : box_walk (signatures_of state) inputs outputs rules handlers ≡ both_found (rules_at mid rules) (handlers_at mid handlers)
    box_is =
        ap (λ o. given o (λ ins. given (ports_written (signatures_of state).types outputs) (λ outs. walked ins outs))) parts.1
        ∙ ap (λ o. given o (walked parts.0)) parts.3
        ∙ (λ i. both_found (rules_are state parts.0 parts.2 none rules i) (handlers_are state parts.0 parts.2 none handlers i))
        ∙ ap (λ st. both_found (rules_at st rules) (handlers_at st handlers)) parts.4
      where
        walked : List Ty → List Ty → Option (List CoredRule × List CoredHandler)
        walked ins outs = both_found (found_of_all (rule_walk (signatures_of state) ins outs) rules) (found_of_all (handler_walk (signatures_of state) outs) handlers)

    pub box_told : (r : List TypedRule × Bool) (h : List TypedHandler × Bool) → together ([], false) (rules_at mid rules) ≡ Some r
        → together ([], false) (handlers_at mid handlers) ≡ Some h
        → box_found (box_walk (signatures_of state) inputs outputs rules handlers) ≡ Some (r.0, h.0, r.1 || h.1)
    box_told r h first second = ap box_found box_is ∙ both_together (rules_at mid rules) (handlers_at mid handlers) r h first second

    pub rules_untyped : together ([], false) (rules_at mid rules) ≡ None → box_walk (signatures_of state) inputs outputs rules handlers ≡ None
    rules_untyped h = box_is ∙ not_first (rules_at mid rules) (handlers_at mid handlers) h

    pub handlers_untyped : together ([], false) (handlers_at mid handlers) ≡ None → box_walk (signatures_of state) inputs outputs rules handlers ≡ None
    handlers_untyped h = box_is ∙ not_second (rules_at mid rules) (handlers_at mid handlers) h

pub not_ported : (inputs outputs : List (List ℕ × TyExp)) (state : ResultState) → with_ports inputs outputs state.0.0 ≡ None → ported inputs outputs state ≡ None
not_ported inputs outputs state h = ap (λ o. given o (λ known. Some (known_in state known))) h

pub in_ported : (inputs outputs : List (List ℕ × TyExp)) (state : ResultState) (known : Known) → with_ports inputs outputs state.0.0 ≡ Some known
    → ported inputs outputs state ≡ Some (known_in state known)
in_ported inputs outputs state known h = ap (λ o. given o (λ known. Some (known_in state known))) h

pub no_ports : (state : ResultState) (inputs outputs : List (List ℕ × TyExp)) (rules : List WrittenRule) (handlers : List WrittenHandler)
    → ported inputs outputs state ≡ None → box_walk (signatures_of state) inputs outputs rules handlers ≡ None
no_ports state inputs outputs rules handlers h = by (ports_written (signatures_of state).types inputs) (missing (with_ports inputs outputs state.0.0) h)
  where
    missing : (o : Option Known) → given o (λ known. Some (known_in state known)) ≡ None → o ≡ None
    missing None h = refl
    missing (Some known) h = cc

    by_outputs : (ins : List Ty) (o : Option (List Ty)) → given o (λ outs. Some (with_type (TupleTy outs) (with_type (TupleTy ins) state.0.0))) ≡ None
        → (f : List Ty → Option (List CoredRule × List CoredHandler)) → given o f ≡ None
    by_outputs ins None h f = refl
    by_outputs ins (Some outs) h f = cc

    by : (o : Option (List Ty)) → given o (λ ins. given (ports_written (signatures_of state).types outputs) (λ outs. Some (with_type (TupleTy outs) (with_type (TupleTy ins) state.0.0)))) ≡ None
        → given o (λ ins. given (ports_written (signatures_of state).types outputs) (λ outs.
        both_found (found_of_all (rule_walk (signatures_of state) ins outs) rules) (found_of_all (handler_walk (signatures_of state) outs) handlers))) ≡ None
    by None h = refl
    by (Some ins) h = by_outputs ins (ports_written (signatures_of state).types outputs) h (λ outs.
        both_found (found_of_all (rule_walk (signatures_of state) ins outs) rules) (found_of_all (handler_walk (signatures_of state) outs) handlers))

pub ruleset enter_steps = (common_steps, nil_from_length, not_ported, in_ported)

pub ruleset box_steps = (common_steps, box_left, no_ports)
