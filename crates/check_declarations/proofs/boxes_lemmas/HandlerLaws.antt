-- What a handler comes to.
use native.Mathlib.Omega.{arith}
use Rattle.std.proofs.Common.{◌≡◌, ℕ, Bool, true, false, List, [], ◌++◌, length, Option, Some, None, refl, ap, sym, ◌∙◌}
use Rattle.std.proofs.lemmas.Grind.{common_steps}
use Rattle.std.proofs.lemmas.List.{append-nil}
use Rattle.std.proofs.Math.Seq.{take-append_seam}
use Rattle.hume_ast.specs.declared.tree.Pat.{Pat, out-Pat, the_lemmas as pat_lemmas}
use Rattle.hume_model.specs.declared.core_tree.ExnDef.{ExnDef}
use Rattle.check_typing.specs.Partial.{given}
use Rattle.check_typing.specs.Signatures.{Scope, exn_named}
use Rattle.check_typing.specs.Results.{CoredRes}
use Rattle.check_typing.specs.Declarations.{CoredHandler, WrittenHandler, carried_layer, carried_vars, handler_core}
use Rattle.check_typing.specs.inner.ResultWalk.{result_walk}
use Rattle.check_typing.proofs.Maybe.{given-inv, some-same}
use Rattle.check_cores.specs.results.Stacks.{top_result}
use Rattle.check_scopes.specs.Known.{Known, with_exception}
use Rattle.check_tasks.proofs.Given.{by_case, form_steps}
use Rattle.check_tasks.specs.results.ResultStates.{ResultState, with_plain, with_result}
use Rattle.check_tasks.specs.results.ResultTasks.{scope_of, signatures_of, last_outputs, result_of}
use Rattle.check_declarations.specs.boxes.inner.Ports.{known_in}
use Rattle.check_declarations.specs.boxes.inner.Rules.{with_variables}
use Rattle.check_declarations.specs.boxes.inner.Handlers.{with_carried, with_caught, handler_parts, with_handler, handler_at}
use Rattle.check_declarations.proofs.boxes_lemmas.Partial.{nothing}
use Rattle.check_declarations.proofs.boxes_lemmas.RuleLaws.{left_of}

-- no variable is brought into scope
pub unbound : (scope : Scope) → scope ++ [] ≡ scope
unbound scope = append-nil scope

module _ (name : List ℕ) (known new : Known) (number : ℕ) where
  -- the exception carries nothing, and nothing is said of it
  pub caught_alone : (Some (number, false), new) ≡ with_exception (exn_named name known.2) known → with_caught name None known ≡ Some ((number, false), new)
  caught_alone h =
      let same = append-nil known.0 in
      by_case (exn_named name known.2) (λ n. grind (arith, form_steps)) (λ exn e.
      by_case exn.1.carries (λ n. grind (arith, form_steps)) (λ carried c. grind (arith, form_steps)))

  -- it carries something, whose type is on the stack
  pub caught_with : (pat : Pat) (last : Known) (bound : Bool) → (Some (number, true), new) ≡ with_exception (exn_named name known.2) known
      → with_carried pat new ≡ Some (bound, last) → with_caught name (Some pat) known ≡ Some ((number, bound), last)
  caught_with pat last bound h w =
      by_case (exn_named name known.2) (λ n. grind (arith, form_steps)) (λ exn e.
      by_case exn.1.carries (λ n. grind (arith, form_steps)) (λ carried c.
      by_case (carried_layer carried (out-Pat pat)) (λ n. grind (arith, form_steps)) (λ vars v. grind (arith, form_steps))))

  pub carried_lacks : (pat : Pat) → (Some (number, true), new) ≡ with_exception (exn_named name known.2) known
      → with_carried pat new ≡ None → with_caught name (Some pat) known ≡ None
  carried_lacks pat h w =
      by_case (exn_named name known.2) (λ n. grind (arith, form_steps)) (λ exn e.
      by_case exn.1.carries (λ n. grind (arith, form_steps)) (λ carried c.
      by_case (carried_layer carried (out-Pat pat)) (λ n. grind (arith, form_steps)) (λ vars v. grind (arith, form_steps))))

  -- something is said of nothing
  pub nothing_carried : (pat : Pat) → (Some (number, false), new) ≡ with_exception (exn_named name known.2) known → with_caught name (Some pat) known ≡ None
  nothing_carried pat h =
      by_case (exn_named name known.2) (λ n. grind (arith, form_steps)) (λ exn e.
      by_case exn.1.carries (λ n. grind (arith, form_steps)) (λ carried c. grind (arith, form_steps)))

  -- nothing is said of what is carried
  pub nothing_said : (Some (number, true), new) ≡ with_exception (exn_named name known.2) known → with_caught name None known ≡ None
  nothing_said h =
      by_case (exn_named name known.2) (λ n. grind (arith, form_steps)) (λ exn e.
      by_case exn.1.carries (λ n. grind (arith, form_steps)) (λ carried c. grind (arith, form_steps)))

-- there is no such exception
pub not_known : (name : List ℕ) (pat : Option Pat) (known new : Known) → (None, new) ≡ with_exception (exn_named name known.2) known → with_caught name pat known ≡ None
not_known name pat known new h =
    by_case (exn_named name known.2) (λ n. grind (arith, form_steps)) (λ exn e.
    by_case exn.1.carries (λ n. grind (arith, form_steps)) (λ carried c. grind (arith, form_steps)))

-- the result against the types of the outputs
abbrev pub result_behind : WrittenHandler → ResultState → Option CoredRes
result_behind handler mid = (result_walk (signatures_of mid) handler.2).result (scope_of mid) (last_outputs mid)

module _ (state : ResultState) (handler : WrittenHandler) where
  abbrev next : (ℕ × Bool) × Known → Option ((ℕ × Bool) × ResultState)
  next found = given (result_behind handler (known_in state found.1)) (λ c. Some (found.0, with_result c (known_in state found.1)))

  in_turn : with_handler handler state ≡ given (with_caught handler.0 handler.1 state.0.0) next
  in_turn = by_exception (exn_named handler.0 (signatures_of state))
    where
      put : (ℕ × Scope × Bool) × CoredRes → Option ((ℕ × Bool) × ResultState)
      put parts = Some ((parts.0.0, parts.0.2), with_result parts.1 (with_plain (with_variables parts.0.1 state.0) state))

      result : Scope → Option CoredRes
      result vars = (result_walk (signatures_of state) handler.2).result (scope_of state ++ vars) (last_outputs state)

      placed : ℕ → Scope × Bool → Option ((ℕ × Bool) × Known)
      placed number carried = Some ((number, carried.1), (state.0.0.0 ++ carried.0, state.0.0.1, state.0.0.2))

      by_result : (number : ℕ) (carried : Scope × Bool) (o : Option CoredRes)
          → given (given o (λ c. Some ((number, carried.0, carried.1), c))) put
          ≡ given o (λ c. Some ((number, carried.1), with_result c (with_plain (with_variables carried.0 state.0) state)))
      by_result number carried None = refl
      by_result number carried (Some c) = refl

      by_carried : (number : ℕ) (o : Option (Scope × Bool))
          → given (given o (λ carried. given (result carried.0) (λ c. Some ((number, carried.0, carried.1), c)))) put ≡ given (given o (placed number)) next
      by_carried number None = refl
      by_carried number (Some carried) = by_result number carried (result carried.0)

      by_exception : (o : Option (ℕ × ExnDef))
          → given (given o (λ (found : ℕ × ExnDef). given (carried_vars found.1.carries handler.1) (λ carried.
          given (result carried.0) (λ c. Some ((found.0, carried.0, carried.1), c))))) put
          ≡ given (given o (λ (found : ℕ × ExnDef). given (carried_vars found.1.carries handler.1) (placed found.0))) next
      by_exception None = refl
      by_exception (Some found) = by_carried found.0 (carried_vars found.1.carries handler.1)

  pub handler_checked : (found : ℕ × Bool) (mid : Known) (new : ResultState) → with_caught handler.0 handler.1 state.0.0 ≡ Some (found, mid)
      → result_of (result_behind handler (known_in state mid)) (known_in state mid) ≡ Some new
      → with_handler handler state ≡ Some (found, new)
  handler_checked found mid new p r =
      let k = given-inv (result_behind handler (known_in state mid)) (λ c. Some (with_result c (known_in state mid))) new r in
      in_turn ∙ ap (λ o. given o next) p ∙ ap (λ o. given o (λ c. Some (found, with_result c (known_in state mid)))) k.1
      ∙ ap (λ st. Some (found, st)) (some-same (with_result k.0 (known_in state mid)) new k.2)

  pub not_caught : with_caught handler.0 handler.1 state.0.0 ≡ None → with_handler handler state ≡ None
  not_caught p = in_turn ∙ ap (λ o. given o next) p

  pub result_untyped : (found : ℕ × Bool) (mid : Known) → with_caught handler.0 handler.1 state.0.0 ≡ Some (found, mid)
      → result_behind handler (known_in state mid) ≡ None → with_handler handler state ≡ None
  result_untyped found mid p r = in_turn ∙ ap (λ o. given o next) p ∙ ap (λ o. given o (λ c. Some (found, with_result c (known_in state mid)))) r

-- the handler of the exception and the last result
abbrev pub last_handler : ℕ × Bool → ResultState → CoredHandler
last_handler found state = handler_core found.0 found.1 (top_result state.1)

module _ (state : ResultState) (handler : WrittenHandler) where
  abbrev put : (ℕ × Scope × Bool) × CoredRes → (ℕ × Bool) × ResultState
  put parts = ((parts.0.0, parts.0.2), with_result parts.1 (with_plain (with_variables parts.0.1 state.0) state))

  pub handler_untyped : with_handler handler state ≡ None → handler_at state handler ≡ None
  handler_untyped h = nothing (handler_parts state handler) put _ h

  module _ (found : ℕ × Bool) (mid : ResultState) (h : with_handler handler state ≡ Some (found, mid)) where
    parts : (p : (ℕ × Scope × Bool) × CoredRes) × (handler_parts state handler ≡ Some p) × (put p ≡ (found, mid))
    parts =
        let k = given-inv (handler_parts state handler) (λ p. Some (put p)) (found, mid) h in
        (k.0, k.1, some-same (put k.0) (found, mid) k.2)

    pub handler_found : handler_at state handler ≡ Some (last_handler found mid)
    handler_found =
        ap (λ o. given o (λ p. Some (handler_core p.0.0 p.0.2 p.1))) parts.1
        ∙ ap (λ (r : (ℕ × Bool) × ResultState). Some (last_handler r.0 r.1)) parts.2

    pub handler_left : left_of (length (scope_of state)) mid ≡ state
    handler_left =
        ap (λ (r : (ℕ × Bool) × ResultState). left_of (length (scope_of state)) r.1) (sym parts.2)
        ∙ (λ i. (((take-append_seam (scope_of state) parts.0.0.1 i, state.0.0.1, state.0.0.2), state.0.1, state.0.2, state.0.3), state.1, state.2, state.3))

pub ruleset carried_steps = (common_steps, pat_lemmas, unbound)

pub ruleset caught_steps = (common_steps, caught_alone, caught_with, carried_lacks, nothing_carried, nothing_said, not_known)

pub ruleset checked_steps = (common_steps, handler_checked, not_caught)

pub ruleset found_steps = (common_steps, handler_untyped)
