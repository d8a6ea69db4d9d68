-- What a rule comes to.
use Rattle.std.proofs.Common.{◌≡◌, ◌||◌, ℕ, Bool, List, ◌∷◌, ◌++◌, length, take, drop, Option, Some, None, refl, ap, sym, ◌∙◌}
use Rattle.std.proofs.lemmas.Grind.{common_steps}
use Rattle.std.proofs.Math.Seq.{take-append_seam}
use Rattle.hume_base.specs.declared.types.Ty.{Ty}
use Rattle.hume_ast.specs.declared.tree.Pat.{Pat}
use Rattle.hume_ast.specs.declared.tree.Exp.{Exp}
use Rattle.hume_model.specs.declared.core_tree.InPat.{InPat}
use Rattle.check_scopes.specs.types.Contexts.{top, below}
use Rattle.check_typing.specs.Partial.{given}
use Rattle.check_typing.specs.Signatures.{Scope}
use Rattle.check_typing.specs.Patterns.{CoredPosition, positions}
use Rattle.check_typing.specs.Results.{CoredRes}
use Rattle.check_typing.specs.Declarations.{CoredRule, some_so, cores_alone, rule_core}
use Rattle.check_typing.specs.inner.Walk.{tuple_parts}
use Rattle.check_typing.specs.inner.ResultWalk.{result_walk}
use Rattle.check_typing.proofs.Maybe.{given-inv, some-same}
use Rattle.check_cores.specs.results.Stacks.{top_result}
use Rattle.check_tasks.specs.States.{State, with_types}
use Rattle.check_tasks.specs.results.ResultStates.{ResultState, with_plain, with_result}
use Rattle.check_tasks.specs.results.ResultTasks.{output_types, scope_of, types_of, signatures_of, last_outputs, result_of}
use Rattle.check_declarations.specs.boxes.inner.Rules.{with_variables, with_positions, rule_parts, with_rule, rule_at}
use Rattle.check_declarations.proofs.boxes_lemmas.Partial.{nothing}

-- the types of the inputs on top of the stack, and off it
abbrev with_inputs : ResultState → State
with_inputs state = with_types (top (below (types_of state)) ∷ types_of state) state.0

-- with the cores of the positions, the result against the types of the outputs
abbrev pub result_behind : Exp → ResultState → State → Option CoredRes
result_behind e state mid = (result_walk mid.0.2 e).result mid.0.0 (output_types (top (below mid.0.1)))

-- the state of which the result is found
abbrev pub before_result : ResultState → State → ResultState
before_result state mid = with_plain (with_types (below mid.0.1) mid) state

module _ (state : ResultState) (pats : List Pat) (e : Exp) where
  abbrev next : (List InPat × Bool) × State → Option ((List InPat × Bool) × ResultState)
  next found = given (result_behind e state found.1) (λ c. Some (found.0, with_result c (before_result state found.1)))

  in_turn : with_rule pats e state ≡ given (with_positions pats (with_inputs state)) next
  in_turn = by_parts (tuple_parts (top (below (types_of state))))
    where
      put : (Scope × List CoredPosition) × CoredRes → Option ((List InPat × Bool) × ResultState)
      put parts = Some ((cores_alone parts.0.1, some_so parts.0.1), with_result parts.1 (with_plain (with_variables parts.0.0 state.0) state))

      result : Scope × List CoredPosition → Option CoredRes
      result bound = (result_walk (signatures_of state) e).result (scope_of state ++ bound.0) (last_outputs state)

      placed : Scope × List CoredPosition → Option ((List InPat × Bool) × State)
      placed all = Some ((cores_alone all.1, some_so all.1), with_variables all.0 (with_inputs state))

      by_result : (all : Scope × List CoredPosition) (o : Option CoredRes)
          → given (given o (λ c. Some (all, c))) put ≡ given o (λ c. Some ((cores_alone all.1, some_so all.1), with_result c (with_plain (with_variables all.0 state.0) state)))
      by_result all None = refl
      by_result all (Some c) = refl

      by_positions : (o : Option (Scope × List CoredPosition))
          → given (given o (λ bound. given (result bound) (λ c. Some (bound, c)))) put ≡ given (given o placed) next
      by_positions None = refl
      by_positions (Some all) = by_result all (result all)

      by_parts : (o : Option (List Ty))
          → given (given o (λ ins. given (positions (signatures_of state) pats ins) (λ bound. given (result bound) (λ c. Some (bound, c))))) put
          ≡ given (given o (λ ins. given (positions (signatures_of state) pats ins) placed)) next
      by_parts None = refl
      by_parts (Some ins) = by_positions (positions (signatures_of state) pats ins)

  pub rule_checked : (found : List InPat × Bool) (mid : State) (new : ResultState)
      → with_positions pats (with_types (top (below (types_of state)) ∷ types_of state) state.0) ≡ Some (found, mid)
      → result_of (result_behind e state mid) (before_result state mid) ≡ Some new
      → with_rule pats e state ≡ Some (found, new)
  rule_checked found mid new p r =
      let k = given-inv (result_behind e state mid) (λ c. Some (with_result c (before_result state mid))) new r in
      in_turn ∙ ap (λ o. given o next) p ∙ ap (λ o. given o (λ c. Some (found, with_result c (before_result state mid)))) k.1
      ∙ ap (λ st. Some (found, st)) (some-same (with_result k.0 (before_result state mid)) new k.2)

  pub positions_untyped : with_positions pats (with_types (top (below (types_of state)) ∷ types_of state) state.0) ≡ None → with_rule pats e state ≡ None
  positions_untyped p = in_turn ∙ ap (λ o. given o next) p

  pub result_untyped : (found : List InPat × Bool) (mid : State)
      → with_positions pats (with_types (top (below (types_of state)) ∷ types_of state) state.0) ≡ Some (found, mid)
      → result_behind e state mid ≡ None → with_rule pats e state ≡ None
  result_untyped found mid p r = in_turn ∙ ap (λ o. given o next) p ∙ ap (λ o. given o (λ c. Some (found, with_result c (before_result state mid)))) r

-- without the variables behind the first ones and the last result
abbrev pub left_of : ℕ → ResultState → ResultState
left_of count state = (((take count state.0.0.0, state.0.0.1, state.0.0.2), state.0.1, state.0.2, state.0.3), drop 1 state.1, state.2, state.3)

-- the rule of the positions and the last result
abbrev pub last_rule : List InPat × Bool → ResultState → CoredRule
last_rule found state = (record { pats = found.0; result = (top_result state.1).0 }, found.1 || (top_result state.1).1)

module _ (state : ResultState) (pats : List Pat) (e : Exp) where
  abbrev put : (Scope × List CoredPosition) × CoredRes → (List InPat × Bool) × ResultState
  put parts = ((cores_alone parts.0.1, some_so parts.0.1), with_result parts.1 (with_plain (with_variables parts.0.0 state.0) state))

  pub rule_untyped : with_rule pats e state ≡ None → rule_at state pats e ≡ None
  rule_untyped h = nothing (rule_parts state pats e) put _ h

  module _ (found : List InPat × Bool) (mid : ResultState) (h : with_rule pats e state ≡ Some (found, mid)) where
    parts : (p : (Scope × List CoredPosition) × CoredRes) × (rule_parts state pats e ≡ Some p) × (put p ≡ (found, mid))
    parts =
        let k = given-inv (rule_parts state pats e) (λ p. Some (put p)) (found, mid) h in
        (k.0, k.1, some-same (put k.0) (found, mid) k.2)

    pub rule_found : rule_at state pats e ≡ Some (last_rule found mid)
    rule_found =
        ap (λ o. given o (λ p. Some (rule_core p.0.1 p.1))) parts.1
        ∙ ap (λ (r : (List InPat × Bool) × ResultState). Some (last_rule r.0 r.1)) parts.2

    pub rule_left : left_of (length (scope_of state)) mid ≡ state
    rule_left =
        ap (λ (r : (List InPat × Bool) × ResultState). left_of (length (scope_of state)) r.1) (sym parts.2)
        ∙ (λ i. (((take-append_seam (scope_of state) parts.0.0.0 i, state.0.0.1, state.0.0.2), state.0.1, state.0.2, state.0.3), state.1, state.2, state.3))

pub ruleset checked_steps = (common_steps, rule_checked, positions_untyped)

pub ruleset found_steps = (common_steps, rule_untyped)
