-- What an equation comes to.
use Rattle.std.proofs.Common.{◌≡◌, ℕ, List, ◌∷◌, ◌++◌, map, length, take, drop, Option, Some, None, reverse, refl, ap, sym, ◌∙◌}
use Rattle.std.proofs.lemmas.List.{length-map}
use Rattle.std.proofs.lemmas.Grind.{common_steps}
use Rattle.std.proofs.Math.Seq.{take-append_seam}
use denote.Ref.{Bor}
use Rattle.hume_base.specs.declared.types.Ty.{Ty}
use Rattle.hume_ast.specs.declared.tree.Pat.{Pat}
use Rattle.hume_ast.specs.declared.tree.Exp.{Exp}
use Rattle.check_scopes.specs.types.Contexts.{top, below}
use Rattle.check_typing.specs.Partial.{given}
use Rattle.check_typing.specs.Signatures.{Scope}
use Rattle.check_typing.specs.Patterns.{CoredPat, pattern, patterns}
use Rattle.check_typing.specs.Cores.{Cored}
use Rattle.check_typing.specs.Declarations.{CoredEquation, equation_core}
use Rattle.check_typing.specs.inner.Walk.{walk, tuple_parts}
use Rattle.check_typing.proofs.Maybe.{given-inv, some-same}
use Rattle.check_cores.specs.Stacks.{top_core}
use Rattle.check_tasks.specs.declared.task.Task.TheVariants as task
use Rattle.check_tasks.specs.States.{State, with_types, with_core, with_all_bound}
use Rattle.check_tasks.specs.Tasks.{step, against_of}
use Rattle.check_tasks.proofs.Given.{taken_back, left_below}
use Rattle.check_tasks.proofs.PatternLaws.{all_bound_length}
use Rattle.check_declarations.specs.functions.inner.Equations.{equation_parts, with_equation, equation_at}

pub given_twice : {A B C : Type 0} (o : Option A) (f : A → Option B) (g : B → Option C) → given (given o f) g ≡ given o (λ x. given (f x) g)
given_twice None f g = refl
given_twice (Some x) f g = refl

-- what has nothing for one has nothing for another
pub nothing : {A B C : Type 0} (o : Option A) (f : A → B) (g : A → Option C) → given o (λ x. Some (f x)) ≡ None → given o g ≡ None
nothing None f g h = refl
nothing (Some x) f g h = cc

-- the type of the parameters on top of the stack, and off it
abbrev with_parameters : State → State
with_parameters state = with_types (top (below state.0.1) ∷ state.0.1) state

abbrev without_parameters : State → State
without_parameters state = with_types (below state.0.1) state

-- the body against the type that is given
abbrev with_body : Exp → State → Option State
with_body body mid = against_of ((walk mid.0.2 body).against mid.0.0 (top (below mid.0.1))) (without_parameters mid)

module _ (state : State) (pats : Bor (List Pat)) (body : Exp) where
  in_turn : given (step (task.MatchParts pats 0) (with_parameters state)) (with_body body) ≡ with_equation pats.now body state
  in_turn =
      given_twice (tuple_parts (top (below state.0.1)))
      (λ tys. given (patterns state.0.2 pats.now tys) (λ all. Some (with_all_bound all.0 all.1 (with_parameters state)))) (with_body body)
      ∙ (λ i. given (tuple_parts (top (below state.0.1))) (λ tys.
      given_twice (patterns state.0.2 pats.now tys) (λ all. Some (with_all_bound all.0 all.1 (with_parameters state))) (with_body body) i))
      ∙ (λ i. given (tuple_parts (top (below state.0.1))) (λ tys. given (patterns state.0.2 pats.now tys) (λ all.
      sym (given_twice ((walk state.0.2 body).against (state.0.0 ++ all.0) (top state.0.1)) (λ core. Some (all, core)) put) i)))
      ∙ (λ i. given (tuple_parts (top (below state.0.1))) (λ tys.
      sym (given_twice (patterns state.0.2 pats.now tys) (bodies tys) put) i))
      ∙ sym (given_twice (tuple_parts (top (below state.0.1))) (λ tys. given (patterns state.0.2 pats.now tys) (bodies tys)) put)
    where
      put : (Scope × List CoredPat) × Cored → Option State
      put parts = Some (with_core parts.1 (with_all_bound parts.0.0 parts.0.1 state))

      bodies : List Ty → Scope × List CoredPat → Option ((Scope × List CoredPat) × Cored)
      bodies tys all = given ((walk state.0.2 body).against (state.0.0 ++ all.0) (top state.0.1)) (λ core. Some (all, core))

  pub equation_checked : (mid new : State) → step (task.MatchParts pats 0) (with_types (top (below state.0.1) ∷ state.0.1) state) ≡ Some mid
      → against_of ((walk mid.0.2 body).against mid.0.0 (top (below mid.0.1))) (with_types (below mid.0.1) mid) ≡ Some new
      → with_equation pats.now body state ≡ Some new
  equation_checked mid new m b = sym in_turn ∙ ap (λ o. given o (with_body body)) m ∙ b

  pub patterns_untyped : step (task.MatchParts pats 0) (with_types (top (below state.0.1) ∷ state.0.1) state) ≡ None
      → with_equation pats.now body state ≡ None
  patterns_untyped m = sym in_turn ∙ ap (λ o. given o (with_body body)) m

  pub body_untyped : (mid : State) → step (task.MatchParts pats 0) (with_types (top (below state.0.1) ∷ state.0.1) state) ≡ Some mid
      → (walk mid.0.2 body).against mid.0.0 (top (below mid.0.1)) ≡ None
      → with_equation pats.now body state ≡ None
  body_untyped mid m b = sym in_turn ∙ ap (λ o. given o (with_body body)) m ∙ ap (λ o. against_of o (without_parameters mid)) b

-- without the variables behind the first ones, the last core and the last patterns
abbrev pub left_of : ℕ → ℕ → State → State
left_of scope count state = ((take scope state.0.0, state.0.1, state.0.2), drop 1 state.1, drop count state.2, state.3)

-- the equation of the last patterns and the last core
abbrev pub last_equation : ℕ → State → CoredEquation
last_equation count state = equation_core (reverse (take count state.2)) (top_core state.1)

module _ (state : State) (pats : List Pat) (body : Exp) where
  abbrev put : (Scope × List CoredPat) × Cored → State
  put parts = with_core parts.1 (with_all_bound parts.0.0 parts.0.1 state)

  pub equation_untyped : with_equation pats body state ≡ None → equation_at state pats body ≡ None
  equation_untyped h = nothing (equation_parts state pats body) put _ h

  as_many : (parts : (Scope × List CoredPat) × Cored) → equation_parts state pats body ≡ Some parts → length parts.0.1 ≡ length pats
  as_many parts h =
      let k = given-inv (tuple_parts (top (below state.0.1))) _ parts h in
      let l = given-inv (patterns state.0.2 pats k.0) _ parts k.2 in
      let m = given-inv ((walk state.0.2 body).against (state.0.0 ++ l.0.0) (top state.0.1)) _ parts l.2 in
      ap (λ (p : (Scope × List CoredPat) × Cored). length p.0.1) (sym (some-same _ _ m.2))
      ∙ (all_bound_length (map (pattern state.0.2) pats) k.0 l.0.0 l.0.1 l.1 ∙ length-map pats (pattern state.0.2))

  module _ (mid : State) (count : ℕ) (is : count ≡ length pats) (h : with_equation pats body state ≡ Some mid) where
    parts : (p : (Scope × List CoredPat) × Cored) × (equation_parts state pats body ≡ Some p) × (put p ≡ mid)
    parts =
        let k = given-inv (equation_parts state pats body) (λ p. Some (put p)) mid h in
        (k.0, k.1, some-same _ _ k.2)

    long : length parts.0.0.1 ≡ count
    long = as_many parts.0 parts.1 ∙ sym is

    pub equation_found : equation_at state pats body ≡ Some (last_equation count mid)
    equation_found =
        ap (λ o. given o (λ p. Some (equation_core p.0.1 p.1))) parts.1
        ∙ ap (λ cs. Some (equation_core cs parts.0.1)) (sym (taken_back parts.0.0.1 state.2 count long))
        ∙ ap (λ m. Some (last_equation count m)) parts.2

    pub equation_left : left_of (length state.0.0) count mid ≡ state
    equation_left =
        ap (left_of (length state.0.0) count) (sym parts.2)
        ∙ (λ i. ((take-append_seam state.0.0 parts.0.0.0 i, state.0.1, state.0.2), state.1, left_below parts.0.0.1 state.2 count long i, state.3))

pub ruleset checked_steps = (common_steps, equation_checked, patterns_untyped)

pub ruleset found_steps = (common_steps, equation_untyped)
