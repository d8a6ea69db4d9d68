-- A call of a new last function gives what its body gave, and everything else means what it meant.
use Rattle.std.proofs.Common.{◌≡◌, ℕ, zero, suc, ◌+◌, ◌<◌, ◌≤◌, ◌==◌, List, [], ◌∷◌, ◌++◌, length, map, replicate, Some, slice_get, refl, ap, sym, ◌∙◌, arith, append_assoc, if◌then◌else◌}
use Rattle.std.specs.List.{range_with_len}
use Rattle.std.proofs.lemmas.Option.{slice_get_within}
use Rattle.std.proofs.lemmas.List.{length-append}
use Rattle.hume_base.specs.declared.types.Ty.{Ty}
use Rattle.hume_base.specs.declared.types.Value.{Value}
use Rattle.hume_model.specs.declared.core_tree.PatC.TheVariants as pat
use Rattle.hume_model.specs.declared.core_tree.Expr.{Expr}
use Rattle.hume_model.specs.declared.core_tree.Expr.TheVariants as expr
use Rattle.hume_model.specs.declared.core_tree.FunC.{FunC}
use Rattle.hume_model.specs.declared.core_tree.NodeC.{NodeC}
use Rattle.hume_model.specs.declared.core_tree.Core.{Core}
use Rattle.hume_model.specs.declared.outcome.Several.TheVariants.{All}
use Rattle.hume_model.specs.declared.outcome.Outcome.TheVariants.{Gives}
use Rattle.hume_model.specs.Outcomes.{in_order, no_case, on_match, then_rest, with_all}
use Rattle.hume_model.specs.Patterns.{both_match, matches_all}
use Rattle.hume_model.specs.Meaning.{Calls, call_below, call_of, eval_with, variable}
use Rattle.hume_model.specs.Results.{meaning_in}
use Rattle.hume_model.specs.Typing.{HasType}
use Rattle.hume_model.proofs.Evaluation.{call-at}
use Rattle.hume_model.proofs.Layers.{eval-call, eval-variable, variable-match}
use Rattle.calculus_laws.proofs.Agreeing.{agrees}

-- variables evaluate to the values of the environment

pub here : (front : List Value) (v : Value) (rest : List Value) → slice_get (front ++ v ∷ rest) (length front) ≡ Some v
here [] v rest = refl
here (x ∷ front) v rest = here front v rest

rest_in_order : (calls : Calls) (front rest : List Value) (a : ℕ) → a ≡ length front
    → in_order (map (eval_with calls) (map expr.Var (range_with_len a (length rest)))) (front ++ rest) ≡ All rest
rest_in_order calls front [] a is = refl
rest_in_order calls front (v ∷ rest) a is =
    let moved : (front ++ v ∷ []) ++ rest ≡ front ++ v ∷ rest = append_assoc front (v ∷ []) rest in
    let long = length-append front (v ∷ []) in
    let first : eval_with calls (expr.Var a) (front ++ v ∷ rest) ≡ Gives v =
    eval-variable calls (front ++ v ∷ rest) a ∙ ap (λ o. Gives (variable o)) (ap (slice_get (front ++ v ∷ rest)) is ∙ here front v rest) in
    let later : in_order (map (eval_with calls) (map expr.Var (range_with_len (a + 1) (length rest)))) (front ++ v ∷ rest) ≡ All rest =
    ap (in_order (map (eval_with calls) (map expr.Var (range_with_len (a + 1) (length rest))))) (sym moved)
    ∙ rest_in_order calls (front ++ v ∷ []) rest (a + 1) (omega (arith, is, long)) in
    λ i. then_rest (first i) (later i)

variables_in_order : (calls : Calls) (env : List Value) → in_order (map (eval_with calls) (map expr.Var (range_with_len 0 (length env)))) env ≡ All env
variables_in_order calls env = rest_in_order calls [] env 0 refl

-- variables match any values

all_variables : (env : List Value) → matches_all (replicate (length env) pat.Var) env ≡ Some env
all_variables [] = refl
all_variables (v ∷ env) = λ i. both_match (variable-match v i) (all_variables env i)

pub slice_front : {X : Type 0} (xs ys : List X) (n : ℕ) → n < length xs → slice_get (xs ++ ys) n ≡ slice_get xs n
slice_front [] ys n within = absurd (omega arith)
slice_front (x ∷ xs) ys zero within = refl
slice_front (x ∷ xs) ys (suc n) within = slice_front xs ys n (omega arith)

pub slice_last : {X : Type 0} (xs : List X) (y : X) → slice_get (xs ++ y ∷ []) (length xs) ≡ Some y
slice_last [] y = refl
slice_last (x ∷ xs) y = slice_last xs y

-- functions that are there are there with one more
pub still_there : (funs : List FunC) (last : FunC) (f : ℕ) (function : FunC) → slice_get funs f ≡ Some function → slice_get (funs ++ last ∷ []) f ≡ Some function
still_there funs last f function is = slice_front funs (last ∷ []) f (slice_get_within funs f function is) ∙ is

module _ (core : Core) (nodes : List NodeC) (last : FunC) where
  abbrev new : Core
  new = record core { funs = core.funs ++ last ∷ []; nodes = nodes }

  lower_calls : (bound : ℕ) → bound ≤ length core.funs → call_below new bound ≡ call_below core bound
  unfolding call_below
  lower_calls zero within = refl
  lower_calls (suc bound) within = λ i function args.
      if function == bound
      then call_of (eval_with (lower_calls bound (omega arith) i)) (slice_front core.funs (last ∷ []) bound (omega arith) i) args
      else lower_calls bound (omega arith) i function args

  more : length (core.funs ++ last ∷ []) ≡ length core.funs + 1
  more = length-append core.funs (last ∷ [])

  same_call : (f : ℕ) (function : FunC) → slice_get core.funs f ≡ Some function → (args : List Value)
      → call_below new (length (core.funs ++ last ∷ [])) f args ≡ call_below core (length core.funs) f args
  same_call f function is args =
      let within = slice_get_within core.funs f function is in
      let count = more in
      call-at new (length (core.funs ++ last ∷ [])) f args (omega (arith, within, count))
      ∙ (λ i. call_of (eval_with (lower_calls f (omega (arith, within)) i)) (slice_front core.funs (last ∷ []) f within i) args)
      ∙ sym (call-at core (length core.funs) f args within)

  -- a typed expression means what it meant
  pub meaning_same : (vars : List Ty) (e : Expr) (ty : Ty) → HasType core vars e ty → (env : List Value) → meaning_in new e env ≡ meaning_in core e env
  meaning_same vars e ty has env =
      agrees core (call_below new (length (core.funs ++ last ∷ []))) (call_below core (length core.funs)) same_call has env

  -- a call of the last function on all variables means what its body means
  pub last_called : (body : Expr) (count : ℕ) → last.equations ≡ record { pats = replicate count pat.Var; body = body } ∷ []
      → (env : List Value) → length env ≡ count
      → meaning_in new (expr.Call (length core.funs) (map expr.Var (range_with_len 0 count))) env ≡ meaning_in core body env
  last_called body count is env long =
      let whole = call_below new (length (core.funs ++ last ∷ [])) in
      let many = more in
      let args : in_order (map (eval_with whole) (map expr.Var (range_with_len 0 count))) env ≡ All env =
      ap (λ n. in_order (map (eval_with whole) (map expr.Var (range_with_len 0 n))) env) (sym long) ∙ variables_in_order whole env in
      let matched : matches_all (replicate count pat.Var) env ≡ Some env = ap (λ n. matches_all (replicate n pat.Var) env) (sym long) ∙ all_variables env in
      eval-call whole env (length core.funs) (map expr.Var (range_with_len 0 count))
      ∙ ap (λ s. with_all s (whole (length core.funs))) args
      ∙ call-at new (length (core.funs ++ last ∷ [])) (length core.funs) env (omega (arith, many))
      ∙ ap (λ o. call_of (eval_with (call_below new (length core.funs))) o env) (slice_last core.funs last)
      ∙ ap (λ equations. call_of (eval_with (call_below new (length core.funs))) (Some (record last { equations = equations })) env) is
      ∙ ap (λ m. on_match m (eval_with (call_below new (length core.funs)) body) no_case) matched
      ∙ ap (λ calls. eval_with calls body env) (lower_calls (length core.funs) (omega arith))
