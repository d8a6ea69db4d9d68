-- An unfolded call means what the call meant.
use Rattle.std.proofs.Common.{◌≡◌, ℕ, zero, suc, ◌+◌, ◌-◌, ◌<◌, ◌≤◌, nat_lt, Bool, true, false, List, [], ◌∷◌, ◌++◌, map, length, Option, Some, None, slice_get, refl, ap, sym, ◌∙◌, arith, if◌then◌else◌}
use Rattle.std.specs.Option.{option_and_then}
use Rattle.std.specs.List.{list_all, slice_index_or}
use Rattle.std.proofs.lemmas.Bool.{and_parts, eqb-true, ltb-false, ltb-true}
use Rattle.std.proofs.lemmas.List.{append_assoc, append-nil, length-append}
use Rattle.std.proofs.lemmas.Option.{slice_get_within}
use Rattle.hume_base.specs.declared.types.Value.{Value}
use Rattle.hume_model.specs.declared.core_tree.PatC.{PatC, fold-roll-PatC, out-PatC, roll-PatC, roll-out-PatC}
use Rattle.hume_model.specs.declared.core_tree.PatC.TheOpen.{PatC-F}
use Rattle.hume_model.specs.declared.core_tree.Expr.{Expr}
use Rattle.hume_model.specs.declared.core_tree.Expr.TheVariants as expr
use Rattle.hume_model.specs.declared.core_tree.EqC.{EqC}
use Rattle.hume_model.specs.declared.core_tree.FunC.{FunC}
use Rattle.hume_model.specs.declared.core_tree.Core.{Core}
use Rattle.hume_model.specs.declared.outcome.Outcome.{Outcome}
use Rattle.hume_model.specs.declared.outcome.Outcome.TheVariants.{Gives, Raises}
use Rattle.hume_model.specs.declared.outcome.Several.{Several}
use Rattle.hume_model.specs.declared.outcome.Several.TheVariants.{All, Raised}
use Rattle.hume_model.specs.Calls.{CallsGoDown}
use Rattle.hume_model.specs.Outcomes.{Meaning, and_then, in_order, no_case, on_match, then_rest, with_all}
use Rattle.hume_model.specs.Patterns.{Match, both_match, match_step, matches, matches_all}
use Rattle.hume_model.specs.Meaning.{Calls, call_below, call_of, eval_with}
use Rattle.hume_model.proofs.Agreement.{call_unfolds}
use Rattle.hume_model.proofs.Layers as layer
use Rattle.calculus_laws.specs.Unfolding.{call_unfolded, equation_unfolded, lets_around, moved_on, number_of_pattern, numbers_from, only_equation, pattern_numbers, renumbered, takes_all, takes_any}
use Rattle.calculus_laws.proofs.Renumbered.{Carries, get_right, past, renumbered_means}
use Rattle.calculus_laws.proofs.Unfolds.{Becomes}

pub nothing_past : {X : Type 0} (xs : List X) (i : ℕ) → length xs ≤ i → slice_get xs i ≡ None
nothing_past [] i long = refl
nothing_past (x ∷ xs) zero long = absurd (omega arith)
nothing_past (x ∷ xs) (suc i) long = nothing_past xs i (omega arith)

within_left : {X : Type 0} (xs ys : List X) (i : ℕ) → i < length xs → slice_get (xs ++ ys) i ≡ slice_get xs i
within_left [] ys i below = absurd (omega arith)
within_left (x ∷ xs) ys zero below = refl
within_left (x ∷ xs) ys (suc i) below = within_left xs ys i (omega arith)

-- an argument below further variables
pub moves : {X : Type 0} (env us : List X) → Carries (moved_on (length env) (length us)) env (env ++ us)
moves env us = record {
  same = λ i. by i (nat_lt i (length env)) refl;
  beyond = λ k. follows k (nat_lt (length env + k) (length env)) refl;
}
  where
    by : (i : ℕ) (b : Bool) → nat_lt i (length env) ≡ b → slice_get (env ++ us) (if b then i else i + length us) ≡ slice_get env i
    by i true below = within_left env us i (ltb-true i (length env) below)
    by i false past =
        let least = ltb-false i (length env) past in
        let count = length-append env us in
        nothing_past (env ++ us) (i + length us) (omega (arith, least, count)) ∙ sym (nothing_past env i (omega (arith, least)))

    follows : (k : ℕ) (b : Bool) → nat_lt (length env + k) (length env) ≡ b → (if b then length env + k else (length env + k) + length us) ≡ length (env ++ us) + k
    follows k true below = (let less = ltb-true _ _ below in absurd (omega (arith, less)))
    follows k false past = (let count = length-append env us in omega (arith, count))

-- one value after the other
one_by_one : (o : Outcome) (rest : Several) (go : List Value → Outcome) → and_then o (λ v. with_all rest (λ vs. go (v ∷ vs))) ≡ with_all (then_rest o rest) go
one_by_one (Gives v) (All vs) go = refl
one_by_one (Gives v) (Raised exn carried) go = refl
one_by_one (Raises exn carried) rest go = refl

module _ (call : Calls) where
  lets_mean : (env us : List Value) (args : List Expr) (body : Expr)
      → eval_with call (lets_around (length env) (length us) args body) (env ++ us) ≡ with_all (in_order (map (eval_with call) args) env) (λ vs. eval_with call body (env ++ (us ++ vs)))
  lets_mean env us [] body = ap (λ vs. eval_with call body (env ++ vs)) (sym (append-nil us))
  lets_mean env us (arg ∷ args) body =
      layer.eval-let call (env ++ us) (renumbered (moved_on (length env) (length us)) arg) (lets_around (length env) (length us + 1) args body)
      ∙ ap (λ o. and_then o (λ v. eval_with call (lets_around (length env) (length us + 1) args body) ((env ++ us) ++ v ∷ [])))
      (renumbered_means call (moved_on (length env) (length us)) arg env (env ++ us) (moves env us))
      ∙ (λ i. and_then (eval_with call arg env) (λ v. later v (lets_mean env (us ++ v ∷ []) args body) i))
      ∙ one_by_one (eval_with call arg env) (in_order (map (eval_with call) args) env) (λ vs. eval_with call body (env ++ (us ++ vs)))
    where
      later : (v : Value)
          → eval_with call (lets_around (length env) (length (us ++ v ∷ [])) args body) (env ++ (us ++ v ∷ []))
          ≡ with_all (in_order (map (eval_with call) args) env) (λ vs. eval_with call body (env ++ ((us ++ v ∷ []) ++ vs)))
          → eval_with call (lets_around (length env) (length us + 1) args body) ((env ++ us) ++ v ∷ [])
          ≡ with_all (in_order (map (eval_with call) args) env) (λ vs. eval_with call body (env ++ (us ++ v ∷ vs)))
      later v rest =
          let count : length us + 1 ≡ length (us ++ v ∷ []) = (let all = length-append us (v ∷ []) in omega (arith, all)) in
          ap (λ n. eval_with call (lets_around (length env) n args body) ((env ++ us) ++ v ∷ [])) count
          ∙ ap (eval_with call (lets_around (length env) (length (us ++ v ∷ [])) args body)) (append_assoc env us (v ∷ []))
          ∙ rest
          ∙ (λ i. with_all (in_order (map (eval_with call) args) env) (λ vs. eval_with call body (env ++ append_assoc us (v ∷ []) vs i)))

-- the values that such patterns bind
abbrev pub bound_one : {X : Type 0} → PatC-F PatC → X → List X → List X
bound_one PatC-F.Var v vs = v ∷ vs
bound_one _ v vs = vs

abbrev pub bound_values : {X : Type 0} → List PatC → List X → List X
bound_values [] vs = []
bound_values (pat ∷ pats) [] = []
bound_values (pat ∷ pats) (v ∷ vs) = bound_one (out-PatC pat) v (bound_values pats vs)

one_match : (x : PatC-F PatC) (pat : PatC) (v : Value) (vs : List Value) (others : Option (List Value)) → roll-PatC x ≡ pat → takes_any x ≡ true
    → others ≡ Some vs → both_match (matches pat v) others ≡ Some (bound_one x v vs)
one_match PatC-F.Var pat v vs others is any same =
    (λ i. both_match ((ap (λ p. matches p v) (sym is) ∙ ap (λ (m : Match). m v) (fold-roll-PatC Match match_step PatC-F.Var)) i) (same i))
one_match PatC-F.Any pat v vs others is any same =
    (λ i. both_match ((ap (λ p. matches p v) (sym is) ∙ ap (λ (m : Match). m v) (fold-roll-PatC Match match_step PatC-F.Any)) i) (same i))
one_match (PatC-F.Word w) pat v vs others is any same = cc
one_match (PatC-F.Con c ps) pat v vs others is any same = cc
one_match (PatC-F.Tuple ps) pat v vs others is any same = cc

abbrev pub AllTake : List PatC → Type 0
AllTake pats = list_all (λ pat. takes_any (out-PatC pat)) pats ≡ true

all_match : (pats : List PatC) (vs : List Value) → AllTake pats → length vs ≡ length pats → matches_all pats vs ≡ Some (bound_values pats vs)
all_match [] vs all count = refl
all_match (pat ∷ pats) [] all count = absurd (omega (arith, count))
all_match (pat ∷ pats) (v ∷ vs) all count =
    let both = and_parts _ _ all in
    one_match (out-PatC pat) pat v (bound_values pats vs) (matches_all pats vs) (roll-out-PatC pat) both.0 (all_match pats vs both.1 (omega (arith, count)))

numbers_count : {X : Type 0} (pats : List PatC) (vs : List X) (n : ℕ) → length vs ≡ length pats → length (pattern_numbers n pats) ≡ length (bound_values pats vs)
numbers_count [] vs n count = refl
numbers_count (pat ∷ pats) [] n count = absurd (omega (arith, count))
numbers_count (pat ∷ pats) (v ∷ vs) n count = by (numbers_count pats vs (n + 1) (omega (arith, count))) (out-PatC pat)
  where
    by : length (pattern_numbers (n + 1) pats) ≡ length (bound_values pats vs) → (x : PatC-F PatC) → length (number_of_pattern x n (pattern_numbers (n + 1) pats)) ≡ length (bound_one x v (bound_values pats vs))
    by rest PatC-F.Var = ap suc rest
    by rest PatC-F.Any = rest
    by rest (PatC-F.Word w) = rest
    by rest (PatC-F.Con c ps) = rest
    by rest (PatC-F.Tuple ps) = rest

-- each variable of the patterns has its value at its number
found_at : {X : Type 0} (pats : List PatC) (us vs : List X) (i : ℕ) → length vs ≡ length pats → i < length (bound_values pats vs)
    → slice_get (us ++ vs) (slice_index_or (pattern_numbers (length us) pats) i 0) ≡ slice_get (bound_values pats vs) i
found_at [] us vs i count below = absurd (omega arith)
found_at (pat ∷ pats) us [] i count below = absurd (omega (arith, count))
found_at (pat ∷ pats) us (v ∷ vs) i count below =
    by (λ j small. rest j (found_at pats (us ++ v ∷ []) vs j (omega (arith, count)) small)) (out-PatC pat) i below
  where
    next : length us + 1 ≡ length (us ++ v ∷ [])
    next = let all = length-append us (v ∷ []) in omega (arith, all)

    rest : (j : ℕ) → slice_get ((us ++ v ∷ []) ++ vs) (slice_index_or (pattern_numbers (length (us ++ v ∷ [])) pats) j 0) ≡ slice_get (bound_values pats vs) j
        → slice_get (us ++ v ∷ vs) (slice_index_or (pattern_numbers (length us + 1) pats) j 0) ≡ slice_get (bound_values pats vs) j
    rest j later =
        ap (λ n. slice_get (us ++ v ∷ vs) (slice_index_or (pattern_numbers n pats) j 0)) next
        ∙ ap (λ xs. slice_get xs (slice_index_or (pattern_numbers (length (us ++ v ∷ [])) pats) j 0)) (sym (append_assoc us (v ∷ []) vs))
        ∙ later

    by : ((j : ℕ) → j < length (bound_values pats vs)
        → slice_get (us ++ v ∷ vs) (slice_index_or (pattern_numbers (length us + 1) pats) j 0) ≡ slice_get (bound_values pats vs) j)
        → (x : PatC-F PatC) (j : ℕ) → j < length (bound_one x v (bound_values pats vs))
        → slice_get (us ++ v ∷ vs) (slice_index_or (number_of_pattern x (length us) (pattern_numbers (length us + 1) pats)) j 0)
        ≡ slice_get (bound_one x v (bound_values pats vs)) j
    by each PatC-F.Var zero small = (let at : length us + 0 ≡ length us = omega arith in ap (slice_get (us ++ v ∷ vs)) (sym at) ∙ get_right us (v ∷ vs) 0)
    by each PatC-F.Var (suc j) small = each j (omega (arith, small))
    by each PatC-F.Any j small = each j small
    by each (PatC-F.Word w) j small = each j small
    by each (PatC-F.Con c ps) j small = each j small
    by each (PatC-F.Tuple ps) j small = each j small

-- the variables of an equation, below its arguments
pub takes : {X : Type 0} (env vs : List X) (pats : List PatC) → length vs ≡ length pats
    → Carries (numbers_from (pattern_numbers (length env) pats) (length env + length pats)) (bound_values pats vs) (env ++ vs)
takes env vs pats count = record {
  same = λ i. by i (nat_lt i (length (pattern_numbers (length env) pats))) refl;
  beyond = λ k. follows k (nat_lt (length (bound_values pats vs) + k) (length (pattern_numbers (length env) pats))) refl;
}
  where
    many : length (pattern_numbers (length env) pats) ≡ length (bound_values pats vs)
    many = numbers_count pats vs (length env) count

    all : length (env ++ vs) ≡ length env + length vs
    all = length-append env vs

    by : (i : ℕ) (b : Bool) → nat_lt i (length (pattern_numbers (length env) pats)) ≡ b
        → slice_get (env ++ vs) (if b then slice_index_or (pattern_numbers (length env) pats) i 0 else (length env + length pats) + (i - length (pattern_numbers (length env) pats))) ≡ slice_get (bound_values pats vs) i
    by i true below = (let less = ltb-true i (length (pattern_numbers (length env) pats)) below in found_at pats env vs i count (omega (arith, less, many)))
    by i false past =
        let least = ltb-false i (length (pattern_numbers (length env) pats)) past in
        nothing_past (env ++ vs) _ (omega (arith, all, count)) ∙ sym (nothing_past (bound_values pats vs) i (omega (arith, least, many)))

    follows : (k : ℕ) (b : Bool) → nat_lt (length (bound_values pats vs) + k) (length (pattern_numbers (length env) pats)) ≡ b
        → (if b then slice_index_or (pattern_numbers (length env) pats) (length (bound_values pats vs) + k) 0 else (length env + length pats) + ((length (bound_values pats vs) + k) - length (pattern_numbers (length env) pats)))
        ≡ length (env ++ vs) + k
    follows k true below = (let less = ltb-true _ _ below in absurd (omega (arith, less, many)))
    follows k false past = omega (arith, many, all, count)

abbrev pub equation_numbers : ℕ → List PatC → ℕ → ℕ
equation_numbers scope pats = numbers_from (pattern_numbers scope pats) (scope + length pats)

in_order_count : (meanings : List Meaning) (env : List Value) (vs : List Value) → in_order meanings env ≡ All vs → length vs ≡ length meanings
in_order_count [] env vs is = (let same : [] ≡ vs = cc in ap length (sym same))
in_order_count (m ∷ meanings) env vs is = by (m env) (in_order meanings env) (in_order_count meanings env) is
  where
    by : (o : Outcome) (rest : Several) → ((ws : List Value) → rest ≡ All ws → length ws ≡ length meanings) → then_rest o rest ≡ All vs → length vs ≡ suc (length meanings)
    by (Gives v) (All ws) each same = (let whole : v ∷ ws ≡ vs = cc in ap length (sym whole) ∙ ap suc (each ws refl))
    by (Gives v) (Raised exn carried) each same = cc
    by (Raises exn carried) rest each same = cc

with_all_same : (o : Several) (go other : List Value → Outcome) → ((vs : List Value) → o ≡ All vs → go vs ≡ other vs) → with_all o go ≡ with_all o other
with_all_same (All vs) go other same = same vs refl
with_all_same (Raised exn carried) go other same = refl

pub length-map : {X Y : Type 0} (f : X → Y) (xs : List X) → length (map f xs) ≡ length xs
length-map f [] = refl
length-map f (x ∷ xs) = ap suc (length-map f xs)

module _ (core : Core) (down : CallsGoDown core) where
  abbrev calls : Calls
  calls = call_below core (length core.funs)

  abbrev meaning : Expr → Meaning
  meaning = eval_with calls

  equation_means : (f : ℕ) (function : FunC) (equation : EqC) → slice_get core.funs f ≡ Some function → function.equations ≡ equation ∷ []
      → (args : List Expr) → takes_all equation args ≡ true → (env : List Value)
      → meaning (equation_unfolded equation args (length env)) env ≡ meaning (expr.Call f args) env
  equation_means f function equation found only args all env =
      ap (meaning (equation_unfolded equation args (length env))) (sym (append-nil env))
      ∙ lets_mean calls env [] args (renumbered (equation_numbers (length env) equation.pats) equation.body)
      ∙ with_all_same (in_order (map meaning args) env) (λ vs. meaning (renumbered (equation_numbers (length env) equation.pats) equation.body) (env ++ vs)) (calls f) each
      ∙ sym (layer.eval-call calls env f args)
    where
      parts : AllTake equation.pats × (length args ≡ length equation.pats)
      parts = let both = and_parts _ _ all in (both.0, eqb-true (length args) (length equation.pats) both.1)

      each : (vs : List Value) → in_order (map meaning args) env ≡ All vs → meaning (renumbered (equation_numbers (length env) equation.pats) equation.body) (env ++ vs) ≡ calls f vs
      each vs is =
          let count : length vs ≡ length equation.pats = in_order_count (map meaning args) env vs is ∙ length-map meaning args ∙ parts.1 in
          renumbered_means calls (equation_numbers (length env) equation.pats) equation.body (bound_values equation.pats vs) (env ++ vs) (takes env vs equation.pats count)
          ∙ ap (λ m. on_match m (meaning equation.body) no_case) (sym (all_match equation.pats vs parts.0 count))
          ∙ ap (λ es. call_of meaning (Some (record function { equations = es })) vs) (sym only)
          ∙ ap (λ o. call_of meaning o vs) (sym found)
          ∙ sym (call_unfolds core down (length core.funs) f vs (slice_get_within core.funs f function found))

  by_equations : (f : ℕ) (function : FunC) → slice_get core.funs f ≡ Some function → (equations : List EqC) → function.equations ≡ equations
      → (args : List Expr) (env : List Value) → Becomes (λ new. meaning new env ≡ meaning (expr.Call f args) env) (only_equation equations args (length env))
  by_equations f function found [] is args env = tt
  by_equations f function found (equation ∷ next ∷ equations) is args env = tt
  by_equations f function found (equation ∷ []) is args env = by (takes_all equation args) refl
    where
      by : (b : Bool) → takes_all equation args ≡ b
          → Becomes (λ new. meaning new env ≡ meaning (expr.Call f args) env) (if b then Some (equation_unfolded equation args (length env)) else None)
      by true all = equation_means f function equation found is args all env
      by false none = tt

  -- the call means the same once it is unfolded
  pub call_means : (f : ℕ) (args : List Expr) (env : List Value)
      → Becomes (λ new. meaning new env ≡ meaning (expr.Call f args) env) (call_unfolded core f args (length env))
  call_means f args env = by (slice_get core.funs f) refl
    where
      by : (o : Option FunC) → slice_get core.funs f ≡ o
          → Becomes (λ new. meaning new env ≡ meaning (expr.Call f args) env) (option_and_then (λ (function : FunC). only_equation function.equations args (length env)) o)
      by None none = tt
      by (Some function) found = by_equations f function found function.equations refl args env
