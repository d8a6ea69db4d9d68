-- A moved box fires as the box does: the same rule takes the same values and gives the same outputs.
use Rattle.std.proofs.Common.{◌≡◌, ℕ, ◌+◌, ◌==◌, nat_le, Bool, true, false, cond, if◌then◌else◌, List, [], ◌∷◌, map, Option, Some, None, slice_get, refl, ap, sym, ◌∙◌, arith, inl, inr}
use Rattle.std.specs.List.{find}
use Rattle.std.specs.Option.{option_and_then, option_map}
use Rattle.std.proofs.lemmas.Bool.{cases_eq, eq-eqb, ne_eqb}
use Rattle.std.proofs.lemmas.Bool.Decides.{nat_tests}
use Rattle.std.proofs.lemmas.List.Folds.{find_at}
use Rattle.std.proofs.lemmas.Option.{slice_get-map}
use Rattle.hume_base.specs.declared.types.Value.{Value}
use Rattle.hume_model.specs.declared.core_tree.Expr.{Expr}
use Rattle.hume_model.specs.declared.core_tree.HandC.{HandC}
use Rattle.hume_model.specs.declared.core_tree.RuleC.{RuleC}
use Rattle.hume_model.specs.declared.core_tree.BoxC.{BoxC}
use Rattle.hume_model.specs.declared.core_tree.Core.{Core}
use Rattle.hume_model.specs.declared.exceptions.TheConstants.{NO_CASE}
use Rattle.hume_model.specs.declared.outcome.Outputs.{Outputs}
use Rattle.hume_model.specs.declared.outcome.Outputs.TheVariants.{Asserts, Throws}
use Rattle.hume_model.specs.Calls.{calls_below}
use Rattle.hume_model.specs.Firing.{fire, firing_of, handled, handled_by, handler_env, outputs_or_none, rule_fits}
use Rattle.hume_model.specs.Matching.{bound, taken_at}
use Rattle.hume_model.specs.Results.{meaning_in, result_of}
use Rattle.union_laws.specs.declared.moves.Moves.{Moves}
use Rattle.union_laws.specs.Moving.{moved, moved_box, moved_exn, moved_handler, moved_rule}
use Rattle.union_laws.specs.inner.Outcomes.{moved_outcome, moved_outputs}
use Rattle.union_laws.specs.inner.ResultCalls.{result_calls}
use Rattle.union_laws.proofs.MovedResults.{result_means}

-- the results of a box's rules and handlers call only functions of numbers below the bound
pub record BoxCalls (bound : ℕ) (b : BoxC) : Type 0 where
  pub rules : (n : ℕ) (rule : RuleC) → slice_get b.rules n ≡ Some rule → result_calls bound rule.result ≡ true
  pub handlers : (n : ℕ) (handler : HandC) → slice_get b.handlers n ≡ Some handler → result_calls bound handler.result ≡ true

exn_apart : (k x y : ℕ) (a b : Bool) → nat_le x NO_CASE ≡ a → nat_le y NO_CASE ≡ b → (if a then x else k + x) ≡ (if b then y else k + y) → x ≡ y
exn_apart k x y true true p q same = same
exn_apart k x y true false p q same = grind (arith, nat_tests)
exn_apart k x y false true p q same = grind (arith, nat_tests)
exn_apart k x y false false p q same = omega arith

-- moved numbers of exceptions are the same where the numbers are
pub exn_same : (moves : Moves) (x y : ℕ) → (moved_exn moves x == moved_exn moves y) ≡ (x == y)
exn_same moves x y = elim (cases_eq x y) [
  | inl same ↦ eq-eqb (moved_exn moves x) (moved_exn moves y) (ap (moved_exn moves) same) ∙ sym (eq-eqb x y same)
  | inr other ↦ ne_eqb (moved_exn moves x) (moved_exn moves y)
      (λ same. other (exn_apart moves.exns x y (nat_le x NO_CASE) (nat_le y NO_CASE) refl refl same))
      ∙ sym (ne_eqb x y other)
]

module _ (moves : Moves) where
  pub find_moved : (exn : ℕ) (handlers : List HandC)
      → find (λ (h : HandC). h.exn == moved_exn moves exn) (map (moved_handler moves) handlers) ≡ option_map (moved_handler moves) (find (λ (h : HandC). h.exn == exn) handlers)
  find_moved exn [] = refl
  find_moved exn (handler ∷ handlers) =
      (λ i. cond (exn_same moves handler.exn exn i) (Some (moved_handler moves handler)) (find_moved exn handlers i)) ∙ by (handler.exn == exn)
    where
      by : (b : Bool) → cond b (Some (moved_handler moves handler)) (option_map (moved_handler moves) (find (λ (h : HandC). h.exn == exn) handlers))
          ≡ option_map (moved_handler moves) (cond b (Some handler) (find (λ (h : HandC). h.exn == exn) handlers))
      by true = refl
      by false = refl

  pub same_outs : (o : Outputs) → outputs_or_none (moved_outputs moves o) ≡ outputs_or_none o
  same_outs (Asserts outs) = refl
  same_outs (Throws exn carried) = refl

module _ (moves : Moves) (most : ℕ) (small large : Core)
    (means : (e : Expr) → calls_below most e ≡ true → (env : List Value) → meaning_in large (moved moves e) env ≡ moved_outcome moves (meaning_in small e env)) where
  found_same : (handlers : List HandC) → ((n : ℕ) (handler : HandC) → slice_get handlers n ≡ Some handler → result_calls most handler.result ≡ true)
      → (carried : Option Value) (n : ℕ) (o : Option HandC) → slice_get handlers n ≡ o
      → handled_by large carried (option_map (moved_handler moves) o) ≡ handled_by small carried o
  found_same handlers known carried n None at = refl
  found_same handlers known carried n (Some handler) at =
      ap outputs_or_none (result_means moves most small large means handler.result (known n handler at) (handler_env handler carried))
      ∙ same_outs moves (result_of small (handler_env handler carried) handler.result)

  handled_same : (handlers : List HandC) → ((n : ℕ) (handler : HandC) → slice_get handlers n ≡ Some handler → result_calls most handler.result ≡ true)
      → (o : Outputs) → handled large (map (moved_handler moves) handlers) (moved_outputs moves o) ≡ handled small handlers o
  handled_same handlers known (Asserts outs) = refl
  handled_same handlers known (Throws exn carried) =
      ap (handled_by large carried) (find_moved moves exn handlers)
      ∙ found_same handlers known carried _ (find (λ (h : HandC). h.exn == exn) handlers) (sym (find_at (λ (h : HandC). h.exn == exn) handlers))

  module _ (b : BoxC) (known : BoxCalls most b) (ins : List (Option Value)) where
    fits_at : (o : Option RuleC) → rule_fits ins (option_map (moved_rule moves) o) ≡ rule_fits ins o
    fits_at None = refl
    fits_at (Some rule) = refl

    fits_same : (n : ℕ) → rule_fits ins (slice_get (map (moved_rule moves) b.rules) n) ≡ rule_fits ins (slice_get b.rules n)
    fits_same n = ap (rule_fits ins) (slice_get-map (moved_rule moves) b.rules n) ∙ fits_at (slice_get b.rules n)

    firing_at : (n : ℕ) (o : Option RuleC) → slice_get b.rules n ≡ o
        → option_map (firing_of large (moved_box moves b) n ins) (option_map (moved_rule moves) o) ≡ option_map (firing_of small b n ins) o
    firing_at n None at = refl
    firing_at n (Some rule) at =
        let env : List Value = bound rule.pats ins in
        let outs = ap (handled large (map (moved_handler moves) b.handlers)) (result_means moves most small large means rule.result (known.rules n rule at) env)
        ∙ handled_same b.handlers known.handlers (result_of small env rule.result) in
        λ i. Some (record { rule = n; taken = taken_at rule.pats ins; outs = outs i })

    firing_same : (n : ℕ) → option_map (firing_of large (moved_box moves b) n ins) (slice_get (map (moved_rule moves) b.rules) n)
        ≡ option_map (firing_of small b n ins) (slice_get b.rules n)
    firing_same n =
        ap (option_map (firing_of large (moved_box moves b) n ins)) (slice_get-map (moved_rule moves) b.rules n) ∙ firing_at n (slice_get b.rules n) refl

    pub fire_moved : (order : List ℕ) → fire large (moved_box moves b) order ins ≡ fire small b order ins
    fire_moved order = λ i. option_and_then (λ n. firing_same n i) (find (λ n. fits_same n i) order)
