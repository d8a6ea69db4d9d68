-- The call of a named output can be unfolded.
use Rattle.std.proofs.Common.{◌≡◌, ℕ, zero, suc, ◌+◌, ◌==◌, ◌&&◌, Bool, true, false, List, [], ◌∷◌, ◌++◌, length, map, replicate, Option, Some, None, slice_get, slice_set, refl, ap, sym, ◌∙◌, arith, if◌then◌else◌}
use Rattle.std.specs.List.{list_all, range_with_len}
use Rattle.std.specs.Option.{option_and_then, option_map, option_or}
use Rattle.std.proofs.lemmas.Bool.{eqb-false}
use Rattle.hume_model.specs.declared.core_tree.PatC.{out-PatC, out-roll-PatC}
use Rattle.hume_model.specs.declared.core_tree.PatC.TheOpen.{PatC-F}
use Rattle.hume_model.specs.declared.core_tree.PatC.TheVariants as pat
use Rattle.hume_model.specs.declared.core_tree.Expr.{Expr, fold-roll-Expr}
use Rattle.hume_model.specs.declared.core_tree.Expr.TheOpen.{Expr-F}
use Rattle.hume_model.specs.declared.core_tree.Expr.TheVariants as expr
use Rattle.hume_model.specs.declared.core_tree.Res.{Res, fold-roll-Res}
use Rattle.hume_model.specs.declared.core_tree.Res.TheOpen.{Res-F}
use Rattle.hume_model.specs.declared.core_tree.Res.TheVariants as res
use Rattle.hume_model.specs.declared.core_tree.EqC.{EqC}
use Rattle.hume_model.specs.declared.core_tree.FunC.{FunC}
use Rattle.hume_model.specs.declared.core_tree.BoxC.{BoxC}
use Rattle.hume_model.specs.declared.core_tree.Core.{Core}
use Rattle.calculus_laws.specs.NamedAgain.{rule_again}
use Rattle.calculus_laws.specs.Naming.{OnlyOutput, calling_box, calling_rule, named_function, named_output, output_at, variables}
use Rattle.calculus_laws.specs.Unfolding.{Looked, call_unfolded, equation_unfolded, look_result_step, look_step, looked, looked_result, only_equation, outs_unfolded, parts_unfolded, takes_all, takes_any, unfolded_at, unfolded_rule}
use Rattle.calculus_laws.proofs.CallsKnown.{both}
use Rattle.calculus_laws.proofs.NamedRuns.{output_is}
use Rattle.calculus_laws.proofs.UnfoldedCalls.{length-map}
use Rattle.calculus_laws.proofs.Unfolds.{looked_tree}

same_test : (a b : ℕ) → a ≡ b → (a == b) ≡ true
same_test a b same = by (a == b) refl
  where
    by : (x : Bool) → (a == b) ≡ x → (a == b) ≡ true
    by true is = is
    by false is = (let differ = eqb-false a b is in absurd (omega (arith, differ, same)))

range_count : (a n : ℕ) → length (range_with_len a n) ≡ n
range_count a zero = refl
range_count a (suc n) = ap suc (range_count (a + 1) n)

copies_count : {X : Type 0} (n : ℕ) (x : X) → length (replicate n x) ≡ n
copies_count zero x = refl
copies_count (suc n) x = ap suc (copies_count n x)

slice_end : {X : Type 0} (xs : List X) (x : X) → slice_get (xs ++ x ∷ []) (length xs) ≡ Some x
slice_end [] x = refl
slice_end (y ∷ xs) x = slice_end xs x

slice_new : {X : Type 0} (xs : List X) (n : ℕ) (old new : X) → slice_get xs n ≡ Some old → slice_get (slice_set xs n new) n ≡ Some new
slice_new [] n old new at = cc
slice_new (x ∷ xs) zero old new at = refl
slice_new (x ∷ xs) (suc n) old new at = slice_new xs n old new at

var_takes : takes_any (out-PatC pat.Var) ≡ true
var_takes = ap takes_any (ap out-PatC (sym pat.rolls-Var) ∙ out-roll-PatC PatC-F.Var)

all_take : (n : ℕ) → list_all (λ p. takes_any (out-PatC p)) (replicate n pat.Var) ≡ true
all_take zero = refl
all_take (suc n) = both _ _ var_takes (all_take n)

trees : (core : Core) (es : List Expr) → map (λ (part : Looked Expr). part.tree) (map (looked core) es) ≡ es
trees core [] = refl
trees core (e ∷ es) = λ i. looked_tree core e i ∷ trees core es i

module _ (core : Core) (node rule : ℕ) (name : List ℕ) (b : BoxC) (output : OnlyOutput) (at : output_at b rule ≡ Some output) where
  abbrev count : ℕ
  count = length (variables core.types b output.rule)

  abbrev new : Core
  new = named_output core node rule name b (Some output)

  abbrev last : FunC
  last = named_function core.types b name output

  abbrev equation : EqC
  equation = record { pats = replicate count pat.Var; body = output.body }

  abbrev args : List Expr
  args = map expr.Var (range_with_len 0 count)

  abbrev call : Expr
  call = expr.Call (length core.funs) args

  takes : takes_all equation args ≡ true
  takes =
      both _ _ (all_take count)
      (same_test (length args) (length equation.pats) (length-map expr.Var (range_with_len 0 count) ∙ range_count 0 count ∙ sym (copies_count count pat.Var)))

  called : call_unfolded new (length core.funs) args count ≡ Some (equation_unfolded equation args count)
  called =
      ap (option_and_then (λ (function : FunC). only_equation function.equations args count)) (slice_end core.funs last)
      ∙ ap (λ x. if x then Some (equation_unfolded equation args count) else None) takes

  call_becomes : (looked new call).unfolded count ≡ Some (equation_unfolded equation args count)
  call_becomes =
      ap (λ (l : Looked Expr). l.unfolded count) (ap (looked new) (sym (expr.rolls-Call (length core.funs) args)) ∙ fold-roll-Expr (Looked Expr) (look_step new) (Expr-F.Call (length core.funs) args))
      ∙ ap (λ es. option_or (call_unfolded new (length core.funs) es count) (option_map (expr.Call (length core.funs)) (parts_unfolded (map (looked new) args) count))) (trees new args)
      ∙ ap (λ o. option_or o (option_map (expr.Call (length core.funs)) (parts_unfolded (map (looked new) args) count))) called

  abbrev outs : List (Option Expr)
  outs = Some call ∷ []

  result_becomes : (looked_result new (res.Outs outs)).unfolded count ≡ Some (res.Outs (Some (equation_unfolded equation args count) ∷ []))
  result_becomes =
      ap (λ (l : Looked Res). l.unfolded count) (ap (looked_result new) (sym (res.rolls-Outs outs)) ∙ fold-roll-Res (Looked Res) (look_result_step (looked new)) (Res-F.Outs outs))
      ∙ ap (λ o. option_map res.Outs (option_or (option_map (λ d. Some d ∷ []) o) (option_map (λ others. Some call ∷ others) (outs_unfolded (looked new) [] count)))) call_becomes

  pub named_unfolds : unfolded_at new (calling_box core.types (length core.funs) rule output b) rule
      ≡ Some (rule_again core.types b output)
  named_unfolds =
      ap (option_and_then (unfolded_rule new (calling_box core.types (length core.funs) rule output b)))
      (slice_new b.rules rule output.rule (calling_rule (length core.funs) count output.rule) (output_is b rule output at).there)
      ∙ ap (option_map (λ result. record output.rule { result = result })) result_becomes
