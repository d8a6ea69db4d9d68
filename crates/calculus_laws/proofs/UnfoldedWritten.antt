-- An expression or a result with an unfolded call is as a source may write it, if it was.
use Rattle.std.proofs.Common.{◌≡◌, ℕ, suc, ◌+◌, nat_le, ◌&&◌, Bool, true, false, List, [], ◌∷◌, map, length, Option, Some, None, slice_get, refl, ap, sym, ◌∙◌, if◌then◌else◌}
use Rattle.std.specs.List.{list_all}
use Rattle.std.specs.Option.{option_and_then}
use Rattle.std.proofs.lemmas.Bool.{and_parts}
use Rattle.hume_base.specs.declared.limits.TheConstants.{MAX_LENGTH, MAX_PARTS}
use Rattle.hume_base.specs.declared.types.Types.{Types}
use Rattle.hume_model.specs.declared.core_tree.PatC.{PatC}
use Rattle.hume_model.specs.declared.core_tree.Expr.{Expr, fold-roll-Expr, map-Expr, roll-Expr}
use Rattle.hume_model.specs.declared.core_tree.Expr.TheOpen.{Expr-F}
use Rattle.hume_model.specs.declared.core_tree.Expr.TheVariants as expr
use Rattle.hume_model.specs.declared.core_tree.Res.{Res, fold-roll-Res, map-Res, roll-Res}
use Rattle.hume_model.specs.declared.core_tree.Res.TheOpen.{Res-F}
use Rattle.hume_model.specs.declared.core_tree.Res.TheVariants as res
use Rattle.hume_model.specs.declared.core_tree.EqC.{EqC}
use Rattle.hume_model.specs.declared.core_tree.FunC.{FunC}
use Rattle.hume_model.specs.declared.core_tree.Core.{Core}
use Rattle.hume_model.specs.Calls.{all_true}
use Rattle.hume_model.specs.PartLimits.{expression_step, is_written, is_written_equation, is_written_if_there, is_written_pattern, is_written_result, result_step}
use Rattle.hume_model.specs.TypeLimits.{is_between}
use Rattle.calculus_laws.specs.Unfolding.{call_unfolded, equation_unfolded, lets_around, moved_on, numbers_from, only_equation, pattern_numbers, renumbered, result_unfolded, takes_all}
use Rattle.calculus_laws.proofs.CallsKnown.{both}
use Rattle.calculus_laws.proofs.RenumberedFolds.{renumbered_same}
use Rattle.calculus_laws.proofs.UnfoldedResults.{IsResultKept, OutChanged, result_holds}
use Rattle.calculus_laws.proofs.Unfolds.{ArmChanged, Becomes, IsKept, OneChanged}

module _ (types : Types) where
  abbrev written : Expr → Bool
  written = is_written types

  form : (x : Expr-F Expr) (e : Expr) → roll-Expr x ≡ e → written e ≡ expression_step types (map-Expr Expr Bool written x)
  form x e is = ap written (sym is) ∙ fold-roll-Expr Bool (expression_step types) x

  again : (numbers : ℕ → ℕ) (e : Expr) → written (renumbered numbers e) ≡ written e
  again numbers e = renumbered_same Bool (expression_step types) (λ n m. refl) numbers e

  abbrev pub StaysWritten : Expr → Expr → Type 0
  StaysWritten e d = written e ≡ true → written d ≡ true

  lets_written : (scope count : ℕ) (args : List Expr) (body : Expr) → all_true (map written args) ≡ true → written body ≡ true → written (lets_around scope count args body) ≡ true
  lets_written scope count [] body all is = is
  lets_written scope count (arg ∷ args) body all is =
      let parts = and_parts _ _ all in
      let rest = lets_around scope (count + 1) args body in
      form (Expr-F.Let (renumbered (moved_on scope count) arg) rest) (expr.Let (renumbered (moved_on scope count) arg) rest) (expr.rolls-Let _ rest)
      ∙ both _ _ (again (moved_on scope count) arg ∙ parts.0) (lets_written scope (count + 1) args body parts.1 is)

  one_all : {es ds : List Expr} → OneChanged StaysWritten es ds → all_true (map written es) ≡ true → all_true (map written ds) ≡ true
  one_all (OneChanged.here r) all = (let parts = and_parts _ _ all in both _ _ (r parts.0) parts.1)
  one_all (OneChanged.there one) all = (let parts = and_parts _ _ all in both _ _ parts.0 (one_all one parts.1))

  one_length : {es ds : List Expr} → OneChanged StaysWritten es ds → length (map written ds) ≡ length (map written es)
  one_length (OneChanged.here r) = refl
  one_length (OneChanged.there one) = ap suc (one_length one)

  arm_written : (p : PatC) (e : Expr) → is_written_pattern p ≡ true → written e ≡ true → (is_written_pattern p && written e) ≡ true
  arm_written p e one two = both _ _ one two

  abbrev arm_step : PatC × Expr → PatC × Bool
  arm_step arm = (arm.0, written arm.1)

  one_arm : (scope : ℕ) {arms others : List (PatC × Expr)} → OneChanged (ArmChanged (λ n. StaysWritten) scope) arms others
      → list_all (λ (arm : PatC × Bool). is_written_pattern arm.0 && arm.1) (map arm_step arms) ≡ true
      → list_all (λ (arm : PatC × Bool). is_written_pattern arm.0 && arm.1) (map arm_step others) ≡ true
  one_arm scope (OneChanged.here r) all =
      let parts = and_parts _ _ all in
      let own = and_parts _ _ parts.0 in
      both _ _ (both _ _ (ap is_written_pattern (sym r.0) ∙ own.0) (r.1 own.1)) parts.1
  one_arm scope (OneChanged.there one) all = (let parts = and_parts _ _ all in both _ _ parts.0 (one_arm scope one parts.1))

  arms_length : (scope : ℕ) {arms others : List (PatC × Expr)} → OneChanged (ArmChanged (λ n. StaysWritten) scope) arms others
      → length (map arm_step others) ≡ length (map arm_step arms)
  arms_length scope (OneChanged.here r) = refl
  arms_length scope (OneChanged.there one) = ap suc (arms_length scope one)

  -- through one level of both expressions
  level : (x y : Expr-F Expr) (e d : Expr) → roll-Expr x ≡ e → roll-Expr y ≡ d
      → (expression_step types (map-Expr Expr Bool written x) ≡ true → expression_step types (map-Expr Expr Bool written y) ≡ true) → StaysWritten e d
  level x y e d one two step is = form y d two ∙ step (sym (form x e one) ∙ is)

  two : {a b c d : Expr} → OneChanged StaysWritten (a ∷ b ∷ []) (c ∷ d ∷ []) → (written a && written b) ≡ true → (written c && written d) ≡ true
  two {a} {b} {c} {d} one is =
      let own = and_parts (written a) (written b) is in
      let all = one_all one (both _ _ own.0 (both _ true own.1 refl)) in
      let parts = and_parts (written c) (written d && true) all in
      both (written c) (written d) parts.0 (and_parts (written d) true parts.1).0

  three : {a b c d e f : Expr} → OneChanged StaysWritten (a ∷ b ∷ c ∷ []) (d ∷ e ∷ f ∷ []) → (written a && (written b && written c)) ≡ true
      → (written d && (written e && written f)) ≡ true
  three {a} {b} {c} {d} {e} {f} one is =
      let own = and_parts (written a) (written b && written c) is in
      let rest = and_parts (written b) (written c) own.1 in
      let all = one_all one (both (written a) (written b && (written c && true)) own.0 (both (written b) (written c && true) rest.0 (both (written c) true rest.1 refl))) in
      let first = and_parts (written d) (written e && (written f && true)) all in
      let second = and_parts (written e) (written f && true) first.1 in
      both (written d) (written e && written f) first.0 (both (written e) (written f) second.0 (and_parts (written f) true second.1).0)

  module _ (core : Core) (functions : (f : ℕ) (function : FunC) → slice_get core.funs f ≡ Some function → list_all (is_written_equation types) function.equations ≡ true) where
    by_equations : (scope f : ℕ) (args : List Expr) (equations : List EqC) → list_all (is_written_equation types) equations ≡ true
        → Becomes (StaysWritten (expr.Call f args)) (only_equation equations args scope)
    by_equations scope f args [] all = tt
    by_equations scope f args (equation ∷ next ∷ equations) all = tt
    by_equations scope f args (equation ∷ []) all = by (takes_all equation args)
      where
        by : (b : Bool) → Becomes (StaysWritten (expr.Call f args)) (if b then Some (equation_unfolded equation args scope) else None)
        by false = tt
        by true = λ is.
            let own = and_parts (is_written_equation types equation) true all in
            lets_written scope 0 args _ (sym (form (Expr-F.Call f args) (expr.Call f args) (expr.rolls-Call f args)) ∙ is)
            (again (numbers_from (pattern_numbers scope equation.pats) (scope + length equation.pats)) equation.body ∙ (and_parts _ _ own.0).1)

    unfolds : (scope f : ℕ) (args : List Expr) → Becomes (StaysWritten (expr.Call f args)) (call_unfolded core f args scope)
    unfolds scope f args = by (slice_get core.funs f) refl
      where
        by : (o : Option FunC) → slice_get core.funs f ≡ o
            → Becomes (StaysWritten (expr.Call f args)) (option_and_then (λ (function : FunC). only_equation function.equations args scope) o)
        by None none = tt
        by (Some function) found = by_equations scope f args function.equations (functions f function found)

    written_kept : IsKept core (λ scope. StaysWritten)
    written_kept = record {
      unfolds = unfolds;
      con = λ scope c es ds one. level (Expr-F.Con c es) (Expr-F.Con c ds) _ _ (expr.rolls-Con c es) (expr.rolls-Con c ds) (one_all one);
      tuple = λ scope es ds one.
          level (Expr-F.Tuple es) (Expr-F.Tuple ds) _ _ (expr.rolls-Tuple es) (expr.rolls-Tuple ds)
          (λ is. let parts = and_parts _ _ is in both _ _ (ap (is_between 2 MAX_PARTS) (one_length one) ∙ parts.0) (one_all one parts.1));
      vector = λ scope es ds one.
          level (Expr-F.Vect es) (Expr-F.Vect ds) _ _ (expr.rolls-Vect es) (expr.rolls-Vect ds)
          (λ is. let parts = and_parts _ _ is in both _ _ (ap (is_between 1 MAX_LENGTH) (one_length one) ∙ parts.0) (one_all one parts.1));
      prim = λ scope op ty es ds one.
          level (Expr-F.Prim op ty es) (Expr-F.Prim op ty ds) _ _ (expr.rolls-Prim op ty es) (expr.rolls-Prim op ty ds)
          (λ is. let parts = and_parts _ _ is in both _ _ parts.0 (one_all one parts.1));
      call = λ scope f es ds one. level (Expr-F.Call f es) (Expr-F.Call f ds) _ _ (expr.rolls-Call f es) (expr.rolls-Call f ds) (one_all one);
      index = λ scope n v k v' k' one.
          level (Expr-F.Index n v k) (Expr-F.Index n v' k') _ _ (expr.rolls-Index n v k) (expr.rolls-Index n v' k')
          (λ is. let parts = and_parts _ _ is in both _ _ parts.0 (two one parts.1));
      update = λ scope n v k e v' k' e' one.
          level (Expr-F.Update n v k e) (Expr-F.Update n v' k' e') _ _ (expr.rolls-Update n v k e) (expr.rolls-Update n v' k' e')
          (λ is. let parts = and_parts _ _ is in both _ _ parts.0 (three one parts.1));
      choice = λ scope t a b t' a' b' one.
          level (Expr-F.If t a b) (Expr-F.If t' a' b') _ _ (expr.rolls-If t a b) (expr.rolls-If t' a' b') (three one);
      of_case = λ scope e d forms arms r.
          level (Expr-F.Case e forms arms) (Expr-F.Case d forms arms) _ _ (expr.rolls-Case e forms arms) (expr.rolls-Case d forms arms)
          (λ is. let parts = and_parts _ _ is in let own = and_parts _ _ parts.1 in both _ _ parts.0 (both _ _ (r own.0) own.1));
      arm = λ scope e forms arms others one.
          level (Expr-F.Case e forms arms) (Expr-F.Case e forms others) _ _ (expr.rolls-Case e forms arms) (expr.rolls-Case e forms others)
          (λ is.
          let parts = and_parts _ _ is in
          let own = and_parts _ _ parts.1 in
          let ways = and_parts _ _ own.1 in
          both _ _ parts.0 (both _ _ own.0 (both _ _ (ap (nat_le 1) (arms_length scope one) ∙ ways.0) (one_arm scope one ways.1))));
      of_let = λ scope e d body r.
          level (Expr-F.Let e body) (Expr-F.Let d body) _ _ (expr.rolls-Let e body) (expr.rolls-Let d body)
          (λ is. let parts = and_parts _ _ is in both _ _ (r parts.0) parts.1);
      body = λ scope e body other r.
          level (Expr-F.Let e body) (Expr-F.Let e other) _ _ (expr.rolls-Let e body) (expr.rolls-Let e other)
          (λ is. let parts = and_parts _ _ is in both _ _ parts.0 (r parts.1));
      raise = λ scope x e d r.
          level (Expr-F.Raise x (Some e)) (Expr-F.Raise x (Some d)) _ _ (expr.rolls-Raise x (Some e)) (expr.rolls-Raise x (Some d)) r;
    }

    -- results

    abbrev pub ResultStays : Res → Res → Type 0
    ResultStays r s = is_written_result types r ≡ true → is_written_result types s ≡ true

    result_form : (x : Res-F Res) (r : Res) → roll-Res x ≡ r → is_written_result types r ≡ result_step types (map-Res Res Bool (is_written_result types) x)
    result_form x r is = ap (is_written_result types) (sym is) ∙ fold-roll-Res Bool (result_step types) x

    result_level : (x y : Res-F Res) (r s : Res) → roll-Res x ≡ r → roll-Res y ≡ s
        → (result_step types (map-Res Res Bool (is_written_result types) x) ≡ true → result_step types (map-Res Res Bool (is_written_result types) y) ≡ true) → ResultStays r s
    result_level x y r s one two step is = result_form y s two ∙ step (sym (result_form x r one) ∙ is)

    one_out : (scope : ℕ) {outs others : List (Option Expr)} → OneChanged (OutChanged (λ n. StaysWritten) scope) outs others
        → list_all (is_written_if_there types) outs ≡ true → list_all (is_written_if_there types) others ≡ true
    one_out scope (OneChanged.here {x = None} r) all = absurd r
    one_out scope (OneChanged.here {x = Some e} {y = None} r) all = absurd r
    one_out scope (OneChanged.here {x = Some e} {y = Some d} r) all = (let parts = and_parts _ _ all in both _ _ (r parts.0) parts.1)
    one_out scope (OneChanged.there one) all = (let parts = and_parts _ _ all in both _ _ parts.0 (one_out scope one parts.1))

    abbrev way_step : PatC × Res → PatC × Bool
    way_step arm = (arm.0, is_written_result types arm.1)

    one_way : (scope : ℕ) {arms others : List (PatC × Res)} → OneChanged (ArmChanged (λ n. ResultStays) scope) arms others
        → list_all (λ (arm : PatC × Bool). is_written_pattern arm.0 && arm.1) (map way_step arms) ≡ true
        → list_all (λ (arm : PatC × Bool). is_written_pattern arm.0 && arm.1) (map way_step others) ≡ true
    one_way scope (OneChanged.here r) all =
        let parts = and_parts _ _ all in
        let own = and_parts _ _ parts.0 in
        both _ _ (both _ _ (ap is_written_pattern (sym r.0) ∙ own.0) (r.1 own.1)) parts.1
    one_way scope (OneChanged.there one) all = (let parts = and_parts _ _ all in both _ _ parts.0 (one_way scope one parts.1))

    ways_length : (scope : ℕ) {arms others : List (PatC × Res)} → OneChanged (ArmChanged (λ n. ResultStays) scope) arms others
        → length (map way_step others) ≡ length (map way_step arms)
    ways_length scope (OneChanged.here r) = refl
    ways_length scope (OneChanged.there one) = ap suc (ways_length scope one)

    results_kept : IsResultKept (λ scope. StaysWritten) (λ scope. ResultStays)
    results_kept = record {
      outs = λ scope outs others one. result_level (Res-F.Outs outs) (Res-F.Outs others) _ _ (res.rolls-Outs outs) (res.rolls-Outs others) (one_out scope one);
      test = λ scope e d a b r.
          result_level (Res-F.If e a b) (Res-F.If d a b) _ _ (res.rolls-If e a b) (res.rolls-If d a b) (λ is. let parts = and_parts _ _ is in both _ _ (r parts.0) parts.1);
      when_true = λ scope e a b other r.
          result_level (Res-F.If e a b) (Res-F.If e other b) _ _ (res.rolls-If e a b) (res.rolls-If e other b)
          (λ is. let parts = and_parts _ _ is in let own = and_parts _ _ parts.1 in both _ _ parts.0 (both _ _ (r own.0) own.1));
      when_false = λ scope e a b other r.
          result_level (Res-F.If e a b) (Res-F.If e a other) _ _ (res.rolls-If e a b) (res.rolls-If e a other)
          (λ is. let parts = and_parts _ _ is in let own = and_parts _ _ parts.1 in both _ _ parts.0 (both _ _ own.0 (r own.1)));
      of_case = λ scope e d forms arms r.
          result_level (Res-F.Case e forms arms) (Res-F.Case d forms arms) _ _ (res.rolls-Case e forms arms) (res.rolls-Case d forms arms)
          (λ is. let parts = and_parts _ _ is in let own = and_parts _ _ parts.1 in both _ _ parts.0 (both _ _ (r own.0) own.1));
      arm = λ scope e forms arms others one.
          result_level (Res-F.Case e forms arms) (Res-F.Case e forms others) _ _ (res.rolls-Case e forms arms) (res.rolls-Case e forms others)
          (λ is.
          let parts = and_parts _ _ is in
          let own = and_parts _ _ parts.1 in
          let ways = and_parts _ _ own.1 in
          both _ _ parts.0 (both _ _ own.0 (both _ _ (ap (nat_le 1) (ways_length scope one) ∙ ways.0) (one_way scope one ways.1))));
      of_let = λ scope e d body r.
          result_level (Res-F.Let e body) (Res-F.Let d body) _ _ (res.rolls-Let e body) (res.rolls-Let d body) (λ is. let parts = and_parts _ _ is in both _ _ (r parts.0) parts.1);
      body = λ scope e body other r.
          result_level (Res-F.Let e body) (Res-F.Let e other) _ _ (res.rolls-Let e body) (res.rolls-Let e other) (λ is. let parts = and_parts _ _ is in both _ _ parts.0 (r parts.1));
      raise = λ scope x e d r. result_level (Res-F.Raise x (Some e)) (Res-F.Raise x (Some d)) _ _ (res.rolls-Raise x (Some e)) (res.rolls-Raise x (Some d)) r;
    }

    -- the result of a rule stays as a source may write it
    pub unfolded_written : (r : Res) (scope : ℕ) → Becomes (ResultStays r) (result_unfolded core scope r)
    unfolded_written r scope = result_holds core (λ n. StaysWritten) written_kept (λ n. ResultStays) results_kept r scope
