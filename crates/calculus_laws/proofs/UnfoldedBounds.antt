-- An unfolded call takes no more heap and no more stack than the call did, and little more work.
use Rattle.std.proofs.Common.{◌≡◌, ◌⊎◌, inl, inr, ℕ, zero, suc, ◌+◌, ◌≤◌, ◌&&◌, max, Bool, true, false, List, [], ◌∷◌, map, length, Option, Some, None, slice_get, refl, ap, sym, ◌∙◌, subst, arith, if◌then◌else◌}
use Rattle.std.specs.List.{list_all}
use Rattle.std.specs.List.{sum}
use Rattle.std.specs.Option.{option_and_then}
use Rattle.std.proofs.lemmas.Bool.{and_parts, eqb-true}
use Rattle.std.proofs.lemmas.List.Sums.{sum_by-cons}
use Rattle.hume_base.specs.declared.limits.TheConstants.{MAX_PARAMETERS}
use Rattle.hume_base.specs.declared.types.Ty.{Ty}
use Rattle.hume_model.specs.declared.core_tree.PatC.{PatC, fold-roll-PatC, out-PatC, roll-PatC, roll-out-PatC}
use Rattle.hume_model.specs.declared.core_tree.PatC.TheOpen.{PatC-F}
use Rattle.hume_model.specs.declared.core_tree.Expr.{Expr, fold-roll-Expr, map-Expr, roll-Expr}
use Rattle.hume_model.specs.declared.core_tree.Expr.TheOpen.{Expr-F}
use Rattle.hume_model.specs.declared.core_tree.Expr.TheVariants as expr
use Rattle.hume_model.specs.declared.core_tree.Res.{Res, fold-roll-Res, map-Res, roll-Res}
use Rattle.hume_model.specs.declared.core_tree.Res.TheOpen.{Res-F}
use Rattle.hume_model.specs.declared.core_tree.Res.TheVariants as res
use Rattle.hume_model.specs.declared.core_tree.EqC.{EqC}
use Rattle.hume_model.specs.declared.core_tree.FunC.{FunC}
use Rattle.hume_model.specs.declared.core_tree.Core.{Core}
use Rattle.hume_model.specs.Calls.{CallsGoDown}
use Rattle.box_costs.specs.declared.cost.Cost.{Cost}
use Rattle.box_costs.specs.Costs.{Way, above, any_of, both, either, in_order, instructions, made, one_way, pushed, taken_by_way, tests_of_way, with_variables}
use Rattle.box_costs.specs.PatternTests.{tests_of, tests_of_all, tests_step, variables_of_all}
use Rattle.box_costs.specs.Bounds.{arm_way, bound_below, bound_step, equation_way, expression_bound, given_outs, result_bound, result_bound_step}
use Rattle.calculus_laws.specs.Unfolding.{call_unfolded, equation_unfolded, lets_around, moved_on, numbers_from, only_equation, pattern_numbers, renumbered, result_unfolded, takes_all, takes_any}
use Rattle.calculus_laws.specs.UnfoldedBounds.{IsUnfoldedBound}
use Rattle.calculus_laws.proofs.BoundsAt.{only_bound}
use Rattle.calculus_laws.proofs.RenumberedFolds.{renumbered_same}
use Rattle.calculus_laws.proofs.UnfoldedCalls.{length-map}
use Rattle.calculus_laws.proofs.UnfoldedResults.{IsResultKept, OutChanged, result_holds}
use Rattle.calculus_laws.proofs.Unfolds.{ArmChanged, Becomes, IsKept, OneChanged}

pub bound_self : (c : Cost) → IsUnfoldedBound c c
bound_self c = record { heap = omega arith; stack = omega arith; work = omega arith }

both_left : (a b c : Cost) → IsUnfoldedBound a b → IsUnfoldedBound (both a c) (both b c)
both_left a b c p = record { heap = omega (arith, p.heap); stack = omega (arith, p.stack); work = omega (arith, p.work) }

both_right : (c a b : Cost) → IsUnfoldedBound a b → IsUnfoldedBound (both c a) (both c b)
both_right c a b p = record { heap = omega (arith, p.heap); stack = omega (arith, p.stack); work = omega (arith, p.work) }

higher : (n : ℕ) (a b : Cost) → IsUnfoldedBound a b → IsUnfoldedBound (above n a) (above n b)
higher n a b p = record { heap = omega (arith, p.heap); stack = omega (arith, p.stack); work = omega (arith, p.work) }

pub either_left : (a b c : Cost) → IsUnfoldedBound a b → IsUnfoldedBound (either a c) (either b c)
either_left a b c p = record { heap = omega (arith, p.heap); stack = omega (arith, p.stack); work = omega (arith, p.work) }

pub either_right : (c a b : Cost) → IsUnfoldedBound a b → IsUnfoldedBound (either c a) (either c b)
either_right c a b p = record { heap = omega (arith, p.heap); stack = omega (arith, p.stack); work = omega (arith, p.work) }

-- one part has another bound, and the others have the same
abbrev OneLess : List Cost → List Cost → Type 0
OneLess [] olds = ⊥
OneLess (new ∷ news) [] = ⊥
OneLess (new ∷ news) (old ∷ olds) = (IsUnfoldedBound new old × (news ≡ olds)) ⊎ ((new ≡ old) × OneLess news olds)

order_less : (news olds : List Cost) → OneLess news olds → IsUnfoldedBound (in_order news) (in_order olds) × (length news ≡ length olds)
order_less [] olds one = absurd one
order_less (new ∷ news) [] one = absurd one
order_less (new ∷ news) (old ∷ olds) (inl one) =
    (rw one.1 (both_left new old (above 1 (in_order olds)) one.0), ap (λ xs. suc (length xs)) one.1)
order_less (new ∷ news) (old ∷ olds) (inr one) =
    let rest = order_less news olds one.1 in
    (rw one.0 (both_right old _ _ (higher 1 _ _ rest.0)), ap suc rest.1)

object_less : (news olds : List Cost) → OneLess news olds → IsUnfoldedBound (both (in_order news) (made (length news))) (both (in_order olds) (made (length olds)))
object_less news olds one =
    let less = order_less news olds one in
    rw less.1 (both_left _ _ (made (length olds)) less.0)

choice_less : (t a b t' a' b' : Cost) → OneLess (t' ∷ a' ∷ b' ∷ []) (t ∷ a ∷ b ∷ [])
    → IsUnfoldedBound (both t' (both (instructions 1) (either (both a' (instructions 1)) b'))) (both t (both (instructions 1) (either (both a (instructions 1)) b)))
choice_less t a b t' a' b' (inl one) =
    let first : a' ≡ a = cc in
    let second : b' ≡ b = cc in
    rw (first, second) (both_left t' t _ one.0)
choice_less t a b t' a' b' (inr (same, inl one)) =
    let second : b' ≡ b = cc in
    rw (same, second) (both_right t _ _ (both_right (instructions 1) _ _ (either_left _ _ b (both_left a' a (instructions 1) one.0))))
choice_less t a b t' a' b' (inr (same, inr (other, inl one))) =
    rw (same, other) (both_right t _ _ (both_right (instructions 1) _ _ (either_right (both a (instructions 1)) b' b one.0)))
choice_less t a b t' a' b' (inr (same, inr (other, inr (last, none)))) = absurd none

sum_more : (n : ℕ) (ns : List ℕ) → sum (n ∷ ns) ≡ n + sum ns
sum_more n ns = sum_by-cons (λ x. x) n ns

-- one of several ways takes another bound
record OneWayLess (news olds : List Way) : Type 0 where
  tests : sum (map tests_of_way news) ≡ sum (map tests_of_way olds)
  taken : IsUnfoldedBound (any_of (map taken_by_way news)) (any_of (map taken_by_way olds))

ways_less : (news olds : List Way) → OneWayLess news olds → IsUnfoldedBound (one_way news) (one_way olds)
ways_less news olds one = rw one.tests (both_right _ _ _ (either_right (instructions 1) _ _ one.taken))

module _ (core : Core) (down : CallsGoDown core)
    (few : (f : ℕ) (function : FunC) (equation : EqC) → slice_get core.funs f ≡ Some function → function.equations ≡ equation ∷ [] → length equation.pats ≤ MAX_PARAMETERS) where
  abbrev called : ℕ → Cost
  called = bound_below core (length core.funs)

  abbrev bound : Expr → Cost
  bound = expression_bound core

  abbrev level : Expr-F Cost → Cost
  level = bound_step called

  form : (x : Expr-F Expr) (e : Expr) → roll-Expr x ≡ e → bound e ≡ level (map-Expr Expr Cost bound x)
  form x e is = ap bound (sym is) ∙ fold-roll-Expr Cost level x

  again : (numbers : ℕ → ℕ) (e : Expr) → bound (renumbered numbers e) ≡ bound e
  again numbers e = renumbered_same Cost level (λ n m. refl) numbers e

  abbrev TakesLess : ℕ → Expr → Expr → Type 0
  TakesLess scope e d = IsUnfoldedBound (bound d) (bound e)

  at_forms : (x y : Expr-F Expr) (e d : Expr) → roll-Expr x ≡ e → roll-Expr y ≡ d → IsUnfoldedBound (level (map-Expr Expr Cost bound y)) (level (map-Expr Expr Cost bound x))
      → IsUnfoldedBound (bound d) (bound e)
  at_forms x y e d one two less = rw (form x e one, form y d two) less

  one_less : (scope : ℕ) {es ds : List Expr} → OneChanged (TakesLess scope) es ds → OneLess (map bound ds) (map bound es)
  one_less scope (OneChanged.here r) = inl (r, refl)
  one_less scope (OneChanged.there one) = inr (refl, one_less scope one)

  abbrev arm_bound : PatC × Expr → PatC × Cost
  arm_bound arm = (arm.0, bound arm.1)

  arm_taken : (pat other : PatC) (new old : Cost) → pat ≡ other → IsUnfoldedBound new old → IsUnfoldedBound (arm_way 2 (other, new)).taken (arm_way 2 (pat, old)).taken
  arm_taken pat other new old same p =
      subst (λ q. IsUnfoldedBound (arm_way 2 (q, new)).taken (arm_way 2 (pat, old)).taken) same
      (record { heap = omega (arith, p.heap); stack = omega (arith, p.stack); work = omega (arith, p.work) })

  arms_less : (scope : ℕ) {arms others : List (PatC × Expr)} → OneChanged (ArmChanged TakesLess scope) arms others
      → OneWayLess (map (arm_way 2) (map arm_bound others)) (map (arm_way 2) (map arm_bound arms))
  arms_less scope (OneChanged.here {x = arm} {y = other} {xs = rest} r) =
      let left = map (arm_way 2) (map arm_bound rest) in
      record {
        tests = ap (λ p. sum (tests_of p ∷ map tests_of_way left)) (sym r.0);
        taken = either_left _ _ (any_of (map taken_by_way left)) (arm_taken arm.0 other.0 (bound other.1) (bound arm.1) r.0 r.1);
      }
  arms_less scope (OneChanged.there {x = arm} {xs = before} {ys = after} one) =
      let rest = arms_less scope one in
      record {
        tests =
            sum_more (tests_of arm.0) (map tests_of_way (map (arm_way 2) (map arm_bound after))) ∙ ap (λ n. tests_of arm.0 + n) rest.tests
            ∙ sym (sum_more (tests_of arm.0) (map tests_of_way (map (arm_way 2) (map arm_bound before))));
        taken = either_right (arm_way 2 (arm_bound arm)).taken _ _ rest.taken;
      }

  -- lets around a body

  record AreLets (args : List Expr) (whole body : Cost) : Type 0 where
    heap : whole.heap ≡ (in_order (map bound args)).heap + body.heap
    stack : whole.stack ≡ max (in_order (map bound args)).stack (length args + body.stack)
    work : whole.work ≡ ((in_order (map bound args)).work + body.work) + length args

  lets_bound : (scope count : ℕ) (args : List Expr) (body : Expr) → AreLets args (bound (lets_around scope count args body)) (bound body)
  lets_bound scope count [] body = record { heap = omega arith; stack = omega arith; work = omega arith }
  lets_bound scope count (arg ∷ args) body =
      let rest = lets_around scope (count + 1) args body in
      let new = renumbered (moved_on scope count) arg in
      let later = lets_bound scope (count + 1) args body in
      let first : bound new ≡ bound arg = again (moved_on scope count) arg in
      let whole : bound (expr.Let new rest) ≡ both (bound arg) (above 1 (both (bound rest) (instructions 1))) =
      form (Expr-F.Let new rest) (expr.Let new rest) (expr.rolls-Let new rest) ∙ ap (λ c. both c (above 1 (both (bound rest) (instructions 1)))) first in
      let h = later.heap in
      let s = later.stack in
      let w = later.work in
      record {
        heap = ap (λ (c : Cost). c.heap) whole ∙ omega (arith, h);
        stack = ap (λ (c : Cost). c.stack) whole ∙ omega (arith, s);
        work = ap (λ (c : Cost). c.work) whole ∙ omega (arith, w);
      }

  free : (pat : PatC) → takes_any (out-PatC pat) ≡ true → tests_of pat ≡ 0
  free pat any = by (out-PatC pat) (roll-out-PatC pat) any
    where
      by : (x : PatC-F PatC) → roll-PatC x ≡ pat → takes_any x ≡ true → tests_of pat ≡ 0
      by PatC-F.Var is h = ap tests_of (sym is) ∙ fold-roll-PatC ℕ tests_step PatC-F.Var
      by PatC-F.Any is h = ap tests_of (sym is) ∙ fold-roll-PatC ℕ tests_step PatC-F.Any
      by (PatC-F.Word w) is h = cc
      by (PatC-F.Con c ps) is h = cc
      by (PatC-F.Tuple ps) is h = cc

  all_free : (pats : List PatC) → list_all (λ pat. takes_any (out-PatC pat)) pats ≡ true → tests_of_all pats ≡ 0
  all_free [] all = refl
  all_free (pat ∷ pats) all =
      let both_parts = and_parts _ _ all in
      let one = free pat both_parts.0 in
      let rest = all_free pats both_parts.1 in
      sum_more (tests_of pat) (map tests_of pats) ∙ omega (arith, one, rest)

  by_equations : (scope f : ℕ) (args : List Expr) (function : FunC) → slice_get core.funs f ≡ Some function → (equations : List EqC) → function.equations ≡ equations
      → Becomes (TakesLess scope (expr.Call f args)) (only_equation equations args scope)
  by_equations scope f args function found [] only = tt
  by_equations scope f args function found (equation ∷ next ∷ equations) only = tt
  by_equations scope f args function found (equation ∷ []) only = by (takes_all equation args) refl
    where
      less : takes_all equation args ≡ true → IsUnfoldedBound (bound (equation_unfolded equation args scope)) (bound (expr.Call f args))
      less all =
          let numbers : ℕ → ℕ = numbers_from (pattern_numbers scope equation.pats) (scope + length equation.pats) in
          let parts = and_parts _ _ all in
          let small = few f function equation found only in
          let count = eqb-true (length args) (length equation.pats) parts.1 in
          let tests = all_free equation.pats parts.0 in
          let own = only_bound core down f function equation found only in
          let old : bound (expr.Call f args) ≡ both (in_order (map bound args)) (above (length (map bound args) + 2) (both (instructions 1) (one_way (equation_way bound equation ∷ [])))) =
          form (Expr-F.Call f args) (expr.Call f args) (expr.rolls-Call f args)
          ∙ ap (λ c. both (in_order (map bound args)) (above (length (map bound args) + 2) (both (instructions 1) c))) own in
          let many = length-map bound args in
          let new = lets_bound scope 0 args (renumbered numbers equation.body) in
          let same = again numbers equation.body in
          let h = new.heap in
          let s = new.stack in
          let w = new.work in
          let bh = ap (λ (c : Cost). c.heap) same in
          let bs = ap (λ (c : Cost). c.stack) same in
          let bw = ap (λ (c : Cost). c.work) same in
          let all_tests : sum (tests_of_all equation.pats ∷ []) ≡ tests_of_all equation.pats + sum [] = sum_more (tests_of_all equation.pats) [] in
          rw old
          (record {
            heap = omega (arith, h, bh);
            stack = omega (arith, s, bs, count, many);
            work = omega (arith, w, bw, count, small, tests, all_tests);
          })

      by : (b : Bool) → takes_all equation args ≡ b → Becomes (TakesLess scope (expr.Call f args)) (if b then Some (equation_unfolded equation args scope) else None)
      by false none = tt
      by true all = less all

  unfolds : (scope f : ℕ) (args : List Expr) → Becomes (TakesLess scope (expr.Call f args)) (call_unfolded core f args scope)
  unfolds scope f args = by (slice_get core.funs f) refl
    where
      by : (o : Option FunC) → slice_get core.funs f ≡ o
          → Becomes (TakesLess scope (expr.Call f args)) (option_and_then (λ (function : FunC). only_equation function.equations args scope) o)
      by None none = tt
      by (Some function) found = by_equations scope f args function found function.equations refl

  space_kept : IsKept core TakesLess
  space_kept = record {
    unfolds = unfolds;
    con = λ scope c es ds one. at_forms (Expr-F.Con c es) (Expr-F.Con c ds) _ _ (expr.rolls-Con c es) (expr.rolls-Con c ds) (object_less _ _ (one_less scope one));
    tuple = λ scope es ds one. at_forms (Expr-F.Tuple es) (Expr-F.Tuple ds) _ _ (expr.rolls-Tuple es) (expr.rolls-Tuple ds) (object_less _ _ (one_less scope one));
    vector = λ scope es ds one. at_forms (Expr-F.Vect es) (Expr-F.Vect ds) _ _ (expr.rolls-Vect es) (expr.rolls-Vect ds) (object_less _ _ (one_less scope one));
    prim = λ scope op ty es ds one.
        at_forms (Expr-F.Prim op ty es) (Expr-F.Prim op ty ds) _ _ (expr.rolls-Prim op ty es) (expr.rolls-Prim op ty ds)
        (both_left _ _ pushed (order_less _ _ (one_less scope one)).0);
    call = λ scope f es ds one.
        let less = order_less _ _ (one_less scope one) in
        at_forms (Expr-F.Call f es) (Expr-F.Call f ds) _ _ (expr.rolls-Call f es) (expr.rolls-Call f ds)
        (rw less.1 (both_left _ _ (above (length (map bound es) + 2) (both (instructions 1) (called f))) less.0));
    index = λ scope n v k v' k' one.
        at_forms (Expr-F.Index n v k) (Expr-F.Index n v' k') _ _ (expr.rolls-Index n v k) (expr.rolls-Index n v' k')
        (both_left _ _ pushed (order_less (bound v' ∷ bound k' ∷ []) (bound v ∷ bound k ∷ []) (one_less scope one)).0);
    update = λ scope n v k e v' k' e' one.
        at_forms (Expr-F.Update n v k e) (Expr-F.Update n v' k' e') _ _ (expr.rolls-Update n v k e) (expr.rolls-Update n v' k' e')
        (both_left _ _ (made n) (order_less (bound v' ∷ bound k' ∷ bound e' ∷ []) (bound v ∷ bound k ∷ bound e ∷ []) (one_less scope one)).0);
    choice = λ scope t a b t' a' b' one.
        at_forms (Expr-F.If t a b) (Expr-F.If t' a' b') _ _ (expr.rolls-If t a b) (expr.rolls-If t' a' b')
        (choice_less (bound t) (bound a) (bound b) (bound t') (bound a') (bound b') (one_less scope one));
    of_case = λ scope e d forms arms r.
        at_forms (Expr-F.Case e forms arms) (Expr-F.Case d forms arms) _ _ (expr.rolls-Case e forms arms) (expr.rolls-Case d forms arms) (both_left _ _ _ r);
    arm = λ scope e forms arms others one.
        at_forms (Expr-F.Case e forms arms) (Expr-F.Case e forms others) _ _ (expr.rolls-Case e forms arms) (expr.rolls-Case e forms others)
        (both_right (bound e) _ _ (higher 1 _ _ (ways_less _ _ (arms_less scope one))));
    of_let = λ scope e d body r.
        at_forms (Expr-F.Let e body) (Expr-F.Let d body) _ _ (expr.rolls-Let e body) (expr.rolls-Let d body) (both_left _ _ _ r);
    body = λ scope e body other r.
        at_forms (Expr-F.Let e body) (Expr-F.Let e other) _ _ (expr.rolls-Let e body) (expr.rolls-Let e other)
        (both_right (bound e) _ _ (higher 1 _ _ (both_left _ _ (instructions 1) r)));
    raise = λ scope x e d r.
        at_forms (Expr-F.Raise x (Some e)) (Expr-F.Raise x (Some d)) _ _ (expr.rolls-Raise x (Some e)) (expr.rolls-Raise x (Some d))
        (both_left _ _ (instructions 1) r);
  }

  -- results

  abbrev result : Res → Cost
  result = result_bound core

  abbrev ResultLess : ℕ → Res → Res → Type 0
  ResultLess scope r s = IsUnfoldedBound (result s) (result r)

  abbrev result_level : Res-F Cost → Cost
  result_level = result_bound_step bound

  result_form : (x : Res-F Res) (r : Res) → roll-Res x ≡ r → result r ≡ result_level (map-Res Res Cost result x)
  result_form x r is = ap result (sym is) ∙ fold-roll-Res Cost result_level x

  at_results : (x y : Res-F Res) (r s : Res) → roll-Res x ≡ r → roll-Res y ≡ s
      → IsUnfoldedBound (result_level (map-Res Res Cost result y)) (result_level (map-Res Res Cost result x)) → IsUnfoldedBound (result s) (result r)
  at_results x y r s one two less = rw (result_form x r one, result_form y s two) less

  outs_less : (scope : ℕ) {outs others : List (Option Expr)} → OneChanged (OutChanged TakesLess scope) outs others
      → IsUnfoldedBound (in_order (map bound (given_outs others))) (in_order (map bound (given_outs outs)))
  outs_less scope (OneChanged.here {x = None} r) = absurd r
  outs_less scope (OneChanged.here {x = Some e} {y = None} r) = absurd r
  outs_less scope (OneChanged.here {x = Some e} {y = Some d} r) = both_left (bound d) (bound e) _ r
  outs_less scope (OneChanged.there {x = None} one) = outs_less scope one
  outs_less scope (OneChanged.there {x = Some e} one) = both_right (bound e) _ _ (higher 1 _ _ (outs_less scope one))

  abbrev way_bound : PatC × Res → PatC × Cost
  way_bound arm = (arm.0, result arm.1)

  way_taken : (pat other : PatC) (new old : Cost) → pat ≡ other → IsUnfoldedBound new old → IsUnfoldedBound (arm_way 0 (other, new)).taken (arm_way 0 (pat, old)).taken
  way_taken pat other new old same p =
      subst (λ q. IsUnfoldedBound (arm_way 0 (q, new)).taken (arm_way 0 (pat, old)).taken) same
      (record { heap = omega (arith, p.heap); stack = omega (arith, p.stack); work = omega (arith, p.work) })

  result_arms : (scope : ℕ) {arms others : List (PatC × Res)} → OneChanged (ArmChanged ResultLess scope) arms others
      → OneWayLess (map (arm_way 0) (map way_bound others)) (map (arm_way 0) (map way_bound arms))
  result_arms scope (OneChanged.here {x = arm} {y = other} {xs = rest} r) =
      let left = map (arm_way 0) (map way_bound rest) in
      record {
        tests = ap (λ p. sum (tests_of p ∷ map tests_of_way left)) (sym r.0);
        taken = either_left _ _ (any_of (map taken_by_way left)) (way_taken arm.0 other.0 (result other.1) (result arm.1) r.0 r.1);
      }
  result_arms scope (OneChanged.there {x = arm} {xs = before} {ys = after} one) =
      let rest = result_arms scope one in
      record {
        tests =
            sum_more (tests_of arm.0) (map tests_of_way (map (arm_way 0) (map way_bound after))) ∙ ap (λ n. tests_of arm.0 + n) rest.tests
            ∙ sym (sum_more (tests_of arm.0) (map tests_of_way (map (arm_way 0) (map way_bound before))));
        taken = either_right (arm_way 0 (way_bound arm)).taken _ _ rest.taken;
      }

  results_kept : IsResultKept TakesLess ResultLess
  results_kept = record {
    outs = λ scope outs others one.
        at_results (Res-F.Outs outs) (Res-F.Outs others) _ _ (res.rolls-Outs outs) (res.rolls-Outs others) (both_left _ _ (instructions 1) (outs_less scope one));
    test = λ scope e d a b r.
        at_results (Res-F.If e a b) (Res-F.If d a b) _ _ (res.rolls-If e a b) (res.rolls-If d a b) (both_left _ _ _ r);
    when_true = λ scope e a b other r.
        at_results (Res-F.If e a b) (Res-F.If e other b) _ _ (res.rolls-If e a b) (res.rolls-If e other b)
        (both_right (bound e) _ _ (both_right (instructions 1) _ _ (either_left _ _ (result b) r)));
    when_false = λ scope e a b other r.
        at_results (Res-F.If e a b) (Res-F.If e a other) _ _ (res.rolls-If e a b) (res.rolls-If e a other)
        (both_right (bound e) _ _ (both_right (instructions 1) _ _ (either_right (result a) _ _ r)));
    of_case = λ scope e d forms arms r.
        at_results (Res-F.Case e forms arms) (Res-F.Case d forms arms) _ _ (res.rolls-Case e forms arms) (res.rolls-Case d forms arms) (both_left _ _ _ r);
    arm = λ scope e forms arms others one.
        at_results (Res-F.Case e forms arms) (Res-F.Case e forms others) _ _ (res.rolls-Case e forms arms) (res.rolls-Case e forms others)
        (both_right (bound e) _ _ (higher 1 _ _ (ways_less _ _ (result_arms scope one))));
    of_let = λ scope e d body r.
        at_results (Res-F.Let e body) (Res-F.Let d body) _ _ (res.rolls-Let e body) (res.rolls-Let d body) (both_left _ _ _ r);
    body = λ scope e body other r.
        at_results (Res-F.Let e body) (Res-F.Let e other) _ _ (res.rolls-Let e body) (res.rolls-Let e other)
        (both_right (bound e) _ _ (higher 1 _ _ r));
    raise = λ scope x e d r.
        at_results (Res-F.Raise x (Some e)) (Res-F.Raise x (Some d)) _ _ (res.rolls-Raise x (Some e)) (res.rolls-Raise x (Some d))
        (both_left _ _ (instructions 1) r);
  }

  -- the bound of a result with the unfolded call
  pub unfolded_bound : (r : Res) (scope : ℕ) → Becomes (ResultLess scope r) (result_unfolded core scope r)
  unfolded_bound r scope = result_holds core TakesLess space_kept ResultLess results_kept r scope
