-- An expression or a result with an unfolded call may raise no exception that it might not raise before.
use Rattle.std.proofs.Common.{◌≡◌, ◌⊎◌, inl, inr, ℕ, ◌+◌, ◌==◌, not, ◌&&◌, ◌||◌, Bool, true, false, List, [], ◌∷◌, map, length, Option, Some, None, slice_get, refl, ap, sym, ◌∙◌, if◌then◌else◌}
use Rattle.std.specs.Bool.{⊤}
use Rattle.std.specs.List.{list_any}
use Rattle.std.specs.Option.{option_and_then}
use Rattle.std.proofs.lemmas.Bool.{and_parts}
use Rattle.hume_model.specs.declared.core_tree.Op.{Op}
use Rattle.hume_model.specs.declared.core_tree.Op.TheVariants.{Add, Sub, Mul, Div, Mod, Neg, Not, Convert, Eq, Ne, Lt, Le, Gt, Ge}
use Rattle.hume_model.specs.declared.core_tree.PatC.{PatC}
use Rattle.hume_model.specs.declared.core_tree.Expr.{Expr, fold-roll-Expr, map-Expr, roll-Expr}
use Rattle.hume_model.specs.declared.core_tree.Expr.TheOpen.{Expr-F}
use Rattle.hume_model.specs.declared.core_tree.Expr.TheVariants as expr
use Rattle.hume_model.specs.declared.core_tree.Res.{Res, fold-roll-Res, map-Res, roll-Res}
use Rattle.hume_model.specs.declared.core_tree.Res.TheOpen.{Res-F}
use Rattle.hume_model.specs.declared.core_tree.Res.TheVariants as res
use Rattle.hume_model.specs.declared.core_tree.EqC.{EqC}
use Rattle.hume_model.specs.declared.core_tree.FunC.{FunC}
use Rattle.hume_model.specs.declared.core_tree.Core.{Core}
use Rattle.hume_model.specs.declared.exceptions.TheConstants.{DIV_ZERO, NO_CASE, RANGE}
use Rattle.hume_model.specs.Calls.{CallsGoDown}
use Rattle.hume_model.specs.Completeness.{are_complete}
use Rattle.hume_model.specs.Raising.{Seen, may_be_outside, may_be_zero, may_divide_by_zero, may_raise, raises_below, raises_if_there, raises_step, result_may_raise, result_raises_step, seen, seen_with, some_raise}
use Rattle.calculus_laws.specs.Unfolding.{call_unfolded, equation_unfolded, lets_around, moved_on, numbers_from, only_equation, pattern_numbers, renumbered, result_unfolded, takes_all}
use Rattle.calculus_laws.proofs.CallsKnown.{both}
use Rattle.calculus_laws.proofs.RaisingAt.{function_may}
use Rattle.calculus_laws.proofs.RenumberedFolds.{renumbered_same}
use Rattle.calculus_laws.proofs.UnfoldedResults.{IsResultKept, OutChanged, result_holds}
use Rattle.calculus_laws.proofs.Unfolds.{ArmChanged, Becomes, IsKept, OneChanged}

-- a part is seen to raise no more, and is the same literal if the old one was a literal
record Fewer (new old : Seen) : Type 0 where
  literal : (old.literal ≡ None) ⊎ (new.literal ≡ old.literal)
  raises : new.raises ≡ true → old.raises ≡ true

self : (s : Seen) → Fewer s s
self s = record { literal = inr refl; raises = λ is. is }

fewer_seen : (a b : Bool) → (a ≡ true → b ≡ true) → Fewer (seen a) (seen b)
fewer_seen a b follows = record { literal = inl refl; raises = follows }

either : (a b c d : Bool) → (a ≡ true → c ≡ true) → (b ≡ true → d ≡ true) → (a || b) ≡ true → (c || d) ≡ true
either true b c d one two is = (let first = one refl in rw first refl)
either false b true d one two is = refl
either false b false d one two is = two is

and_then : (a b c : Bool) → (b ≡ true → c ≡ true) → (a && b) ≡ true → (a && c) ≡ true
and_then a b c follows is = (let parts = and_parts a b is in both a c parts.0 (follows parts.1))

by_literal : (test : Option ℕ → Bool) → test None ≡ true → (new old : Seen) → Fewer new old → test new.literal ≡ true → test old.literal ≡ true
by_literal test none new old fewer is = by fewer.literal
  where
    by : (old.literal ≡ None) ⊎ (new.literal ≡ old.literal) → test old.literal ≡ true
    by (inl no_literal) = ap test no_literal ∙ none
    by (inr same) = ap test (sym same) ∙ is

abbrev AllFewer : List Seen → List Seen → Type 0
AllFewer [] [] = ⊤
AllFewer [] (t ∷ ts) = ⊥
AllFewer (s ∷ ss) [] = ⊥
AllFewer (s ∷ ss) (t ∷ ts) = Fewer s t × AllFewer ss ts

all_self : (ss : List Seen) → AllFewer ss ss
all_self [] = tt
all_self (s ∷ ss) = (self s, all_self ss)

some_more : (ss ts : List Seen) → AllFewer ss ts → some_raise ss ≡ true → some_raise ts ≡ true
some_more [] [] all is = is
some_more [] (t ∷ ts) all is = absurd all
some_more (s ∷ ss) [] all is = absurd all
some_more (s ∷ ss) (t ∷ ts) all is = either s.raises (some_raise ss) t.raises (some_raise ts) all.0.raises (some_more ss ts all.1) is

second_zero : (op : Op) → (ss ts : List Seen) → AllFewer ss ts → may_divide_by_zero op ss ≡ true → may_divide_by_zero op ts ≡ true
second_zero Div [] ts all is = cc
second_zero Div (s ∷ []) ts all is = cc
second_zero Div (s ∷ s' ∷ ss) [] all is = absurd all
second_zero Div (s ∷ s' ∷ ss) (t ∷ []) all is = absurd all.1
second_zero Div (s ∷ s' ∷ ss) (t ∷ t' ∷ ts) all is = by_literal may_be_zero refl s' t' all.1.0 is
second_zero Mod [] ts all is = cc
second_zero Mod (s ∷ []) ts all is = cc
second_zero Mod (s ∷ s' ∷ ss) [] all is = absurd all
second_zero Mod (s ∷ s' ∷ ss) (t ∷ []) all is = absurd all.1
second_zero Mod (s ∷ s' ∷ ss) (t ∷ t' ∷ ts) all is = by_literal may_be_zero refl s' t' all.1.0 is
second_zero Add ss ts all is = cc
second_zero Sub ss ts all is = cc
second_zero Mul ss ts all is = cc
second_zero Neg ss ts all is = cc
second_zero Not ss ts all is = cc
second_zero Convert ss ts all is = cc
second_zero Eq ss ts all is = cc
second_zero Ne ss ts all is = cc
second_zero Lt ss ts all is = cc
second_zero Le ss ts all is = cc
second_zero Gt ss ts all is = cc
second_zero Ge ss ts all is = cc

module _ (core : Core) (down : CallsGoDown core) (exn : ℕ) where
  abbrev called : ℕ → Bool
  called = raises_below core (length core.funs) exn

  abbrev look : Expr → Seen
  look = seen_with core.types called exn

  abbrev level : Expr-F Seen → Seen
  level = raises_step core.types called exn

  form : (x : Expr-F Expr) (e : Expr) → roll-Expr x ≡ e → look e ≡ level (map-Expr Expr Seen look x)
  form x e is = ap look (sym is) ∙ fold-roll-Expr Seen level x

  again : (numbers : ℕ → ℕ) (e : Expr) → look (renumbered numbers e) ≡ look e
  again numbers e = renumbered_same Seen level (λ n m. refl) numbers e

  abbrev RaisesLess : ℕ → Expr → Expr → Type 0
  RaisesLess scope e d = Fewer (look d) (look e)

  at_forms : (x y : Expr-F Expr) (e d : Expr) → roll-Expr x ≡ e → roll-Expr y ≡ d → Fewer (level (map-Expr Expr Seen look y)) (level (map-Expr Expr Seen look x)) → Fewer (look d) (look e)
  at_forms x y e d one two fewer = rw (form x e one, form y d two) fewer

  all_fewer : (scope : ℕ) {es ds : List Expr} → OneChanged (RaisesLess scope) es ds → AllFewer (map look ds) (map look es)
  all_fewer scope (OneChanged.here {xs = rest} r) = (r, all_self (map look rest))
  all_fewer scope (OneChanged.there {x = e} one) = (self (look e), all_fewer scope one)

  lists : (scope : ℕ) {es ds : List Expr} → OneChanged (RaisesLess scope) es ds → some_raise (map look ds) ≡ true → some_raise (map look es) ≡ true
  lists scope {es} {ds} one = some_more (map look ds) (map look es) (all_fewer scope one)

  abbrev arm_seen : PatC × Expr → PatC × Seen
  arm_seen arm = (arm.0, look arm.1)

  arms_less : (scope : ℕ) {arms others : List (PatC × Expr)} → OneChanged (ArmChanged RaisesLess scope) arms others
      → list_any (λ (arm : PatC × Seen). arm.1.raises) (map arm_seen others) ≡ true → list_any (λ (arm : PatC × Seen). arm.1.raises) (map arm_seen arms) ≡ true
  arms_less scope (OneChanged.here r) is = either _ _ _ _ r.1.raises (λ rest. rest) is
  arms_less scope (OneChanged.there one) is = either _ _ _ _ (λ first. first) (arms_less scope one) is

  arm_pats : (scope : ℕ) {arms others : List (PatC × Expr)} → OneChanged (ArmChanged RaisesLess scope) arms others
      → map (λ (arm : PatC × Seen). arm.0) (map arm_seen others) ≡ map (λ (arm : PatC × Seen). arm.0) (map arm_seen arms)
  arm_pats scope (OneChanged.here {xs = rest} r) = ap (λ p. p ∷ map (λ (arm : PatC × Seen). arm.0) (map arm_seen rest)) (sym r.0)
  arm_pats scope (OneChanged.there {x = arm} one) = ap (λ ps. arm.0 ∷ ps) (arm_pats scope one)

  -- lets around a body

  one_more : (a b c : Bool) (rest : Bool) → (rest ≡ true → (b || c) ≡ true) → (a || rest) ≡ true → ((a || b) || c) ≡ true
  one_more true b c rest follows is = refl
  one_more false b c rest follows is = follows is

  lets_raise : (scope count : ℕ) (args : List Expr) (body : Expr) → (look (lets_around scope count args body)).raises ≡ true
      → (some_raise (map look args) || (look body).raises) ≡ true
  lets_raise scope count [] body is = is
  lets_raise scope count (arg ∷ args) body is =
      let rest = lets_around scope (count + 1) args body in
      let new = renumbered (moved_on scope count) arg in
      one_more (look arg).raises (some_raise (map look args)) (look body).raises (look rest).raises (lets_raise scope (count + 1) args body)
      (ap (λ (s : Seen). s.raises || (look rest).raises) (sym (again (moved_on scope count) arg))
      ∙ ap (λ (s : Seen). s.raises) (sym (form (Expr-F.Let new rest) (expr.Let new rest) (expr.rolls-Let new rest))) ∙ is)

  by_equations : (scope f : ℕ) (args : List Expr) (function : FunC) → slice_get core.funs f ≡ Some function → (equations : List EqC) → function.equations ≡ equations
      → Becomes (RaisesLess scope (expr.Call f args)) (only_equation equations args scope)
  by_equations scope f args function found [] only = tt
  by_equations scope f args function found (equation ∷ next ∷ equations) only = tt
  by_equations scope f args function found (equation ∷ []) only = by (takes_all equation args)
    where
      less : Fewer (look (equation_unfolded equation args scope)) (look (expr.Call f args))
      less =
          let numbers : ℕ → ℕ = numbers_from (pattern_numbers scope equation.pats) (scope + length equation.pats) in
          let old = form (Expr-F.Call f args) (expr.Call f args) (expr.rolls-Call f args) in
          record {
            literal = inl (ap (λ (s : Seen). s.literal) old);
            raises = λ is.
                ap (λ (s : Seen). s.raises) old
                ∙ either (some_raise (map look args)) (look (renumbered numbers equation.body)).raises (some_raise (map look args)) (called f) (λ first. first)
                (λ body. function_may core exn down f function equation found only (ap (λ (s : Seen). s.raises) (sym (again numbers equation.body)) ∙ body))
                (lets_raise scope 0 args (renumbered numbers equation.body) is);
          }

      by : (b : Bool) → Becomes (RaisesLess scope (expr.Call f args)) (if b then Some (equation_unfolded equation args scope) else None)
      by false = tt
      by true = less

  unfolds : (scope f : ℕ) (args : List Expr) → Becomes (RaisesLess scope (expr.Call f args)) (call_unfolded core f args scope)
  unfolds scope f args = by (slice_get core.funs f) refl
    where
      by : (o : Option FunC) → slice_get core.funs f ≡ o
          → Becomes (RaisesLess scope (expr.Call f args)) (option_and_then (λ (function : FunC). only_equation function.equations args scope) o)
      by None none = tt
      by (Some function) found = by_equations scope f args function found function.equations refl

  raising_kept : IsKept core RaisesLess
  raising_kept = record {
    unfolds = unfolds;
    con = λ scope c es ds one. at_forms (Expr-F.Con c es) (Expr-F.Con c ds) _ _ (expr.rolls-Con c es) (expr.rolls-Con c ds) (fewer_seen _ _ (lists scope one));
    tuple = λ scope es ds one. at_forms (Expr-F.Tuple es) (Expr-F.Tuple ds) _ _ (expr.rolls-Tuple es) (expr.rolls-Tuple ds) (fewer_seen _ _ (lists scope one));
    vector = λ scope es ds one. at_forms (Expr-F.Vect es) (Expr-F.Vect ds) _ _ (expr.rolls-Vect es) (expr.rolls-Vect ds) (fewer_seen _ _ (lists scope one));
    prim = λ scope op ty es ds one.
        at_forms (Expr-F.Prim op ty es) (Expr-F.Prim op ty ds) _ _ (expr.rolls-Prim op ty es) (expr.rolls-Prim op ty ds)
        (fewer_seen _ _
        (either (some_raise (map look ds)) ((exn == DIV_ZERO) && may_divide_by_zero op (map look ds)) (some_raise (map look es)) ((exn == DIV_ZERO) && may_divide_by_zero op (map look es))
        (lists scope one) (and_then (exn == DIV_ZERO) _ _ (second_zero op (map look ds) (map look es) (all_fewer scope one)))));
    call = λ scope f es ds one.
        at_forms (Expr-F.Call f es) (Expr-F.Call f ds) _ _ (expr.rolls-Call f es) (expr.rolls-Call f ds)
        (fewer_seen _ _ (either (some_raise (map look ds)) (called f) (some_raise (map look es)) (called f) (lists scope one) (λ is. is)));
    index = λ scope n v k v' k' one.
        let all = all_fewer scope one in
        at_forms (Expr-F.Index n v k) (Expr-F.Index n v' k') _ _ (expr.rolls-Index n v k) (expr.rolls-Index n v' k')
        (fewer_seen _ _
        (either (look v').raises ((look k').raises || ((exn == RANGE) && may_be_outside n (look k').literal)) (look v).raises ((look k).raises || ((exn == RANGE) && may_be_outside n (look k).literal)) all.0.raises
        (either (look k').raises ((exn == RANGE) && may_be_outside n (look k').literal) (look k).raises ((exn == RANGE) && may_be_outside n (look k).literal) all.1.0.raises
        (and_then (exn == RANGE) _ _ (by_literal (may_be_outside n) refl (look k') (look k) all.1.0)))));
    update = λ scope n v k e v' k' e' one.
        let all = all_fewer scope one in
        at_forms (Expr-F.Update n v k e) (Expr-F.Update n v' k' e') _ _ (expr.rolls-Update n v k e) (expr.rolls-Update n v' k' e')
        (fewer_seen _ _
        (either (look v').raises ((look k').raises || ((look e').raises || ((exn == RANGE) && may_be_outside n (look k').literal)))
        (look v).raises ((look k).raises || ((look e).raises || ((exn == RANGE) && may_be_outside n (look k).literal))) all.0.raises
        (either (look k').raises ((look e').raises || ((exn == RANGE) && may_be_outside n (look k').literal))
        (look k).raises ((look e).raises || ((exn == RANGE) && may_be_outside n (look k).literal)) all.1.0.raises
        (either (look e').raises ((exn == RANGE) && may_be_outside n (look k').literal) (look e).raises ((exn == RANGE) && may_be_outside n (look k).literal) all.1.1.0.raises
        (and_then (exn == RANGE) _ _ (by_literal (may_be_outside n) refl (look k') (look k) all.1.0))))));
    choice = λ scope t a b t' a' b' one.
        let all = all_fewer scope one in
        at_forms (Expr-F.If t a b) (Expr-F.If t' a' b') _ _ (expr.rolls-If t a b) (expr.rolls-If t' a' b')
        (fewer_seen _ _
        (either (look t').raises ((look a').raises || (look b').raises) (look t).raises ((look a).raises || (look b).raises) all.0.raises
        (either (look a').raises (look b').raises (look a).raises (look b).raises all.1.0.raises all.1.1.0.raises)));
    of_case = λ scope e d forms arms r.
        at_forms (Expr-F.Case e forms arms) (Expr-F.Case d forms arms) _ _ (expr.rolls-Case e forms arms) (expr.rolls-Case d forms arms)
        (fewer_seen _ _ (either (look d).raises _ (look e).raises _ r.raises (λ is. is)));
    arm = λ scope e forms arms others one.
        at_forms (Expr-F.Case e forms arms) (Expr-F.Case e forms others) _ _ (expr.rolls-Case e forms arms) (expr.rolls-Case e forms others)
        (fewer_seen _ _
        (either (look e).raises _ (look e).raises _ (λ is. is)
        (either _ ((exn == NO_CASE) && not (are_complete core.types forms (map (λ (arm : PatC × Seen). arm.0) (map arm_seen others))))
        _ ((exn == NO_CASE) && not (are_complete core.types forms (map (λ (arm : PatC × Seen). arm.0) (map arm_seen arms)))) (arms_less scope one)
        (λ is. ap (λ ps. (exn == NO_CASE) && not (are_complete core.types forms ps)) (sym (arm_pats scope one)) ∙ is))));
    of_let = λ scope e d body r.
        at_forms (Expr-F.Let e body) (Expr-F.Let d body) _ _ (expr.rolls-Let e body) (expr.rolls-Let d body)
        (fewer_seen _ _ (either (look d).raises (look body).raises (look e).raises (look body).raises r.raises (λ is. is)));
    body = λ scope e body other r.
        at_forms (Expr-F.Let e body) (Expr-F.Let e other) _ _ (expr.rolls-Let e body) (expr.rolls-Let e other)
        (fewer_seen _ _ (either (look e).raises (look other).raises (look e).raises (look body).raises (λ is. is) r.raises));
    raise = λ scope x e d r.
        at_forms (Expr-F.Raise x (Some e)) (Expr-F.Raise x (Some d)) _ _ (expr.rolls-Raise x (Some e)) (expr.rolls-Raise x (Some d))
        (fewer_seen _ _ (either (look d).raises (x == exn) (look e).raises (x == exn) r.raises (λ is. is)));
  }

  -- results

  abbrev may : Expr → Bool
  may e = (look e).raises

  abbrev ResultLess : ℕ → Res → Res → Type 0
  ResultLess scope r s = result_may_raise core exn s ≡ true → result_may_raise core exn r ≡ true

  abbrev result_level : Res-F Bool → Bool
  result_level = result_raises_step core.types (may_raise core exn) exn

  result_form : (x : Res-F Res) (r : Res) → roll-Res x ≡ r → result_may_raise core exn r ≡ result_level (map-Res Res Bool (result_may_raise core exn) x)
  result_form x r is = ap (result_may_raise core exn) (sym is) ∙ fold-roll-Res Bool result_level x

  at_results : (scope : ℕ) (x y : Res-F Res) (r s : Res) → roll-Res x ≡ r → roll-Res y ≡ s
      → (result_level (map-Res Res Bool (result_may_raise core exn) y) ≡ true → result_level (map-Res Res Bool (result_may_raise core exn) x) ≡ true) → ResultLess scope r s
  at_results scope x y r s one two follows is = result_form x r one ∙ follows (sym (result_form y s two) ∙ is)

  outs_less : (scope : ℕ) {outs others : List (Option Expr)} → OneChanged (OutChanged RaisesLess scope) outs others
      → list_any (raises_if_there (may_raise core exn)) others ≡ true → list_any (raises_if_there (may_raise core exn)) outs ≡ true
  outs_less scope (OneChanged.here {x = None} r) is = absurd r
  outs_less scope (OneChanged.here {x = Some e} {y = None} r) is = absurd r
  outs_less scope (OneChanged.here {x = Some e} {y = Some d} r) is = either (may d) _ (may e) _ r.raises (λ rest. rest) is
  outs_less scope (OneChanged.there one) is = either _ _ _ _ (λ first. first) (outs_less scope one) is

  abbrev way_raises : PatC × Res → PatC × Bool
  way_raises arm = (arm.0, result_may_raise core exn arm.1)

  ways_less : (scope : ℕ) {arms others : List (PatC × Res)} → OneChanged (ArmChanged ResultLess scope) arms others
      → list_any (λ (arm : PatC × Bool). arm.1) (map way_raises others) ≡ true → list_any (λ (arm : PatC × Bool). arm.1) (map way_raises arms) ≡ true
  ways_less scope (OneChanged.here r) is = either _ _ _ _ r.1 (λ rest. rest) is
  ways_less scope (OneChanged.there one) is = either _ _ _ _ (λ first. first) (ways_less scope one) is

  way_pats : (scope : ℕ) {arms others : List (PatC × Res)} → OneChanged (ArmChanged ResultLess scope) arms others
      → map (λ (arm : PatC × Bool). arm.0) (map way_raises others) ≡ map (λ (arm : PatC × Bool). arm.0) (map way_raises arms)
  way_pats scope (OneChanged.here {xs = rest} r) = ap (λ p. p ∷ map (λ (arm : PatC × Bool). arm.0) (map way_raises rest)) (sym r.0)
  way_pats scope (OneChanged.there {x = arm} one) = ap (λ ps. arm.0 ∷ ps) (way_pats scope one)

  results_kept : IsResultKept RaisesLess ResultLess
  results_kept = record {
    outs = λ scope outs others one. at_results scope (Res-F.Outs outs) (Res-F.Outs others) _ _ (res.rolls-Outs outs) (res.rolls-Outs others) (outs_less scope one);
    test = λ scope e d a b r.
        at_results scope (Res-F.If e a b) (Res-F.If d a b) _ _ (res.rolls-If e a b) (res.rolls-If d a b) (either (may d) _ (may e) _ r.raises (λ is. is));
    when_true = λ scope e a b other r.
        at_results scope (Res-F.If e a b) (Res-F.If e other b) _ _ (res.rolls-If e a b) (res.rolls-If e other b)
        (either (may e) _ (may e) _ (λ is. is) (either _ _ _ _ r (λ is. is)));
    when_false = λ scope e a b other r.
        at_results scope (Res-F.If e a b) (Res-F.If e a other) _ _ (res.rolls-If e a b) (res.rolls-If e a other)
        (either (may e) _ (may e) _ (λ is. is) (either _ _ _ _ (λ is. is) r));
    of_case = λ scope e d forms arms r.
        at_results scope (Res-F.Case e forms arms) (Res-F.Case d forms arms) _ _ (res.rolls-Case e forms arms) (res.rolls-Case d forms arms) (either (may d) _ (may e) _ r.raises (λ is. is));
    arm = λ scope e forms arms others one.
        at_results scope (Res-F.Case e forms arms) (Res-F.Case e forms others) _ _ (res.rolls-Case e forms arms) (res.rolls-Case e forms others)
        (either (may e) _ (may e) _ (λ is. is)
        (either _ ((exn == NO_CASE) && not (are_complete core.types forms (map (λ (arm : PatC × Bool). arm.0) (map way_raises others))))
        _ ((exn == NO_CASE) && not (are_complete core.types forms (map (λ (arm : PatC × Bool). arm.0) (map way_raises arms)))) (ways_less scope one)
        (λ is. ap (λ ps. (exn == NO_CASE) && not (are_complete core.types forms ps)) (sym (way_pats scope one)) ∙ is)));
    of_let = λ scope e d body r.
        at_results scope (Res-F.Let e body) (Res-F.Let d body) _ _ (res.rolls-Let e body) (res.rolls-Let d body) (either (may d) _ (may e) _ r.raises (λ is. is));
    body = λ scope e body other r.
        at_results scope (Res-F.Let e body) (Res-F.Let e other) _ _ (res.rolls-Let e body) (res.rolls-Let e other) (either (may e) _ (may e) _ (λ is. is) r);
    raise = λ scope x e d r.
        at_results scope (Res-F.Raise x (Some e)) (Res-F.Raise x (Some d)) _ _ (res.rolls-Raise x (Some e)) (res.rolls-Raise x (Some d))
        (either (may d) (x == exn) (may e) (x == exn) r.raises (λ is. is));
  }

  -- what the result with the unfolded call may raise, the old one might
  pub unfolded_raises : (r : Res) (scope : ℕ) → Becomes (λ new. result_may_raise core exn new ≡ true → result_may_raise core exn r ≡ true) (result_unfolded core scope r)
  unfolded_raises r scope = result_holds core RaisesLess raising_kept ResultLess results_kept r scope
