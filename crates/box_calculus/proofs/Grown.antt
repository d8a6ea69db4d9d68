-- A result in which a call is unfolded has at most the parts and levels that it had, and those that a function adds.
use Rattle.std.proofs.Common.{◌≡◌, ℕ, zero, suc, ◌+◌, ◌≤◌, ◌==◌, max, Bool, true, false, List, [], ◌∷◌, map, length, Option, Some, None, slice_get, refl, ap, sym, ◌∙◌, arith, if◌then◌else◌}
use Rattle.std.specs.List.{list_all, sum}
use Rattle.std.specs.Option.{option_and_then}
use Rattle.std.proofs.lemmas.Bool.{and_parts, eqb-true}
use Rattle.std.proofs.lemmas.List.Sums.{sum_by-cons}
use Rattle.hume_base.specs.Sizes.{greatest}
use Rattle.hume_model.specs.declared.core_tree.PatC.{PatC, out-PatC}
use Rattle.hume_model.specs.declared.core_tree.Expr.{Expr, map-Expr, roll-Expr}
use Rattle.hume_model.specs.declared.core_tree.Expr.TheOpen.{Expr-F}
use Rattle.hume_model.specs.declared.core_tree.Expr.TheVariants as expr
use Rattle.hume_model.specs.declared.core_tree.Res.{Res, map-Res, roll-Res}
use Rattle.hume_model.specs.declared.core_tree.Res.TheOpen.{Res-F}
use Rattle.hume_model.specs.declared.core_tree.Res.TheVariants as res
use Rattle.hume_model.specs.declared.core_tree.EqC.{EqC}
use Rattle.hume_model.specs.declared.core_tree.FunC.{FunC}
use Rattle.hume_model.specs.declared.core_tree.Core.{Core}
use Rattle.calculus_laws.specs.Depth.{deepest_arm, deepest_in_result, deepest_part, depth_step, expression_depth, out_depth, result_depth}
use Rattle.calculus_laws.specs.Parts.{expression_parts, out_parts, parts_in_arms, parts_inside, parts_inside_result, parts_step, result_parts}
use Rattle.calculus_laws.specs.Unfolding.{call_unfolded, equation_unfolded, lets_around, moved_on, numbers_from, only_equation, pattern_numbers, renumbered, takes_all, takes_any}
use Rattle.calculus_laws.proofs.RenumberedFolds.{renumbered_same}
use Rattle.calculus_laws.proofs.UnfoldedResults.{IsResultKept, OutChanged, result_holds}
use Rattle.calculus_laws.proofs.Unfolds.{ArmChanged, Becomes, IsKept, OneChanged}
use Rattle.calculus_unfolding.specs.inner.Changes.{result_changed}
use Rattle.box_calculus.specs.declared.sizes.Size.{Size}
use Rattle.box_calculus.specs.inner.Sizes.{AddWithin, added_depth, added_parts, most_depth, most_parts}
use Rattle.box_calculus.proofs.DepthSteps as deep
use Rattle.box_calculus.proofs.PartForms as many

sum_more : (n : ℕ) (ns : List ℕ) → sum (n ∷ ns) ≡ n + sum ns
sum_more n ns = sum_by-cons (λ x. x) n ns

-- an element is at most the greatest one
at_most : {X : Type 0} (f : X → ℕ) (xs : List X) (n : ℕ) (x : X) → slice_get xs n ≡ Some x → f x ≤ greatest (map f xs)
at_most f [] n x found = cc
at_most f (y ∷ ys) zero x found = (let same : y ≡ x = cc in let e = ap f same in omega (arith, e))
at_most f (y ∷ ys) (suc n) x found = (let rest = at_most f ys n x found in omega (arith, rest))

module _ (more : Size) where
  -- from parts and levels to others, which are at most so many more
  pub record Grows (old_parts old_depth new_parts new_depth : ℕ) : Type 0 where
    pub parts : new_parts ≤ old_parts + more.parts
    pub depth : new_depth ≤ old_depth + more.depth

  abbrev pub Grown : ℕ → Expr → Expr → Type 0
  Grown scope e d = Grows (expression_parts e) (expression_depth e) (expression_parts d) (expression_depth d)

  abbrev pub ResultGrown : ℕ → Res → Res → Type 0
  ResultGrown scope r s = Grows (result_parts r) (result_depth r) (result_parts s) (result_depth s)

  -- one part grows, and all around it with it
  around : (p d p' d' x y a b a' b' : ℕ) → Grows p d p' d' → a ≡ 1 + (p + x) → a' ≡ 1 + (p' + x) → b ≡ 1 + max d y → b' ≡ 1 + max d' y → Grows a b a' b'
  around p d p' d' x y a b a' b' g one two three four =
      let gp = g.parts in
      let gd = g.depth in
      record { parts = omega (arith, gp, one, two); depth = omega (arith, gd, three, four) }

  after : (p d p' d' x y a b a' b' : ℕ) → Grows p d p' d' → a ≡ 1 + (x + p) → a' ≡ 1 + (x + p') → b ≡ 1 + max y d → b' ≡ 1 + max y d' → Grows a b a' b'
  after p d p' d' x y a b a' b' g one two three four =
      let gp = g.parts in
      let gd = g.depth in
      record { parts = omega (arith, gp, one, two); depth = omega (arith, gd, three, four) }

  inside : (p d p' d' a b a' b' : ℕ) → Grows p d p' d' → a ≡ 1 + p → a' ≡ 1 + p' → b ≡ 1 + d → b' ≡ 1 + d' → Grows a b a' b'
  inside p d p' d' a b a' b' g one two three four =
      let gp = g.parts in
      let gd = g.depth in
      record { parts = omega (arith, gp, one, two); depth = omega (arith, gd, three, four) }

  -- one of several parts grows
  several : (scope : ℕ) {es ds : List Expr} → OneChanged (Grown scope) es ds
      → Grows (sum (map expression_parts es)) (greatest (map expression_depth es)) (sum (map expression_parts ds)) (greatest (map expression_depth ds))
  several scope (OneChanged.here {x = e} {y = d} {xs = es} g) =
      let old = sum_more (expression_parts e) (map expression_parts es) in
      let new = sum_more (expression_parts d) (map expression_parts es) in
      let gp = g.parts in
      let gd = g.depth in
      record { parts = omega (arith, gp, old, new); depth = omega (arith, gd) }
  several scope (OneChanged.there {x = e} {xs = es} {ys = ds} one) =
      let rest = several scope one in
      let old = sum_more (expression_parts e) (map expression_parts es) in
      let new = sum_more (expression_parts e) (map expression_parts ds) in
      let gp = rest.parts in
      let gd = rest.depth in
      record { parts = omega (arith, gp, old, new); depth = omega (arith, gd) }

  of_two : (p d q b p' d' q' b' : ℕ) → Grows (sum (p ∷ q ∷ [])) (greatest (d ∷ b ∷ [])) (sum (p' ∷ q' ∷ [])) (greatest (d' ∷ b' ∷ []))
      → Grows (1 + (p + q)) (1 + max d b) (1 + (p' + q')) (1 + max d' b')
  of_two p d q b p' d' q' b' g =
      let gp = g.parts in
      let gd : max d' (max b' 0) ≤ max d (max b 0) + more.depth = g.depth in
      let one = sum_more p (q ∷ []) in
      let two = sum_more q [] in
      let three = sum_more p' (q' ∷ []) in
      let four = sum_more q' [] in
      record { parts = omega (arith, gp, one, two, three, four); depth = omega (arith, gd) }

  of_three : (p d q b r c p' d' q' b' r' c' : ℕ)
      → Grows (sum (p ∷ q ∷ r ∷ [])) (greatest (d ∷ b ∷ c ∷ [])) (sum (p' ∷ q' ∷ r' ∷ [])) (greatest (d' ∷ b' ∷ c' ∷ []))
      → Grows (1 + (p + (q + r))) (1 + max d (max b c)) (1 + (p' + (q' + r'))) (1 + max d' (max b' c'))
  of_three p d q b r c p' d' q' b' r' c' g =
      let gp = g.parts in
      let gd : max d' (max b' (max c' 0)) ≤ max d (max b (max c 0)) + more.depth = g.depth in
      let one = sum_more p (q ∷ r ∷ []) in
      let two = sum_more q (r ∷ []) in
      let three = sum_more r [] in
      let four = sum_more p' (q' ∷ r' ∷ []) in
      let five = sum_more q' (r' ∷ []) in
      let six = sum_more r' [] in
      record { parts = omega (arith, gp, one, two, three, four, five, six); depth = omega (arith, gd) }

  -- one of several alternatives grows
  alternatives : {X : Type 0} (parts depth : X → ℕ) (scope : ℕ) {arms others : List (PatC × X)}
      → OneChanged (ArmChanged (λ _ x y. Grows (parts x) (depth x) (parts y) (depth y)) scope) arms others
      → Grows (parts_in_arms (map (λ (arm : PatC × X). (arm.0, parts arm.1)) arms)) (deepest_arm (map (λ (arm : PatC × X). (arm.0, depth arm.1)) arms))
      (parts_in_arms (map (λ (arm : PatC × X). (arm.0, parts arm.1)) others)) (deepest_arm (map (λ (arm : PatC × X). (arm.0, depth arm.1)) others))
  alternatives {X} parts depth scope (OneChanged.here {x = arm} {y = other} {xs = rest} g) =
      let left = map (λ (arm : PatC × ℕ). arm.1) (map (λ (arm : PatC × X). (arm.0, parts arm.1)) rest) in
      let old = sum_more (parts arm.1) left in
      let new = sum_more (parts other.1) left in
      let gp = g.1.parts in
      let gd = g.1.depth in
      record { parts = omega (arith, gp, old, new); depth = omega (arith, gd) }
  alternatives {X} parts depth scope (OneChanged.there {x = arm} {xs = before} {ys = after} one) =
      let rest = alternatives parts depth scope one in
      let old = sum_more (parts arm.1) (map (λ (arm : PatC × ℕ). arm.1) (map (λ (arm : PatC × X). (arm.0, parts arm.1)) before)) in
      let new = sum_more (parts arm.1) (map (λ (arm : PatC × ℕ). arm.1) (map (λ (arm : PatC × X). (arm.0, parts arm.1)) after)) in
      let gp = rest.parts in
      let gd = rest.depth in
      record { parts = omega (arith, gp, old, new); depth = omega (arith, gd) }

  -- one of several outputs grows
  outputs : (scope : ℕ) {outs others : List (Option Expr)} → OneChanged (OutChanged Grown scope) outs others
      → Grows (sum (map out_parts outs)) (greatest (map out_depth outs)) (sum (map out_parts others)) (greatest (map out_depth others))
  outputs scope (OneChanged.here {x = None} g) = absurd g
  outputs scope (OneChanged.here {x = Some e} {y = None} g) = absurd g
  outputs scope (OneChanged.here {x = Some e} {y = Some d} {xs = outs} g) =
      let old = sum_more (expression_parts e) (map out_parts outs) in
      let new = sum_more (expression_parts d) (map out_parts outs) in
      let gp = g.parts in
      let gd = g.depth in
      record { parts = omega (arith, gp, old, new); depth = omega (arith, gd) }
  outputs scope (OneChanged.there {x = out} {xs = outs} {ys = others} one) =
      let rest = outputs scope one in
      let old = sum_more (out_parts out) (map out_parts outs) in
      let new = sum_more (out_parts out) (map out_parts others) in
      let gp = rest.parts in
      let gd = rest.depth in
      record { parts = omega (arith, gp, old, new); depth = omega (arith, gd) }

-- other numbers for variables change neither

same_parts : (numbers : ℕ → ℕ) (e : Expr) → expression_parts (renumbered numbers e) ≡ expression_parts e
same_parts numbers e = renumbered_same ℕ parts_step (λ n m. refl) numbers e

same_depth : (numbers : ℕ → ℕ) (e : Expr) → expression_depth (renumbered numbers e) ≡ expression_depth e
same_depth numbers e = renumbered_same ℕ depth_step (λ n m. refl) numbers e

-- lets around a body
record AreLets (args : List Expr) (whole body : Expr) : Type 0 where
  parts : expression_parts whole ≡ length args + (sum (map expression_parts args) + expression_parts body)
  depth : expression_depth whole ≤ length args + max (greatest (map expression_depth args)) (expression_depth body)

lets_are : (scope count : ℕ) (args : List Expr) (body : Expr) → AreLets args (lets_around scope count args body) body
lets_are scope count [] body = record { parts = omega arith; depth = omega arith }
lets_are scope count (arg ∷ args) body =
    let rest = lets_around scope (count + 1) args body in
    let new = renumbered (moved_on scope count) arg in
    let later = lets_are scope (count + 1) args body in
    let lp = later.parts in
    let ld = later.depth in
    let np = same_parts (moved_on scope count) arg in
    let nd = same_depth (moved_on scope count) arg in
    let total = sum_more (expression_parts arg) (map expression_parts args) in
    let parts : expression_parts (expr.Let new rest) ≡ 1 + (expression_parts new + expression_parts rest) =
    many.form _ (Expr-F.Let new rest) (expr.rolls-Let new rest) in
    let depth : expression_depth (expr.Let new rest) ≡ 1 + max (expression_depth new) (expression_depth rest) =
    deep.depth_form _ (Expr-F.Let new rest) (expr.rolls-Let new rest) in
    record { parts = omega (arith, lp, np, total, parts); depth = omega (arith, ld, nd, depth) }

module _ (core : Core) (more : Size) (most : AddWithin more core.funs) where
  called_grows : (scope f : ℕ) (args : List Expr) (function : FunC) → slice_get core.funs f ≡ Some function → (equations : List EqC)
      → function.equations ≡ equations
      → Becomes (Grown more scope (expr.Call f args)) (only_equation equations args scope)
  called_grows scope f args function found [] only = tt
  called_grows scope f args function found (equation ∷ next ∷ equations) only = tt
  called_grows scope f args function found (equation ∷ []) only = by (takes_all equation args) refl
    where
      grows : takes_all equation args ≡ true → Grown more scope (expr.Call f args) (equation_unfolded equation args scope)
      grows all =
          let numbers : ℕ → ℕ = numbers_from (pattern_numbers scope equation.pats) (scope + length equation.pats) in
          let both = and_parts (list_all (λ pat. takes_any (out-PatC pat)) equation.pats) (length args == length equation.pats) all in
          let count = eqb-true (length args) (length equation.pats) both.1 in
          let new = lets_are scope 0 args (renumbered numbers equation.body) in
          let np = new.parts in
          let nd = new.depth in
          let bp = same_parts numbers equation.body in
          let bd = same_depth numbers equation.body in
          let old = many.call_parts f args in
          let old_depth : expression_depth (expr.Call f args) ≡ 1 + greatest (map expression_depth args) =
          deep.depth_form _ (Expr-F.Call f args) (expr.rolls-Call f args) in
          let fp = at_most most_parts core.funs f function found in
          let fd = at_most most_depth core.funs f function found in
          let ep : max (added_parts equation) 0 ≡ most_parts function = ap (λ es. greatest (map added_parts es)) (sym only) in
          let ed : max (added_depth equation) 0 ≡ most_depth function = ap (λ es. greatest (map added_depth es)) (sym only) in
          let mp = most.parts in
          let md = most.depth in
          record { parts = omega (arith, count, np, bp, old, fp, ep, mp); depth = omega (arith, count, nd, bd, old_depth, fd, ed, md) }

      by : (b : Bool) → takes_all equation args ≡ b
          → Becomes (Grown more scope (expr.Call f args)) (if b then Some (equation_unfolded equation args scope) else None)
      by false none = tt
      by true all = grows all

  call_grows : (scope f : ℕ) (args : List Expr) → Becomes (Grown more scope (expr.Call f args)) (call_unfolded core f args scope)
  call_grows scope f args = by (slice_get core.funs f) refl
    where
      by : (o : Option FunC) → slice_get core.funs f ≡ o
          → Becomes (Grown more scope (expr.Call f args)) (option_and_then (λ (function : FunC). only_equation function.equations args scope) o)
      by None none = tt
      by (Some function) found = called_grows scope f args function found function.equations refl

  list_grows : (scope : ℕ) (e d : Expr) (es ds : List Expr) (x y : Expr-F Expr) → roll-Expr x ≡ e → roll-Expr y ≡ d
      → parts_inside (map-Expr Expr ℕ expression_parts x) ≡ sum (map expression_parts es)
      → parts_inside (map-Expr Expr ℕ expression_parts y) ≡ sum (map expression_parts ds)
      → deepest_part (map-Expr Expr ℕ expression_depth x) ≡ greatest (map expression_depth es)
      → deepest_part (map-Expr Expr ℕ expression_depth y) ≡ greatest (map expression_depth ds)
      → OneChanged (Grown more scope) es ds → Grown more scope e d
  list_grows scope e d es ds x y ex dy p q r s one =
      inside more _ _ _ _ _ _ _ _ (several more scope one) (many.form e x ex ∙ ap (λ n. 1 + n) p) (many.form d y dy ∙ ap (λ n. 1 + n) q)
      (deep.depth_form e x ex ∙ ap (λ n. 1 + n) r) (deep.depth_form d y dy ∙ ap (λ n. 1 + n) s)

  forms_grow : (scope : ℕ) (e d : Expr) (x y : Expr-F Expr) → roll-Expr x ≡ e → roll-Expr y ≡ d
      → Grows more (1 + parts_inside (map-Expr Expr ℕ expression_parts x)) (1 + deepest_part (map-Expr Expr ℕ expression_depth x))
      (1 + parts_inside (map-Expr Expr ℕ expression_parts y)) (1 + deepest_part (map-Expr Expr ℕ expression_depth y))
      → Grown more scope e d
  forms_grow scope e d x y ex dy g =
      rw (many.form e x ex, many.form d y dy, deep.depth_form e x ex, deep.depth_form d y dy) g

  expressions_grow : IsKept core (Grown more)
  expressions_grow = record {
    unfolds = call_grows;
    con = λ scope c es ds one.
        list_grows scope _ _ es ds (Expr-F.Con c es) (Expr-F.Con c ds) (expr.rolls-Con c es) (expr.rolls-Con c ds) refl refl refl refl one;
    tuple = λ scope es ds one.
        list_grows scope _ _ es ds (Expr-F.Tuple es) (Expr-F.Tuple ds) (expr.rolls-Tuple es) (expr.rolls-Tuple ds) refl refl refl refl one;
    vector = λ scope es ds one. list_grows scope _ _ es ds (Expr-F.Vect es) (Expr-F.Vect ds) (expr.rolls-Vect es) (expr.rolls-Vect ds) refl refl refl refl one;
    prim = λ scope op ty es ds one.
        list_grows scope _ _ es ds (Expr-F.Prim op ty es) (Expr-F.Prim op ty ds) (expr.rolls-Prim op ty es) (expr.rolls-Prim op ty ds) refl refl refl refl one;
    call = λ scope f es ds one.
        list_grows scope _ _ es ds (Expr-F.Call f es) (Expr-F.Call f ds) (expr.rolls-Call f es) (expr.rolls-Call f ds) refl refl refl refl one;
    index = λ scope n v k v' k' one.
        forms_grow scope _ _ (Expr-F.Index n v k) (Expr-F.Index n v' k') (expr.rolls-Index n v k) (expr.rolls-Index n v' k')
        (of_two more _ _ _ _ _ _ _ _ (several more scope {es = v ∷ k ∷ []} {ds = v' ∷ k' ∷ []} one));
    update = λ scope n v k e v' k' e' one.
        forms_grow scope _ _ (Expr-F.Update n v k e) (Expr-F.Update n v' k' e') (expr.rolls-Update n v k e) (expr.rolls-Update n v' k' e')
        (of_three more _ _ _ _ _ _ _ _ _ _ _ _ (several more scope {es = v ∷ k ∷ e ∷ []} {ds = v' ∷ k' ∷ e' ∷ []} one));
    choice = λ scope t a b t' a' b' one.
        forms_grow scope _ _ (Expr-F.If t a b) (Expr-F.If t' a' b') (expr.rolls-If t a b) (expr.rolls-If t' a' b')
        (of_three more _ _ _ _ _ _ _ _ _ _ _ _ (several more scope {es = t ∷ a ∷ b ∷ []} {ds = t' ∷ a' ∷ b' ∷ []} one));
    of_case = λ scope e d forms arms g.
        forms_grow scope _ _ (Expr-F.Case e forms arms) (Expr-F.Case d forms arms) (expr.rolls-Case e forms arms) (expr.rolls-Case d forms arms)
        (around more _ _ _ _ _ _ _ _ _ _ g refl refl refl refl);
    arm = λ scope e forms arms others one.
        forms_grow scope _ _ (Expr-F.Case e forms arms) (Expr-F.Case e forms others) (expr.rolls-Case e forms arms) (expr.rolls-Case e forms others)
        (after more _ _ _ _ _ _ _ _ _ _ (alternatives more expression_parts expression_depth scope one) refl refl refl refl);
    of_let = λ scope e d body g.
        forms_grow scope _ _ (Expr-F.Let e body) (Expr-F.Let d body) (expr.rolls-Let e body) (expr.rolls-Let d body)
        (around more _ _ _ _ _ _ _ _ _ _ g refl refl refl refl);
    body = λ scope e body other g.
        forms_grow scope _ _ (Expr-F.Let e body) (Expr-F.Let e other) (expr.rolls-Let e body) (expr.rolls-Let e other)
        (after more _ _ _ _ _ _ _ _ _ _ g refl refl refl refl);
    raise = λ scope x e d g.
        forms_grow scope _ _ (Expr-F.Raise x (Some e)) (Expr-F.Raise x (Some d)) (expr.rolls-Raise x (Some e)) (expr.rolls-Raise x (Some d))
        (inside more _ _ _ _ _ _ _ _ g refl refl refl refl);
  }

  results_are : (scope : ℕ) (r s : Res) (x y : Res-F Res) → roll-Res x ≡ r → roll-Res y ≡ s
      → Grows more (1 + parts_inside_result (map-Res Res ℕ result_parts x)) (1 + deepest_in_result (map-Res Res ℕ result_depth x))
      (1 + parts_inside_result (map-Res Res ℕ result_parts y)) (1 + deepest_in_result (map-Res Res ℕ result_depth y))
      → ResultGrown more scope r s
  results_are scope r s x y rx sy g =
      rw (many.result_form r x rx, many.result_form s y sy, deep.result_form r x rx, deep.result_form s y sy) g

  -- the second of three parts grows
  middle : (p d p' d' v w x y : ℕ) → Grows more p d p' d' → Grows more (1 + (v + (p + x))) (1 + max w (max d y)) (1 + (v + (p' + x))) (1 + max w (max d' y))
  middle p d p' d' v w x y g =
      let gp = g.parts in
      let gd = g.depth in
      record { parts = omega (arith, gp); depth = omega (arith, gd) }

  last : (p d p' d' v w x y : ℕ) → Grows more p d p' d' → Grows more (1 + (v + (x + p))) (1 + max w (max y d)) (1 + (v + (x + p'))) (1 + max w (max y d'))
  last p d p' d' v w x y g =
      let gp = g.parts in
      let gd = g.depth in
      record { parts = omega (arith, gp); depth = omega (arith, gd) }

  results_grow : IsResultKept (Grown more) (ResultGrown more)
  results_grow = record {
    outs = λ scope outs others one.
        results_are scope _ _ (Res-F.Outs outs) (Res-F.Outs others) (res.rolls-Outs outs) (res.rolls-Outs others)
        (inside more _ _ _ _ _ _ _ _ (outputs more scope one) refl refl refl refl);
    test = λ scope e d a b g.
        results_are scope _ _ (Res-F.If e a b) (Res-F.If d a b) (res.rolls-If e a b) (res.rolls-If d a b)
        (around more _ _ _ _ _ _ _ _ _ _ g refl refl refl refl);
    when_true = λ scope e a b other g.
        results_are scope _ _ (Res-F.If e a b) (Res-F.If e other b) (res.rolls-If e a b) (res.rolls-If e other b) (middle _ _ _ _ _ _ _ _ g);
    when_false = λ scope e a b other g.
        results_are scope _ _ (Res-F.If e a b) (Res-F.If e a other) (res.rolls-If e a b) (res.rolls-If e a other) (last _ _ _ _ _ _ _ _ g);
    of_case = λ scope e d forms arms g.
        results_are scope _ _ (Res-F.Case e forms arms) (Res-F.Case d forms arms) (res.rolls-Case e forms arms) (res.rolls-Case d forms arms)
        (around more _ _ _ _ _ _ _ _ _ _ g refl refl refl refl);
    arm = λ scope e forms arms others one.
        results_are scope _ _ (Res-F.Case e forms arms) (Res-F.Case e forms others) (res.rolls-Case e forms arms) (res.rolls-Case e forms others)
        (after more _ _ _ _ _ _ _ _ _ _ (alternatives more result_parts result_depth scope one) refl refl refl refl);
    of_let = λ scope e d body g.
        results_are scope _ _ (Res-F.Let e body) (Res-F.Let d body) (res.rolls-Let e body) (res.rolls-Let d body)
        (around more _ _ _ _ _ _ _ _ _ _ g refl refl refl refl);
    body = λ scope e body other g.
        results_are scope _ _ (Res-F.Let e body) (Res-F.Let e other) (res.rolls-Let e body) (res.rolls-Let e other)
        (after more _ _ _ _ _ _ _ _ _ _ g refl refl refl refl);
    raise = λ scope x e d g.
        results_are scope _ _ (Res-F.Raise x (Some e)) (Res-F.Raise x (Some d)) (res.rolls-Raise x (Some e)) (res.rolls-Raise x (Some d))
        (inside more _ _ _ _ _ _ _ _ g refl refl refl refl);
  }

  pub result_grows : (r : Res) (scope : ℕ) → Becomes (ResultGrown more scope r) (result_changed core scope r)
  result_grows r scope = result_holds core (Grown more) expressions_grow (ResultGrown more) results_grow r scope
