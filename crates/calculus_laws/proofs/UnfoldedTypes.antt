-- An expression with an unfolded call has the type that it had.
use Rattle.std.proofs.Common.{◌≡◌, ℕ, suc, ◌+◌, Bool, true, false, List, [], ◌∷◌, ◌++◌, map, length, sum, Option, Some, None, slice_get, refl, ap, sym, ◌∙◌, subst, arith, append_assoc, if◌then◌else◌}
use Rattle.std.specs.Option.{option_and_then}
use Rattle.std.proofs.lemmas.Bool.{and_parts}
use Rattle.std.proofs.lemmas.List.{append-nil, length-append}
use Rattle.hume_base.specs.declared.types.Ty.{Ty}
use Rattle.hume_base.specs.declared.types.Types.{Types}
use Rattle.hume_model.specs.declared.core_tree.PatC.{PatC, fold-roll-PatC, out-PatC, out-roll-PatC, roll-PatC}
use Rattle.hume_model.specs.declared.core_tree.PatC.TheOpen.{PatC-F}
use Rattle.hume_model.specs.declared.core_tree.PatC.TheVariants as pat
use Rattle.hume_model.specs.declared.core_tree.Expr.{Expr}
use Rattle.hume_model.specs.declared.core_tree.Expr.TheOpen.{Expr-F}
use Rattle.hume_model.specs.declared.core_tree.Expr.TheVariants as expr
use Rattle.hume_model.specs.declared.core_tree.EqC.{EqC}
use Rattle.hume_model.specs.declared.core_tree.FunC.{FunC}
use Rattle.hume_model.specs.declared.core_tree.Core.{Core}
use Rattle.hume_model.specs.Typing.{ArePatterns, ArmsHaveType, EquationsHave, FunctionsAreTyped, HasType, HaveTypes, IsPattern}
use Rattle.calculus_laws.specs.Unfolding.{call_unfolded, equation_unfolded, lets_around, moved_on, only_equation, renumbered, takes_all, takes_any, variables_in, variables_step}
use Rattle.calculus_laws.proofs.PatternCounts.{sum_more}
use Rattle.calculus_laws.proofs.RenumberedTypes.{typed_again}
use Rattle.calculus_laws.proofs.TypeForms.{by_form}
use Rattle.calculus_laws.proofs.UnfoldedCalls.{AllTake, bound_one, bound_values, equation_numbers, moves, takes}
use Rattle.calculus_laws.proofs.Unfolds.{ArmChanged, Becomes, IsKept, OneChanged}

-- a pattern has as many variables as types for them

mutual
  pub pattern_count : {types : Types} {t : Ty} {p : PatC} {vars : List Ty} → IsPattern types t p vars → length vars ≡ variables_in p
  pattern_count IsPattern.variable = sym (ap variables_in (sym pat.rolls-Var) ∙ fold-roll-PatC ℕ variables_step PatC-F.Var)
  pattern_count IsPattern.anything = sym (ap variables_in (sym pat.rolls-Any) ∙ fold-roll-PatC ℕ variables_step PatC-F.Any)
  pattern_count (IsPattern.word w ok) = sym (ap variables_in (sym (pat.rolls-Word w)) ∙ fold-roll-PatC ℕ variables_step (PatC-F.Word w))
  pattern_count (IsPattern.con number place sum_type {pats = ps} found within parts) =
      patterns_count parts ∙ sym (ap variables_in (sym (pat.rolls-Con place ps)) ∙ fold-roll-PatC ℕ variables_step (PatC-F.Con place ps))
  pattern_count (IsPattern.tuple {pats = ps} parts) =
      patterns_count parts ∙ sym (ap variables_in (sym (pat.rolls-Tuple ps)) ∙ fold-roll-PatC ℕ variables_step (PatC-F.Tuple ps))

  patterns_count : {types : Types} {ts : List Ty} {ps : List PatC} {vars : List Ty} → ArePatterns types ts ps vars → length vars ≡ sum (map variables_in ps)
  patterns_count ArePatterns.none = refl
  patterns_count (ArePatterns.one {p = p} {pats = ps} {vars = xs} {more = ys} first rest) =
      length-append xs ys ∙ (λ i. pattern_count first i + patterns_count rest i) ∙ sym (sum_more (variables_in p) (map variables_in ps))

-- the types that patterns bind which take any value

out_is : (x : PatC-F PatC) (p : PatC) → roll-PatC x ≡ p → out-PatC p ≡ x
out_is x p is = ap out-PatC (sym is) ∙ out-roll-PatC x

not_taken : (x : PatC-F PatC) (p : PatC) → out-PatC p ≡ x → takes_any x ≡ false → takes_any (out-PatC p) ≡ true → ⊥
not_taken x p is refused taken = (let wrong : true ≡ false = sym taken ∙ ap takes_any is ∙ refused in cc)

pattern_binds : {types : Types} {t : Ty} {p : PatC} {vars : List Ty} → IsPattern types t p vars → takes_any (out-PatC p) ≡ true → (rest : List Ty)
    → vars ++ rest ≡ bound_one (out-PatC p) t rest
pattern_binds (IsPattern.variable {ty = t}) any rest = ap (λ x. bound_one x t rest) (sym (out_is PatC-F.Var pat.Var pat.rolls-Var))
pattern_binds (IsPattern.anything {ty = t}) any rest = ap (λ x. bound_one x t rest) (sym (out_is PatC-F.Any pat.Any pat.rolls-Any))
pattern_binds (IsPattern.word w ok) any rest = absurd (not_taken (PatC-F.Word w) _ (out_is _ _ (pat.rolls-Word w)) refl any)
pattern_binds (IsPattern.con number place sum_type {pats = ps} found within parts) any rest =
    absurd (not_taken (PatC-F.Con place ps) _ (out_is _ _ (pat.rolls-Con place ps)) refl any)
pattern_binds (IsPattern.tuple {pats = ps} parts) any rest = absurd (not_taken (PatC-F.Tuple ps) _ (out_is _ _ (pat.rolls-Tuple ps)) refl any)

patterns_bind : {types : Types} {ts : List Ty} {ps : List PatC} {vars : List Ty} → ArePatterns types ts ps vars → AllTake ps → vars ≡ bound_values ps ts
patterns_bind ArePatterns.none all = refl
patterns_bind (ArePatterns.one {ty = t} {p = p} {vars = xs} {more = ys} first rest) all =
    let both = and_parts _ _ all in
    pattern_binds first both.0 ys ∙ ap (bound_one (out-PatC p) t) (patterns_bind rest both.1)

pub patterns_length : {types : Types} {ts : List Ty} {ps : List PatC} {vars : List Ty} → ArePatterns types ts ps vars → length ts ≡ length ps
patterns_length ArePatterns.none = refl
patterns_length (ArePatterns.one first rest) = ap suc (patterns_length rest)

module _ (core : Core) where
  lets_typed : (vars us : List Ty) {args : List Expr} {tys : List Ty} (body : Expr) (ty : Ty) → HaveTypes core vars args tys → HasType core (vars ++ (us ++ tys)) body ty
      → HasType core (vars ++ us) (lets_around (length vars) (length us) args body) ty
  lets_typed vars us body ty HaveTypes.none has = subst (λ xs. HasType core (vars ++ xs) body ty) (append-nil us) has
  lets_typed vars us body ty (HaveTypes.one {e = e} {es = es} {ty = t} {tys = ts} first rest) has =
      let count : length (us ++ t ∷ []) ≡ length us + 1 = length-append us (t ∷ []) in
      let inner : HasType core (vars ++ (us ++ t ∷ [])) (lets_around (length vars) (length (us ++ t ∷ [])) es body) ty =
      lets_typed vars (us ++ t ∷ []) body ty rest (subst (λ xs. HasType core (vars ++ xs) body ty) (sym (append_assoc us (t ∷ []) ts)) has) in
      HasType.binding t (typed_again core (moved_on (length vars) (length us)) first (vars ++ us) (moves vars us))
      (subst (λ xs. HasType core xs (lets_around (length vars) (length us + 1) es body) ty) (sym (append_assoc vars us (t ∷ [])))
      (subst (λ n. HasType core (vars ++ (us ++ t ∷ [])) (lets_around (length vars) n es body) ty) count inner))

  -- the one equation of a function
  equation_typed : (function : FunC) (equation : EqC) → EquationsHave core function (equation ∷ []) → (vars : List Ty) (args : List Expr) → HaveTypes core vars args function.params
      → takes_all equation args ≡ true → HasType core vars (equation_unfolded equation args (length vars)) function.gives
  equation_typed function equation (EquationsHave.one bound patterns body rest) vars args have all =
      let parts = and_parts _ _ all in
      let few = patterns_length patterns in
      subst (λ xs. HasType core xs (equation_unfolded equation args (length vars)) function.gives) (append-nil vars)
      (lets_typed vars [] (renumbered (equation_numbers (length vars) equation.pats) equation.body) function.gives have
      (typed_again core (equation_numbers (length vars) equation.pats)
      (subst (λ xs. HasType core xs equation.body function.gives) (patterns_bind patterns parts.0) body)
      (vars ++ function.params) (takes vars function.params equation.pats few)))

  abbrev pub HoldsType : ℕ → Expr → Expr → Type 0
  HoldsType scope e d = (vars : List Ty) (ty : Ty) → length vars ≡ scope → HasType core vars e ty → HasType core vars d ty

  one_typed : {scope : ℕ} {es ds : List Expr} {tys : List Ty} → OneChanged (HoldsType scope) es ds → (vars : List Ty) → length vars ≡ scope → HaveTypes core vars es tys
      → HaveTypes core vars ds tys
  one_typed (OneChanged.here r) vars is (HaveTypes.one {ty = t} first rest) = HaveTypes.one (r vars t is first) rest
  one_typed (OneChanged.there one) vars is (HaveTypes.one first rest) = HaveTypes.one first (one_typed one vars is rest)

  pub more : (vars bound : List Ty) (scope count : ℕ) → length vars ≡ scope → length bound ≡ count → length (vars ++ bound) ≡ scope + count
  more vars bound scope count one two = (let all = length-append vars bound in omega (arith, all, one, two))

  one_arm_typed : {scope : ℕ} {arms others : List (PatC × Expr)} {of ty : Ty} → OneChanged (ArmChanged HoldsType scope) arms others → (vars : List Ty) → length vars ≡ scope
      → ArmsHaveType core vars of arms ty → ArmsHaveType core vars of others ty
  one_arm_typed {scope = scope} {of = of} {ty = ty} (OneChanged.here {y = other} r) vars is (ArmsHaveType.one_arm {bound = bs} {p = p} {arms = arms} pattern body rest) =
      subst (λ q. ArmsHaveType core vars of ((q, other.1) ∷ arms) ty) r.0
      (ArmsHaveType.one_arm pattern (r.1 (vars ++ bs) ty (more vars bs scope (variables_in p) is (pattern_count pattern)) body) rest)
  one_arm_typed (OneChanged.there one) vars is (ArmsHaveType.one_arm pattern body rest) = ArmsHaveType.one_arm pattern body (one_arm_typed one vars is rest)

  two_typed : {vars : List Ty} {a b : Expr} {s t : Ty} → HaveTypes core vars (a ∷ b ∷ []) (s ∷ t ∷ []) → HasType core vars a s × HasType core vars b t
  two_typed (HaveTypes.one first (HaveTypes.one second rest)) = (first, second)

  three_typed : {vars : List Ty} {a b c : Expr} {s t u : Ty} → HaveTypes core vars (a ∷ b ∷ c ∷ []) (s ∷ t ∷ u ∷ [])
      → HasType core vars a s × HasType core vars b t × HasType core vars c u
  three_typed (HaveTypes.one first (HaveTypes.one second (HaveTypes.one third rest))) = (first, second, third)

  module _ (typed : FunctionsAreTyped core) where
    by_equations : (scope f : ℕ) (args : List Expr) (function : FunC) → slice_get core.funs f ≡ Some function → (equations : List EqC) → EquationsHave core function equations
        → Becomes (HoldsType scope (expr.Call f args)) (only_equation equations args scope)
    by_equations scope f args function found [] have = tt
    by_equations scope f args function found (equation ∷ next ∷ equations) have = tt
    by_equations scope f args function found (equation ∷ []) have = by (takes_all equation args) refl
      where
        by : (b : Bool) → takes_all equation args ≡ b → Becomes (HoldsType scope (expr.Call f args)) (if b then Some (equation_unfolded equation args scope) else None)
        by false none = tt
        by true all = λ vars ty is has.
            let form = by_form core (Expr-F.Call f args) (expr.rolls-Call f args) has in
            let same : form.function ≡ function = (let both = sym form.known ∙ found in cc) in
            subst (λ n. HasType core vars (equation_unfolded equation args n) ty) is
            (subst (HasType core vars (equation_unfolded equation args (length vars))) (ap (λ (g : FunC). g.gives) (sym same) ∙ form.gives)
            (equation_typed function equation have vars args (subst (λ (g : FunC). HaveTypes core vars args g.params) same form.have) all))

    unfolds : (scope f : ℕ) (args : List Expr) → Becomes (HoldsType scope (expr.Call f args)) (call_unfolded core f args scope)
    unfolds scope f args = by (slice_get core.funs f) refl
      where
        by : (o : Option FunC) → slice_get core.funs f ≡ o → Becomes (HoldsType scope (expr.Call f args)) (option_and_then (λ (function : FunC). only_equation function.equations args scope) o)
        by None none = tt
        by (Some function) found = by_equations scope f args function found function.equations (typed f function found)

    pub types_kept : IsKept core HoldsType
    types_kept = record {
      unfolds = unfolds;
      con = λ scope c es ds one vars ty is has. let form = by_form core (Expr-F.Con c es) (expr.rolls-Con c es) has in form.again ds (one_typed one vars is form.have);
      tuple = λ scope es ds one vars ty is has. let form = by_form core (Expr-F.Tuple es) (expr.rolls-Tuple es) has in form.again ds (one_typed one vars is form.have);
      vector = λ scope es ds one vars ty is has. let form = by_form core (Expr-F.Vect es) (expr.rolls-Vect es) has in form.again ds (one_typed one vars is form.have);
      prim = λ scope op at es ds one vars ty is has.
          let form = by_form core (Expr-F.Prim op at es) (expr.rolls-Prim op at es) has in form.again ds (one_typed one vars is form.have);
      call = λ scope f es ds one vars ty is has.
          let form = by_form core (Expr-F.Call f es) (expr.rolls-Call f es) has in
          subst (HasType core vars (expr.Call f ds)) form.gives (HasType.call f form.function form.known (one_typed one vars is form.have));
      index = λ scope n v k v' k' one vars ty is has.
          let form = by_form core (Expr-F.Index n v k) (expr.rolls-Index n v k) has in
          let both = two_typed (one_typed one vars is form.have) in
          form.again v' k' both.0 both.1;
      update = λ scope n v k e v' k' e' one vars ty is has.
          let form = by_form core (Expr-F.Update n v k e) (expr.rolls-Update n v k e) has in
          let all = three_typed (one_typed one vars is form.have) in
          form.again v' k' e' all.0 all.1 all.2;
      choice = λ scope t a b t' a' b' one vars ty is has.
          let form = by_form core (Expr-F.If t a b) (expr.rolls-If t a b) has in
          let all = three_typed (one_typed one vars is form.have) in
          form.again t' a' b' all.0 all.1 all.2;
      of_case = λ scope e d forms arms r vars ty is has.
          let form = by_form core (Expr-F.Case e forms arms) (expr.rolls-Case e forms arms) has in HasType.alternatives form.0 (r vars form.0 is form.1) form.2 form.3;
      arm = λ scope e forms arms others one vars ty is has.
          let form = by_form core (Expr-F.Case e forms arms) (expr.rolls-Case e forms arms) has in HasType.alternatives form.0 form.1 form.2 (one_arm_typed one vars is form.3);
      of_let = λ scope e d body r vars ty is has.
          let form = by_form core (Expr-F.Let e body) (expr.rolls-Let e body) has in HasType.binding form.of (r vars form.of is form.part) form.body;
      body = λ scope e body other r vars ty is has.
          let form = by_form core (Expr-F.Let e body) (expr.rolls-Let e body) has in
          HasType.binding form.of form.part (r (vars ++ form.of ∷ []) ty (more vars (form.of ∷ []) scope 1 is refl) form.body);
      raise = λ scope x e d r vars ty is has.
          let form = by_form core (Expr-F.Raise x (Some e)) (expr.rolls-Raise x (Some e)) has in form.again d (r vars form.carried is form.part);
    }
