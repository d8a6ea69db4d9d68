-- A moved expression or result may raise an exception of the moved number where the expression or result may raise the exception.
use Rattle.std.proofs.Common.{◌≡◌, ℕ, zero, suc, ◌+◌, ◌<◌, ◌==◌, not, ◌&&◌, ◌||◌, nat_lt, Bool, true, All, List, [], ◌∷◌, length, map, Option, Some, None, slice_get, refl, ap, sym, ◌∙◌, arith, inl, inr}
use Rattle.std.specs.List.{cons_option, list_all, list_any}
use Rattle.std.specs.Option.{option_map}
use Rattle.std.proofs.lemmas.Bool.{and_parts, cases_eq, eq-eqb, ltb-true, ne_eqb}
use Rattle.std.proofs.lemmas.List.{length-map, map-id}
use Rattle.std.proofs.lemmas.List.Elements.{All-head}
use Rattle.std.proofs.lemmas.Option.{slice_get_within}
use Rattle.hume_base.specs.declared.types.Ty.{Ty}
use Rattle.hume_base.specs.declared.types.SumDef.{SumDef}
use Rattle.hume_base.specs.declared.types.Types.{Types}
use Rattle.hume_model.specs.declared.core_tree.Forms.{Forms}
use Rattle.hume_model.specs.declared.core_tree.Forms.TheVariants.{Truths, Constructors, Others}
use Rattle.hume_model.specs.declared.core_tree.PatC.{PatC}
use Rattle.hume_model.specs.declared.core_tree.Expr.{Expr, map-Expr}
use Rattle.hume_model.specs.declared.core_tree.Expr.TheOpen.{Expr-F}
use Rattle.hume_model.specs.declared.core_tree.Res.{Res, fold-Res, map-Res}
use Rattle.hume_model.specs.declared.core_tree.Res.TheOpen.{Res-F}
use Rattle.hume_model.specs.declared.core_tree.EqC.{EqC}
use Rattle.hume_model.specs.declared.core_tree.FunC.{FunC}
use Rattle.hume_model.specs.declared.core_tree.Core.{Core}
use Rattle.hume_model.specs.declared.exceptions.TheConstants.{DIV_ZERO, NO_CASE, RANGE}
use Rattle.hume_model.specs.Calls.{CallsGoDown, equation_calls}
use Rattle.hume_model.specs.Completeness.{are_all, are_complete, are_complete_alone, are_complete_equations, are_constructors, are_of_data, first_patterns, is_irrefutable, is_irrefutable_equation, last_passes}
use Rattle.hume_model.specs.Forms.{are_there, forms_of}
use Rattle.hume_model.specs.Limits.{IsSmallFunction}
use Rattle.hume_model.specs.PartLimits.{is_written_equation, is_written, is_written_pattern}
use Rattle.hume_model.specs.Raising.{Seen, function_raises, may_divide_by_zero, may_be_outside, raises_below, raises_if_there, raises_step, raises_with, result_may_raise, result_raises_step, seen, seen_with, some_raise}
use Rattle.hume_model.specs.TypeLimits.{is_type}
use Rattle.hume_model.proofs.FormsThere.{forms_there}
use Rattle.union_laws.specs.declared.moves.Moves.{Moves}
use Rattle.union_laws.specs.Moving.{moved, moved_con, moved_data, moved_equation, moved_exn, moved_forms, moved_function, moved_layer, moved_result, moved_result_layer, moved_type}
use Rattle.union_laws.specs.inner.Names.{named_in, names_below, out_names, result_names}
use Rattle.union_laws.proofs.MovedCalls.{there_is}
use Rattle.union_laws.proofs.MovedFiring.{exn_same}
use Rattle.union_laws.proofs.MovedTypes.{forms_moved}
use Rattle.union_laws.proofs.MovedValues.{TypesStandIn}
use Rattle.union_laws.proofs.NamedFolds.{IsKnown, named_same}
use Rattle.union_laws.proofs.NamedResultFolds.{named_result_same}
use Rattle.union_laws.proofs.NamesKnown.{expr_named}

module _ (moves : Moves) (small large : Types) (stands : TypesStandIn moves small large) where
  -- completeness

  constructors_same : (o : Option SumDef) (p : Option SumDef) (pats : List PatC) → p ≡ option_map (moved_data moves) o → are_of_data p pats ≡ are_of_data o pats
  constructors_same None p pats is = ap (λ q. are_of_data q pats) is
  constructors_same (Some sum) p pats is = ap (λ q. are_of_data q pats) is ∙ ap (λ n. are_constructors n pats) (length-map sum.cons (moved_con moves))

  all_same : (forms : Forms) → are_there small forms ≡ true → (pats : List PatC) → are_all large (moved_forms moves forms) pats ≡ are_all small forms pats
  all_same Truths is pats = refl
  all_same Others is pats = refl
  all_same (Constructors number) is pats =
      let at = there_is small.sums number (ltb-true number (length small.sums) is) in
      constructors_same (slice_get small.sums number) (slice_get large.sums (moves.types + number)) pats
      (stands number at.0 at.1 ∙ ap (option_map (moved_data moves)) (sym at.1))

  complete_same : (forms : Forms) → are_there small forms ≡ true → (pats : List PatC) → are_complete large (moved_forms moves forms) pats ≡ are_complete small forms pats
  complete_same forms is pats = ap (λ all. last_passes is_irrefutable pats || all) (all_same forms is pats)

  last_same : (equations : List EqC) → last_passes is_irrefutable_equation (map (moved_equation moves) equations) ≡ last_passes is_irrefutable_equation equations
  last_same [] = refl
  last_same (equation ∷ []) = refl
  last_same (equation ∷ other ∷ more) = last_same (other ∷ more)

  firsts_same : (equations : List EqC) → first_patterns (map (moved_equation moves) equations) ≡ first_patterns equations
  firsts_same [] = refl
  firsts_same (equation ∷ equations) = ap (cons_option (slice_get equation.pats 0)) (firsts_same equations)

  alone_same : (params : List Ty) → All (λ ty. is_type small ty ≡ true) params → (equations : List EqC)
      → are_complete_alone large (map (moved_type moves) params) (map (moved_equation moves) equations) ≡ are_complete_alone small params equations
  alone_same [] all equations = refl
  alone_same (ty ∷ []) all equations =
      ap (are_complete large (forms_of (moved_type moves ty))) (firsts_same equations)
      ∙ ap (λ forms. are_complete large forms (first_patterns equations)) (forms_moved moves ty)
      ∙ complete_same (forms_of ty) (forms_there small ty (All-head (λ t. is_type small t ≡ true) ty [] all)) (first_patterns equations)
  alone_same (ty ∷ other ∷ more) all equations = refl

  equations_same : (params : List Ty) → All (λ ty. is_type small ty ≡ true) params → (equations : List EqC)
      → are_complete_equations large (map (moved_type moves) params) (map (moved_equation moves) equations) ≡ are_complete_equations small params equations
  equations_same params all equations = λ i. last_same equations i || alone_same params all equations i

  -- expressions

  module _ (exn bound : ℕ) (called other : ℕ → Bool) (calls : (f : ℕ) → nat_lt f bound ≡ true → other (moves.funs + f) ≡ called f) where
    abbrev higher : ℕ
    higher = moved_exn moves exn

    abbrev self : Seen → Seen
    self s = s

    arms_are : (arms : List (PatC × Seen)) → map (λ (arm : PatC × Seen). (arm.0, arm.1)) arms ≡ arms
    arms_are [] = refl
    arms_are (arm ∷ arms) = ap (λ ways. arm ∷ ways) (arms_are arms)

    zero_same : (higher == DIV_ZERO) ≡ (exn == DIV_ZERO)
    zero_same = exn_same moves exn DIV_ZERO

    range_same : (higher == RANGE) ≡ (exn == RANGE)
    range_same = exn_same moves exn RANGE

    case_same : (higher == NO_CASE) ≡ (exn == NO_CASE)
    case_same = exn_same moves exn NO_CASE

    level : (y : Expr-F Seen) → IsKnown bound (are_there small) y
        → raises_step large other higher (moved_layer moves (map-Expr Seen Seen self y)) ≡ raises_step small called exn y
    level (Expr-F.Word w) known = refl
    level (Expr-F.Var n) known = refl
    level (Expr-F.Con c ps) known = ap (λ qs. seen (some_raise qs)) (map-id ps)
    level (Expr-F.Tuple ps) known = ap (λ qs. seen (some_raise qs)) (map-id ps)
    level (Expr-F.Vect ps) known = ap (λ qs. seen (some_raise qs)) (map-id ps)
    level (Expr-F.Prim op ty ps) known = λ i. seen (some_raise (map-id ps i) || (zero_same i && may_divide_by_zero op (map-id ps i)))
    level (Expr-F.Index n v k) known = ap (λ t. seen (v.raises || (k.raises || (t && may_be_outside n k.literal)))) range_same
    level (Expr-F.Update n v k e) known = ap (λ t. seen (v.raises || (k.raises || (e.raises || (t && may_be_outside n k.literal))))) range_same
    level (Expr-F.If t a b) known = refl
    level (Expr-F.Case e forms arms) known = λ i.
        seen (e.raises || (list_any (λ (arm : PatC × Seen). arm.1.raises) (arms_are arms i)
        || (case_same i && not ((ap (λ ways. are_complete large (moved_forms moves forms) (map (λ (arm : PatC × Seen). arm.0) ways)) (arms_are arms)
        ∙ complete_same forms known (map (λ (arm : PatC × Seen). arm.0) arms)) i))))
    level (Expr-F.Let a b) known = refl
    level (Expr-F.Call f ps) known = λ i. seen (some_raise (map-id ps i) || calls f known i)
    level (Expr-F.Raise x None) known = ap seen (exn_same moves x exn)
    level (Expr-F.Raise x (Some p)) known = ap (λ t. seen (p.raises || t)) (exn_same moves x exn)

    pub seen_same : (e : Expr) → names_below bound (are_there small) e ≡ true → seen_with large other higher (moved moves e) ≡ seen_with small called exn e
    seen_same e known = named_same Seen (raises_step small called exn) (raises_step large other higher) self moves bound (are_there small) level e known

    pub raises_same : (e : Expr) → names_below bound (are_there small) e ≡ true → raises_with large other higher (moved moves e) ≡ raises_with small called exn e
    raises_same e known = ap (λ (s : Seen). s.raises) (seen_same e known)

    any_same : (equations : List EqC) → list_all (equation_calls bound) equations ≡ true → list_all (is_written_equation small) equations ≡ true
        → list_any (λ (equation : EqC). raises_with large other higher equation.body) (map (moved_equation moves) equations)
        ≡ list_any (λ (equation : EqC). raises_with small called exn equation.body) equations
    any_same [] down written = refl
    any_same (equation ∷ equations) down written =
        let c = and_parts (equation_calls bound equation) (list_all (equation_calls bound) equations) down in
        let w = and_parts (is_written_equation small equation) (list_all (is_written_equation small) equations) written in
        let body = and_parts (list_all is_written_pattern equation.pats) (is_written small equation.body) w.0 in
        λ i. raises_same equation.body (expr_named small bound equation.body c.0 body.1) i || any_same equations c.1 w.1 i

    pub function_same : (function : FunC) → IsSmallFunction small function → list_all (equation_calls bound) function.equations ≡ true
        → function_raises large (raises_with large other higher) higher (Some (moved_function moves function)) ≡ function_raises small (raises_with small called exn) exn (Some function)
    function_same function is down = λ i.
        any_same function.equations down is.each_equation i
        || (case_same i && not (equations_same function.params (λ k d within. (is.each_param k d within).parts) function.equations i))

    -- results

    maybe_same : (o : Option Expr) → out_names bound (are_there small) o ≡ true
        → raises_if_there (raises_with large other higher) (option_map (moved moves) o) ≡ raises_if_there (raises_with small called exn) o
    maybe_same None known = refl
    maybe_same (Some e) known = raises_same e known

    outs_same : (outs : List (Option Expr)) → list_all (out_names bound (are_there small)) outs ≡ true
        → list_any (raises_if_there (raises_with large other higher)) (map (option_map (moved moves)) outs) ≡ list_any (raises_if_there (raises_with small called exn)) outs
    outs_same [] known = refl
    outs_same (out ∷ outs) known =
        let parts = and_parts (out_names bound (are_there small) out) (list_all (out_names bound (are_there small)) outs) known in
        λ i. maybe_same out parts.0 i || outs_same outs parts.1 i

    ways_are : (arms : List (PatC × Bool)) → map (λ (arm : PatC × Bool). (arm.0, arm.1)) arms ≡ arms
    ways_are [] = refl
    ways_are (arm ∷ arms) = ap (λ ways. arm ∷ ways) (ways_are arms)

    result_level : (y : Res-F Bool) → named_in bound (are_there small) y ≡ true
        → result_raises_step large (raises_with large other higher) higher (moved_result_layer moves (map-Res Bool Bool (λ b. b) y))
        ≡ result_raises_step small (raises_with small called exn) exn y
    result_level (Res-F.Outs outs) known = outs_same outs known
    result_level (Res-F.If t a b) known = ap (λ r. r || (a || b)) (raises_same t known)
    result_level (Res-F.Case e forms arms) known =
        let parts = and_parts (are_there small forms) (names_below bound (are_there small) e) known in
        λ i. raises_same e parts.1 i || (list_any (λ (arm : PatC × Bool). arm.1) (ways_are arms i)
        || (case_same i && not ((ap (λ ways. are_complete large (moved_forms moves forms) (map (λ (arm : PatC × Bool). arm.0) ways)) (ways_are arms)
        ∙ complete_same forms parts.0 (map (λ (arm : PatC × Bool). arm.0) arms)) i)))
    result_level (Res-F.Let e b) known = ap (λ r. r || b) (raises_same e known)
    result_level (Res-F.Raise x e) known = λ i. maybe_same e known i || exn_same moves x exn i

    pub result_raises : (r : Res) → result_names bound (are_there small) r ≡ true
        → fold-Res Bool (result_raises_step large (raises_with large other higher) higher) (moved_result moves r) ≡ fold-Res Bool (result_raises_step small (raises_with small called exn) exn) r
    result_raises r known =
        named_result_same Bool (result_raises_step small (raises_with small called exn) exn) (result_raises_step large (raises_with large other higher) higher) (λ b. b) moves bound
        (are_there small) result_level r known

pub raises-at : (core : Core) (bound exn function : ℕ) → function < bound
    → raises_below core bound exn function ≡ function_raises core.types (raises_with core.types (raises_below core function exn) exn) exn (slice_get core.funs function)
unfolding raises_below
raises-at core zero exn function below = absurd (omega arith)
raises-at core (suc bound) exn function below = elim (cases_eq function bound) [
  | inl same ↦ rw (eq-eqb function bound same) (ap (λ k. function_raises core.types (raises_with core.types (raises_below core k exn) exn) exn (slice_get core.funs k)) (sym same))
  | inr other ↦ rw (ne_eqb function bound other) (raises-at core bound exn function (omega arith))
]

module _ (moves : Moves) (small large : Core) (stands : TypesStandIn moves small.types large.types) (down : CallsGoDown small)
    (each : (n : ℕ) (function : FunC) → slice_get small.funs n ≡ Some function → IsSmallFunction small.types function)
    (funs : (n : ℕ) (function : FunC) → slice_get small.funs n ≡ Some function → slice_get large.funs (moves.funs + n) ≡ Some (moved_function moves function)) (exn : ℕ) where
  raised_by : (n f k m : ℕ) → f < n → f < length small.funs → f < k → moves.funs + f < m
      → raises_below large m (moved_exn moves exn) (moves.funs + f) ≡ raises_below small k exn f
  raised_by zero f k m less within below above = absurd (omega arith)
  raised_by (suc n) f k m less within below above =
      let at = there_is small.funs f within in
      raises-at large m (moved_exn moves exn) (moves.funs + f) above
      ∙ ap (function_raises large.types (raises_with large.types (raises_below large (moves.funs + f) (moved_exn moves exn)) (moved_exn moves exn)) (moved_exn moves exn)) (funs f at.0 at.1)
      ∙ function_same moves small.types large.types stands exn f (raises_below small f exn) (raises_below large (moves.funs + f) (moved_exn moves exn))
      (λ g known. let lower : g < f = ltb-true g f known in raised_by n g f (moves.funs + f) (omega (arith, lower, less)) (omega (arith, lower, within)) lower (omega (arith, lower)))
      at.0 (each f at.0 at.1) (down f at.0 at.1)
      ∙ sym (raises-at small k exn f below ∙ ap (function_raises small.types (raises_with small.types (raises_below small f exn) exn) exn) at.1)

  pub result_raised : (r : Res) → result_names (length small.funs) (are_there small.types) r ≡ true
      → result_may_raise large (moved_exn moves exn) (moved_result moves r) ≡ result_may_raise small exn r
  result_raised r known =
      result_raises moves small.types large.types stands exn (length small.funs) (raises_below small (length small.funs) exn) (raises_below large (length large.funs) (moved_exn moves exn))
      (λ f less.
      let within : f < length small.funs = ltb-true f (length small.funs) less in
      let at = there_is small.funs f within in
      raised_by (suc f) f (length small.funs) (length large.funs) (omega arith) within within (slice_get_within large.funs (moves.funs + f) _ (funs f at.0 at.1)))
      r known
