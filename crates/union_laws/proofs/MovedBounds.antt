-- The bounds of a moved box are those of the box.
use Rattle.std.proofs.Common.{◌≡◌, ℕ, zero, suc, ◌+◌, ◌<◌, nat_lt, true, if◌then◌else◌, All, List, [], ◌∷◌, length, map, Option, Some, None, slice_get, refl, ap, sym, ◌∙◌, arith, inl, inr}
use Rattle.std.specs.List.{list_all}
use Rattle.std.specs.Option.{option_map}
use Rattle.std.proofs.lemmas.Bool.{and_parts, cases_eq, eq-eqb, ltb-true, ne_eqb}
use Rattle.std.proofs.lemmas.List.{map-id}
use Rattle.std.proofs.lemmas.List.Elements.{All-head, All-tail}
use Rattle.std.proofs.lemmas.Option.{slice_get_within}
use Rattle.hume_base.specs.declared.types.Ty.{Ty}
use Rattle.hume_base.specs.Holding.{HoldSmaller}
use Rattle.hume_model.specs.declared.core_tree.PatC.{PatC}
use Rattle.hume_model.specs.declared.core_tree.Expr.{Expr, map-Expr}
use Rattle.hume_model.specs.declared.core_tree.Expr.TheOpen.{Expr-F}
use Rattle.hume_model.specs.declared.core_tree.Res.{Res, map-Res}
use Rattle.hume_model.specs.declared.core_tree.Res.TheOpen.{Res-F}
use Rattle.hume_model.specs.declared.core_tree.InPat.{InPat}
use Rattle.hume_model.specs.declared.core_tree.InPat.TheVariants.{Star, AnyStar, Any, Built}
use Rattle.hume_model.specs.declared.core_tree.EqC.{EqC}
use Rattle.hume_model.specs.declared.core_tree.FunC.{FunC}
use Rattle.hume_model.specs.declared.core_tree.PortC.{PortC}
use Rattle.hume_model.specs.declared.core_tree.RuleC.{RuleC}
use Rattle.hume_model.specs.declared.core_tree.BoxC.{BoxC}
use Rattle.hume_model.specs.declared.core_tree.Core.{Core}
use Rattle.hume_model.specs.BoxTyping.{port_types}
use Rattle.hume_model.specs.Calls.{CallsGoDown, calls_below, equation_calls}
use Rattle.hume_model.specs.Limits.{IsSmallBox, IsSmallBoxPort, IsSmallFunction}
use Rattle.hume_model.specs.PartLimits.{is_written_position, is_written_result, is_written_rule}
use Rattle.hume_model.specs.TypeLimits.{is_type}
use Rattle.box_costs.specs.declared.cost.Cost.{Cost}
use Rattle.box_costs.specs.Bounds.{arm_way, bound_below, bound_step, bound_with, box_bound, built_patterns, equation_way, expression_bound, function_bound, given_outs, handler_if_raised, handler_variables, inputs_build, position_build, raise_bound, result_bound, result_bound_step, rule_bound}
use Rattle.box_costs.specs.Costs.{above, any_of, both, either, in_order, instructions, made, nothing, objects, one_way, pushed, with_variables}
use Rattle.box_costs.specs.PatternTests.{tests_of_all, variables_of_all}
use Rattle.union_laws.specs.declared.moves.Moves.{Moves}
use Rattle.union_laws.specs.Moving.{moved, moved_box, moved_equation, moved_function, moved_handler, moved_layer, moved_port, moved_result, moved_result_layer, moved_rule, moved_type}
use Rattle.union_laws.specs.inner.ResultCalls.{known_in, out_calls, result_calls}
use Rattle.union_laws.proofs.MovedBuilding.{build_same}
use Rattle.union_laws.proofs.MovedCalls.{there_is}
use Rattle.union_laws.proofs.MovedFiring.{BoxCalls}
use Rattle.union_laws.proofs.MovedFolds.{IsKnownCall, moved_same}
use Rattle.union_laws.proofs.MovedRaising.{result_raised}
use Rattle.union_laws.proofs.MovedResultFolds.{moved_result_same}
use Rattle.union_laws.proofs.MovedValues.{TypesStandIn, all_at}
use Rattle.union_laws.proofs.NamesKnown.{result_named}
use Rattle.union_laws.proofs.TypeFolds.{type_holds}

pub maps_same : {X Y Z : Type 0} (f : Y → Z) (g : X → Y) (h : X → Z) (xs : List X) → ((n : ℕ) (x : X) → slice_get xs n ≡ Some x → f (g x) ≡ h x) → map f (map g xs) ≡ map h xs
maps_same f g h [] same = refl
maps_same f g h (x ∷ xs) same = λ i. same 0 x refl i ∷ maps_same f g h xs (λ n y found. same (suc n) y found) i

module _ (moves : Moves) (most : ℕ) (called other : ℕ → Cost) (calls : (f : ℕ) → nat_lt f most ≡ true → other (moves.funs + f) ≡ called f) where
  abbrev self : Cost → Cost
  self c = c

  arms_are : (arms : List (PatC × Cost)) → map (λ (arm : PatC × Cost). (arm.0, arm.1)) arms ≡ arms
  arms_are [] = refl
  arms_are (arm ∷ arms) = ap (λ ways. arm ∷ ways) (arms_are arms)

  level : (y : Expr-F Cost) → IsKnownCall most y → bound_step other (moved_layer moves (map-Expr Cost Cost self y)) ≡ bound_step called y
  level (Expr-F.Word w) known = refl
  level (Expr-F.Var n) known = refl
  level (Expr-F.Con c ps) known = ap (λ qs. both (in_order qs) (made (length qs))) (map-id ps)
  level (Expr-F.Tuple ps) known = ap (λ qs. both (in_order qs) (made (length qs))) (map-id ps)
  level (Expr-F.Vect ps) known = ap (λ qs. both (in_order qs) (made (length qs))) (map-id ps)
  level (Expr-F.Prim op ty ps) known = ap (λ qs. both (in_order qs) pushed) (map-id ps)
  level (Expr-F.Index n v k) known = refl
  level (Expr-F.Update n v k e) known = refl
  level (Expr-F.If t a b) known = refl
  level (Expr-F.Case e forms arms) known = ap (λ ways. both e (above 1 (one_way (map (arm_way 2) ways)))) (arms_are arms)
  level (Expr-F.Let a b) known = refl
  level (Expr-F.Call f ps) known = λ i. both (in_order (map-id ps i)) (above (length (map-id ps i) + 2) (both (instructions 1) (calls f known i)))
  level (Expr-F.Raise x None) known = refl
  level (Expr-F.Raise x (Some p)) known = refl

  pub bound_same : (e : Expr) → calls_below most e ≡ true → bound_with other (moved moves e) ≡ bound_with called e
  bound_same e known = moved_same Cost (bound_step called) (bound_step other) self moves most level e known

  ways_same : (equations : List EqC) → list_all (equation_calls most) equations ≡ true
      → map (equation_way (bound_with other)) (map (moved_equation moves) equations) ≡ map (equation_way (bound_with called)) equations
  ways_same [] known = refl
  ways_same (equation ∷ equations) known =
      let parts = and_parts (equation_calls most equation) (list_all (equation_calls most) equations) known in
      λ i. record { tests = tests_of_all equation.pats; taken = with_variables (variables_of_all equation.pats) 1 (bound_same equation.body parts.0 i) } ∷ ways_same equations parts.1 i

  pub function_bounds : (function : FunC) → list_all (equation_calls most) function.equations ≡ true
      → function_bound (bound_with other) (Some (moved_function moves function)) ≡ function_bound (bound_with called) (Some function)
  function_bounds function known = ap one_way (ways_same function.equations known)

bound-at : (core : Core) (most function : ℕ) → function < most → bound_below core most function ≡ function_bound (bound_with (bound_below core function)) (slice_get core.funs function)
unfolding bound_below
bound-at core zero function below = absurd (omega arith)
bound-at core (suc most) function below = elim (cases_eq function most) [
  | inl same ↦ rw (eq-eqb function most same) (ap (λ k. function_bound (bound_with (bound_below core k)) (slice_get core.funs k)) (sym same))
  | inr other ↦ rw (ne_eqb function most other) (bound-at core most function (omega arith))
]

module _ (moves : Moves) (small large : Core) (down : CallsGoDown small)
    (funs : (n : ℕ) (function : FunC) → slice_get small.funs n ≡ Some function → slice_get large.funs (moves.funs + n) ≡ Some (moved_function moves function)) where
  bounded : (n f k m : ℕ) → f < n → f < length small.funs → f < k → moves.funs + f < m → bound_below large m (moves.funs + f) ≡ bound_below small k f
  bounded zero f k m less within below above = absurd (omega arith)
  bounded (suc n) f k m less within below above =
      let at = there_is small.funs f within in
      bound-at large m (moves.funs + f) above
      ∙ ap (function_bound (bound_with (bound_below large (moves.funs + f)))) (funs f at.0 at.1)
      ∙ function_bounds moves f (bound_below small f) (bound_below large (moves.funs + f))
      (λ g known. let lower : g < f = ltb-true g f known in bounded n g f (moves.funs + f) (omega (arith, lower, less)) (omega (arith, lower, within)) lower (omega (arith, lower)))
      at.0 (down f at.0 at.1)
      ∙ sym (bound-at small k f below ∙ ap (function_bound (bound_with (bound_below small f))) at.1)

  expression_same : (e : Expr) → calls_below (length small.funs) e ≡ true → expression_bound large (moved moves e) ≡ expression_bound small e
  expression_same e known =
      bound_same moves (length small.funs) (bound_below small (length small.funs)) (bound_below large (length large.funs))
      (λ f less.
      let within : f < length small.funs = ltb-true f (length small.funs) less in
      let at = there_is small.funs f within in
      bounded (suc f) f (length small.funs) (length large.funs) (omega arith) within within (slice_get_within large.funs (moves.funs + f) _ (funs f at.0 at.1)))
      e known

  outs_bound : (outs : List (Option Expr)) → list_all (out_calls (length small.funs)) outs ≡ true
      → map (expression_bound large) (given_outs (map (option_map (moved moves)) outs)) ≡ map (expression_bound small) (given_outs outs)
  outs_bound [] known = refl
  outs_bound (None ∷ outs) known = outs_bound outs known
  outs_bound (Some e ∷ outs) known =
      let parts = and_parts (calls_below (length small.funs) e) (list_all (out_calls (length small.funs)) outs) known in
      λ i. expression_same e parts.0 i ∷ outs_bound outs parts.1 i

  result_arms_are : (arms : List (PatC × Cost)) → map (λ (arm : PatC × Cost). (arm.0, arm.1)) arms ≡ arms
  result_arms_are [] = refl
  result_arms_are (arm ∷ arms) = ap (λ ways. arm ∷ ways) (result_arms_are arms)

  result_level : (y : Res-F Cost) → known_in (length small.funs) y ≡ true
      → result_bound_step (expression_bound large) (moved_result_layer moves (map-Res Cost Cost (λ c. c) y)) ≡ result_bound_step (expression_bound small) y
  result_level (Res-F.Outs outs) known = ap (λ cs. both (in_order cs) (instructions 1)) (outs_bound outs known)
  result_level (Res-F.If t a b) known = ap (λ c. both c (both (instructions 1) (either a b))) (expression_same t known)
  result_level (Res-F.Case e forms arms) known = λ i. both (expression_same e known i) (above 1 (one_way (map (arm_way 0) (result_arms_are arms i))))
  result_level (Res-F.Let e b) known = ap (λ c. both c (above 1 b)) (expression_same e known)
  result_level (Res-F.Raise x None) known = refl
  result_level (Res-F.Raise x (Some e)) known = ap (λ c. raise_bound (Some c)) (expression_same e known)

  pub result_bounds : (r : Res) → result_calls (length small.funs) r ≡ true → result_bound large (moved_result moves r) ≡ result_bound small r
  result_bounds r known =
      moved_result_same Cost (result_bound_step (expression_bound small)) (result_bound_step (expression_bound large)) (λ c. c) moves (length small.funs) result_level r known

  module _ (stands : TypesStandIn moves small.types large.types) (holds : HoldSmaller small.types)
      (each : (n : ℕ) (function : FunC) → slice_get small.funs n ≡ Some function → IsSmallFunction small.types function)
      (b : BoxC) (calls : BoxCalls (length small.funs) b) (is : IsSmallBox small.types b) where
    position_same : (ty : Ty) → is_type small.types ty ≡ true → (p : InPat) → position_build large.types (moved_type moves ty) p ≡ position_build small.types ty p
    position_same ty there Star = refl
    position_same ty there AnyStar = refl
    position_same ty there Any = refl
    position_same ty there (Built p) = build_same moves small.types large.types stands holds ty (type_holds small.types ty there)

    inputs_same : (ports : List PortC) → All (IsSmallBoxPort small.types) ports → (pats : List InPat)
        → inputs_build large.types (port_types (map (moved_port moves) ports)) pats ≡ inputs_build small.types (port_types ports) pats
    inputs_same [] all pats = refl
    inputs_same (port ∷ ports) all [] = refl
    inputs_same (port ∷ ports) all (p ∷ pats) = λ i.
        position_same port.ty (All-head (IsSmallBoxPort small.types) port ports all).ty.parts p i + inputs_same ports (All-tail (IsSmallBoxPort small.types) port ports all) pats i

    rule_same : (n : ℕ) (rule : RuleC) → slice_get b.rules n ≡ Some rule → rule_bound large (moved_box moves b) (moved_rule moves rule) ≡ rule_bound small b rule
    rule_same n rule found =
        let known = calls.rules n rule found in
        let written = (and_parts (list_all is_written_position rule.pats) (is_written_result small.types rule.result) (all_at (is_written_rule small.types) b.rules is.each_rule n rule found)).1 in
        let named = result_named small.types (length small.funs) rule.result known written in
        let handlers = maps_same (handler_if_raised large (moved_result moves rule.result)) (moved_handler moves) (handler_if_raised small rule.result) b.handlers
        (λ m handler at. λ i. if result_raised moves small large stands down each funs handler.exn rule.result named i
        then above 1 (with_variables (handler_variables handler) 0 (result_bounds handler.result (calls.handlers m handler at) i)) else nothing) in
        λ i. both (both (objects (inputs_same b.ins is.each_input rule.pats i))
        (above (length (built_patterns rule.pats)) (with_variables (variables_of_all (built_patterns rule.pats)) 0 (result_bounds rule.result known i)))) (any_of (handlers i))

    pub box_bounds : box_bound large (moved_box moves b) ≡ box_bound small b
    box_bounds = ap any_of (maps_same (rule_bound large (moved_box moves b)) (moved_rule moves) (rule_bound small b) b.rules rule_same)
