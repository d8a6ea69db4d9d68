-- What calls only known functions and is as a source may write it has known names.
use Rattle.std.proofs.Common.{◌≡◌, ℕ, ◌&&◌, nat_le, nat_lt, Bool, true, List, [], ◌∷◌, length, map, Option, Some, None, refl, sym, ◌∙◌, subst}
use Rattle.std.specs.List.{list_all}
use Rattle.std.proofs.lemmas.Bool.{and_parts}
use Rattle.hume_base.specs.declared.limits.TheConstants.{MAX_LENGTH, MAX_PARTS}
use Rattle.hume_base.specs.declared.types.Types.{Types}
use Rattle.hume_model.specs.declared.core_tree.PatC.{PatC}
use Rattle.hume_model.specs.declared.core_tree.Expr.{Expr, roll-Expr, map-Expr, fold-roll-Expr, ind-Expr}
use Rattle.hume_model.specs.declared.core_tree.Expr.TheOpen.{Expr-F}
use Rattle.hume_model.specs.declared.core_tree.Res.{Res, roll-Res, map-Res, fold-roll-Res, ind-Res}
use Rattle.hume_model.specs.declared.core_tree.Res.TheOpen.{Res-F}
use Rattle.hume_model.specs.Calls.{all_true, calls_below, calls_step}
use Rattle.hume_model.specs.Forms.{are_there}
use Rattle.hume_model.specs.PartLimits.{are_alternatives, expression_step, is_length, is_written, is_written_if_there, is_written_pattern, is_written_result, result_step}
use Rattle.hume_model.specs.TypeLimits.{is_between, is_type}
use Rattle.calculus_laws.proofs.CallsKnown.{both}
use Rattle.union_laws.specs.inner.Names.{names_below, names_step, out_names, result_names, result_names_step}
use Rattle.union_laws.specs.inner.ResultCalls.{out_calls, result_calls, result_calls_step}

module _ (types : Types) (bound : ℕ) where
  abbrev there : Expr → Bool
  there = names_below bound (are_there types)

  abbrev Named : Expr → Type 0
  Named e = calls_below bound e ≡ true → is_written types e ≡ true → there e ≡ true

  abbrev Part : Type 0
  Part = (e : Expr) × Named e

  abbrev of_part : Part → Expr
  of_part p = p.0

  abbrev calls : List Part → List Bool
  calls ps = map (calls_below bound) (map of_part ps)

  abbrev writes : List Part → List Bool
  writes ps = map (is_written types) (map of_part ps)

  parts_named : (ps : List Part) → all_true (calls ps) ≡ true → all_true (writes ps) ≡ true → all_true (map there (map of_part ps)) ≡ true
  parts_named [] called written = refl
  parts_named (p ∷ ps) called written =
      let c = and_parts (calls_below bound p.0) (all_true (calls ps)) called in
      let w = and_parts (is_written types p.0) (all_true (writes ps)) written in
      both _ _ (p.1 c.0 w.0) (parts_named ps c.1 w.1)

  abbrev arm_of : PatC × Part → PatC × Expr
  arm_of arm = (arm.0, of_part arm.1)

  abbrev arm_with : (Expr → Bool) → PatC × Expr → PatC × Bool
  arm_with test arm = (arm.0, test arm.1)

  abbrev second : PatC × Bool → Bool
  second arm = arm.1

  abbrev is_arm : PatC × Bool → Bool
  is_arm arm = is_written_pattern arm.0 && arm.1

  arms_named : (arms : List (PatC × Part)) → list_all second (map (arm_with (calls_below bound)) (map arm_of arms)) ≡ true
      → list_all is_arm (map (arm_with (is_written types)) (map arm_of arms)) ≡ true → list_all second (map (arm_with there) (map arm_of arms)) ≡ true
  arms_named [] called written = refl
  arms_named (arm ∷ arms) called written =
      let c = and_parts (calls_below bound arm.1.0) (list_all second (map (arm_with (calls_below bound)) (map arm_of arms))) called in
      let w = and_parts (is_arm (arm.0, is_written types arm.1.0)) (list_all is_arm (map (arm_with (is_written types)) (map arm_of arms))) written in
      both _ _ (arm.1.1 c.0 (and_parts (is_written_pattern arm.0) (is_written types arm.1.0) w.0).1) (arms_named arms c.1 w.1)

  abbrev layer : Expr-F Part → Expr-F Expr
  layer y = map-Expr Part Expr of_part y

  level : (y : Expr-F Part) → calls_step bound (map-Expr Expr Bool (calls_below bound) (layer y)) ≡ true
      → expression_step types (map-Expr Expr Bool (is_written types) (layer y)) ≡ true → names_step bound (are_there types) (map-Expr Expr Bool there (layer y)) ≡ true
  level (Expr-F.Word w) called written = refl
  level (Expr-F.Var n) called written = refl
  level (Expr-F.Con c ps) called written = parts_named ps called written
  level (Expr-F.Tuple ps) called written = parts_named ps called (and_parts (is_between 2 MAX_PARTS (length (writes ps))) (all_true (writes ps)) written).1
  level (Expr-F.Vect ps) called written = parts_named ps called (and_parts (is_between 1 MAX_LENGTH (length (writes ps))) (all_true (writes ps)) written).1
  level (Expr-F.Prim op ty ps) called written = parts_named ps called (and_parts (is_type types ty) (all_true (writes ps)) written).1
  level (Expr-F.Index n v k) called written =
      let c = and_parts (calls_below bound v.0) (calls_below bound k.0) called in
      let w = and_parts (is_written types v.0) (is_written types k.0) (and_parts (is_length n) (is_written types v.0 && is_written types k.0) written).1 in
      both _ _ (v.1 c.0 w.0) (k.1 c.1 w.1)
  level (Expr-F.Update n v k e) called written =
      let c = and_parts (calls_below bound v.0) (calls_below bound k.0 && calls_below bound e.0) called in
      let cs = and_parts (calls_below bound k.0) (calls_below bound e.0) c.1 in
      let all = (and_parts (is_length n) (is_written types v.0 && (is_written types k.0 && is_written types e.0)) written).1 in
      let w = and_parts (is_written types v.0) (is_written types k.0 && is_written types e.0) all in
      let ws = and_parts (is_written types k.0) (is_written types e.0) w.1 in
      both _ _ (v.1 c.0 w.0) (both _ _ (k.1 cs.0 ws.0) (e.1 cs.1 ws.1))
  level (Expr-F.If t a b) called written =
      let c = and_parts (calls_below bound t.0) (calls_below bound a.0 && calls_below bound b.0) called in
      let cs = and_parts (calls_below bound a.0) (calls_below bound b.0) c.1 in
      let w = and_parts (is_written types t.0) (is_written types a.0 && is_written types b.0) written in
      let ws = and_parts (is_written types a.0) (is_written types b.0) w.1 in
      both _ _ (t.1 c.0 w.0) (both _ _ (a.1 cs.0 ws.0) (b.1 cs.1 ws.1))
  level (Expr-F.Case e forms arms) called written =
      let c = and_parts (calls_below bound e.0) (list_all second (map (arm_with (calls_below bound)) (map arm_of arms))) called in
      let w = and_parts (are_there types forms) (is_written types e.0 && are_alternatives (map (arm_with (is_written types)) (map arm_of arms))) written in
      let ws = and_parts (is_written types e.0) (are_alternatives (map (arm_with (is_written types)) (map arm_of arms))) w.1 in
      let ways = and_parts (nat_le 1 (length (map (arm_with (is_written types)) (map arm_of arms)))) (list_all is_arm (map (arm_with (is_written types)) (map arm_of arms))) ws.1 in
      both _ _ w.0 (both _ _ (e.1 c.0 ws.0) (arms_named arms c.1 ways.1))
  level (Expr-F.Let a b) called written =
      let c = and_parts (calls_below bound a.0) (calls_below bound b.0) called in
      let w = and_parts (is_written types a.0) (is_written types b.0) written in
      both _ _ (a.1 c.0 w.0) (b.1 c.1 w.1)
  level (Expr-F.Call f ps) called written =
      let c = and_parts (nat_lt f bound) (all_true (calls ps)) called in both _ _ c.0 (parts_named ps c.1 written)
  level (Expr-F.Raise x None) called written = refl
  level (Expr-F.Raise x (Some p)) called written = p.1 called written

  pub expr_named : (e : Expr) → Named e
  expr_named = ind-Expr Named (λ x y is. subst (λ z. Named (roll-Expr z)) is (λ called written.
      fold-roll-Expr Bool (names_step bound (are_there types)) (layer y)
      ∙ level y (sym (fold-roll-Expr Bool (calls_step bound) (layer y)) ∙ called) (sym (fold-roll-Expr Bool (expression_step types) (layer y)) ∙ written)))

  out_named : (o : Option Expr) → out_calls bound o ≡ true → is_written_if_there types o ≡ true → out_names bound (are_there types) o ≡ true
  out_named None called written = refl
  out_named (Some e) called written = expr_named e called written

  outs_named : (outs : List (Option Expr)) → list_all (out_calls bound) outs ≡ true → list_all (is_written_if_there types) outs ≡ true
      → list_all (out_names bound (are_there types)) outs ≡ true
  outs_named [] called written = refl
  outs_named (out ∷ outs) called written =
      let c = and_parts (out_calls bound out) (list_all (out_calls bound) outs) called in
      let w = and_parts (is_written_if_there types out) (list_all (is_written_if_there types) outs) written in
      both _ _ (out_named out c.0 w.0) (outs_named outs c.1 w.1)

  -- results

  abbrev result_there : Res → Bool
  result_there = result_names bound (are_there types)

  abbrev NamedResult : Res → Type 0
  NamedResult r = result_calls bound r ≡ true → is_written_result types r ≡ true → result_there r ≡ true

  abbrev ResultPart : Type 0
  ResultPart = (r : Res) × NamedResult r

  abbrev of_result : ResultPart → Res
  of_result p = p.0

  abbrev result_arm_of : PatC × ResultPart → PatC × Res
  result_arm_of arm = (arm.0, of_result arm.1)

  abbrev result_arm_with : (Res → Bool) → PatC × Res → PatC × Bool
  result_arm_with test arm = (arm.0, test arm.1)

  result_arms_named : (arms : List (PatC × ResultPart)) → list_all second (map (result_arm_with (result_calls bound)) (map result_arm_of arms)) ≡ true
      → list_all is_arm (map (result_arm_with (is_written_result types)) (map result_arm_of arms)) ≡ true → list_all second (map (result_arm_with result_there) (map result_arm_of arms)) ≡ true
  result_arms_named [] called written = refl
  result_arms_named (arm ∷ arms) called written =
      let c = and_parts (result_calls bound arm.1.0) (list_all second (map (result_arm_with (result_calls bound)) (map result_arm_of arms))) called in
      let w = and_parts (is_arm (arm.0, is_written_result types arm.1.0)) (list_all is_arm (map (result_arm_with (is_written_result types)) (map result_arm_of arms))) written in
      both _ _ (arm.1.1 c.0 (and_parts (is_written_pattern arm.0) (is_written_result types arm.1.0) w.0).1) (result_arms_named arms c.1 w.1)

  abbrev result_layer : Res-F ResultPart → Res-F Res
  result_layer y = map-Res ResultPart Res of_result y

  result_level : (y : Res-F ResultPart) → result_calls_step bound (map-Res Res Bool (result_calls bound) (result_layer y)) ≡ true
      → result_step types (map-Res Res Bool (is_written_result types) (result_layer y)) ≡ true
      → result_names_step bound (are_there types) (map-Res Res Bool result_there (result_layer y)) ≡ true
  result_level (Res-F.Outs outs) called written = both _ _ (outs_named outs (and_parts (list_all (out_calls bound) outs) true called).0 written) refl
  result_level (Res-F.If t a b) called written =
      let c = and_parts (calls_below bound t) (result_calls bound a.0 && result_calls bound b.0) called in
      let cs = and_parts (result_calls bound a.0) (result_calls bound b.0) c.1 in
      let w = and_parts (is_written types t) (is_written_result types a.0 && is_written_result types b.0) written in
      let ws = and_parts (is_written_result types a.0) (is_written_result types b.0) w.1 in
      both _ _ (expr_named t c.0 w.0) (both _ _ (a.1 cs.0 ws.0) (b.1 cs.1 ws.1))
  result_level (Res-F.Case e forms arms) called written =
      let c = and_parts (calls_below bound e) (list_all second (map (result_arm_with (result_calls bound)) (map result_arm_of arms))) called in
      let w = and_parts (are_there types forms) (is_written types e && are_alternatives (map (result_arm_with (is_written_result types)) (map result_arm_of arms))) written in
      let ws = and_parts (is_written types e) (are_alternatives (map (result_arm_with (is_written_result types)) (map result_arm_of arms))) w.1 in
      let ways = and_parts (nat_le 1 (length (map (result_arm_with (is_written_result types)) (map result_arm_of arms))))
      (list_all is_arm (map (result_arm_with (is_written_result types)) (map result_arm_of arms))) ws.1 in
      both _ _ (both _ _ w.0 (expr_named e c.0 ws.0)) (result_arms_named arms c.1 ways.1)
  result_level (Res-F.Let e b) called written =
      let c = and_parts (calls_below bound e) (result_calls bound b.0) called in
      let w = and_parts (is_written types e) (is_written_result types b.0) written in
      both _ _ (expr_named e c.0 w.0) (b.1 c.1 w.1)
  result_level (Res-F.Raise x e) called written = both _ _ (out_named e (and_parts (out_calls bound e) true called).0 written) refl

  pub result_named : (r : Res) → NamedResult r
  result_named = ind-Res NamedResult (λ x y is. subst (λ z. NamedResult (roll-Res z)) is (λ called written.
      fold-roll-Res Bool (result_names_step bound (are_there types)) (result_layer y)
      ∙ result_level y (sym (fold-roll-Res Bool (result_calls_step bound) (result_layer y)) ∙ called) (sym (fold-roll-Res Bool (result_step types) (result_layer y)) ∙ written)))
