-- A moved part is as a source may write it where the part is.
use Rattle.std.proofs.Common.{◌≡◌, ℕ, suc, ◌+◌, ◌&&◌, nat_le, nat_lt, Bool, true, List, [], ◌∷◌, length, map, Option, Some, None, refl, ap, sym, ◌∙◌, subst}
use Rattle.std.specs.List.{list_all}
use Rattle.std.specs.Option.{option_map}
use Rattle.std.proofs.lemmas.Bool.{and_parts}
use Rattle.hume_base.specs.declared.limits.TheConstants.{MAX_LENGTH, MAX_PARTS}
use Rattle.hume_base.specs.declared.types.Ty.{Ty, fold-roll-Ty}
use Rattle.hume_base.specs.declared.types.Ty.TheOpen.{Ty-F}
use Rattle.hume_base.specs.declared.types.Ty.TheVariants as shape
use Rattle.hume_base.specs.declared.types.Types.{Types}
use Rattle.hume_model.specs.declared.core_tree.Forms.{Forms}
use Rattle.hume_model.specs.declared.core_tree.Forms.TheVariants.{Truths, Constructors, Others}
use Rattle.hume_model.specs.declared.core_tree.PatC.{PatC}
use Rattle.hume_model.specs.declared.core_tree.Expr.{Expr, roll-Expr, map-Expr, fold-roll-Expr, ind-Expr}
use Rattle.hume_model.specs.declared.core_tree.Expr.TheOpen.{Expr-F}
use Rattle.hume_model.specs.declared.core_tree.Res.{Res, roll-Res, map-Res, fold-roll-Res, ind-Res}
use Rattle.hume_model.specs.declared.core_tree.Res.TheOpen.{Res-F}
use Rattle.hume_model.specs.declared.core_tree.EqC.{EqC}
use Rattle.hume_model.specs.declared.core_tree.HandC.{HandC}
use Rattle.hume_model.specs.declared.core_tree.RuleC.{RuleC}
use Rattle.hume_model.specs.Calls.{all_true}
use Rattle.hume_model.specs.Forms.{are_there}
use Rattle.hume_model.specs.PartLimits.{are_alternatives, expression_step, is_length, is_written, is_written_equation, is_written_if_there, is_written_pattern, is_written_position, is_written_result, is_written_rule, result_step}
use Rattle.hume_model.specs.TypeLimits.{is_between, is_type, type_step}
use Rattle.calculus_laws.proofs.CallsKnown.{both}
use Rattle.union_laws.specs.declared.moves.Moves.{Moves}
use Rattle.union_laws.specs.Moving.{moved, moved_equation, moved_forms, moved_handler, moved_layer, moved_result, moved_result_layer, moved_rule, moved_type}
use Rattle.union_laws.proofs.MovedForms.{type_named}

module _ (moves : Moves) (small large : Types) (types : (ty : Ty) → is_type small ty ≡ true → is_type large (moved_type moves ty) ≡ true) where
  named_there : (all : Types) (number : ℕ) → is_type all (shape.Named number) ≡ nat_lt number (length all.sums)
  named_there all number = ap (is_type all) (sym (shape.rolls-Named number)) ∙ fold-roll-Ty Bool (type_step (length all.sums)) (Ty-F.Named number)

  forms_up : (forms : Forms) → are_there small forms ≡ true → are_there large (moved_forms moves forms) ≡ true
  forms_up Truths is = refl
  forms_up Others is = refl
  forms_up (Constructors number) is =
      sym (named_there large (moves.types + number)) ∙ ap (is_type large) (sym (type_named moves number)) ∙ types (shape.Named number) (named_there small number ∙ is)

  -- expressions

  abbrev Written : Expr → Type 0
  Written e = is_written small e ≡ true → is_written large (moved moves e) ≡ true

  abbrev Part : Type 0
  Part = (e : Expr) × Written e

  abbrev of_part : Part → Expr
  of_part p = p.0

  abbrev olds : List Part → List Bool
  olds ps = map (is_written small) (map of_part ps)

  abbrev news : List Part → List Bool
  news ps = map (is_written large) (map (moved moves) (map of_part ps))

  parts_written : (ps : List Part) → all_true (olds ps) ≡ true → all_true (news ps) ≡ true
  parts_written [] all = refl
  parts_written (p ∷ ps) all = (let parts = and_parts (is_written small p.0) (all_true (olds ps)) all in both _ _ (p.1 parts.0) (parts_written ps parts.1))

  parts_long : (ps : List Part) → length (news ps) ≡ length (olds ps)
  parts_long [] = refl
  parts_long (p ∷ ps) = ap suc (parts_long ps)

  between_parts : (least most : ℕ) (ps : List Part) → (is_between least most (length (olds ps)) && all_true (olds ps)) ≡ true
      → (is_between least most (length (news ps)) && all_true (news ps)) ≡ true
  between_parts least most ps all =
      let parts = and_parts (is_between least most (length (olds ps))) (all_true (olds ps)) all in
      both _ _ (ap (is_between least most) (parts_long ps) ∙ parts.0) (parts_written ps parts.1)

  abbrev arm_of : PatC × Part → PatC × Expr
  arm_of arm = (arm.0, of_part arm.1)

  abbrev old_arm : PatC × Expr → PatC × Bool
  old_arm arm = (arm.0, is_written small arm.1)

  abbrev new_arm : PatC × Expr → PatC × Bool
  new_arm arm = (arm.0, is_written large arm.1)

  abbrev arm_moved : PatC × Expr → PatC × Expr
  arm_moved arm = (arm.0, moved moves arm.1)

  abbrev is_arm : PatC × Bool → Bool
  is_arm arm = is_written_pattern arm.0 && arm.1

  arms_written : (arms : List (PatC × Part)) → list_all is_arm (map old_arm (map arm_of arms)) ≡ true → list_all is_arm (map new_arm (map arm_moved (map arm_of arms))) ≡ true
  arms_written [] all = refl
  arms_written (arm ∷ arms) all =
      let parts = and_parts (is_arm (arm.0, is_written small arm.1.0)) (list_all is_arm (map old_arm (map arm_of arms))) all in
      let here = and_parts (is_written_pattern arm.0) (is_written small arm.1.0) parts.0 in
      both _ _ (both _ _ here.0 (arm.1.1 here.1)) (arms_written arms parts.1)

  arms_long : (arms : List (PatC × Part)) → length (map new_arm (map arm_moved (map arm_of arms))) ≡ length (map old_arm (map arm_of arms))
  arms_long [] = refl
  arms_long (arm ∷ arms) = ap suc (arms_long arms)

  ways_written : (arms : List (PatC × Part)) → are_alternatives (map old_arm (map arm_of arms)) ≡ true → are_alternatives (map new_arm (map arm_moved (map arm_of arms))) ≡ true
  ways_written arms all =
      let parts = and_parts (nat_le 1 (length (map old_arm (map arm_of arms)))) (list_all is_arm (map old_arm (map arm_of arms))) all in
      both _ _ (ap (nat_le 1) (arms_long arms) ∙ parts.0) (arms_written arms parts.1)

  abbrev layer : Expr-F Part → Expr-F Expr
  layer y = map-Expr Part Expr of_part y

  level : (y : Expr-F Part) → expression_step small (map-Expr Expr Bool (is_written small) (layer y)) ≡ true
      → expression_step large (map-Expr Expr Bool (is_written large) (moved_layer moves (map-Expr Expr Expr (moved moves) (layer y)))) ≡ true
  level (Expr-F.Word w) all = refl
  level (Expr-F.Var n) all = refl
  level (Expr-F.Con c ps) all = parts_written ps all
  level (Expr-F.Tuple ps) all = between_parts 2 MAX_PARTS ps all
  level (Expr-F.Vect ps) all = between_parts 1 MAX_LENGTH ps all
  level (Expr-F.Prim op ty ps) all = (let parts = and_parts (is_type small ty) (all_true (olds ps)) all in both _ _ (types ty parts.0) (parts_written ps parts.1))
  level (Expr-F.Index n v k) all =
      let parts = and_parts (is_length n) (is_written small v.0 && is_written small k.0) all in
      let rest = and_parts (is_written small v.0) (is_written small k.0) parts.1 in
      both _ _ parts.0 (both _ _ (v.1 rest.0) (k.1 rest.1))
  level (Expr-F.Update n v k e) all =
      let parts = and_parts (is_length n) (is_written small v.0 && (is_written small k.0 && is_written small e.0)) all in
      let rest = and_parts (is_written small v.0) (is_written small k.0 && is_written small e.0) parts.1 in
      let last = and_parts (is_written small k.0) (is_written small e.0) rest.1 in
      both _ _ parts.0 (both _ _ (v.1 rest.0) (both _ _ (k.1 last.0) (e.1 last.1)))
  level (Expr-F.If t a b) all =
      let parts = and_parts (is_written small t.0) (is_written small a.0 && is_written small b.0) all in
      let rest = and_parts (is_written small a.0) (is_written small b.0) parts.1 in
      both _ _ (t.1 parts.0) (both _ _ (a.1 rest.0) (b.1 rest.1))
  level (Expr-F.Case e forms arms) all =
      let parts = and_parts (are_there small forms) (is_written small e.0 && are_alternatives (map old_arm (map arm_of arms))) all in
      let rest = and_parts (is_written small e.0) (are_alternatives (map old_arm (map arm_of arms))) parts.1 in
      both _ _ (forms_up forms parts.0) (both _ _ (e.1 rest.0) (ways_written arms rest.1))
  level (Expr-F.Let a b) all = (let parts = and_parts (is_written small a.0) (is_written small b.0) all in both _ _ (a.1 parts.0) (b.1 parts.1))
  level (Expr-F.Call f ps) all = parts_written ps all
  level (Expr-F.Raise x None) all = refl
  level (Expr-F.Raise x (Some p)) all = p.1 all

  layer_written : (y : Expr-F Part) → Written (roll-Expr (layer y))
  layer_written y all =
      ap (is_written large) (fold-roll-Expr Expr (λ x. roll-Expr (moved_layer moves x)) (layer y))
      ∙ fold-roll-Expr Bool (expression_step large) (moved_layer moves (map-Expr Expr Expr (moved moves) (layer y)))
      ∙ level y (sym (fold-roll-Expr Bool (expression_step small) (layer y)) ∙ all)

  pub expr_written : (e : Expr) → Written e
  expr_written = ind-Expr Written (λ x y is. subst (λ z. Written (roll-Expr z)) is (layer_written y))

  maybe_written : (o : Option Expr) → is_written_if_there small o ≡ true → is_written_if_there large (option_map (moved moves) o) ≡ true
  maybe_written None all = refl
  maybe_written (Some e) all = expr_written e all

  outs_written : (outs : List (Option Expr)) → list_all (is_written_if_there small) outs ≡ true → list_all (is_written_if_there large) (map (option_map (moved moves)) outs) ≡ true
  outs_written [] all = refl
  outs_written (out ∷ outs) all =
      let parts = and_parts (is_written_if_there small out) (list_all (is_written_if_there small) outs) all in
      both _ _ (maybe_written out parts.0) (outs_written outs parts.1)

  -- results

  abbrev WrittenResult : Res → Type 0
  WrittenResult r = is_written_result small r ≡ true → is_written_result large (moved_result moves r) ≡ true

  abbrev ResultPart : Type 0
  ResultPart = (r : Res) × WrittenResult r

  abbrev of_result : ResultPart → Res
  of_result p = p.0

  abbrev result_arm_of : PatC × ResultPart → PatC × Res
  result_arm_of arm = (arm.0, of_result arm.1)

  abbrev old_result_arm : PatC × Res → PatC × Bool
  old_result_arm arm = (arm.0, is_written_result small arm.1)

  abbrev new_result_arm : PatC × Res → PatC × Bool
  new_result_arm arm = (arm.0, is_written_result large arm.1)

  abbrev result_arm_moved : PatC × Res → PatC × Res
  result_arm_moved arm = (arm.0, moved_result moves arm.1)

  result_arms_written : (arms : List (PatC × ResultPart)) → list_all is_arm (map old_result_arm (map result_arm_of arms)) ≡ true
      → list_all is_arm (map new_result_arm (map result_arm_moved (map result_arm_of arms))) ≡ true
  result_arms_written [] all = refl
  result_arms_written (arm ∷ arms) all =
      let parts = and_parts (is_arm (arm.0, is_written_result small arm.1.0)) (list_all is_arm (map old_result_arm (map result_arm_of arms))) all in
      let here = and_parts (is_written_pattern arm.0) (is_written_result small arm.1.0) parts.0 in
      both _ _ (both _ _ here.0 (arm.1.1 here.1)) (result_arms_written arms parts.1)

  result_arms_long : (arms : List (PatC × ResultPart))
      → length (map new_result_arm (map result_arm_moved (map result_arm_of arms))) ≡ length (map old_result_arm (map result_arm_of arms))
  result_arms_long [] = refl
  result_arms_long (arm ∷ arms) = ap suc (result_arms_long arms)

  result_ways_written : (arms : List (PatC × ResultPart)) → are_alternatives (map old_result_arm (map result_arm_of arms)) ≡ true
      → are_alternatives (map new_result_arm (map result_arm_moved (map result_arm_of arms))) ≡ true
  result_ways_written arms all =
      let parts = and_parts (nat_le 1 (length (map old_result_arm (map result_arm_of arms)))) (list_all is_arm (map old_result_arm (map result_arm_of arms))) all in
      both _ _ (ap (nat_le 1) (result_arms_long arms) ∙ parts.0) (result_arms_written arms parts.1)

  abbrev result_layer : Res-F ResultPart → Res-F Res
  result_layer y = map-Res ResultPart Res of_result y

  result_level : (y : Res-F ResultPart) → result_step small (map-Res Res Bool (is_written_result small) (result_layer y)) ≡ true
      → result_step large (map-Res Res Bool (is_written_result large) (moved_result_layer moves (map-Res Res Res (moved_result moves) (result_layer y)))) ≡ true
  result_level (Res-F.Outs outs) all = outs_written outs all
  result_level (Res-F.If t a b) all =
      let parts = and_parts (is_written small t) (is_written_result small a.0 && is_written_result small b.0) all in
      let rest = and_parts (is_written_result small a.0) (is_written_result small b.0) parts.1 in
      both _ _ (expr_written t parts.0) (both _ _ (a.1 rest.0) (b.1 rest.1))
  result_level (Res-F.Case e forms arms) all =
      let parts = and_parts (are_there small forms) (is_written small e && are_alternatives (map old_result_arm (map result_arm_of arms))) all in
      let rest = and_parts (is_written small e) (are_alternatives (map old_result_arm (map result_arm_of arms))) parts.1 in
      both _ _ (forms_up forms parts.0) (both _ _ (expr_written e rest.0) (result_ways_written arms rest.1))
  result_level (Res-F.Let e b) all = (let parts = and_parts (is_written small e) (is_written_result small b.0) all in both _ _ (expr_written e parts.0) (b.1 parts.1))
  result_level (Res-F.Raise x e) all = maybe_written e all

  result_layer_written : (y : Res-F ResultPart) → WrittenResult (roll-Res (result_layer y))
  result_layer_written y all =
      ap (is_written_result large) (fold-roll-Res Res (λ x. roll-Res (moved_result_layer moves x)) (result_layer y))
      ∙ fold-roll-Res Bool (result_step large) (moved_result_layer moves (map-Res Res Res (moved_result moves) (result_layer y)))
      ∙ result_level y (sym (fold-roll-Res Bool (result_step small) (result_layer y)) ∙ all)

  pub result_written : (r : Res) → WrittenResult r
  result_written = ind-Res WrittenResult (λ x y is. subst (λ z. WrittenResult (roll-Res z)) is (result_layer_written y))

  -- equations, rules and handlers

  pub equations_written : (equations : List EqC) → list_all (is_written_equation small) equations ≡ true
      → list_all (is_written_equation large) (map (moved_equation moves) equations) ≡ true
  equations_written [] all = refl
  equations_written (equation ∷ equations) all =
      let parts = and_parts (is_written_equation small equation) (list_all (is_written_equation small) equations) all in
      let here = and_parts (list_all is_written_pattern equation.pats) (is_written small equation.body) parts.0 in
      both _ _ (both _ _ here.0 (expr_written equation.body here.1)) (equations_written equations parts.1)

  pub rules_written : (rules : List RuleC) → list_all (is_written_rule small) rules ≡ true → list_all (is_written_rule large) (map (moved_rule moves) rules) ≡ true
  rules_written [] all = refl
  rules_written (rule ∷ rules) all =
      let parts = and_parts (is_written_rule small rule) (list_all (is_written_rule small) rules) all in
      let here = and_parts (list_all is_written_position rule.pats) (is_written_result small rule.result) parts.0 in
      both _ _ (both _ _ here.0 (result_written rule.result here.1)) (rules_written rules parts.1)

  pub handlers_written : (handlers : List HandC) → list_all (λ (h : HandC). is_written_result small h.result) handlers ≡ true
      → list_all (λ (h : HandC). is_written_result large h.result) (map (moved_handler moves) handlers) ≡ true
  handlers_written [] all = refl
  handlers_written (handler ∷ handlers) all =
      let parts = and_parts (is_written_result small handler.result) (list_all (λ (h : HandC). is_written_result small h.result) handlers) all in
      both _ _ (result_written handler.result parts.0) (handlers_written handlers parts.1)
