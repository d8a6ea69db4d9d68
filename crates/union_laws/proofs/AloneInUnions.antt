-- A union of programs that run alone runs alone.
use Rattle.std.proofs.Common.{◌≡◌, ◌⊎◌, ℕ, zero, suc, ◌+◌, ◌<◌, ◌&&◌, nat_lt, Bool, true, List, [], ◌∷◌, ◌++◌, map, length, Option, Some, None, slice_get, refl, ap, sym, ◌∙◌, subst, arith, inl, inr}
use Rattle.std.specs.List.{list_all}
use Rattle.std.specs.Option.{option_map}
use Rattle.std.proofs.lemmas.Bool.{and_parts, lt-ltb, ltb-true}
use Rattle.std.proofs.lemmas.List.{length-append, length-map, map-id}
use Rattle.hume_model.specs.declared.core_tree.PatC.{PatC}
use Rattle.hume_model.specs.declared.core_tree.Expr.{Expr, map-Expr}
use Rattle.hume_model.specs.declared.core_tree.Expr.TheOpen.{Expr-F}
use Rattle.hume_model.specs.declared.core_tree.Res.{Res, map-Res}
use Rattle.hume_model.specs.declared.core_tree.Res.TheOpen.{Res-F}
use Rattle.hume_model.specs.declared.core_tree.EqC.{EqC}
use Rattle.hume_model.specs.declared.core_tree.RuleC.{RuleC}
use Rattle.hume_model.specs.declared.core_tree.HandC.{HandC}
use Rattle.hume_model.specs.declared.core_tree.BoxC.{BoxC}
use Rattle.hume_model.specs.declared.core_tree.NodeC.{NodeC}
use Rattle.hume_model.specs.declared.core_tree.NodeC.TheVariants.{Rules, From, To}
use Rattle.hume_model.specs.declared.core_tree.WireC.{WireC}
use Rattle.hume_model.specs.declared.core_tree.Core.{Core}
use Rattle.hume_model.specs.Calls.{CallsGoDown, all_true, calls_below, calls_step, equation_calls}
use Rattle.union_laws.specs.declared.moves.Moves.{Moves}
use Rattle.union_laws.specs.Moving.{moved, moved_box, moved_equation, moved_function, moved_handler, moved_layer, moved_node, moved_result, moved_result_layer, moved_rule, moved_wire}
use Rattle.union_laws.specs.Union.{behind, united}
use Rattle.union_laws.specs.inner.ResultCalls.{known_in, out_calls, parts_known, result_calls, result_calls_step}
use Rattle.union_laws.proofs.MovedFiring.{BoxCalls}
use Rattle.union_laws.proofs.MovedFolds.{IsKnownCall, moved_same}
use Rattle.union_laws.proofs.MovedResultFolds.{moved_result_same}
use Rattle.union_laws.proofs.SharedNets.{RunsAlone}
use Rattle.union_laws.proofs.Unions.{was_mapped}
use Rattle.union_laws.proofs.Unmoved.{result_same, unmoved}

-- Elements of two lists, one behind the other and mapped.

pub record IsBehind {X Y : Type 0} (f : Y → X) (xs : List X) (ys : List Y) (n : ℕ) (x : X) : Type 0 where
  pub place : ℕ
  pub element : Y
  pub at : n ≡ length xs + place
  pub there : slice_get ys place ≡ Some element
  pub same : f element ≡ x

pub found_in : {X Y : Type 0} (f : Y → X) (xs : List X) (ys : List Y) (n : ℕ) (x : X) → slice_get (xs ++ map f ys) n ≡ Some x
    → (slice_get xs n ≡ Some x) ⊎ IsBehind f xs ys n x
found_in f [] ys n x found =
    let was = was_mapped f ys n x found in
    inr (record { place = n; element = was.0; at = omega arith; there = was.1; same = was.2 })
found_in f (y ∷ xs) ys zero x found = inl found
found_in f (y ∷ xs) ys (suc n) x found = elim (found_in f xs ys n x found) [
  | inl front ↦ inl front
  | inr behind ↦ inr (let at = behind.at in record { place = behind.place; element = behind.element; at = omega (arith, at); there = behind.there; same = behind.same })
]

module _ (moves : Moves) (bound higher : ℕ) (within : (f : ℕ) → nat_lt f bound ≡ true → nat_lt (moves.funs + f) higher ≡ true) where
  arms_same : (arms : List (PatC × Bool)) → map (λ (arm : PatC × Bool). (arm.0, arm.1)) arms ≡ arms
  arms_same [] = refl
  arms_same (arm ∷ arms) = ap (λ ways. arm ∷ ways) (arms_same arms)

  call_same : (f : ℕ) (parts : Bool) → nat_lt f bound ≡ true → (nat_lt (moves.funs + f) higher && parts) ≡ (nat_lt f bound && parts)
  call_same f parts known = ap (λ t. t && parts) (within f known ∙ sym known)

  level_calls : (y : Expr-F Bool) → IsKnownCall bound y → calls_step higher (moved_layer moves (map-Expr Bool Bool (λ known. known) y)) ≡ calls_step bound y
  level_calls (Expr-F.Word w) known = refl
  level_calls (Expr-F.Var n) known = refl
  level_calls (Expr-F.Con c ps) known = ap all_true (map-id ps)
  level_calls (Expr-F.Tuple ps) known = ap all_true (map-id ps)
  level_calls (Expr-F.Vect ps) known = ap all_true (map-id ps)
  level_calls (Expr-F.Prim op ty ps) known = ap all_true (map-id ps)
  level_calls (Expr-F.Index n v k) known = refl
  level_calls (Expr-F.Update n v k e) known = refl
  level_calls (Expr-F.If t a b) known = refl
  level_calls (Expr-F.Case e forms arms) known = ap (λ ways. e && list_all (λ (arm : PatC × Bool). arm.1) ways) (arms_same arms)
  level_calls (Expr-F.Let a b) known = refl
  level_calls (Expr-F.Call f ps) known = ap (λ parts. nat_lt (moves.funs + f) higher && all_true parts) (map-id ps) ∙ call_same f (all_true ps) known
  level_calls (Expr-F.Raise x None) known = refl
  level_calls (Expr-F.Raise x (Some p)) known = refl

  pub moved_calls : (e : Expr) → calls_below bound e ≡ true → calls_below higher (moved moves e) ≡ true
  moved_calls e known = moved_same Bool (calls_step bound) (calls_step higher) (λ known. known) moves bound level_calls e known ∙ known

  outs_calls : (outs : List (Option Expr)) → list_all (out_calls bound) outs ≡ true → list_all (out_calls higher) (map (option_map (moved moves)) outs) ≡ true
  outs_calls [] known = refl
  outs_calls (None ∷ outs) known = outs_calls outs known
  outs_calls (Some e ∷ outs) known =
      let both = and_parts (calls_below bound e) (list_all (out_calls bound) outs) known in
      ap (λ t. t && list_all (out_calls higher) (map (option_map (moved moves)) outs)) (moved_calls e both.0) ∙ outs_calls outs both.1

  level_known : (y : Res-F Bool) → known_in bound y ≡ true → known_in higher (moved_result_layer moves (map-Res Bool Bool (λ known. known) y)) ≡ true
  level_known (Res-F.Outs outs) known = outs_calls outs known
  level_known (Res-F.If t a b) known = moved_calls t known
  level_known (Res-F.Case e forms arms) known = moved_calls e known
  level_known (Res-F.Let e b) known = moved_calls e known
  level_known (Res-F.Raise x None) known = refl
  level_known (Res-F.Raise x (Some e)) known = moved_calls e known

  level_parts : (y : Res-F Bool) → parts_known (moved_result_layer moves (map-Res Bool Bool (λ known. known) y)) ≡ parts_known y
  level_parts (Res-F.Outs outs) = refl
  level_parts (Res-F.If t a b) = refl
  level_parts (Res-F.Case e forms arms) = ap (λ ways. list_all (λ (arm : PatC × Bool). arm.1) ways) (arms_same arms)
  level_parts (Res-F.Let e b) = refl
  level_parts (Res-F.Raise x e) = refl

  level_results : (y : Res-F Bool) → known_in bound y ≡ true
      → result_calls_step higher (moved_result_layer moves (map-Res Bool Bool (λ known. known) y)) ≡ result_calls_step bound y
  level_results y known = λ i. (level_known y known ∙ sym known) i && level_parts y i

  pub moved_result_calls : (r : Res) → result_calls bound r ≡ true → result_calls higher (moved_result moves r) ≡ true
  moved_result_calls r known =
      moved_result_same Bool (result_calls_step bound) (result_calls_step higher) (λ known. known) moves bound level_results r known ∙ known

  pub moved_equations_call : (equations : List EqC) → list_all (equation_calls bound) equations ≡ true
      → list_all (equation_calls higher) (map (moved_equation moves) equations) ≡ true
  moved_equations_call [] known = refl
  moved_equations_call (equation ∷ equations) known =
      let both = and_parts (equation_calls bound equation) (list_all (equation_calls bound) equations) known in
      ap (λ t. t && list_all (equation_calls higher) (map (moved_equation moves) equations)) (moved_calls equation.body both.0) ∙ moved_equations_call equations both.1

  pub moved_box_calls : (b : BoxC) → BoxCalls bound b → BoxCalls higher (moved_box moves b)
  moved_box_calls b calls = record {
    rules = λ n rule found.
        let was = was_mapped (moved_rule moves) b.rules n rule found in
        ap (λ (r : RuleC). result_calls higher r.result) (sym was.2) ∙ moved_result_calls was.0.result (calls.rules n was.0 was.1);
    handlers = λ n handler found.
        let was = was_mapped (moved_handler moves) b.handlers n handler found in
        ap (λ (h : HandC). result_calls higher h.result) (sym was.2) ∙ moved_result_calls was.0.result (calls.handlers n was.0 was.1);
  }

module _ (a b : Core) where
  many_funs : length (united a b).funs ≡ length a.funs + length b.funs
  many_funs = length-append a.funs (map (moved_function (behind a)) b.funs) ∙ ap (λ n. length a.funs + n) (length-map b.funs (moved_function (behind a)))

  many_nodes : length (united a b).nodes ≡ length a.nodes + length b.nodes
  many_nodes = length-append a.nodes (map (moved_node (behind a)) b.nodes) ∙ ap (λ n. length a.nodes + n) (length-map b.nodes (moved_node (behind a)))

  pub calls_down : CallsGoDown a → CallsGoDown b → CallsGoDown (united a b)
  calls_down first second number function found = elim (found_in (moved_function (behind a)) a.funs b.funs number function found) [
    | inl front ↦ first number function front
    | inr back ↦
        (let moved_down = moved_equations_call (behind a) back.place (length a.funs + back.place)
        (λ f known. let less : f < back.place = ltb-true f back.place known in lt-ltb (length a.funs + f) (length a.funs + back.place) (omega (arith, less)))
        back.element.equations (second back.place back.element back.there) in
        (λ i. list_all (equation_calls (back.at i)) (sym back.same i).equations) ∙ moved_down)
  ]

  -- the boxes of the first program call what they called
  front_calls : (box : BoxC) → BoxCalls (length a.funs) box → BoxCalls (length (united a b).funs) box
  front_calls box calls =
      let many = many_funs in
      let higher = (λ (f : ℕ) (known : nat_lt f (length a.funs) ≡ true).
      (let less : f < length a.funs = ltb-true f (length a.funs) known in lt-ltb (0 + f) (length (united a b).funs) (omega (arith, less, many)))) in
      record {
        rules = λ n rule found. ap (result_calls (length (united a b).funs)) (sym (result_same rule.result))
            ∙ moved_result_calls unmoved (length a.funs) (length (united a b).funs) higher rule.result (calls.rules n rule found);
        handlers = λ n handler found. ap (result_calls (length (united a b).funs)) (sym (result_same handler.result))
            ∙ moved_result_calls unmoved (length a.funs) (length (united a b).funs) higher handler.result (calls.handlers n handler found);
      }

  back_calls : (box : BoxC) → BoxCalls (length b.funs) box → BoxCalls (length (united a b).funs) (moved_box (behind a) box)
  back_calls box calls =
      let many = many_funs in
      moved_box_calls (behind a) (length b.funs) (length (united a b).funs)
      (λ f known. let less : f < length b.funs = ltb-true f (length b.funs) known in lt-ltb (length a.funs + f) (length (united a b).funs) (omega (arith, less, many)))
      box calls

  back_box : ((n : ℕ) (box : BoxC) → slice_get b.nodes n ≡ Some (Rules box) → BoxCalls (length b.funs) box)
      → (n : ℕ) (box : BoxC) (node : NodeC) → slice_get b.nodes n ≡ Some node → moved_node (behind a) node ≡ Rules box → BoxCalls (length (united a b).funs) box
  back_box calls n box (Rules other) there same = (let is : moved_box (behind a) other ≡ box = cc in subst (BoxCalls (length (united a b).funs)) is (back_calls other (calls n other there)))
  back_box calls n box (From stream) there same = cc
  back_box calls n box (To stream) there same = cc

  pub union_alone : RunsAlone a → RunsAlone b → RunsAlone (united a b)
  union_alone first second = record {
    calls = calls_down first.calls second.calls;
    boxes = λ n box found. elim (found_in (moved_node (behind a)) a.nodes b.nodes n (Rules box) found) [
      | inl front ↦ front_calls box (first.boxes n box front)
      | inr back ↦ back_box second.boxes back.place box back.element back.there back.same
    ];
    ends = λ w wire found. (let many = many_nodes in elim (found_in (moved_wire (behind a)) a.wires b.wires w wire found) [
      | inl front ↦ (let ends = first.ends w wire front in (omega (arith, ends.0, many), omega (arith, ends.1, many)))
      | inr back ↦
          (let ends = second.ends back.place back.element back.there in
          let from : length a.nodes + back.element.from ≡ wire.from = ap (λ (x : WireC). x.from) back.same in
          let to : length a.nodes + back.element.to ≡ wire.to = ap (λ (x : WireC). x.to) back.same in
          (omega (arith, ends.0, many, from), omega (arith, ends.1, many, to)))
    ]);
  }
