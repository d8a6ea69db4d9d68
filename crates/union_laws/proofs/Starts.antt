-- The first state of a union has the first state of each program.
use Rattle.std.proofs.Common.{◌≡◌, ℕ, zero, suc, ◌+◌, List, [], ◌∷◌, ◌++◌, map, length, take, drop, Option, None, refl, ap, ◌∙◌, arith}
use Rattle.std.specs.List.{range_with_len}
use Rattle.std.specs.Option.{option_to_list}
use Rattle.std.proofs.lemmas.List.{length-map}
use Rattle.hume_base.specs.declared.types.Value.{Value}
use Rattle.hume_model.specs.declared.core_tree.NodeC.{NodeC}
use Rattle.hume_model.specs.declared.core_tree.NodeC.TheVariants.{Rules, From, To}
use Rattle.hume_model.specs.declared.core_tree.WireC.{WireC}
use Rattle.hume_model.specs.declared.core_tree.Core.{Core}
use Rattle.hume_net.specs.Sides.{numbered}
use Rattle.hume_net.specs.Start.{start, written_order}
use Rattle.union_laws.specs.Moving.{moved_node, moved_rule, moved_wire}
use Rattle.union_laws.specs.Shares.{left, right}
use Rattle.union_laws.specs.Union.{behind, united}
use Rattle.union_laws.proofs.Unions.{all_nodes}

map_both : {X Y : Type 0} (f : X → Y) (xs ys : List X) → map f (xs ++ ys) ≡ map f xs ++ map f ys
map_both f [] ys = refl
map_both f (x ∷ xs) ys = ap (λ zs. f x ∷ zs) (map_both f xs ys)

front_of : {X Y : Type 0} (f : X → Y) (xs ys : List X) → take (length xs) (map f (xs ++ ys)) ≡ map f xs
front_of f [] ys = refl
front_of f (x ∷ xs) ys = ap (λ zs. f x ∷ zs) (front_of f xs ys)

back_of : {X Y : Type 0} (f : X → Y) (xs ys : List X) → drop (length xs) (map f (xs ++ ys)) ≡ map f ys
back_of f [] ys = refl
back_of f (x ∷ xs) ys = back_of f xs ys

map_twice : {X Y Z : Type 0} (f : Y → Z) (g : X → Y) (h : X → Z) → ((x : X) → f (g x) ≡ h x) → (xs : List X) → map f (map g xs) ≡ map h xs
map_twice f g h same [] = refl
map_twice f g h same (x ∷ xs) = λ i. same x i ∷ map_twice f g h same xs i

-- the same for each node

alike_from : {X : Type 0} (x : X) (a b n : ℕ) → map (λ (k : ℕ). x) (range_with_len a n) ≡ map (λ (k : ℕ). x) (range_with_len b n)
alike_from x a b zero = refl
alike_from x a b (suc n) = ap (λ xs. x ∷ xs) (alike_from x (a + 1) (b + 1) n)

alike_front : {X : Type 0} (x : X) (a b m n : ℕ) → take m (map (λ (k : ℕ). x) (range_with_len a (m + n))) ≡ map (λ (k : ℕ). x) (range_with_len b m)
alike_front x a b zero n = refl
alike_front x a b (suc m) n =
    let at : suc m + n ≡ suc (m + n) = omega arith in
    ap (λ k. take (suc m) (map (λ (j : ℕ). x) (range_with_len a k))) at ∙ ap (λ xs. x ∷ xs) (alike_front x (a + 1) (b + 1) m n)

alike_back : {X : Type 0} (x : X) (a b m n : ℕ) → drop m (map (λ (k : ℕ). x) (range_with_len a (m + n))) ≡ map (λ (k : ℕ). x) (range_with_len b n)
alike_back x a b zero n = (let at : 0 + n ≡ n = omega arith in ap (λ k. map (λ (j : ℕ). x) (range_with_len a k)) at ∙ alike_from x a b n)
alike_back x a b (suc m) n =
    let at : suc m + n ≡ suc (m + n) = omega arith in
    ap (λ k. drop (suc m) (map (λ (j : ℕ). x) (range_with_len a k))) at ∙ alike_back x (a + 1) b m n

module _ (a b : Core) where
  order_same : (node : NodeC) → written_order (moved_node (behind a) node) ≡ written_order node
  order_same (Rules box) = ap (range_with_len 0) (length-map box.rules (moved_rule (behind a)))
  order_same (From stream) = refl
  order_same (To stream) = refl

  abbrev first_values : WireC → List Value
  first_values wire = option_to_list wire.initial

  none_front : {X : Type 0} (x : X) → take (length a.nodes) (numbered (length (united a b).nodes) (λ (n : ℕ). x)) ≡ numbered (length a.nodes) (λ (n : ℕ). x)
  none_front x = ap (λ k. take (length a.nodes) (numbered k (λ (n : ℕ). x))) (all_nodes a b) ∙ alike_front x 0 0 (length a.nodes) (length b.nodes)

  none_back : {X : Type 0} (x : X) → drop (length a.nodes) (numbered (length (united a b).nodes) (λ (n : ℕ). x)) ≡ numbered (length b.nodes) (λ (n : ℕ). x)
  none_back x = ap (λ k. drop (length a.nodes) (numbered k (λ (n : ℕ). x))) (all_nodes a b) ∙ alike_back x 0 0 (length a.nodes) (length b.nodes)

  pub left_start : (coming : List (List Value)) → left a (start (united a b) coming) ≡ start a (take (length a.nodes) coming)
  left_start coming = λ i. record {
    wires = front_of first_values a.wires (map (moved_wire (behind a)) b.wires) i;
    pending = none_front {X = Option (List (Option Value))} None i;
    orders = front_of written_order a.nodes (map (moved_node (behind a)) b.nodes) i;
    coming = take (length a.nodes) coming;
    taken = none_front {X = List Value} [] i;
  }

  pub right_start : (coming : List (List Value)) → right a (start (united a b) coming) ≡ start b (drop (length a.nodes) coming)
  right_start coming = λ i. record {
    wires = (back_of first_values a.wires (map (moved_wire (behind a)) b.wires) ∙ map_twice first_values (moved_wire (behind a)) first_values (λ wire. refl) b.wires) i;
    pending = none_back {X = Option (List (Option Value))} None i;
    orders = (back_of written_order a.nodes (map (moved_node (behind a)) b.nodes) ∙ map_twice written_order (moved_node (behind a)) written_order order_same b.nodes) i;
    coming = drop (length a.nodes) coming;
    taken = none_back {X = List Value} [] i;
  }
