-- No graph has two orders.
use Rattle.std.proofs.Common.{◌≡◌, ℕ, zero, suc, ◌+◌, ◌<◌, ◌≤◌, inl, inr, List, [], ◌∷◌, ◌++◌, length, take, get_or, refl, sym, ap, subst, ◌∙◌, arith}
use Rattle.std.proofs.lemmas.Bool.{cases_lt}
use Rattle.std.proofs.lemmas.List.{take_all, take_more}
use Rattle.check_tables.specs.graph.Orders.{IsNext, IsOrder}

module _ (graph : List (List ℕ)) (a b : List ℕ) (p : IsOrder graph a) (q : IsOrder graph b) where
  -- where one of them ends, so does the other
  ended : (x y : List ℕ) → IsOrder graph x → IsOrder graph y → (k : ℕ) → take k x ≡ take k y → length y ≤ k → k < length x → ⊥
  ended x y n m k same le lt = m.whole (get_or x k 0) (subst (λ (zs : List ℕ). IsNext graph zs (get_or x k 0)) (same ∙ take_all k y le) (n.numbering k lt).0)

  same_front : (k : ℕ) → take k a ≡ take k b
  same_front zero = refl
  same_front (suc k) = elim (cases_lt k (length a)) [
    | inl la ↦ elim (cases_lt k (length b)) [
      | inl lb ↦
          let same = same_front k in
          let x = p.numbering k la in let y = q.numbering k lb in
          let down : get_or a k 0 ≤ get_or b k 0 = x.1 (get_or b k 0) (subst (λ (d : List ℕ). IsNext graph d (get_or b k 0)) (sym same) y.0) in
          let up : get_or b k 0 ≤ get_or a k 0 = y.1 (get_or a k 0) (subst (λ (d : List ℕ). IsNext graph d (get_or a k 0)) same x.0) in
          let here : get_or a k 0 ≡ get_or b k 0 = omega arith in
          let e : k + 1 ≡ suc k = omega arith in
          ap (λ n. take n a) (sym e) ∙ take_more a k 0 la ∙ (λ i. same i ++ here i ∷ []) ∙ sym (take_more b k 0 lb) ∙ ap (λ n. take n b) e
      | inr le ↦ absurd (ended a b p q k (same_front k) le la)
    ]
    | inr le ↦ elim (cases_lt k (length b)) [
      | inl lb ↦ absurd (ended b a q p k (sym (same_front k)) le lb)
      | inr more ↦ take_all (suc k) a (omega arith) ∙ sym (take_all k a le) ∙ same_front k ∙ take_all k b more ∙ sym (take_all (suc k) b (omega arith))
    ]
  ]

  pub same_order : a ≡ b
  same_order = let n : ℕ = length a + length b in sym (take_all n a (omega arith)) ∙ same_front n ∙ take_all n b (omega arith)
