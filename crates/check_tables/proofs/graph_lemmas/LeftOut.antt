-- A node that an order leaves out leads to another such node, so there is a cycle.
use Rattle.std.proofs.Common.{◌≡◌, ℕ, zero, suc, ◌+◌, ◌-◌, ◌<◌, ◌⊎◌, ◌↔◌, inl, inr, List, [], length, get_or, Contains, sym, ap, subst, ◌∙◌, arith}
use Rattle.std.proofs.lemmas.Bool.{cases_eq, cases_lt}
use Rattle.std.proofs.lemmas.List.{get_or_default}
use Rattle.std.proofs.lemmas.List.Elements.{Contains-get_or}
use Rattle.check_tables.specs.graph.Cycles.{LeadsTo, Chain, InCycle}
use Rattle.check_tables.specs.graph.Orders.{IsOrder, HasAll}
use Rattle.check_tables.proofs.graph_lemmas.Chains.{no_cycle, cycle_within}
use Rattle.check_tables.proofs.graph_lemmas.Pigeons.{among, two_same}

-- the first numbers of a row, so many of them, are of numbered nodes, or one of them isn't
abbrev Numbered : List ℕ → ℕ → List ℕ → ℕ → Type 0
Numbered order count row j = get_or row j 0 < count → Contains order (get_or row j 0)

record Missing (order : List ℕ) (count : ℕ) (row : List ℕ) (k : ℕ) : Type 0 where
  place : ℕ
  below : place < k
  within : get_or row place 0 < count
  out : Contains order (get_or row place 0) → ⊥

front_or_missing : (order : List ℕ) (count : ℕ) (row : List ℕ) (k : ℕ) → ((j : ℕ) → j < k → Numbered order count row j) ⊎ Missing order count row k
front_or_missing order count row zero = inl (λ j lt h. absurd (omega arith))
front_or_missing order count row (suc k) = elim (front_or_missing order count row k) [
  | inr m ↦ let lt = m.below in inr (record { place = m.place; below = omega arith; within = m.within; out = m.out })
  | inl all ↦ elim (cases_lt (get_or row k 0) count) [
    | inr le ↦ inl (λ j lt. elim (cases_eq j k) [ inl e ↦ subst (Numbered order count row) (sym e) (λ h. absurd (omega arith)) | inr o ↦ all j (omega arith) ])
    | inl within ↦ elim (among order (get_or row k 0)) [
      | inl c ↦ inl (λ j lt. elim (cases_eq j k) [ inl e ↦ subst (Numbered order count row) (sym e) (λ h. c) | inr o ↦ all j (omega arith) ])
      | inr out ↦ inr (record { place = k; below = omega arith; within = within; out = out })
    ]
  ]
]

record Open (graph : List (List ℕ)) (order : List ℕ) : Type 0 where
  node : ℕ
  within : node < length graph
  out : Contains order node → ⊥

module _ (graph : List (List ℕ)) (order : List ℕ) (is : IsOrder graph order) where
  next : (u : Open graph order) → (w : Open graph order) × LeadsTo graph u.node w.node
  next u = let row : List ℕ = get_or graph u.node [] in elim (front_or_missing order (length graph) row (length row)) [
    | inl all ↦ absurd (is.whole u.node (record { within = u.within; new' = u.out; ready = λ b l. ready row all b l.within l.listed }))
    | inr m ↦ (record { node = get_or row m.place 0; within = m.within; out = m.out }, record { within = m.within; listed = Contains-get_or row m.place 0 m.below })
  ]
    where
      ready : (row : List ℕ) → ((j : ℕ) → j < length row → Numbered order (length graph) row j) → (b : ℕ) → b < length graph → Contains row b → Contains order b
      ready row all b lt p =
          let same : get_or row p.0 0 ≡ b = get_or_default row p.0 0 b p.1 ∙ p.2 in
          subst (Contains order) same (all p.0 p.1 (subst (λ x. x < length graph) (sym same) lt))

  -- the nodes that one comes to, step by step
  walk : Open graph order → ℕ → Open graph order
  walk u zero = u
  walk u (suc k) = (next (walk u k)).0

  walked : (u : Open graph order) (k d : ℕ) → Chain graph (walk u k).node (walk u (k + d)).node d
  unfolding walk
  walked u k zero = ap (λ m. (walk u m).node) (let e : k ≡ k + 0 = omega arith in e)
  walked u k (suc d) = ((walk u (suc k)).node, (next (walk u k)).1, subst (λ m. Chain graph (walk u (suc k)).node (walk u m).node d) (let e : suc k + d ≡ k + suc d = omega arith in e) (walked u (suc k) d))

  pub left_out_cycle : (a : ℕ) → a < length graph → (Contains order a → ⊥) → (c : ℕ) × InCycle graph c
  left_out_cycle a lt out =
      let u : Open graph order = record { node = a; within = lt; out = out } in
      let r = two_same (length graph) (λ k. (walk u k).node) (λ k le. (walk u k).within) in
      let lt = r.2 in
      let d : ℕ = r.1 - suc r.0 in
      let e : r.0 + suc d ≡ r.1 = omega arith in
      ((walk u r.0).node, record { others = d; chain = subst (λ m. Chain graph (walk u r.0).node m (suc d)) (ap (λ m. (walk u m).node) e ∙ sym r.4) (walked u r.0 (suc d)) })

  -- all have a number exactly where there is no cycle
  pub all_where_no_cycle : HasAll graph order ↔ ((a : ℕ) → InCycle graph a → ⊥)
  all_where_no_cycle = (
    λ all a q. no_cycle graph order is.numbering a (all a (cycle_within graph a q)) q,
    λ none a lt. elim (among order a) [ inl c ↦ c | inr out ↦ absurd (let found = left_out_cycle a lt out in none found.0 found.1) ],
  )
