-- Chains of steps, and what a numbering says of them.
use Rattle.std.proofs.Common.{◌≡◌, ℕ, zero, suc, ◌<◌, ◌≤◌, inl, inr, List, [], length, take, get_or, Contains, refl, sym, subst, ◌∙◌, arith}
use Rattle.std.proofs.lemmas.Bool.{cases_lt}
use Rattle.std.proofs.lemmas.List.{length-take, get_or-take, get_or_default, take_all, get_or_past}
use Rattle.check_tables.specs.graph.Cycles.{LeadsTo, Chain, InCycle}
use Rattle.check_tables.specs.graph.Orders.{IsNumbering}

pub chain_push : (graph : List (List ℕ)) (a b c n : ℕ) → Chain graph a b n → LeadsTo graph b c → Chain graph a c (suc n)
chain_push graph a b c zero p q = (c, subst (λ x. LeadsTo graph x c) (sym p) q, refl)
chain_push graph a b c (suc n) p q = (p.0, p.1, chain_push graph p.0 b c n p.2 q)

-- the node that it leads to next is in the same cycle
pub turned : (graph : List (List ℕ)) (a : ℕ) → InCycle graph a → (c : ℕ) × LeadsTo graph a c × InCycle graph c
turned graph a p = (p.chain.0, p.chain.1, record { others = p.others; chain = chain_push graph p.chain.0 a p.chain.0 p.others p.chain.2 p.chain.1 })

-- what leads to a node is a node
pub leads_within : (graph : List (List ℕ)) (a b : ℕ) → LeadsTo graph a b → a < length graph
leads_within graph a b p = elim (cases_lt a (length graph)) [
  | inl lt ↦ lt
  | inr le ↦ absurd (let lt = (subst (λ (row : List ℕ). Contains row b) (get_or_past graph a [] le) p.listed).1 in omega arith)
]

pub cycle_within : (graph : List (List ℕ)) (a : ℕ) → InCycle graph a → a < length graph
cycle_within graph a p = leads_within graph a p.chain.0 p.chain.1

pub contains_take : (xs : List ℕ) (i k c : ℕ) → i ≤ k → Contains (take i xs) c → Contains (take k xs) c
contains_take xs i k c le p =
    let lt = p.1 in
    let below : p.0 < i = omega (arith, length-take i xs) in
    (p.0, omega (arith, length-take i xs, length-take k xs), get_or-take k xs p.0 c (omega arith) ∙ sym (get_or-take i xs p.0 c below) ∙ p.2)

module _ (graph : List (List ℕ)) (order : List ℕ) (n : IsNumbering graph order) where
  -- what one of the first k + 1 nodes leads to is among the first k
  leads_earlier : (k a c : ℕ) → Contains (take (suc k) order) a → LeadsTo graph a c → Contains (take k order) c
  leads_earlier k a c p q =
      let lt = p.1 in
      let within : p.0 < length order = omega (arith, length-take (suc k) order) in
      let below : p.0 < suc k = omega (arith, length-take (suc k) order) in
      let same : a ≡ get_or order p.0 0 = sym p.2 ∙ get_or-take (suc k) order p.0 a below ∙ get_or_default order p.0 a 0 within in
      contains_take order p.0 k c (omega arith) ((n p.0 within).0.ready c (subst (λ x. LeadsTo graph x c) same q))

  no_cycle_below : (k a : ℕ) → Contains (take k order) a → InCycle graph a → ⊥
  no_cycle_below zero a p q = let lt = p.1 in omega arith
  no_cycle_below (suc k) a p q = let t = turned graph a q in no_cycle_below k t.0 (leads_earlier k a t.0 p t.1) t.2

  -- no numbered node is in a cycle
  pub no_cycle : (a : ℕ) → Contains order a → InCycle graph a → ⊥
  no_cycle a p q = no_cycle_below (length order) a (subst (λ (xs : List ℕ). Contains xs a) (sym (take_all (length order) order (omega arith))) p) q
