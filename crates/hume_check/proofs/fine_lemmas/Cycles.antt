-- Whether a node of a graph is in a cycle can be found out: a cycle has no more steps than the graph has nodes.
use Rattle.std.proofs.Common.{◌≡◌, ℕ, zero, suc, ◌+◌, ◌-◌, ◌<◌, ◌≤◌, inl, inr, List, [], length, get_or, refl, sym, subst, arith}
use Rattle.std.proofs.lemmas.Bool.{cases_eq, cases_lt}
use Rattle.check_tables.specs.graph.Cycles.{LeadsTo, Chain, InCycle}
use Rattle.check_tables.proofs.graph_lemmas.Pigeons.{among, two_same}
use Rattle.hume_check.proofs.fine_lemmas.Decided.{Decided, decided_as, decided_both, decided_lt, decided_below}

module _ (graph : List (List ℕ)) where
  leads : (a b : ℕ) → Decided (LeadsTo graph a b)
  leads a b = decided_as (λ h. record { within = h.0; listed = h.1 }) (λ l. (l.within, l.listed))
      (decided_both (decided_lt b (length graph)) (among (get_or graph a []) b))

  -- a chain of so many steps
  chains : (n a b : ℕ) → Decided (Chain graph a b n)
  chains zero a b = cases_eq a b
  chains (suc n) a b = decided_as (λ h. (h.0, h.2.0, h.2.1)) (λ h. (h.0, h.1.within, (h.1, h.2)))
      (decided_below (λ c. LeadsTo graph a c × Chain graph c b n) (λ c. decided_both (leads a c) (chains n c b)) (length graph))

  -- the node that a chain comes to after so many steps
  at : (n a b : ℕ) → Chain graph a b n → ℕ → ℕ
  at n a b chain zero = a
  at zero a b chain (suc k) = a
  at (suc n) a b chain (suc k) = at n chain.0 b chain.2 k

  at_within : (n a b : ℕ) (chain : Chain graph a b n) → a < length graph → (k : ℕ) → at n a b chain k < length graph
  unfolding at
  at_within n a b chain lt zero = lt
  at_within zero a b chain lt (suc k) = lt
  at_within (suc n) a b chain lt (suc k) = at_within n chain.0 b chain.2 chain.1.within k

  front : (n a b : ℕ) (chain : Chain graph a b n) (k : ℕ) → k ≤ n → Chain graph a (at n a b chain k) k
  unfolding at
  front n a b chain zero le = refl
  front zero a b chain (suc k) le = absurd (omega (arith, le))
  front (suc n) a b chain (suc k) le = (chain.0, chain.1, front n chain.0 b chain.2 k (omega (arith, le)))

  back : (n a b : ℕ) (chain : Chain graph a b n) (k m : ℕ) → k + m ≡ n → Chain graph (at n a b chain k) b m
  unfolding at
  back n a b chain zero m e = subst (Chain graph a b) (sym (let same : m ≡ n = omega (arith, e) in same)) chain
  back zero a b chain (suc k) m e = absurd (omega (arith, e))
  back (suc n) a b chain (suc k) m e = back n chain.0 b chain.2 k m (omega (arith, e))

  joined : (n m a b c : ℕ) → Chain graph a b n → Chain graph b c m → Chain graph a c (n + m)
  joined zero m a b c p q = subst (Chain graph a c) (let same : m ≡ 0 + m = omega arith in same) (subst (λ x. Chain graph x c m) (sym p) q)
  joined (suc n) m a b c p q = subst (Chain graph a c) (let same : suc (n + m) ≡ suc n + m = omega arith in same) (p.0, p.1, joined n m p.0 b c p.2 q)

  -- of a chain that is longer than there are nodes a part can be left out
  shorter : (n a b : ℕ) → a < length graph → length graph ≤ n → Chain graph a b n → (m : ℕ) × (m < n) × Chain graph a b m
  shorter n a b lt long chain =
      let r = two_same (length graph) (at n a b chain) (λ k le. at_within n a b chain lt k) in
      let first = r.2 in
      let last = r.3 in
      let m : ℕ = n - r.1 in
      let e : r.1 + m ≡ n = omega arith in
      let rest : Chain graph (at n a b chain r.0) b m = subst (λ x. Chain graph x b m) (sym r.4) (back n a b chain r.1 m e) in
      (r.0 + m, omega arith, joined r.0 m a (at n a b chain r.0) b (front n a b chain r.0 (omega arith)) rest)

  -- so there is one of fewer steps than there are nodes
  short : (bound n a b : ℕ) → n < bound → a < length graph → Chain graph a b n → (m : ℕ) × (m < length graph) × Chain graph a b m
  short zero n a b below lt chain = absurd (omega (arith, below))
  short (suc bound) n a b below lt chain = elim (cases_lt n (length graph)) [
    | inl few ↦ (n, few, chain)
    | inr many ↦ let s = shorter n a b lt many chain in let fewer = s.1 in short bound s.0 a b (omega arith) lt s.2
  ]

  pub decided_cycle : (a : ℕ) → Decided (InCycle graph a)
  decided_cycle a = decided_as
      (λ h. record { others = h.2.0; chain = (h.0, h.2.2.0, h.2.2.1) })
      (λ c. (c.chain.0, c.chain.1.within, (let s = short (suc c.others) c.others c.chain.0 a (omega arith) (first_within c) c.chain.2 in (s.0, s.1, (c.chain.1, s.2)))))
      (decided_below (λ c. (m : ℕ) × (m < length graph) × (LeadsTo graph a c × Chain graph c a m))
      (λ c. decided_below (λ m. LeadsTo graph a c × Chain graph c a m) (λ m. decided_both (leads a c) (chains m c a)) (length graph)) (length graph))
    where
      first_within : (c : InCycle graph a) → c.chain.0 < length graph
      first_within c = c.chain.1.within
