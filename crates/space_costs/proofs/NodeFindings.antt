-- What the costs of nodes break, as findings.
use Rattle.std.proofs.Common.{◌≡◌, inl, inr, ℕ, zero, suc, ◌+◌, ◌<◌, ◌≤◌, ◌&&◌, nat_lt, nat_le, Bool, true, IsTrue, List, [], ◌∷◌, ◌++◌, map, sum, take, length, Option, Some, None, slice_get, refl, ap, sym, ◌∙◌, subst, arith, ◌↔◌}
use Rattle.std.proofs.lemmas.Bool.{ltb-true, lt-ltb, leb-true, le-leb, and_parts}
use Rattle.std.proofs.lemmas.Option.{same_Some}
use Rattle.hume_base.specs.declared.limits.TheConstants.{MAX_HEAP_WORDS, MAX_STACK_WORDS, MAX_SPACE_WORDS, MAX_WORK}
use Rattle.hume_base.specs.declared.finding.Finding.{Finding}
use Rattle.hume_base.specs.declared.rule.Rule.{Rule}
use Rattle.hume_base.specs.declared.rule.Rule.TheVariants.{C75, C76, C79}
use Rattle.hume_base.specs.Least.{IsLeast, OfRule}
use Rattle.hume_base.proofs.Least.{IsLeast-same}
use Rattle.hume_model.specs.declared.core_tree.NodeC.{NodeC}
use Rattle.hume_model.specs.declared.core_tree.Core.{Core}
use Rattle.hume_model.specs.Declarations.{declaration_of, line_of, StandsAt}
use Rattle.hume_model.proofs.Findings.{IsAmong, Breaks, all_among}
use Rattle.box_costs.specs.declared.cost.Cost.{Cost}
use Rattle.box_costs.specs.CostRules.{node_bound, space_of, space_before, HeapPasses, StackPasses, WorkPasses, SpacePasses, OfNode, BreaksCosts}
use Rattle.box_costs.proofs.CostSteps.{sum_more}
use Rattle.space_costs.specs.declared.findings.Part.{Part}
use Rattle.space_costs.specs.declared.findings.Part.TheVariants.{Heap, Stack, Work}
use Rattle.space_costs.specs.inner.Standing.{IsCostOf, AreNodeCosts, counted}
use Rattle.space_costs.specs.inner.Parts.{PartPasses, past_limit}

-- all nodes
module _ (core : Core) (P : Core → ℕ → NodeC → Type 0) where
  nodes_same : (d : ℕ) → Breaks core.nodes declaration_of (P core) d ↔ OfNode core P d
  nodes_same d = (
    (λ b. record { n = b.at; node = b.item; there = b.there; declared = b.of_item; holds = b.breaks }),
    (λ o. record { at = o.n; item = o.node; there = o.there; breaks = o.holds; of_item = o.declared }),
  )

  pub least_nodes : (rule : Rule) (o : Option Finding) → IsLeast (IsAmong core.nodes declaration_of (P core) rule (length core.nodes)) o → IsLeast (OfRule rule (OfNode core P)) o
  least_nodes rule o least =
      IsLeast-same (OfRule rule (Breaks core.nodes declaration_of (P core))) (OfRule rule (OfNode core P)) o
      (λ f. ((λ p. (p.0, (nodes_same f.declaration).0 p.1)), (λ q. (q.0, (nodes_same f.declaration).1 q.1))))
      (all_among core.nodes declaration_of (P core) rule o least)

  node_stands : (d : ℕ) → OfNode core P d → (line : ℕ) × StandsAt core d line
  node_stands d o = (line_of o.node, subst (λ k. StandsAt core k (line_of o.node)) o.declared (StandsAt.node o.n o.node o.there))

-- what is broken stands somewhere
pub broken_stands : (core : Core) (f : Finding) → BreaksCosts core f → (line : ℕ) × StandsAt core f.declaration line
broken_stands core f broken = elim broken [
  | inl heap ↦ node_stands core HeapPasses f.declaration heap.1
  | inr others ↦ elim others [
    | inl stack ↦ node_stands core StackPasses f.declaration stack.1
    | inr more ↦ elim more [
      | inl space ↦ node_stands core SpacePasses f.declaration space.1
      | inr work ↦ node_stands core WorkPasses f.declaration work.1
    ]
  ]
]

-- costs of nodes
module _ (core : Core) where
  pub same_length : (ns : List NodeC) (xs : List Cost) → AreNodeCosts core ns xs → length xs ≡ length ns
  same_length ns xs AreNodeCosts.none = refl
  same_length ns xs (AreNodeCosts.one first rest) = ap suc (same_length _ _ rest)

  pub cost_at : (ns : List NodeC) (xs : List Cost) → AreNodeCosts core ns xs → (n : ℕ) (node : NodeC) (x : Cost) → slice_get ns n ≡ Some node → slice_get xs n ≡ Some x
      → IsCostOf x (node_bound core node)
  cost_at ns xs AreNodeCosts.none n node x at there = cc
  cost_at ns xs (AreNodeCosts.one {node = m} {x = y} first rest) zero node x at there =
      subst (λ z. IsCostOf z (node_bound core node)) (same_Some y x there) (subst (λ k. IsCostOf y (node_bound core k)) (same_Some m node at) first)
  cost_at ns xs (AreNodeCosts.one first rest) (suc n) node x at there = cost_at _ _ rest n node x at there

  pub one_more_node : (ns : List NodeC) (xs : List Cost) (node : NodeC) (x : Cost) → AreNodeCosts core ns xs → IsCostOf x (node_bound core node)
      → AreNodeCosts core (ns ++ node ∷ []) (xs ++ x ∷ [])
  one_more_node ns xs node x AreNodeCosts.none is = AreNodeCosts.one is AreNodeCosts.none
  one_more_node ns xs node x (AreNodeCosts.one first rest) is = AreNodeCosts.one first (one_more_node _ _ node x rest is)

pub take_more : {X : Type 0} (xs : List X) (n : ℕ) (x : X) → slice_get xs n ≡ Some x → take (suc n) xs ≡ take n xs ++ x ∷ []
take_more [] n x at = cc
take_more (y ∷ ys) zero x at = ap (λ z. z ∷ []) (same_Some y x at)
take_more (y ∷ ys) (suc n) x at = ap (λ l. y ∷ l) (take_more ys n x at)

sum_next : {X : Type 0} (f : X → ℕ) (xs : List X) (n : ℕ) (x : X) → slice_get xs n ≡ Some x → sum (map f (take (suc n) xs)) ≡ sum (map f (take n xs)) + f x
sum_next f [] n x at = cc
sum_next f (y ∷ ys) zero x at = (let e = sum_more (f y) [] in let d = ap f (same_Some y x at) in omega (arith, e, d))
sum_next f (y ∷ ys) (suc n) x at =
    let rest = sum_next f ys n x at in
    let a = sum_more (f y) (map f (take (suc n) ys)) in
    let b = sum_more (f y) (map f (take n ys)) in
    omega (arith, rest, a, b)

pub space_next : (core : Core) (n : ℕ) (node : NodeC) → slice_get core.nodes n ≡ Some node → space_before core (n + 1) ≡ space_before core n + space_of (node_bound core node)
space_next core n node at =
    let same : n + 1 ≡ suc n = omega arith in
    ap (space_before core) same ∙ sum_next (λ m. space_of (node_bound core m)) core.nodes n node at

-- what is counted passes a limit where the bound does
pub past_same : (core : Core) (n : ℕ) (node : NodeC) (part : Part) (x : Cost) → IsCostOf x (node_bound core node) → IsTrue (past_limit part x) ↔ PartPasses part core n node
past_same core n node Heap x is = (
  (λ h. (let low = ltb-true MAX_HEAP_WORDS x.heap h in let e = is.heap in omega (arith, low, e))),
  (λ passes. lt-ltb MAX_HEAP_WORDS x.heap (let e = is.heap in omega (arith, passes, e))),
)
past_same core n node Stack x is = (
  (λ h. (let low = ltb-true MAX_STACK_WORDS x.stack h in let e = is.stack in omega (arith, low, e))),
  (λ passes. lt-ltb MAX_STACK_WORDS x.stack (let e = is.stack in omega (arith, passes, e))),
)
past_same core n node Work x is = (
  (λ h. (let low = ltb-true MAX_WORK x.work h in let e = is.work in omega (arith, low, e))),
  (λ passes. lt-ltb MAX_WORK x.work (let e = is.work in omega (arith, passes, e))),
)

pub space_same : (core : Core) (n : ℕ) (node : NodeC) (before through : ℕ) → before ≡ counted (space_before core n) → through ≡ counted (space_before core n + space_of (node_bound core node))
    → (b : Bool) → b ≡ (nat_le before MAX_SPACE_WORDS && nat_lt MAX_SPACE_WORDS through) → IsTrue b ↔ SpacePasses core n node
space_same core n node before through e d b is = (
  (λ h.
      let hs = and_parts (nat_le before MAX_SPACE_WORDS) (nat_lt MAX_SPACE_WORDS through) (sym is ∙ h) in
      let few = leb-true before MAX_SPACE_WORDS hs.0 in
      let many = ltb-true MAX_SPACE_WORDS through hs.1 in
      record { before = omega (arith, e, few); through = omega (arith, d, many) }),
  (λ passes.
      let few : nat_le before MAX_SPACE_WORDS ≡ true = le-leb before MAX_SPACE_WORDS (let p = passes.before in omega (arith, e, p)) in
      let many : nat_lt MAX_SPACE_WORDS through ≡ true = lt-ltb MAX_SPACE_WORDS through (let p = passes.through in omega (arith, d, p)) in
      is ∙ (λ i. few i && many i)),
)

-- where nothing is broken, what is counted is the bound
pub record IsWithin (cost : Cost) : Type 0 where
  pub heap : cost.heap ≤ MAX_HEAP_WORDS
  pub stack : cost.stack ≤ MAX_STACK_WORDS
  pub work : cost.work ≤ MAX_WORK

exact_cost : (x cost : Cost) → IsCostOf x cost → IsWithin cost → x ≡ cost
exact_cost x cost is within =
    let heap : x.heap ≡ cost.heap = (let e = is.heap in let w = within.heap in omega (arith, e, w)) in
    let stack : x.stack ≡ cost.stack = (let e = is.stack in let w = within.stack in omega (arith, e, w)) in
    let work : x.work ≡ cost.work = (let e = is.work in let w = within.work in omega (arith, e, w)) in
    λ i. record { heap = heap i; stack = stack i; work = work i }

exact_costs : (core : Core) (ns : List NodeC) (xs : List Cost) → AreNodeCosts core ns xs → ((n : ℕ) (node : NodeC) → slice_get ns n ≡ Some node → IsWithin (node_bound core node))
    → xs ≡ map (node_bound core) ns
exact_costs core ns xs AreNodeCosts.none within = refl
exact_costs core ns xs (AreNodeCosts.one {node = m} {x = x} first rest) within =
    let own = exact_cost x (node_bound core m) first (within 0 m refl) in
    let others = exact_costs core _ _ rest (λ n node at. within (suc n) node at) in
    λ i. own i ∷ others i

at_most : (a b : ℕ) → (b < a → ⊥) → a ≤ b
at_most a b not_past = omega (arith, not_past)

pub fine_costs : (core : Core) (xs : List Cost) → AreNodeCosts core core.nodes xs → IsLeast (BreaksCosts core) None → xs ≡ map (node_bound core) core.nodes
fine_costs core xs are fine = exact_costs core core.nodes xs are (λ n node at. record {
  heap = at_most _ _ (λ past. fine (record { rule = C75; declaration = declaration_of node }) (inl (refl, record { n = n; node = node; there = at; declared = refl; holds = past })));
  stack = at_most _ _ (λ past. fine (record { rule = C76; declaration = declaration_of node }) (inr (inl (refl, record { n = n; node = node; there = at; declared = refl; holds = past }))));
  work = at_most _ _ (λ past. fine (record { rule = C79; declaration = declaration_of node }) (inr (inr (inr (refl, record { n = n; node = node; there = at; declared = refl; holds = past })))));
})
