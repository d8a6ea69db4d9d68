-- Every graph has an order.
use Rattle.std.proofs.Common.{◌≡◌, ℕ, zero, suc, ◌+◌, ◌<◌, ◌≤◌, ◌⊎◌, inl, inr, Option, Some, None, List, [], ◌∷◌, ◌++◌, length, take, get_or, Contains, refl, sym, subst, ◌∙◌, arith}
use Rattle.std.proofs.lemmas.Bool.{cases_eq, cases_lt}
use Rattle.std.proofs.lemmas.List.{get_or_default, get_or-take, length-take, length-append, take-append-le, take_at, get_or_append_left, get_or_at}
use Rattle.std.proofs.lemmas.Map.Made.{Contains-tail}
use Rattle.hume_base.specs.Least.{IsFirst}
use Rattle.check_tables.specs.graph.Orders.{IsNext, IsNumbering, IsOrder}
use Rattle.check_tables.proofs.graph_lemmas.Pigeons.{among, two_same}

-- the first number that has a property, where no large one has it
record IsLowest (P : ℕ → Type 0) (n : ℕ) : Type 0 where
  number : ℕ
  below : number < n
  has : P number
  least : (j : ℕ) → P j → number ≤ j

lowest : (P : ℕ → Type 0) → ((a : ℕ) → P a ⊎ (P a → ⊥)) → (n : ℕ) → IsLowest P n ⊎ ((j : ℕ) → j < n → P j → ⊥)
lowest P decide zero = inr (λ j lt p. omega arith)
lowest P decide (suc n) = elim (lowest P decide n) [
  | inl f ↦ let lt = f.below in inl (record { number = f.number; below = omega arith; has = f.has; least = f.least })
  | inr none ↦ elim (decide n) [
    | inl p ↦ inl (record {
      number = n;
      below = omega arith;
      has = p;
      least = λ j q. elim (cases_lt j n) [ inl lt ↦ absurd (none j lt q) | inr le ↦ le ];
    })
    | inr off ↦ inr (λ j lt p. elim (cases_eq j n) [ inl e ↦ off (subst P e p) | inr other ↦ none j (omega arith) p ])
  ]
]

-- there is a first one or there is none
first_or_none : (P : ℕ → Type 0) → ((a : ℕ) → P a ⊎ (P a → ⊥)) → (n : ℕ) → ((a : ℕ) → P a → a < n) → (o : Option ℕ) × IsFirst P o
first_or_none P decide n within = elim (lowest P decide n) [
  | inl f ↦ (Some f.number, (f.has, f.least))
  | inr none ↦ (None, λ j p. none j (within j p) p)
]

-- a node of a row that has no number
record Lacking (order : List ℕ) (count : ℕ) (row : List ℕ) : Type 0 where
  node : ℕ
  within : node < count
  listed : Contains row node
  lacks : Contains order node → ⊥

abbrev AllNumbered : List ℕ → ℕ → List ℕ → Type 0
AllNumbered order count row = (b : ℕ) → b < count → Contains row b → Contains order b

behind : (x : ℕ) (xs : List ℕ) (b : ℕ) → Contains xs b → Contains (x ∷ xs) b
behind x xs b c = let lt = c.1 in (suc c.0, omega arith, c.2)

all_or_lacking : (order : List ℕ) (count : ℕ) (row : List ℕ) → AllNumbered order count row ⊎ Lacking order count row
all_or_lacking order count [] = inl (λ b lt c. absurd (let none = c.1 in omega arith))
all_or_lacking order count (x ∷ row) = elim (all_or_lacking order count row) [
  | inr m ↦ inr (record { node = m.node; within = m.within; listed = behind x row m.node m.listed; lacks = m.lacks })
  | inl all ↦ elim (among order x) [
    | inl has ↦ inl (with_first (λ lt. has) all)
    | inr lacks ↦ elim (cases_lt x count) [
      | inl lt ↦ inr (record { node = x; within = lt; listed = (0, omega arith, refl); lacks = lacks })
      | inr le ↦ inl (with_first (λ lt. absurd (omega arith)) all)
    ]
  ]
]
  where
    with_first : (x < count → Contains order x) → AllNumbered order count row → AllNumbered order count (x ∷ row)
    with_first first all b lt c = elim (cases_eq x b) [
      | inl e ↦ subst (Contains order) e (first (subst (λ n. n < count) (sym e) lt))
      | inr other ↦ all b lt (Contains-tail x row b other c)
    ]

module _ (graph : List (List ℕ)) where
  -- whether a node is next
  is_next : (order : List ℕ) (a : ℕ) → IsNext graph order a ⊎ (IsNext graph order a → ⊥)
  is_next order a = elim (cases_lt a (length graph)) [
    | inr le ↦ inr (λ n. let lt = n.within in omega arith)
    | inl lt ↦ elim (among order a) [
      | inl has ↦ inr (λ n. n.new' has)
      | inr new ↦ elim (all_or_lacking order (length graph) (get_or graph a [])) [
        | inl all ↦ inl (record { within = lt; new' = new; ready = λ b l. all b l.within l.listed })
        | inr m ↦ inr (λ n. m.lacks (n.ready m.node (record { within = m.within; listed = m.listed })))
      ]
    ]
  ]

  next : (order : List ℕ) → (o : Option ℕ) × IsFirst (IsNext graph order) o
  next order = first_or_none (IsNext graph order) (is_next order) (length graph) (λ a n. n.within)

  numbering_more : (order : List ℕ) (a : ℕ) → IsNumbering graph order → IsFirst (IsNext graph order) (Some a) → IsNumbering graph (order ++ a ∷ [])
  numbering_more order a n next k lt = elim (cases_eq k (length order)) [
    | inl same ↦
        let done : take k (order ++ a ∷ []) ≡ order = take_at order (a ∷ []) k (sym same) in
        let here : get_or (order ++ a ∷ []) k 0 ≡ a = get_or_at order a [] 0 k (sym same) in
        subst (λ d. IsFirst (IsNext graph d) (Some (get_or (order ++ a ∷ []) k 0))) (sym done)
        (subst (λ x. IsFirst (IsNext graph order) (Some x)) (sym here) next)
    | inr other ↦
        let below : k < length order = omega (arith, length-append order (a ∷ [])) in
        let done : take k (order ++ a ∷ []) ≡ take k order = take-append-le k order (a ∷ []) (omega arith) in
        let here : get_or (order ++ a ∷ []) k 0 ≡ get_or order k 0 = get_or_append_left order (a ∷ []) 0 k below in
        subst (λ d. IsFirst (IsNext graph d) (Some (get_or (order ++ a ∷ []) k 0))) (sym done)
        (subst (λ x. IsFirst (IsNext graph (take k order)) (Some x)) (sym here) (n k below))
  ]

  -- no node has two numbers, so there are no more numbers than nodes
  not_too_long : (order : List ℕ) → IsNumbering graph order → length graph < length order → ⊥
  not_too_long order n long =
      let same = two_same (length graph) (λ k. get_or order k 0) (λ k le. (n k (omega arith)).0.within) in
      let lt = same.2 in
      let le = same.3 in
      let within : same.1 < length order = omega arith in
      let earlier : get_or (take same.1 order) same.0 0 ≡ get_or order same.1 0 = get_or-take same.1 order same.0 0 lt ∙ same.4 in
      let front : same.0 < length (take same.1 order) = omega (arith, length-take same.1 order) in
      (n same.1 within).0.new' (same.0, front, get_or_default (take same.1 order) same.0 (get_or order same.1 0) 0 front ∙ earlier)

  -- an order that goes on with the nodes that are next, of which there are so many at most
  continued : (room : ℕ) (order : List ℕ) → IsNumbering graph order → length graph < room + length order → (whole : List ℕ) × IsOrder graph whole
  continued zero order n few = absurd (not_too_long order n (omega arith))
  continued (suc room) order n few =
      by (next order).0 (next order).1
      (λ a first. continued room (order ++ a ∷ []) (numbering_more order a n first) (omega (arith, length-append order (a ∷ []))))
    where
      by : (o : Option ℕ) → IsFirst (IsNext graph order) o → ((a : ℕ) → IsFirst (IsNext graph order) (Some a) → (whole : List ℕ) × IsOrder graph whole)
          → (whole : List ℕ) × IsOrder graph whole
      by None none more = (order, record { numbering = n; whole = none })
      by (Some a) first more = more a first

  pub an_order : (order : List ℕ) × IsOrder graph order
  an_order = continued (suc (length graph)) [] (λ k lt. absurd (omega arith)) (omega arith)
