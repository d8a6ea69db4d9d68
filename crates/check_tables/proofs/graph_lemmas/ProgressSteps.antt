-- How far an order is found: one more number, and one more node that is known to wait.
use Rattle.std.proofs.Common.{◌≡◌, ℕ, ◌+◌, ◌<◌, ◌≤◌, ◌⊎◌, ◌↔◌, inl, inr, Bool, true, false, Some, List, [], ◌∷◌, ◌++◌, length, take, get_or, set, Contains, sym, ap, subst, ◌∙◌, arith}
use Rattle.std.specs.List.{All}
use Rattle.std.proofs.lemmas.Bool.{cases_eq, cases_lt, cases_Bool}
use Rattle.std.proofs.lemmas.List.{get_or-set_same, get_or-set_other, length-set, take-append-le, take_at, get_or_append_left, get_or_at, length-append}
use Rattle.std.proofs.lemmas.List.Elements.{All-get_or, All-from_get_or, Contains-get_or, Contains-push, Contains-push_cases, Contains-append_left}
use Rattle.hume_base.specs.Least.{IsFirst}
use Rattle.check_tables.specs.graph.Cycles.{LeadsTo}
use Rattle.check_tables.specs.graph.Orders.{IsNext, IsNumbering}
use Rattle.check_tables.specs.declared.graph.numbering.Progress.{Progress}
use Rattle.check_tables.specs.graph.inner.Progress.{AllHit, Hit, FrontMarked, IsWait, IsFree, IsProgress}

numbering_more : (graph : List (List ℕ)) (order : List ℕ) (a : ℕ) → IsNumbering graph order → IsFirst (IsNext graph order) (Some a) → IsNumbering graph (order ++ a ∷ [])
numbering_more graph order a n next k lt = elim (cases_eq k (length order)) [
  | inl same ↦
      let done : take k (order ++ a ∷ []) ≡ order = take_at order (a ∷ []) k (sym same) in
      let here : get_or (order ++ a ∷ []) k 0 ≡ a = get_or_at order a [] 0 k (sym same) in
      subst (λ d. IsFirst (IsNext graph d) (Some (get_or (order ++ a ∷ []) k 0))) (sym done) (subst (λ x. IsFirst (IsNext graph order) (Some x)) (sym here) next)
  | inr other ↦
      let below : k < length order = omega (arith, length-append order (a ∷ [])) in
      let done : take k (order ++ a ∷ []) ≡ take k order = take-append-le k order (a ∷ []) (omega arith) in
      let here : get_or (order ++ a ∷ []) k 0 ≡ get_or order k 0 = get_or_append_left order (a ∷ []) 0 k below in
      subst (λ d. IsFirst (IsNext graph d) (Some (get_or (order ++ a ∷ []) k 0))) (sym done) (subst (λ x. IsFirst (IsNext graph (take k order)) (Some x)) (sym here) (n k below))
]

hit_kept : (marks : List Bool) (a c : ℕ) → a < length marks → Hit marks c → Hit (set marks a true) c
hit_kept marks a c lt h = elim (cases_eq c a) [
  | inl e ↦ subst (Hit (set marks a true)) (sym e) (get_or-set_same marks a true false lt)
  | inr o ↦ get_or-set_other marks a c true false o ∙ h
]

all_set : (P : ℕ → Type 0) (xs : List ℕ) (a x : ℕ) → a < length xs → P x → All P xs → All P (set xs a x)
all_set P xs a x within p all = All-from_get_or P (set xs a x) 0 (λ i lt. elim (cases_eq i a) [
  | inl e ↦ subst P (sym (ap (λ i. get_or (set xs a x) i 0) e ∙ get_or-set_same xs a x 0 within)) p
  | inr o ↦ subst P (sym (get_or-set_other xs a i x 0 o)) (All-get_or P xs i 0 (omega (arith, length-set xs a x)) all)
])

-- what a node waits for
abbrev Waiting : List (List ℕ) → List ℕ → List Bool → List ℕ → ℕ → Type 0
Waiting graph order marks waits h = Contains order h ⊎ (Hit marks (get_or waits h 0) ⊎ LeadsTo graph h (get_or waits h 0))

waiting_other : (graph : List (List ℕ)) (order : List ℕ) (marks : List Bool) (waits : List ℕ) (a h x : ℕ) → (h ≡ a → ⊥) → Waiting graph order marks waits h → Waiting graph order marks (set waits a x) h
waiting_other graph order marks waits a h x o w = subst (λ z. Contains order h ⊎ (Hit marks z ⊎ LeadsTo graph h z)) (sym (get_or-set_other waits a h x 0 o)) w

waiting_more : (graph : List (List ℕ)) (order : List ℕ) (marks : List Bool) (waits : List ℕ) (a h : ℕ) → a < length marks → Waiting graph order marks waits h → Waiting graph (order ++ a ∷ []) (set marks a true) waits h
waiting_more graph order marks waits a h lt w = elim w [
  | inl c ↦ inl (Contains-append_left order (a ∷ []) h c)
  | inr r ↦ inr (elim r [ inl hit ↦ inl (hit_kept marks a (get_or waits h 0) lt hit) | inr l ↦ inr l ])
]

module _ (graph : List (List ℕ)) (p : Progress) (is : IsProgress graph p) where
  pub place_in_marks : (a : ℕ) → a < length graph → a < length p.marks
  place_in_marks a lt = let e = is.marks_long in omega arith

  marked_more : (a : ℕ) → a < length graph → (c : ℕ) → c < length graph → Hit (set p.marks a true) c ↔ Contains (p.order ++ a ∷ []) c
  marked_more a lt c within = elim (cases_eq c a) [
    | inl same ↦ (λ _. subst (Contains (p.order ++ a ∷ [])) (sym same) (Contains-push p.order a), λ _. subst (Hit (set p.marks a true)) (sym same) (get_or-set_same p.marks a true false (place_in_marks a lt)))
    | inr other ↦ (
      λ h. Contains-append_left p.order (a ∷ []) c ((is.marked c within).0 (sym (get_or-set_other p.marks a c true false other) ∙ h)),
      λ h. elim (Contains-push_cases p.order a c h) [ inl q ↦ get_or-set_other p.marks a c true false other ∙ (is.marked c within).1 q | inr e ↦ absurd (other (sym e)) ],
    )
  ]

  pub progress_more : (a : ℕ) → IsFirst (IsNext graph p.order) (Some a) → IsProgress graph (record { order = p.order ++ a ∷ []; marks = set p.marks a true; waits = set p.waits a (length graph); fronts = p.fronts; passed = p.passed })
  progress_more a next =
      let lt = next.0.within in
      record {
        numbering = numbering_more graph p.order a is.numbering next;
        marks_long = length-set p.marks a true ∙ is.marks_long;
        waits_long = length-set p.waits a (length graph) ∙ is.waits_long;
        fronts_long = is.fronts_long;
        marked = marked_more a lt;
        inside = (let e = is.waits_long in all_set (λ b. b < length graph + 2) p.waits a (length graph) (omega arith) (omega arith) is.inside);
        waiting = λ h within. elim (cases_eq h a) [
          | inl e ↦ inl (subst (Contains (p.order ++ a ∷ [])) (sym e) (Contains-push p.order a))
          | inr o ↦ waiting_other graph (p.order ++ a ∷ []) (set p.marks a true) p.waits a h (length graph) o (waiting_more graph p.order p.marks p.waits a h (place_in_marks a lt) (is.waiting h within))
        ];
        fronts = λ h within k below inside count. hit_kept p.marks a (get_or (get_or graph h []) k 0) (place_in_marks a lt) (is.fronts h within k below inside count);
        passed = λ h below. Contains-append_left p.order (a ∷ []) h (is.passed h below);
      }

  -- node a waits for what stands at place k of its row
  module _ (a k : ℕ) (lt : a < length graph)
      (first : IsFirst (λ k. (get_or p.fronts a 0 ≤ k) × IsWait (length graph) p.marks (get_or graph a []) k) (Some k)) where
    front_longer : FrontMarked (length graph) p.marks (get_or graph a []) k
    front_longer j below inside count = elim (cases_lt j (get_or p.fronts a 0)) [
      | inl before ↦ is.fronts a lt j before inside count
      | inr after ↦ elim (cases_Bool (get_or p.marks (get_or (get_or graph a []) j 0) false)) [
        | inl on ↦ on
        | inr off ↦ absurd (let le = first.1 j (after, record { within = inside; inside = count; off = off }) in omega arith)
      ]
    ]

    pub progress_wait : IsProgress graph (record { order = p.order; marks = p.marks; waits = set p.waits a (get_or (get_or graph a []) k 0); fronts = set p.fronts a k; passed = p.passed })
    progress_wait =
        let row : List ℕ = get_or graph a [] in
        let wait = first.0.1 in
        let in_waits : a < length p.waits = (let e = is.waits_long in omega arith) in
        let in_fronts : a < length p.fronts = (let e = is.fronts_long in omega arith) in
        record {
          numbering = is.numbering;
          marks_long = is.marks_long;
          waits_long = length-set p.waits a (get_or row k 0) ∙ is.waits_long;
          fronts_long = length-set p.fronts a k ∙ is.fronts_long;
          marked = is.marked;
          inside = (let e = wait.inside in all_set (λ b. b < length graph + 2) p.waits a (get_or row k 0) in_waits (omega arith) is.inside);
          waiting = λ h within. elim (cases_eq h a) [
            | inl e ↦ inr (inr (subst (λ z. LeadsTo graph h z) (sym (ap (λ i. get_or (set p.waits a (get_or row k 0)) i 0) e ∙ get_or-set_same p.waits a (get_or row k 0) 0 in_waits))
                (subst (λ z. LeadsTo graph z (get_or row k 0)) (sym e) (record { within = wait.inside; listed = Contains-get_or row k 0 wait.within }))))
            | inr o ↦ waiting_other graph p.order p.marks p.waits a h (get_or row k 0) o (is.waiting h within)
          ];
          fronts = λ h within. elim (cases_eq h a) [
            | inl e ↦ subst (λ z. FrontMarked (length graph) p.marks (get_or graph z []) (get_or (set p.fronts a k) z 0)) (sym e)
                (subst (FrontMarked (length graph) p.marks row) (sym (get_or-set_same p.fronts a k 0 in_fronts)) front_longer)
            | inr o ↦ subst (FrontMarked (length graph) p.marks (get_or graph h [])) (sym (get_or-set_other p.fronts a h k 0 o)) (is.fronts h within)
          ];
          passed = is.passed;
        }

  pub progress_passed : (q : ℕ) → AllHit p.marks (length graph) p.passed q → IsProgress graph (record { order = p.order; marks = p.marks; waits = p.waits; fronts = p.fronts; passed = q })
  progress_passed q hits = record {
    numbering = is.numbering;
    marks_long = is.marks_long;
    waits_long = is.waits_long;
    fronts_long = is.fronts_long;
    marked = is.marked;
    inside = is.inside;
    waiting = is.waiting;
    fronts = is.fronts;
    passed = λ a lt. elim (cases_lt a p.passed) [ inl before ↦ is.passed a before | inr le ↦ (let h = hits a le lt in (is.marked a h.0).0 h.1) ];
  }

  free_if_next : (j : ℕ) → IsNext graph p.order j → IsFree p.marks p.waits j
  free_if_next j n = record { within = (let e = is.waits_long in let lt = n.within in omega arith); marked = by (is.waiting j n.within) }
    where
      by : Waiting graph p.order p.marks p.waits j → Hit p.marks (get_or p.waits j 0)
      by w = elim w [ inl c ↦ absurd (n.new' c) | inr r ↦ elim r [ inl hit ↦ hit | inr l ↦ (is.marked (get_or p.waits j 0) l.within).1 (n.ready (get_or p.waits j 0) l) ] ]

  module _ (o : List ℕ) (same : p.order ≡ o) (from : ℕ) (none : (h : ℕ) → h < from → IsNext graph o h → ⊥) where
    free : (j : ℕ) → IsNext graph o j → (from ≤ j) × IsFree p.marks p.waits j
    free j n = elim (cases_lt j from) [ inl lt ↦ absurd (none j lt n) | inr le ↦ (le, free_if_next j (subst (λ o. IsNext graph o j) (sym same) n)) ]

    pub none_below : (a : ℕ) → ((j : ℕ) → (from ≤ j) × IsFree p.marks p.waits j → a ≤ j) → (j : ℕ) → IsNext graph o j → a ≤ j
    none_below a least j n = least j (free j n)

    pub none_up_to : (a : ℕ) → ((j : ℕ) → (from ≤ j) × IsFree p.marks p.waits j → a ≤ j) → (IsNext graph o a → ⊥) → (h : ℕ) → h < a + 1 → IsNext graph o h → ⊥
    none_up_to a least off h lt n = elim (cases_eq h a) [
      | inl e ↦ off (subst (IsNext graph o) e n)
      | inr other ↦ (let le = none_below a least h n in omega arith)
    ]

    pub none_at_all : ((j : ℕ) → (from ≤ j) × IsFree p.marks p.waits j → ⊥) → (j : ℕ) → IsNext graph o j → ⊥
    none_at_all off j n = off j (free j n)
