-- What is in a cycle where names have nodes is in a cycle of declarations.
use Rattle.std.proofs.Common.{◌≡◌, ℕ, zero, suc, ◌+◌, ◌-◌, ◌<◌, ◌≤◌, ◌⊎◌, inl, inr, List, [], ◌∷◌, ◌++◌, Option, Some, None, Bool, true, false, length, map, get_or, Contains, if◌then◌else◌, refl, ap, sym, subst, ◌∙◌, arith}
use Rattle.std.proofs.lemmas.Bool.{cases_lt}
use Rattle.std.proofs.lemmas.List.{length-append, length-map, get_or_append_left, get_or-append-add, get_or-map}
use Rattle.std.proofs.lemmas.List.Elements.{Contains-append_left, Contains-append_right, Contains-append_cases, Contains-push_cases, Contains-push}
use Rattle.std.specs.Str.{bytes_eq}
use Rattle.check_tables.specs.names.Names.{number_of}
use Rattle.hume_base.specs.Least.{IsFirst}
use Rattle.check_tables.specs.graph.Cycles.{LeadsTo, Chain, InCycle}
use Rattle.check_tables.proofs.graph_lemmas.Chains.{turned, leads_within, cycle_within}
use Rattle.hume_ast.specs.declared.tree.Decl.{Decl}
use Rattle.hume_ast.specs.declared.tree.Decl.TheVariants.{Exn}
use Rattle.check_names.specs.declared.mention_list.NameKind.{NameKind}
use Rattle.check_names.specs.declared.name_nodes.NameNodes.{NameNodes}
use Rattle.check_names.specs.Mentions.{Mention, mentions_of}
use Rattle.check_names.specs.Leading.{names_of_kind, owners_from, numbers_of, same_kind, meant, graph_of}
use Rattle.check_names.specs.inner.Indexed.{listed}
use Rattle.check_names.specs.inner.NameNodes.{AreNodes, IsByNames}

empty_row : (x : ℕ) → Contains [] x → ⊥
empty_row x p = let lt = p.1 in omega arith

-- the mentions have the name: whatever is beside it, they lead to
abbrev ByName : NameKind → List Mention → List ℕ → Type 0
ByName kind ms name = (owners : List (List ℕ × ℕ)) (x : ℕ) → Contains (numbers_of name owners) x → Contains (meant kind owners ms) x

-- a name that the mentions have and beside which the number is
abbrev Named : NameKind → List Mention → List (List ℕ × ℕ) → ℕ → Type 0
Named kind ms owners x = (name : List ℕ) × Contains (numbers_of name owners) x × ByName kind ms name

-- what mentions lead to is beside a name that they have
module _ (kind : NameKind) (owners : List (List ℕ × ℕ)) (m : Mention) (ms : List Mention) (x : ℕ)
    (rest : Contains (meant kind owners ms) x → Named kind ms owners x) where
  abbrev Leads : Bool → List ℕ → Type 0
  Leads b name =
      (others : List (List ℕ × ℕ)) (y : ℕ) → Contains (numbers_of name others) y → Contains ((if b then numbers_of m.1 others else []) ++ meant kind others ms) y

  abbrev Led : Bool → Type 0
  Led b = (name : List ℕ) × Contains (numbers_of name owners) x × Leads b name

  later : (b : Bool) → Contains (meant kind owners ms) x → Led b
  later b q =
      let r = rest q in
      (r.0, r.1, λ others y s. Contains-append_right (if b then numbers_of m.1 others else []) (meant kind others ms) y (r.2 others y s))

  led : (b : Bool) → Contains ((if b then numbers_of m.1 owners else []) ++ meant kind owners ms) x → Led b
  led false q = later false q
  led true q = elim (Contains-append_cases (numbers_of m.1 owners) (meant kind owners ms) x q) [
    | inl r ↦ (m.1, r, λ others y s. Contains-append_left (numbers_of m.1 others) (meant kind others ms) y s)
    | inr r ↦ later true r
  ]

  by_name_more : Contains (meant kind owners (m ∷ ms)) x → Named kind (m ∷ ms) owners x
  by_name_more p = led (same_kind m.0 kind) p

by_name : (kind : NameKind) (owners : List (List ℕ × ℕ)) (ms : List Mention) (x : ℕ) → Contains (meant kind owners ms) x → Named kind ms owners x
by_name kind owners [] x p = absurd (empty_row x p)
by_name kind owners (m ∷ ms) x p = by_name_more kind owners m ms x (by_name kind owners ms x) p

-- the numbers beside a name are of declarations
number_within : (name own : List ℕ) (n : ℕ) (others : List (List ℕ × ℕ)) (x : ℕ) → Contains (numbers_of name ((own, n) ∷ others)) x
    → (x ≡ n) ⊎ Contains (numbers_of name others) x
number_within name own n others x p = by (bytes_eq name own) p
  where
    by : (b : Bool) → Contains (if b then n ∷ numbers_of name others else numbers_of name others) x → (x ≡ n) ⊎ Contains (numbers_of name others) x
    by false q = inr q
    by true q = elim (Contains-append_cases (n ∷ []) (numbers_of name others) x q) [
      | inl r ↦ elim (Contains-push_cases [] n x r) [ inl none ↦ absurd (empty_row x none) | inr e ↦ inl (sym e) ]
      | inr r ↦ inr r
    ]

numbers_within : (name : List ℕ) (n : ℕ) (names : List (List ℕ)) (rest : List (List ℕ × ℕ)) (x : ℕ)
    → Contains (numbers_of name (map (λ own. (own, n)) names ++ rest)) x → (x ≡ n) ⊎ Contains (numbers_of name rest) x
numbers_within name n [] rest x p = inr p
numbers_within name n (own ∷ names) rest x p = elim (number_within name own n (map (λ own. (own, n)) names ++ rest) x p) [
  | inl e ↦ inl e
  | inr q ↦ numbers_within name n names rest x q
]

numbers_below : (kind : NameKind) (n : ℕ) (decls : List (ℕ × Decl)) (name : List ℕ) (x : ℕ) → Contains (numbers_of name (owners_from kind n decls)) x
    → x < n + length decls
numbers_below kind n [] name x p = absurd (empty_row x p)
numbers_below kind n (d ∷ decls) name x p = elim (numbers_within name n (names_of_kind kind d.1) (owners_from kind (suc n) decls) x p) [
  | inl e ↦ omega arith
  | inr q ↦ (let lt = numbers_below kind (suc n) decls name x q in omega arith)
]

abbrev rows_by : NameKind → List (List ℕ × ℕ) → List (ℕ × Decl) → List (List ℕ)
rows_by kind owners decls = map (λ d. meant kind owners (mentions_of d.1)) decls

abbrev decl_at : List (ℕ × Decl) → ℕ → Decl
decl_at decls i = (get_or decls i (0, Exn [] None)).1

row_by : (kind : NameKind) (owners : List (List ℕ × ℕ)) (decls : List (ℕ × Decl)) (i : ℕ) → i < length decls
    → get_or (rows_by kind owners decls) i [] ≡ meant kind owners (mentions_of (decl_at decls i))
row_by kind owners decls i lt = get_or-map (λ d. meant kind owners (mentions_of d.1)) decls i (0, Exn [] None) [] lt

rows_long : (kind : NameKind) (owners : List (List ℕ × ℕ)) (decls : List (ℕ × Decl)) → length (rows_by kind owners decls) ≡ length decls
rows_long kind owners decls = length-map decls (λ d. meant kind owners (mentions_of d.1))

module _ (kind : NameKind) (decls : List (ℕ × Decl)) (nodes : NameNodes) (is : AreNodes (length decls) (owners_from kind 0 decls) nodes) where
  abbrev by_declarations : List (List ℕ)
  by_declarations = rows_by kind (owners_from kind 0 decls) decls

  abbrev by_names : List (List ℕ)
  by_names = rows_by kind nodes.index.owners decls ++ nodes.rows

  names_long : length by_names ≡ length decls + length nodes.rows
  names_long = length-append (rows_by kind nodes.index.owners decls) nodes.rows ∙ ap (λ n. n + length nodes.rows) (rows_long kind nodes.index.owners decls)

  declarations_long : length by_declarations ≡ length decls
  declarations_long = rows_long kind (owners_from kind 0 decls) decls

  -- the rows of a declaration and of a name
  declaration_row : (i : ℕ) → i < length decls → get_or by_names i [] ≡ meant kind nodes.index.owners (mentions_of (decl_at decls i))
  declaration_row i lt =
      get_or_append_left (rows_by kind nodes.index.owners decls) nodes.rows [] i (omega (arith, rows_long kind nodes.index.owners decls))
      ∙ row_by kind nodes.index.owners decls i lt

  name_row : (k : ℕ) → get_or by_names (length decls + k) [] ≡ get_or nodes.rows k []
  name_row k =
      ap (λ n. get_or by_names (n + k) []) (sym (rows_long kind nodes.index.owners decls))
      ∙ get_or-append-add (rows_by kind nodes.index.owners decls) nodes.rows k []

  own_row : (i : ℕ) → i < length decls → get_or by_declarations i [] ≡ meant kind (owners_from kind 0 decls) (mentions_of (decl_at decls i))
  own_row i lt = row_by kind (owners_from kind 0 decls) decls i lt

  -- a node of a name leads to all its declarations
  record IsNode (name : List ℕ) (x : ℕ) : Type 0 where
    behind : length decls ≤ x
    within : x < length by_names
    row : get_or by_names x [] ≡ numbers_of name (owners_from kind 0 decls)

  numbered : (name : List ℕ) (x : ℕ) → number_of name nodes.index.table ≡ Some x → IsNode name x
  numbered name x p =
      let at = is.inside name x p in
      let lt = at.2 in
      record {
        behind = (let e = at.1 in omega arith);
        within = (let e = at.1 in omega (arith, names_long));
        row = ap (λ z. get_or by_names z []) at.1 ∙ name_row at.0 ∙ is.rows name at.0 (p ∙ ap Some at.1);
      }

  node_of : (name : List ℕ) (x : ℕ) → Contains (numbers_of name nodes.index.owners) x → IsNode name x
  node_of name x p = by (number_of name nodes.index.table) refl (subst (λ (xs : List ℕ). Contains xs x) (is.index name) p)
    where
      by : (n : Option ℕ) → number_of name nodes.index.table ≡ n → Contains (listed n) x → IsNode name x
      by None e q = absurd (empty_row x q)
      by (Some n) e q = elim (Contains-push_cases [] n x q) [ inl none ↦ absurd (empty_row x none) | inr same ↦ numbered name x (e ∙ ap Some same) ]

  has_node : (name : List ℕ) (j : ℕ) → Contains (numbers_of name (owners_from kind 0 decls)) j → (x : ℕ) × Contains (numbers_of name nodes.index.owners) x
  has_node name j p = by (number_of name nodes.index.table) refl
    where
      by : (n : Option ℕ) → number_of name nodes.index.table ≡ n → (x : ℕ) × Contains (numbers_of name nodes.index.owners) x
      by None e = absurd (empty_row j (subst (λ (xs : List ℕ). Contains xs j) (is.all name e) p))
      by (Some n) e = (n, subst (λ (xs : List ℕ). Contains xs n) (sym (is.index name ∙ ap listed e)) (Contains-push [] n))

  below : (name : List ℕ) (j : ℕ) → Contains (numbers_of name (owners_from kind 0 decls)) j → j < length decls
  below name j p = (let lt = numbers_below kind 0 decls name j p in omega arith)

  -- one step between declarations is two by way of a name
  two_steps : (i j : ℕ) → LeadsTo by_declarations i j → (x : ℕ) × LeadsTo by_names i x × LeadsTo by_names x j
  two_steps i j p =
      let lt : i < length decls = (let w = leads_within by_declarations i j p in omega (arith, declarations_long)) in
      let mentioned =
      by_name kind (owners_from kind 0 decls) (mentions_of (decl_at decls i)) j (subst (λ (xs : List ℕ). Contains xs j) (own_row i lt) p.listed) in
      let there = has_node mentioned.0 j mentioned.1 in
      let node = node_of mentioned.0 there.0 there.1 in (
        there.0,
        record {
          within = node.within;
          listed = subst (λ (xs : List ℕ). Contains xs there.0) (sym (declaration_row i lt)) (mentioned.2 nodes.index.owners there.0 there.1);
        },
        record {
          within = (let j_below = below mentioned.0 j mentioned.1 in omega (arith, names_long));
          listed = subst (λ (xs : List ℕ). Contains xs j) (sym node.row) mentioned.1;
        },
      )

  one_step : (i x j : ℕ) → i < length decls → LeadsTo by_names i x → LeadsTo by_names x j
      → (length decls ≤ x) × (j < length decls) × LeadsTo by_declarations i j
  one_step i x j lt p q =
      let mentioned =
      by_name kind nodes.index.owners (mentions_of (decl_at decls i)) x (subst (λ (xs : List ℕ). Contains xs x) (declaration_row i lt) p.listed) in
      let node = node_of mentioned.0 x mentioned.1 in
      let named : Contains (numbers_of mentioned.0 (owners_from kind 0 decls)) j = subst (λ (xs : List ℕ). Contains xs j) node.row q.listed in
      let j_below = below mentioned.0 j named in (
        node.behind,
        j_below,
        record {
          within = omega (arith, declarations_long);
          listed = subst (λ (xs : List ℕ). Contains xs j) (sym (own_row i lt)) (mentioned.2 (owners_from kind 0 decls) j named);
        },
      )

  -- a declaration leads to no declaration
  no_half_step : (i x j : ℕ) → i < length decls → j < length decls → LeadsTo by_names i x → x ≡ j → ⊥
  no_half_step i x j i_below j_below p same =
      let mentioned =
      by_name kind nodes.index.owners (mentions_of (decl_at decls i)) x (subst (λ (xs : List ℕ). Contains xs x) (declaration_row i i_below) p.listed) in
      let behind = (node_of mentioned.0 x mentioned.1).behind in omega arith

  -- chains between declarations
  longer_chain : (n i j : ℕ) → Chain by_declarations i j n → (k : ℕ) × Chain by_names i j k
  longer_chain zero i j p = (0, p)
  longer_chain (suc n) i j p =
      let steps = two_steps i p.0 p.1 in
      let rest = longer_chain n p.0 j p.2 in
      (suc (suc rest.0), (steps.0, steps.1, (p.0, steps.2, rest.1)))

  shorter_chain : (n i j : ℕ) → i < length decls → j < length decls → Chain by_names i j n → (k : ℕ) × Chain by_declarations i j k
  shorter_chain zero i j i_below j_below p = (0, p)
  shorter_chain (suc zero) i j i_below j_below p = absurd (no_half_step i p.0 j i_below j_below p.1 p.2)
  shorter_chain (suc (suc n)) i j i_below j_below p =
      let step = one_step i p.0 p.2.0 i_below p.1 p.2.1 in
      let rest = shorter_chain n p.2.0 j step.1 j_below p.2.2 in
      (suc rest.0, (p.2.0, step.2, rest.1))

  in_both : (i : ℕ) → InCycle by_declarations i → InCycle by_names i
  in_both i p =
      let steps = two_steps i p.chain.0 p.chain.1 in
      let rest = longer_chain p.others p.chain.0 i p.chain.2 in
      record { others = suc rest.0; chain = (steps.0, steps.1, (p.chain.0, steps.2, rest.1)) }

  cycle_back : (n i : ℕ) → i < length decls → Chain by_names i i (suc n) → InCycle by_declarations i
  cycle_back zero i lt p = absurd (no_half_step i p.0 i lt lt p.1 p.2)
  cycle_back (suc n) i lt p =
      let step = one_step i p.0 p.2.0 lt p.1 p.2.1 in
      let rest = shorter_chain n p.2.0 i step.1 lt p.2.2 in
      record { others = rest.0; chain = (p.2.0, step.2, rest.1) }

  -- where a name is in a cycle, so is one of its declarations
  declared_too : (x : ℕ) → length decls ≤ x → InCycle by_names x → (j : ℕ) × (j < length decls) × InCycle by_names j
  declared_too x le p =
      let next = turned by_names x p in
      let k : ℕ = x - length decls in
      let x_is : x ≡ length decls + k = omega arith in
      let named = is.named k (let w = cycle_within by_names x p in omega (arith, names_long)) in
      let node = numbered named.0 (length decls + k) named.1 in
      (next.0, below named.0 next.0 (subst (λ (xs : List ℕ). Contains xs next.0) (ap (λ z. get_or by_names z []) x_is ∙ node.row) next.1.listed), next.2)

  pub first_of_names : (found : Option ℕ) → IsFirst (InCycle by_names) found → IsFirst (InCycle by_declarations) found
  first_of_names None none = λ i p. none i (in_both i p)
  first_of_names (Some i) first = (
    elim (cases_lt i (length decls)) [
      | inl lt ↦ cycle_back first.0.others i lt first.0.chain
      | inr le ↦ (let too = declared_too i le first.0 in absurd (let lt = too.1 in let least = first.1 too.0 too.2 in omega arith))
    ],
    λ j p. first.1 j (in_both j p),
  )

-- the first declaration in a cycle, where names have nodes
pub first_by_names : (kind : NameKind) (decls : List (ℕ × Decl)) (graph : List (List ℕ)) → IsByNames kind decls (owners_from kind 0 decls) graph
    → (found : Option ℕ) → IsFirst (InCycle graph) found → IsFirst (InCycle (graph_of kind decls)) found
first_by_names kind decls graph is found first = first_of_names kind decls is.nodes is.are found (subst (λ g. IsFirst (InCycle g) found) is.is first)
