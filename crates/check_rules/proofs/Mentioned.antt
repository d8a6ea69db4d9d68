-- A declaration leads to those that declare the names that it mentions.
use Rattle.std.proofs.Common.{◌≡◌, ℕ, zero, suc, ◌+◌, ◌<◌, List, [], ◌∷◌, ◌++◌, map, length, get_or, Contains, Some, slice_get, refl, ap, sym, subst, ◌∙◌, arith, Bool, true, false, if◌then◌else◌, bytes_eq}
use Rattle.std.specs.List.{flat_map}
use Rattle.std.proofs.lemmas.List.{length-map}
use Rattle.std.proofs.lemmas.List.Elements.{Contains-append_left, Contains-append_right}
use Rattle.std.proofs.lemmas.Map.Made.{Contains-tail}
use Rattle.std.proofs.lemmas.Option.{slice_get_within, slice_get-map, get_or_from_slice_get}
use Rattle.std.proofs.lemmas.Slice.Eq.{bytes_eq-Decides}
use Rattle.std.specs.Option.{option_map}
use Rattle.hume_ast.specs.declared.tree.Decl.{Decl}
use Rattle.check_tables.specs.graph.Cycles.{LeadsTo}
use Rattle.check_names.specs.declared.mention_list.NameKind.{NameKind}
use Rattle.check_names.specs.Leading.{names_of_kind, owners_from, numbers_of, same_kind, meant, graph_of}
use Rattle.check_names.specs.Mentions.{Mention, mentions_of}
use Rattle.check_rules.specs.Declared.{Decls}

numbers-append : (name : List ℕ) (xs ys : List (List ℕ × ℕ)) → numbers_of name (xs ++ ys) ≡ numbers_of name xs ++ numbers_of name ys
numbers-append name [] ys = refl
numbers-append name (x ∷ xs) ys = by (bytes_eq name x.0) (numbers-append name xs ys)
  where
    by : (b : Bool) → numbers_of name (xs ++ ys) ≡ numbers_of name xs ++ numbers_of name ys
        → (if b then x.1 ∷ numbers_of name (xs ++ ys) else numbers_of name (xs ++ ys)) ≡ (if b then x.1 ∷ numbers_of name xs else numbers_of name xs) ++ numbers_of name ys
    by true h = ap (λ zs. x.1 ∷ zs) h
    by false h = h

own_number : (name : List ℕ) (m : ℕ) (names : List (List ℕ)) → Contains names name → Contains (numbers_of name (map (λ x. (x, m)) names)) m
own_number name m [] c = absurd (let lt = c.1 in omega arith)
own_number name m (x ∷ xs) c = by (bytes_eq name x) refl (own_number name m xs)
  where
    rest : List ℕ
    rest = numbers_of name (map (λ x. (x, m)) xs)

    by : (b : Bool) → bytes_eq name x ≡ b → (Contains xs name → Contains rest m) → Contains (if b then m ∷ rest else rest) m
    by true q later = (0, omega arith, refl)
    by false q later = later (Contains-tail x xs name (λ e. let yes = (bytes_eq-Decides name x).1 (sym e) in cc) c)

owned : (kind : NameKind) (decls : Decls) (m k : ℕ) (e : ℕ × Decl) (name : List ℕ) → slice_get decls k ≡ Some e → Contains (names_of_kind kind e.1) name
    → Contains (numbers_of name (owners_from kind m decls)) (m + k)
owned kind [] m k e name there c = cc
owned kind (d ∷ decls) m zero e name there c =
    let same : d ≡ e = cc in
    let first = own_number name m (names_of_kind kind d.1) (subst (λ (d : ℕ × Decl). Contains (names_of_kind kind d.1) name) (sym same) c) in
    subst (λ k. Contains (numbers_of name (owners_from kind m (d ∷ decls))) k) (let e : m ≡ m + 0 = omega arith in e)
    (subst (λ zs. Contains zs m) (sym (numbers-append name (map (λ name. (name, m)) (names_of_kind kind d.1)) (owners_from kind (suc m) decls)))
    (Contains-append_left _ (numbers_of name (owners_from kind (suc m) decls)) m first))
owned kind (d ∷ decls) m (suc k) e name there c =
    let later = owned kind decls (suc m) k e name there c in
    subst (λ k. Contains (numbers_of name (owners_from kind m (d ∷ decls))) k) (let e : suc m + k ≡ m + suc k = omega arith in e)
    (subst (λ zs. Contains zs (suc m + k)) (sym (numbers-append name (map (λ name. (name, m)) (names_of_kind kind d.1)) (owners_from kind (suc m) decls)))
    (Contains-append_right (numbers_of name (map (λ name. (name, m)) (names_of_kind kind d.1))) _ (suc m + k) later))

flat_at : {X A : Type 0} (h : X → List A) (xs : List X) (k : ℕ) (x : X) (y : A) → k < length xs → get_or xs k x ≡ x → Contains (h x) y → Contains (flat_map h xs) y
flat_at h [] k x y lt e c = absurd (omega arith)
flat_at h (z ∷ zs) zero x y lt e c = Contains-append_left (h z) (flat_map h zs) y (subst (λ w. Contains (h w) y) (sym e) c)
flat_at h (z ∷ zs) (suc k) x y lt e c = Contains-append_right (h z) (flat_map h zs) y (flat_at h zs k x y (omega arith) e c)

-- of that kind
pub leads : (kind : NameKind) → same_kind kind kind ≡ true → (decls : Decls) (a m : ℕ) (d e : ℕ × Decl) (name : List ℕ) → slice_get decls a ≡ Some d → slice_get decls m ≡ Some e
    → Contains (mentions_of d.1) (kind, name) → Contains (names_of_kind kind e.1) name → LeadsTo (graph_of kind decls) a m
leads kind same decls a m d e name at there mention names =
    let owners = owners_from kind 0 decls in
    let number : Contains (numbers_of name owners) m = subst (λ k. Contains (numbers_of name owners) k) (let e : 0 + m ≡ m = omega arith in e) (owned kind decls 0 m e name there names) in
    let step : Mention → List ℕ = λ mention. if same_kind mention.0 kind then numbers_of mention.1 owners else [] in
    let row : Contains (meant kind owners (mentions_of d.1)) m =
    flat_at step (mentions_of d.1) mention.0 (kind, name) m mention.1 mention.2 (subst (λ (b : Bool). Contains (if b then numbers_of name owners else []) m) (sym same) number) in
    let is : get_or (graph_of kind decls) a [] ≡ meant kind owners (mentions_of d.1) =
    get_or_from_slice_get (graph_of kind decls) a (meant kind owners (mentions_of d.1)) []
    (slice_get-map (λ (d : ℕ × Decl). meant kind owners (mentions_of d.1)) decls a ∙ ap (option_map (λ (d : ℕ × Decl). meant kind owners (mentions_of d.1))) at) in
    record {
      within = subst (λ n. m < n) (sym (length-map decls (λ (d : ℕ × Decl). meant kind owners (mentions_of d.1)))) (slice_get_within decls m e there);
      listed = subst (λ row. Contains row m) (sym is) row;
    }
