-- Nodes of names, with one more declaration of a name.
use Rattle.std.proofs.Common.{◌≡◌, ℕ, ◌+◌, ◌-◌, ◌<◌, ◌^◌, inl, inr, slice_get, take, List, [], ◌∷◌, ◌++◌, Option, Some, None, true, false, length, set, get_or, is_some, if◌then◌else◌, ap, sym, subst, ◌∙◌, arith}
use Rattle.std.proofs.lemmas.Bool.{false≢true, cases_Bool, cases_lt}
use Rattle.std.proofs.lemmas.List.{length-append, length-set, get_or_append_left, get_or_at, get_or-set_same, get_or-set_other, take_more}
use Rattle.std.proofs.lemmas.Slice.Eq.{bytes_eq-Decides}
use Rattle.std.proofs.lemmas.Option.{none-some, slice_get_within, get_or_from_slice_get}
use Rattle.std.specs.Str.{bytes_eq}
use Rattle.check_tables.specs.names.Names.{number_of, names_of, among}
use Rattle.check_tables.proofs.names_lemmas.Lookup.{is_some-number_of}
use Rattle.check_names.specs.Leading.{numbers_of}
use Rattle.check_names.specs.inner.NameNodes.{AreNodes, IsOneMore}
use Rattle.check_names.specs.declared.name_nodes.NameNodes.{NameNodes}
use Rattle.check_names.proofs.IndexSteps.{itself, numbers_own, numbers_other, number_own, number_other, number_kept, index_push}

same_node : (a b : ℕ) → Some a ≡ Some b → a ≡ b
same_node a b e = cc

module _ (first : ℕ) (owners : List (List ℕ × ℕ)) (old : NameNodes) (is : AreNodes first owners old) (o : List ℕ × ℕ) where
  module _ (k : ℕ) (here : number_of o.0 old.index.table ≡ Some (first + k)) (lt : k < length old.rows) where
    abbrev longer : List (List ℕ)
    longer = set old.rows k (get_or old.rows k [] ++ o.1 ∷ [])

    longer_rows : (name : List ℕ) (j : ℕ) → number_of name old.index.table ≡ Some (first + j) → get_or longer j [] ≡ numbers_of name (owners ++ o ∷ [])
    longer_rows name j p = elim (cases_Bool (bytes_eq name o.0)) [
      | inl on ↦
          let name_is : name ≡ o.0 = (bytes_eq-Decides name o.0).0 on in
          let j_is : j ≡ k = (let e = same_node _ _ (sym p ∙ ap (λ z. number_of z old.index.table) name_is ∙ here) in omega arith) in
          ap (λ i. get_or longer i []) j_is ∙ get_or-set_same old.rows k (get_or old.rows k [] ++ o.1 ∷ []) [] lt
          ∙ ap (λ r. r ++ o.1 ∷ []) (is.rows o.0 k here) ∙ sym (numbers_own owners o) ∙ ap (λ z. numbers_of z (owners ++ o ∷ [])) (sym name_is)
      | inr off ↦
          let other : j ≡ k → ⊥ = λ e. false≢true (sym off
          ∙ (bytes_eq-Decides name o.0).1 (is.apart name o.0 (first + k) (p ∙ ap (λ z. Some (first + z)) e) here)) in
          get_or-set_other old.rows k j (get_or old.rows k [] ++ o.1 ∷ []) [] other ∙ is.rows name j p ∙ sym (numbers_other owners o name off)
    ]

    longer_all : (name : List ℕ) → number_of name old.index.table ≡ None → numbers_of name (owners ++ o ∷ []) ≡ []
    longer_all name p = elim (cases_Bool (bytes_eq name o.0)) [
      | inl on ↦ absurd (none-some (first + k) (sym p ∙ ap (λ z. number_of z old.index.table) ((bytes_eq-Decides name o.0).0 on) ∙ here))
      | inr off ↦ numbers_other owners o name off ∙ is.all name p
    ]

    -- the row of its node is longer
    pub row_longer : AreNodes first (owners ++ o ∷ []) (record { index = old.index; rows = set old.rows k (get_or old.rows k [] ++ o.1 ∷ []) })
    row_longer =
        let long : length longer ≡ length old.rows = length-set old.rows k (get_or old.rows k [] ++ o.1 ∷ []) in
        record {
          index = is.index;
          few = (let f = is.few in subst (λ l. first + l < 2 ^ 32) (sym long) f);
          inside = λ name node p. let at = is.inside name node p in (at.0, at.1, subst (λ l. at.0 < l) (sym long) at.2);
          named = λ j below. is.named j (subst (λ l. j < l) long below);
          apart = is.apart;
          rows = longer_rows;
          all = longer_all;
        }

  module _ (none : number_of o.0 old.index.table ≡ None) where
    abbrev entry : List ℕ × ℕ
    entry = (o.0, first + length old.rows)

    abbrev more : List (List ℕ)
    more = old.rows ++ (o.1 ∷ []) ∷ []

    abbrev table : List (List ℕ × ℕ)
    table = old.index.table ++ entry ∷ []

    absent : among o.0 (names_of old.index.table) ≡ false
    absent = sym (is_some-number_of o.0 old.index.table) ∙ ap is_some none

    long : length more ≡ length old.rows + 1
    long = length-append old.rows ((o.1 ∷ []) ∷ [])

    -- of which names a number is
    own : (name : List ℕ) → bytes_eq name o.0 ≡ true → number_of name table ≡ Some (first + length old.rows)
    own name on = ap (λ z. number_of z table) ((bytes_eq-Decides name o.0).0 on) ∙ number_own old.index.table entry none

    other : (name : List ℕ) (x : Option ℕ) → bytes_eq name o.0 ≡ false → number_of name table ≡ x → number_of name old.index.table ≡ x
    other name x off p = sym (number_other old.index.table entry name off) ∙ p

    more_inside : (name : List ℕ) (node : ℕ) → number_of name table ≡ Some node → (k : ℕ) × (node ≡ first + k) × (k < length more)
    more_inside name node p = elim (cases_Bool (bytes_eq name o.0)) [
      | inl on ↦ (length old.rows, same_node _ _ (sym p ∙ own name on), omega (arith, long))
      | inr off ↦ (let at = is.inside name node (other name (Some node) off p) in (at.0, at.1, (let lt = at.2 in omega (arith, long))))
    ]

    more_named : (k : ℕ) → k < length more → (name : List ℕ) × (number_of name table ≡ Some (first + k))
    more_named k lt = elim (cases_lt k (length old.rows)) [
      | inl before ↦ (let at = is.named k before in (at.0, number_kept old.index.table entry at.0 (first + k) at.1))
      | inr le ↦ (let e : length old.rows ≡ k = omega (arith, long) in (o.0, own o.0 (itself [] o) ∙ ap (λ z. Some (first + z)) e))
    ]

    old_apart : (a b : List ℕ) → number_of a old.index.table ≡ Some (first + length old.rows) → ⊥
    old_apart a b p = let at = is.inside a (first + length old.rows) p in let e = at.1 in let lt = at.2 in omega arith

    more_apart : (a b : List ℕ) (node : ℕ) → number_of a table ≡ Some node → number_of b table ≡ Some node → a ≡ b
    more_apart a b node p q = elim (cases_Bool (bytes_eq a o.0)) [
      | inl on ↦ elim (cases_Bool (bytes_eq b o.0)) [
        | inl also ↦ (bytes_eq-Decides a o.0).0 on ∙ sym ((bytes_eq-Decides b o.0).0 also)
        | inr off ↦ absurd (old_apart b a (other b (Some node) off q ∙ sym p ∙ own a on))
      ]
      | inr off ↦ elim (cases_Bool (bytes_eq b o.0)) [
        | inl on ↦ absurd (old_apart a b (other a (Some node) off p ∙ sym q ∙ own b on))
        | inr too ↦ is.apart a b node (other a (Some node) off p) (other b (Some node) too q)
      ]
    ]

    more_rows : (name : List ℕ) (k : ℕ) → number_of name table ≡ Some (first + k) → get_or more k [] ≡ numbers_of name (owners ++ o ∷ [])
    more_rows name k p = elim (cases_Bool (bytes_eq name o.0)) [
      | inl on ↦
          let here : length old.rows ≡ k = (let e = same_node _ _ (sym p ∙ own name on) in omega arith) in
          get_or_at old.rows (o.1 ∷ []) [] [] k here ∙ ap (λ r. r ++ o.1 ∷ []) (sym (is.all o.0 none)) ∙ sym (numbers_own owners o)
          ∙ ap (λ z. numbers_of z (owners ++ o ∷ [])) (sym ((bytes_eq-Decides name o.0).0 on))
      | inr off ↦
          let was : number_of name old.index.table ≡ Some (first + k) = other name (Some (first + k)) off p in
          let below : k < length old.rows = (let at = is.inside name (first + k) was in let e = at.1 in let lt = at.2 in omega arith) in
          get_or_append_left old.rows ((o.1 ∷ []) ∷ []) [] k below ∙ is.rows name k was ∙ sym (numbers_other owners o name off)
    ]

    more_all : (name : List ℕ) → number_of name table ≡ None → numbers_of name (owners ++ o ∷ []) ≡ []
    more_all name p = elim (cases_Bool (bytes_eq name o.0)) [
      | inl on ↦ absurd (none-some (first + length old.rows) (sym p ∙ own name on))
      | inr off ↦ numbers_other owners o name off ∙ is.all name (other name None off p)
    ]

    -- it has a node of its own
    pub name_more : (new : NameNodes) → IsOneMore first o.0 o.1 old new → AreNodes first (owners ++ o ∷ []) new
    name_more new added =
        let table_is : table ≡ new.index.table = sym (added.table ∙ ap (λ b. if is_some b then old.index.table else table) none) in
        subst (AreNodes first (owners ++ o ∷ [])) (λ i. record {
          index = record { owners = sym added.owners i; table = table_is i; distinct = new.index.distinct };
          rows = sym added.rows i;
        }) (record {
          index = index_push old.index.table old.index.owners entry absent is.index;
          few = subst (λ r. first + length r < 2 ^ 32) added.rows added.few;
          inside = more_inside;
          named = more_named;
          apart = more_apart;
          rows = more_rows;
          all = more_all;
        })

-- with the declarations up to the next
module _ (first : ℕ) (owners : List (List ℕ × ℕ)) (at : ℕ) (old : NameNodes) (o : List ℕ × ℕ)
    (there : slice_get owners at ≡ Some o) (is : AreNodes first (take at owners) old) where
  one_more : take at owners ++ o ∷ [] ≡ take (at + 1) owners
  one_more = sym (take_more owners at o (slice_get_within owners at o there) ∙ ap (λ x. take at owners ++ x ∷ []) (get_or_from_slice_get owners at o o there))

  pub node_found : (node : ℕ) (rows : List (List ℕ)) → number_of o.0 old.index.table ≡ Some node
      → rows ≡ set old.rows (node - first) (get_or old.rows (node - first) [] ++ o.1 ∷ [])
      → AreNodes first (take (at + 1) owners) (record { index = old.index; rows = rows })
  node_found node rows here longer =
      let place = is.inside o.0 node here in
      let k_is : node - first ≡ place.0 = (let e = place.1 in omega arith) in
      subst (λ os. AreNodes first os (record { index = old.index; rows = rows })) one_more
      (subst (λ rs. AreNodes first (take at owners ++ o ∷ []) (record { index = old.index; rows = rs }))
      (sym (longer ∙ ap (λ k. set old.rows k (get_or old.rows k [] ++ o.1 ∷ [])) k_is))
      (row_longer first (take at owners) old is o place.0 (here ∙ ap Some place.1) place.2))

  pub node_added : (new : NameNodes) → number_of o.0 old.index.table ≡ None → IsOneMore first o.0 o.1 old new → AreNodes first (take (at + 1) owners) new
  node_added new none added = subst (λ os. AreNodes first os new) one_more (name_more first (take at owners) old is o none new added)
