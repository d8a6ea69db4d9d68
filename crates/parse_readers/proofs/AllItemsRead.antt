-- Item by item, until the tokens are over.
use Rattle.std.proofs.Common.{◌≡◌, ℕ, zero, suc, ◌<◌, ◌≤◌, List, [], ◌∷◌, ◌++◌, length, refl, sym, ap, ◌∙◌, subst, arith, length-append, append_assoc}
use Rattle.std.specs.Prelude.{Ok, Result}
use Rattle.std.specs.List.{flat_map}
use Rattle.hume_base.specs.declared.token.Kind.{Kind}
use Rattle.parse_readers.specs.inner.Readers.{Wrong, Reader, ◌>>=◌}
use Rattle.parse_readers.specs.inner.Items.{Item, Expecting, Outside, Wanting, Within, expecting_after, item, no_items, items_by, items}
use Rattle.parse_readers.proofs.Local.{Splits, bind_ok, bind_same, splits_bind, splits_as, local_give, give_empty, stop_empty}
use Rattle.parse_readers.proofs.ItemsRead.{spelled_item, ItemFits, item_reads, some_item, item_shrinks}
use Rattle.parse_readers.proofs.Forms.{Reads}

-- items may end there
abbrev pub MayEnd : Expecting → Type 0
MayEnd Outside = Unit {0}
MayEnd Wanting = ⊥
MayEnd Within = Unit {0}

-- items that may stand there one behind the other
abbrev pub ItemsFit : ℕ → Expecting → List Item → Type 0
ItemsFit bound expecting [] = MayEnd expecting
ItemsFit bound expecting (l ∷ ls) = ItemFits bound expecting l × ItemsFit bound (expecting_after l) ls

-- no tokens are left
abbrev pub Over : List Kind → Type 0
Over rest = rest ≡ []

end_gives : (expecting : Expecting) → MayEnd expecting → no_items expecting [] ≡ Ok ([], [])
end_gives Outside h = refl
end_gives Wanting h = absurd h
end_gives Within h = refl

end_sound : (expecting : Expecting) (x : List Item × List Kind) → no_items expecting [] ≡ Ok x → MayEnd expecting × (([], []) ≡ x)
end_sound Outside x e = (tt, cc)
end_sound Wanting x e = cc
end_sound Within x e = (tt, cc)

module _ (bound : ℕ) where
  at_end : (n : ℕ) (expecting : Expecting) → items_by n bound expecting [] ≡ no_items expecting []
  at_end zero expecting = refl
  at_end (suc n) expecting = refl

  abbrev with_first : Item → List Item × List Kind → Result (List Item × List Kind) Wrong
  with_first l others = Ok (l ∷ others.0, others.1)

  -- a bound over the number of tokens makes no difference
  enough : (n m : ℕ) (expecting : Expecting) (ks : List Kind) → length ks ≤ n → length ks ≤ m → items_by n bound expecting ks ≡ items_by m bound expecting ks
  enough n m expecting [] h k = at_end n expecting ∙ sym (at_end m expecting)
  enough zero m expecting (x ∷ ks) h k = absurd (omega arith)
  enough (suc n) zero expecting (x ∷ ks) h k = absurd (omega arith)
  enough (suc n) (suc m) expecting (x ∷ ks) h k =
      bind_same (item bound expecting (x ∷ ks)) (λ y. items_by n bound (expecting_after y.0) y.1 >>= with_first y.0) (λ y. items_by m bound (expecting_after y.0) y.1 >>= with_first y.0)
      (λ y e. let less = item_shrinks bound expecting (x ∷ ks) y e in ap (λ r. r >>= with_first y.0) (enough n m (expecting_after y.0) y.1 (omega arith) (omega arith)))

  pub items_end : (expecting : Expecting) → items bound expecting [] ≡ no_items expecting []
  unfolding items
  items_end expecting = refl

  pub items_turn : (expecting : Expecting) (ks : List Kind) → 0 < length ks → items bound expecting ks ≡ (item bound expecting ks >>= λ x. items bound (expecting_after x.0) x.1 >>= λ others. Ok (x.0 ∷ others.0, others.1))
  unfolding items
  items_turn expecting [] h = absurd (omega (arith, h))
  items_turn expecting (k ∷ ks) h =
      bind_same (item bound expecting (k ∷ ks)) (λ y. items_by (length ks) bound (expecting_after y.0) y.1 >>= with_first y.0) (λ y. items_by (length y.1) bound (expecting_after y.0) y.1 >>= with_first y.0)
      (λ y e. let less = item_shrinks bound expecting (k ∷ ks) y e in ap (λ r. r >>= with_first y.0) (enough (length ks) (length y.1) (expecting_after y.0) y.1 (omega arith) (omega arith)))

  abbrev Read : Expecting → List Kind → List Item × List Kind → Type 0
  Read expecting ks x = ItemsFit bound expecting x.0 × (ks ≡ flat_map spelled_item x.0 ++ x.1) × Over x.1

  sound_by : (n : ℕ) (expecting : Expecting) (ks : List Kind) (x : List Item × List Kind) → length ks ≤ n → items bound expecting ks ≡ Ok x → Read expecting ks x
  sound_by n expecting [] x h e =
      let s = end_sound expecting x (sym (items_end expecting) ∙ e) in
      subst (Read expecting []) s.1 (s.0, refl, refl)
  sound_by zero expecting (k ∷ ks) x h e = absurd (omega arith)
  sound_by (suc n) expecting (k ∷ ks) x h e =
      let a = bind_ok (item bound expecting (k ∷ ks)) (λ y. items bound (expecting_after y.0) y.1 >>= with_first y.0) x (sym (items_turn expecting (k ∷ ks) (omega arith)) ∙ e) in
      let others = bind_ok (items bound (expecting_after a.0.0) a.0.1) (with_first a.0.0) x a.2 in
      let is : (a.0.0 ∷ others.0.0, others.0.1) ≡ x = (let f = others.2 in cc) in
      let s = (item_reads bound expecting).sound (k ∷ ks) a.0 a.1 in
      let less = item_shrinks bound expecting (k ∷ ks) a.0 a.1 in
      let t = sound_by n (expecting_after a.0.0) a.0.1 others.0 (omega arith) others.1 in
      subst (Read expecting (k ∷ ks)) is
      ((s.0, t.0), s.1 ∙ ap (λ m. spelled_item a.0.0 ++ m) t.1 ∙ sym (append_assoc (spelled_item a.0.0) (flat_map spelled_item others.0.0) others.0.1), t.2)

  -- all tokens are taken
  pub items_over : (expecting : Expecting) (ks : List Kind) (x : List Item × List Kind) → items bound expecting ks ≡ Ok x → Over x.1
  items_over expecting ks x e = (sound_by (length ks) expecting ks x (omega arith) e).2

  complete_all : (expecting : Expecting) (ls : List Item) → ItemsFit bound expecting ls → items bound expecting (flat_map spelled_item ls ++ []) ≡ Ok (ls, [])
  complete_all expecting [] f = items_end expecting ∙ end_gives expecting f
  complete_all expecting (l ∷ ls) f =
      let left = flat_map spelled_item ls ++ [] in
      ap (items bound expecting) (append_assoc (spelled_item l) (flat_map spelled_item ls) [])
      ∙ items_turn expecting (spelled_item l ++ left) (omega (arith, some_item l, length-append (spelled_item l) left))
      ∙ rw ((item_reads bound expecting).complete l left f.0 tt, complete_all (expecting_after l) ls f.1)

  abbrev turned : Expecting → Reader (List Item)
  turned expecting l = item bound expecting l >>= λ x. items bound (expecting_after x.0) x.1 >>= λ others. Ok (x.0 ∷ others.0, others.1)

  end_splits : (expecting : Expecting) → Splits (items bound expecting) [] (items bound expecting [])
  end_splits Outside = give_empty (items bound Outside) [] (items_end Outside)
  end_splits Wanting = stop_empty (items bound Wanting) (items_end Wanting)
  end_splits Within = give_empty (items bound Within) [] (items_end Within)

  splits_by : (n : ℕ) (expecting : Expecting) (ks : List Kind) → length ks ≤ n → Splits (items bound expecting) ks (items bound expecting ks)
  splits_by n expecting [] h = end_splits expecting
  splits_by zero expecting (k ∷ ks) h = absurd (omega arith)
  splits_by (suc n) expecting (k ∷ ks) h =
      splits_as (items bound expecting) (turned expecting) k (λ ls. items_turn expecting (k ∷ ls) (omega arith)) ks
      (splits_bind (item bound expecting) (λ l ts. items bound (expecting_after l) ts >>= λ others. Ok (l ∷ others.0, others.1)) (k ∷ ks) (item bound expecting (k ∷ ks)) refl ((item_reads bound expecting).local.at (k ∷ ks))
      (λ x is. let less = item_shrinks bound expecting (k ∷ ks) x is in
      splits_bind (items bound (expecting_after x.0)) (λ others ts. Ok (x.0 ∷ others, ts)) x.1 (items bound (expecting_after x.0) x.1) refl (splits_by n (expecting_after x.0) x.1 (omega arith)) (λ y g. (local_give (x.0 ∷ y.0)).at y.1)))

  pub items_read : (expecting : Expecting) → Reads (flat_map spelled_item) (ItemsFit bound expecting) Over (items bound expecting)
  items_read expecting = record {
    sound = λ ks x e. (let s = sound_by (length ks) expecting ks x (omega arith) e in (s.0, s.1));
    complete = λ ls rest f e. subst (λ r. items bound expecting (flat_map spelled_item ls ++ r) ≡ Ok (ls, r)) (sym e) (complete_all expecting ls f);
    local = record { at = λ ks. splits_by (length ks) expecting ks (omega arith) };
  }
