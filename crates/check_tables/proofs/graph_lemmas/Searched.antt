-- A search from a node, which has looked at the first ones of those that it saw.
use Rattle.std.proofs.Common.{◌≡◌, ℕ, zero, suc, ◌+◌, ◌<◌, ◌≤◌, ◌↔◌, inl, inr, Bool, List, [], ◌∷◌, ◌++◌, length, take, get_or, Contains, refl, sym, ap, subst, ◌∙◌, arith}
use Rattle.std.proofs.lemmas.List.{take_all, take-take, length-take, take_more}
use Rattle.std.proofs.lemmas.List.Elements.{Contains-push_cases, Contains-get_or}
use Rattle.check_tables.specs.graph.Cycles.{LeadsTo, Chain, InCycle}
use Rattle.check_tables.specs.graph.inner.Progress.{Hit}
use Rattle.check_tables.specs.graph.inner.Search.{IsListed, Grows, IsSearched}
use Rattle.check_tables.proofs.graph_lemmas.Chains.{chain_push}
use Rattle.check_tables.proofs.graph_lemmas.Grown.{kept}

listed_leads : (graph : List (List ℕ)) (a c : ℕ) → IsListed (length graph) (get_or graph a []) c → LeadsTo graph a c
listed_leads graph a c p = record { within = p.within; listed = p.listed }

leads_listed : (graph : List (List ℕ)) (a c : ℕ) → LeadsTo graph a c → IsListed (length graph) (get_or graph a []) c
leads_listed graph a c p = record { within = p.within; listed = p.listed }

module _ (graph : List (List ℕ)) (f : ℕ) where
  pub searched_start : (m n : List Bool) (t row : List ℕ) → row ≡ get_or graph f [] → length m ≡ length graph → Grows m [] n t (IsListed (length m) row) → IsSearched graph f 0 n t
  searched_start m n t row is long x =
      let y : Grows m [] n t (IsListed (length graph) (get_or graph f [])) = subst (λ k. Grows m [] n t (IsListed k (get_or graph f []))) long (subst (λ r. Grows m [] n t (IsListed (length m) r)) is x) in
      record {
        long = y.long ∙ long;
        marked = y.marked;
        sound = λ c p. elim (y.only c p) [ inl q ↦ (let lt = q.1 in absurd (omega arith)) | inr q ↦ (0, (c, listed_leads graph f c q, refl)) ];
        start = λ c p. y.all c (leads_listed graph f c p);
        closed = λ a c p q. let lt = p.1 in absurd (omega arith);
        within = λ c p. elim (y.only c p) [ inl q ↦ (let lt = q.1 in absurd (omega arith)) | inr q ↦ q.within ];
        reached = omega arith;
      }

  pub searched_more : (at : ℕ) (m : List Bool) (s : List ℕ) (n : List Bool) (t : List ℕ) (a : ℕ) (row : List ℕ) → IsSearched graph f at m s → at < length s → a ≡ get_or s at 0 → row ≡ get_or graph a []
      → Grows m s n t (IsListed (length m) row) → IsSearched graph f (at + 1) n t
  searched_more at m s n t a row h lt is row_is x =
      let y : Grows m s n t (IsListed (length graph) (get_or graph a [])) = subst (λ k. Grows m s n t (IsListed k (get_or graph a []))) h.long (subst (λ r. Grows m s n t (IsListed (length m) r)) row_is x) in
      record {
        long = y.long ∙ h.long;
        marked = y.marked;
        sound = λ c p. elim (y.only c p) [ inl q ↦ h.sound c q | inr q ↦ (let r = h.sound a own in (suc r.0, chain_push graph f a c (suc r.0) r.1 (listed_leads graph a c q))) ];
        start = λ c p. kept s t c y.prefix (h.start c p);
        closed = λ b c p q. elim (Contains-push_cases (take at s) a b (subst (λ xs. Contains xs b) (first y.prefix) p)) [
          | inl r ↦ kept s t c y.prefix (h.closed b c r q)
          | inr e ↦ y.all c (leads_listed graph a c (subst (λ z. LeadsTo graph z c) (sym e) q))
        ];
        within = λ c p. elim (y.only c p) [ inl q ↦ h.within c q | inr q ↦ q.within ];
        reached = (let e = h.reached in let long : length s ≤ length t = omega (arith, length-take (length s) t, ap length y.prefix) in omega arith);
      }
    where
      own : Contains s a
      own = subst (Contains s) (sym is) (Contains-get_or s at 0 lt)

      first : take (length s) t ≡ s → take (at + 1) t ≡ take at s ++ a ∷ []
      first prefix = sym (take-take (at + 1) (length s) t (omega arith)) ∙ ap (take (at + 1)) prefix ∙ take_more s at 0 lt ∙ ap (λ z. take at s ++ z ∷ []) (sym is)

  -- what a chain leads to was seen
  chain_seen : (at : ℕ) (m : List Bool) (s : List ℕ) → IsSearched graph f at m s → length s ≤ at → (n a b : ℕ) → Contains s a → Chain graph a b n → Contains s b
  chain_seen at m s h le zero a b p e = subst (Contains s) e p
  chain_seen at m s h le (suc n) a b p q = chain_seen at m s h le n q.0 b (h.closed a q.0 (subst (λ xs. Contains xs a) (sym (take_all at s le)) p) q.1) q.2

  pub searched_end : (at : ℕ) (m : List Bool) (s : List ℕ) → IsSearched graph f at m s → length s ≤ at → Hit m f ↔ InCycle graph f
  searched_end at m s h le = (
    λ e. let r = h.sound f ((h.marked f).0 e) in record { others = r.0; chain = r.1 },
    λ q. (h.marked f).1 (chain_seen at m s h le q.others q.chain.0 f (h.start q.chain.0 q.chain.1) q.chain.2),
  )

  pub seen_within : (at : ℕ) (m : List Bool) (s : List ℕ) → IsSearched graph f at m s → at < length s → get_or s at 0 < length graph
  seen_within at m s h lt = h.within (get_or s at 0) (Contains-get_or s at 0 lt)
