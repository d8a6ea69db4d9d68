-- Edges that go the other way, and cycles of them.
use Rattle.std.proofs.Common.{◌≡◌, ℕ, zero, suc, ◌+◌, ◌<◌, ◌≤◌, inl, inr, List, [], ◌∷◌, ◌++◌, length, take, get_or, set, Contains, refl, sym, ap, subst, ◌∙◌, arith}
use Rattle.std.proofs.lemmas.Bool.{cases_eq}
use Rattle.std.proofs.lemmas.List.{get_or-set_same, get_or-set_other, length-set, take_more}
use Rattle.std.proofs.lemmas.List.Elements.{Contains-push, Contains-push_cases, Contains-append_left}
use Rattle.check_tables.specs.graph.Cycles.{LeadsTo, Chain, InCycle}
use Rattle.check_tables.specs.graph.inner.Reversed.{LedBack, IsReversed}
use Rattle.check_tables.proofs.graph_lemmas.Chains.{chain_push, leads_within}

pub led_none : (old : List (List ℕ)) (a b : ℕ) → length old ≤ b → LedBack old old a (λ c. c ≡ b)
led_none old a b le = record { long = refl; kept = λ c x p. p; added = λ c lt e. absurd (omega arith) }

pub led_one : (old : List (List ℕ)) (a b : ℕ) → b < length old → LedBack old (set old b (get_or old b [] ++ a ∷ [])) a (λ c. c ≡ b)
led_one old a b lt =
    let row : List ℕ = get_or old b [] ++ a ∷ [] in
    record {
      long = length-set old b row;
      kept = λ c x p. elim (cases_eq c b) [
        | inl e ↦ subst (λ z. Contains (get_or (set old b row) z []) x) (sym e) (subst (λ (r : List ℕ). Contains r x) (sym (get_or-set_same old b row [] lt))
            (Contains-append_left (get_or old b []) (a ∷ []) x (subst (λ z. Contains (get_or old z []) x) e p)))
        | inr o ↦ subst (λ (r : List ℕ). Contains r x) (sym (get_or-set_other old b c row [] o)) p
      ];
      added = λ c within e. subst (λ z. Contains (get_or (set old b row) z []) a) (sym e) (subst (λ (r : List ℕ). Contains r a) (sym (get_or-set_same old b row [] lt)) (Contains-push (get_or old b []) a));
    }

pub led_nothing : (old : List (List ℕ)) (a : ℕ) → LedBack old old a (Contains [])
led_nothing old a = record { long = refl; kept = λ c x p. p; added = λ c lt p. absurd (let none = p.1 in omega arith) }

-- one more of a row
pub led_row : (old mid new : List (List ℕ)) (a : ℕ) (row : List ℕ) (i b : ℕ) → i < length row → b ≡ get_or row i 0 → LedBack old mid a (Contains (take i row)) → LedBack mid new a (λ c. c ≡ b)
    → LedBack old new a (Contains (take (i + 1) row))
led_row old mid new a row i b lt is x y =
    let more : take (i + 1) row ≡ take i row ++ b ∷ [] = take_more row i 0 lt ∙ ap (λ z. take i row ++ z ∷ []) (sym is) in
    record {
      long = y.long ∙ x.long;
      kept = λ c z p. y.kept c z (x.kept c z p);
      added = λ c within p. elim (Contains-push_cases (take i row) b c (subst (λ (r : List ℕ). Contains r c) more p)) [
        | inl q ↦ y.kept c a (x.added c within q)
        | inr e ↦ y.added c (subst (λ k. c < k) (sym x.long) within) (sym e)
      ];
    }

pub reversed_none : (graph back : List (List ℕ)) → length back ≡ length graph → IsReversed graph 0 back
reversed_none graph back long = record { long = long; edges = λ a b lt l. absurd (omega arith) }

pub reversed_more : (graph old new : List (List ℕ)) (a : ℕ) (row : List ℕ) → IsReversed graph a old → row ≡ get_or graph a [] → LedBack old new a (Contains row) → IsReversed graph (a + 1) new
reversed_more graph old new a row h is x = record {
  long = x.long ∙ h.long;
  edges = λ z b lt l. elim (cases_eq z a) [
    | inl e ↦ subst (Contains (get_or new b [])) (sym e) (x.added b (subst (λ k. b < k) (sym h.long) l.within)
        (subst (λ (r : List ℕ). Contains r b) (sym is) (subst (λ k. Contains (get_or graph k []) b) e l.listed)))
    | inr o ↦ x.kept b z (h.edges z b (omega arith) l)
  ];
}

module _ (graph back : List (List ℕ)) (is : IsReversed graph (length graph) back) where
  leads_back : (a b : ℕ) → LeadsTo graph a b → LeadsTo back b a
  leads_back a b l = let within : a < length graph = leads_within graph a b l in record { within = subst (λ k. a < k) (sym is.long) within; listed = is.edges a b within l }

  chain_back : (n a b : ℕ) → Chain graph a b n → Chain back b a n
  chain_back zero a b e = sym e
  chain_back (suc n) a b q = chain_push back b q.0 a n (chain_back n q.0 b q.2) (leads_back a q.0 q.1)

  -- what is in a cycle is in one of the edges that go the other way
  pub cycle_back : (a : ℕ) → InCycle graph a → InCycle back a
  cycle_back a q = record { others = q.others; chain = chain_back (suc q.others) a a q.chain }
