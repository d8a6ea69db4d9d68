-- How the nodes that are seen grow.
use Rattle.std.proofs.Common.{◌≡◌, ℕ, ◌+◌, ◌<◌, ◌≤◌, ◌⊎◌, inl, inr, Bool, true, false, List, [], ◌∷◌, ◌++◌, length, take, get_or, set, Contains, refl, sym, ap, subst, ◌∙◌, if◌then◌else◌, arith}
use Rattle.std.proofs.lemmas.Bool.{cases_eq}
use Rattle.std.proofs.lemmas.List.{take_all, take_at, take-take, length-append, length-set, length-take, get_or-take, take_more, get_or-set_same, get_or-set_other}
use Rattle.std.proofs.lemmas.List.Sums.{sum_by-set}
use Rattle.std.proofs.lemmas.List.Elements.{Contains-push, Contains-push_cases, Contains-append_left}
use Rattle.check_tables.specs.graph.inner.Progress.{Hit, unmarked}
use Rattle.check_tables.specs.graph.inner.Search.{IsMarked, IsListed, Grows}

pub marked_more : (marks : List Bool) (seen : List ℕ) (f : ℕ) → f < length marks → IsMarked marks seen → IsMarked (set marks f true) (seen ++ f ∷ [])
marked_more marks seen f lt m h = elim (cases_eq h f) [
  | inl same ↦ (λ _. subst (Contains (seen ++ f ∷ [])) (sym same) (Contains-push seen f), λ _. subst (Hit (set marks f true)) (sym same) (get_or-set_same marks f true false lt))
  | inr other ↦ (
    λ p. Contains-append_left seen (f ∷ []) h ((m h).0 (sym (get_or-set_other marks f h true false other) ∙ p)),
    λ p. elim (Contains-push_cases seen f h p) [ inl q ↦ get_or-set_other marks f h true false other ∙ (m h).1 q | inr e ↦ absurd (other (sym e)) ],
  )
]

pub kept : (s t : List ℕ) (c : ℕ) → take (length s) t ≡ s → Contains s c → Contains t c
kept s t c e p =
    let lt = p.1 in
    let long : length s ≤ length t = omega (arith, length-take (length s) t, ap length e) in
    (p.0, omega arith, sym (get_or-take (length s) t p.0 c lt) ∙ ap (λ (xs : List ℕ). get_or xs p.0 c) e ∙ p.2)

pub grows_none : (m : List Bool) (s : List ℕ) (P : ℕ → Type 0) → IsMarked m s → ((c : ℕ) → P c → Contains s c) → Grows m s m s P
grows_none m s P marked all = record { long = refl; marked = marked; prefix = take_all (length s) s (omega arith); only = λ c p. inl p; all = all; cost = refl }

abbrev weigh : Bool → ℕ
weigh mark = if mark then 0 else 1

pub one_fewer : (m : List Bool) (b : ℕ) → b < length m → get_or m b false ≡ false → unmarked (set m b true) + 1 ≡ unmarked m
one_fewer m b lt off =
    let e : unmarked (set m b true) + weigh (get_or m b false) ≡ unmarked m + 0 = sum_by-set (λ mark. if mark then 0 else 1) m b true false lt in
    let f : weigh (get_or m b false) ≡ 1 = ap weigh off in
    omega arith

pub grows_one : (m : List Bool) (s : List ℕ) (b : ℕ) → b < length m → get_or m b false ≡ false → IsMarked m s → Grows m s (set m b true) (s ++ b ∷ []) (λ c. (c < length m) × (c ≡ b))
grows_one m s b lt off marked = record {
  long = length-set m b true;
  marked = marked_more m s b lt marked;
  prefix = take_at s (b ∷ []) (length s) refl;
  only = λ c p. elim (Contains-push_cases s b c p) [ inl q ↦ inl q | inr e ↦ inr (subst (λ x. x < length m) e lt, sym e) ];
  all = λ c e. subst (Contains (s ++ b ∷ [])) (sym e.1) (Contains-push s b);
  cost = (let e = one_fewer m b lt off in omega (arith, length-append s (b ∷ [])));
}

grows_then : (m : List Bool) (s : List ℕ) (n : List Bool) (t : List ℕ) (o : List Bool) (u : List ℕ) (P Q R : ℕ → Type 0) → Grows m s n t P → Grows n t o u Q
    → ((c : ℕ) → P c → R c) → ((c : ℕ) → Q c → R c) → ((c : ℕ) → R c → P c ⊎ Q c) → Grows m s o u R
grows_then m s n t o u P Q R a b pr qr rs =
    let long : length s ≤ length t = omega (arith, length-take (length s) t, ap length a.prefix) in
    let cost = a.cost in let cost2 = b.cost in
    record {
      long = b.long ∙ a.long;
      marked = b.marked;
      prefix = sym (take-take (length s) (length t) u long) ∙ ap (take (length s)) b.prefix ∙ a.prefix;
      only = λ c p. elim (b.only c p) [ inl q ↦ elim (a.only c q) [ inl x ↦ inl x | inr x ↦ inr (pr c x) ] | inr q ↦ inr (qr c q) ];
      all = λ c r. elim (rs c r) [ inl x ↦ kept t u c b.prefix (a.all c x) | inr y ↦ b.all c y ];
      cost = omega arith;
    }

-- one more of a row
pub grows_row : (m : List Bool) (s : List ℕ) (n : List Bool) (t : List ℕ) (o : List Bool) (u : List ℕ) (row : List ℕ) (i b : ℕ) → i < length row → b ≡ get_or row i 0
    → Grows m s n t (IsListed (length m) (take i row)) → Grows n t o u (λ c. (c < length n) × (c ≡ b)) → Grows m s o u (IsListed (length m) (take (i + 1) row))
grows_row m s n t o u row i b lt is x y =
    let more : take (i + 1) row ≡ take i row ++ b ∷ [] = take_more row i 0 lt ∙ ap (λ z. take i row ++ z ∷ []) (sym is) in
    subst (λ xs. Grows m s o u (IsListed (length m) xs)) (sym more)
    (grows_then m s n t o u (IsListed (length m) (take i row)) (λ c. (c < length n) × (c ≡ b)) (IsListed (length m) (take i row ++ b ∷ [])) x y
    (λ c p. record { within = p.within; listed = Contains-append_left (take i row) (b ∷ []) c p.listed })
    (λ c e. record { within = subst (λ k. c < k) x.long e.0; listed = subst (Contains (take i row ++ b ∷ [])) (sym e.1) (Contains-push (take i row) b) })
    (λ c p. elim (Contains-push_cases (take i row) b c p.listed) [ inl q ↦ inl (record { within = p.within; listed = q }) | inr e ↦ inr (subst (λ k. c < k) (sym x.long) p.within, sym e) ]))
