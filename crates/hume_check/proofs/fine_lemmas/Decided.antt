-- What holds or doesn't, and the first number and the least finding of what does.
use Rattle.std.proofs.Common.{◌≡◌, ℕ, zero, suc, ◌<◌, ◌≤◌, ◌⊎◌, inl, inr, Bool, true, false, List, [], ◌∷◌, Option, Some, None, slice_get, refl, sym, subst, arith}
use Rattle.std.proofs.lemmas.Bool.{cases_eq, cases_lt}
use Rattle.hume_base.specs.declared.rule.Rule.{Rule}
use Rattle.hume_base.specs.declared.finding.Finding.{Finding}
use Rattle.hume_base.specs.Rules.{phase_of}
use Rattle.hume_base.specs.Least.{IsLeast, OfRule, finding_of, earlier_of}
use Rattle.hume_base.proofs.Least.{IsLeast-rule, IsLeast-either, IsLeast-same, IsLeast-phase, IsLeast-later, IsFirst-none, IsFirst-here}

-- it holds, or it doesn't
abbrev pub Decided : Type 0 → Type 0
Decided P = P ⊎ (P → ⊥)

pub decided_true : (b : Bool) → Decided (b ≡ true)
decided_true true = inl refl
decided_true false = inr (λ e. cc)

pub decided_false : (b : Bool) → Decided (b ≡ false)
decided_false true = inr (λ e. cc)
decided_false false = inl refl

pub decided_as : {P Q : Type 0} → (P → Q) → (Q → P) → Decided P → Decided Q
decided_as to from d = elim d [ inl p ↦ inl (to p) | inr none ↦ inr (λ q. none (from q)) ]

pub decided_both : {P Q : Type 0} → Decided P → Decided Q → Decided (P × Q)
decided_both d e = elim d [
  | inl p ↦ elim e [ inl q ↦ inl (p, q) | inr none ↦ inr (λ h. none h.1) ]
  | inr none ↦ inr (λ h. none h.0)
]

pub decided_not : {P : Type 0} → Decided P → Decided (P → ⊥)
decided_not d = elim d [ inl p ↦ inr (λ none. none p) | inr none ↦ inl none ]

pub decided_lt : (a b : ℕ) → Decided (a < b)
decided_lt a b = elim (cases_lt a b) [ inl lt ↦ inl lt | inr le ↦ inr (λ lt. omega arith) ]

pub decided_le : (a b : ℕ) → Decided (a ≤ b)
decided_le a b = elim (cases_lt b a) [ inl lt ↦ inr (λ le. omega arith) | inr le ↦ inl le ]

-- the first number below a bound
pub first_below : (P : ℕ → Type 0) → ((i : ℕ) → Decided (P i)) → (n : ℕ)
    → ((i : ℕ) × (i < n) × P i × ((j : ℕ) → j < i → P j → ⊥)) ⊎ ((j : ℕ) → j < n → P j → ⊥)
first_below P d zero = inr (λ j lt p. omega arith)
first_below P d (suc n) = elim (first_below P d n) [
  | inl f ↦ let lt = f.1 in inl (f.0, omega arith, f.2, f.3)
  | inr none ↦ elim (d n) [
    | inl p ↦ inl (n, omega arith, p, none)
    | inr off ↦ inr (λ j lt p. elim (cases_eq j n) [ inl same ↦ off (subst P same p) | inr other ↦ none j (omega arith) p ])
  ]
]

-- some number below a bound
pub decided_below : (P : ℕ → Type 0) → ((i : ℕ) → Decided (P i)) → (n : ℕ) → Decided ((i : ℕ) × (i < n) × P i)
decided_below P d n = elim (first_below P d n) [ inl f ↦ inl (f.0, f.1, f.2) | inr none ↦ inr (λ f. none f.0 f.1 f.2) ]

-- some element of a list, with its number
pub decided_some : {A : Type 0} (P : ℕ → A → Type 0) (xs : List A) → ((i : ℕ) (x : A) → Decided (P i x))
    → Decided ((i : ℕ) × (x : A) × (slice_get xs i ≡ Some x) × P i x)
decided_some P [] d = inr (λ f. cc)
decided_some P (x ∷ xs) d = elim (d 0 x) [
  | inl p ↦ inl (0, x, refl, p)
  | inr off ↦ elim (decided_some (λ i. P (suc i)) xs (λ i. d (suc i))) [
    | inl f ↦ inl (suc f.0, f.1, f.2, f.3)
    | inr none ↦ inr (λ f. by P x xs off none f.0 f.1 f.2 f.3)
  ]
]
  where
    by : {A : Type 0} (P : ℕ → A → Type 0) (x : A) (xs : List A) → (P 0 x → ⊥) → (((i : ℕ) × (y : A) × (slice_get xs i ≡ Some y) × P (suc i) y) → ⊥)
        → (i : ℕ) (y : A) → slice_get (x ∷ xs) i ≡ Some y → P i y → ⊥
    by P x xs off none zero y e p = let same : x ≡ y = cc in off (subst (P 0) (sym same) p)
    by P x xs off none (suc i) y e p = none (i, y, e, p)

-- the least of what is found

abbrev pub HasLeast : (Finding → Type 0) → Type 0
HasLeast broken = (o : Option Finding) × IsLeast broken o

pub least_of_rule : (rule : Rule) (P : ℕ → Type 0) (n : ℕ) → ((i : ℕ) → Decided (P i)) → ((i : ℕ) → P i → i < n) → HasLeast (OfRule rule P)
least_of_rule rule P n d within = elim (first_below P d n) [
  | inl f ↦ (finding_of rule (Some f.0), IsLeast-rule rule P (Some f.0) (IsFirst-here P f.0 f.3 f.2))
  | inr none ↦ (finding_of rule None, IsLeast-rule rule P None (IsFirst-none P n none within))
]

pub least_of_two : {A B : Finding → Type 0} → HasLeast A → HasLeast B → HasLeast (λ f. A f ⊎ B f)
least_of_two {A} {B} a b = (earlier_of a.0 b.0, IsLeast-either A B a.0 b.0 a.1 b.1)

pub least_as : {A B : Finding → Type 0} → ((f : Finding) → A f → B f) → ((f : Finding) → B f → A f) → HasLeast A → HasLeast B
least_as {A} {B} to from a = (a.0, IsLeast-same A B a.0 (λ f. (to f, from f)) a.1)

-- a later phase is asked only where an earlier one finds nothing
pub least_of_phases : {A B : Finding → Type 0} → HasLeast A → (IsLeast A None → HasLeast B) → ((x f : Finding) → A x → B f → phase_of x.rule < phase_of f.rule)
    → HasLeast (λ f. A f ⊎ B f)
least_of_phases {A} {B} a b later = by a.0 a.1
  where
    by : (o : Option Finding) → IsLeast A o → HasLeast (λ f. A f ⊎ B f)
    by None p = let q = b p in (q.0, IsLeast-later A B q.0 p q.1)
    by (Some x) p = (Some x, IsLeast-phase A B x p (λ f q. later x f p.0 q))
