-- The least of several sets of findings.
use Rattle.std.proofs.Common.{◌≡◌, ℕ, ◌<◌, ◌≤◌, ◌⊎◌, ◌↔◌, inl, inr, Option, Some, None, refl, sym, subst, Bool, true, false, if◌then◌else◌, IsTrue, arith}
use Rattle.std.proofs.lemmas.Bool.{cases_lt}
use Rattle.std.proofs.lemmas.Bool.Decides.{nat_tests}
use Rattle.hume_base.specs.declared.rule.Rule.{Rule}
use Rattle.hume_base.specs.declared.finding.Finding.{Finding}
use Rattle.hume_base.specs.Rules.{phase_of, code_of}
use Rattle.hume_base.specs.Least.{goes_first, precedes, earlier_of, IsLeast, IsFirst, OfRule, finding_of}

goes_first-total : (x y : ℕ × ℕ × ℕ) → goes_first x y ≡ false → goes_first y x ≡ true
unfolding goes_first
goes_first-total x y h = grind (arith, nat_tests)

goes_first-trans : (x y z : ℕ × ℕ × ℕ) → goes_first x y ≡ true → goes_first y z ≡ true → goes_first x z ≡ true
unfolding goes_first
goes_first-trans x y z h g = grind (arith, nat_tests)

goes_first-phase : (x y : ℕ × ℕ × ℕ) → x.0 < y.0 → goes_first x y ≡ true
unfolding goes_first
goes_first-phase x y h = grind (arith, nat_tests)

goes_first-place : (phase code i j : ℕ) → i ≤ j → goes_first (phase, i, code) (phase, j, code) ≡ true
unfolding goes_first
goes_first-place phase code i j h = grind (arith, nat_tests)

-- the least of two sets is the earlier of their least ones
pub IsLeast-either : (A B : Finding → Type 0) (a b : Option Finding) → IsLeast A a → IsLeast B b → IsLeast (λ f. A f ⊎ B f) (earlier_of a b)
IsLeast-either A B None None p q = λ f h. elim h [ inl x ↦ p f x | inr y ↦ q f y ]
IsLeast-either A B None (Some y) p q = (inr q.0, λ f h. elim h [ inl x ↦ absurd (p f x) | inr z ↦ q.1 f z ])
IsLeast-either A B (Some x) None p q = (inl p.0, λ f h. elim h [ inl z ↦ p.1 f z | inr y ↦ absurd (q f y) ])
IsLeast-either A B (Some x) (Some y) p q = by (precedes x y) refl
  where
    by : (t : Bool) → precedes x y ≡ t → IsLeast (λ f. A f ⊎ B f) (if t then Some x else Some y)
    by true e = (inl p.0, λ f h. elim h [ inl z ↦ p.1 f z | inr z ↦ goes_first-trans _ _ _ e (q.1 f z) ])
    by false e = (inr q.0, λ f h. elim h [ inl z ↦ goes_first-trans _ _ _ (goes_first-total _ _ e) (p.1 f z) | inr z ↦ q.1 f z ])

-- nothing of a later phase comes before a finding
pub IsLeast-phase : (A B : Finding → Type 0) (x : Finding) → IsLeast A (Some x) → ((f : Finding) → B f → phase_of x.rule < phase_of f.rule) → IsLeast (λ f. A f ⊎ B f) (Some x)
IsLeast-phase A B x p later = (inl p.0, λ f h. elim h [ inl z ↦ p.1 f z | inr z ↦ goes_first-phase _ _ (later f z) ])

-- where a first set is empty the least is that of the second
pub IsLeast-later : (A B : Finding → Type 0) (b : Option Finding) → IsLeast A None → IsLeast B b → IsLeast (λ f. A f ⊎ B f) b
IsLeast-later A B b p q = IsLeast-either A B None b p q

-- sets with the same findings have the same least one
pub IsLeast-same : (A B : Finding → Type 0) (o : Option Finding) → ((f : Finding) → A f ↔ B f) → IsLeast A o → IsLeast B o
IsLeast-same A B None s p = λ f b. p f ((s f).1 b)
IsLeast-same A B (Some x) s p = ((s x).0 p.0, λ f b. p.1 f ((s f).1 b))

-- the least finding of one rule is that of the first declaration that breaks it
pub IsLeast-rule : (rule : Rule) (P : ℕ → Type 0) (o : Option ℕ) → IsFirst P o → IsLeast (OfRule rule P) (finding_of rule o)
IsLeast-rule rule P None h = λ f p. h f.declaration p.1
IsLeast-rule rule P (Some i) h = ((refl, h.0), λ f p. subst (λ s. IsTrue (goes_first (phase_of rule, i, code_of rule) (phase_of s, f.declaration, code_of s))) (sym p.0) (goes_first-place _ _ _ _ (h.1 f.declaration p.1)))

-- a search by numbers
pub IsFirst-none : (P : ℕ → Type 0) (n : ℕ) → ((j : ℕ) → j < n → P j → ⊥) → ((j : ℕ) → P j → j < n) → IsFirst P None
IsFirst-none P n none within = λ j p. none j (within j p) p

pub IsFirst-here : (P : ℕ → Type 0) (i : ℕ) → ((j : ℕ) → j < i → P j → ⊥) → P i → IsFirst P (Some i)
IsFirst-here P i none p = (p, λ j q. by j q)
  where
    by : (j : ℕ) → P j → i ≤ j
    by j q = elim (cases_lt j i) [ inl lt ↦ absurd (none j lt q) | inr le ↦ le ]
