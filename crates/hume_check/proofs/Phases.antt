-- The least rule of each phase, and of all phases.
use Rattle.std.proofs.Common.{◌≡◌, ℕ, ◌<◌, ◌⊎◌, inl, inr, Option, Some, None, ap, arith}
use Rattle.hume_base.specs.declared.rule.Rule.TheVariants.{C42, C43, C44, C45, C72, C73, C74}
use Rattle.hume_base.specs.declared.finding.Finding.{Finding}
use Rattle.hume_base.specs.Rules.{phase_of}
use Rattle.hume_base.specs.Least.{IsLeast, IsFirst, OfRule, finding_of, earlier_of}
use Rattle.hume_base.proofs.Least.{IsLeast-rule, IsLeast-either, IsLeast-same, IsLeast-phase, IsLeast-later}
use Rattle.check_names.specs.Misnamed.{BreaksNames, repeats, unknown, calls_itself, holds_itself}
use Rattle.check_names.specs.Twice.{BindsTwice}
use Rattle.check_counts.specs.CountRules.{Miscounts, HasStrayStar}
use Rattle.check_counts.specs.Limits.{PassesLimits}
use Rattle.check_rules.specs.Declared.{Decls}
use Rattle.check_rules.specs.TypeRules.{HasNoInitial}
use Rattle.check_rules.specs.SizeRules.{HasLargeType, PassesWords}
use Rattle.check_rules.specs.CheckRules as rules
use Rattle.check_rules.specs.CheckRules.{BreaksCounts, BreaksTypes, BreaksLimits, BreaksCheck}
use Rattle.check_declarations.specs.Mistyped.{IsMistyped}
use Rattle.check_declarations.specs.Mistyped as mistyped

module _ (decls : Decls) where
  names_phase : (f : Finding) → BreaksNames decls f → phase_of f.rule ≡ 4
  names_phase _ (repeats f x) = ap phase_of x.0
  names_phase _ (unknown f x) = ap phase_of x.0
  names_phase _ (calls_itself f x) = ap phase_of x.0
  names_phase _ (holds_itself f x) = ap phase_of x.0

  counts_phase : (f : Finding) → BreaksCounts decls f → phase_of f.rule ≡ 5
  counts_phase f (rules.miscounts x) = ap phase_of x.0
  counts_phase f (rules.binds_twice x) = ap phase_of x.0
  counts_phase f (rules.stray_star x) = ap phase_of x.0

  types_phase : (f : Finding) → BreaksTypes decls f → phase_of f.rule ≡ 6
  types_phase f (rules.untyped x) = ap phase_of x.0
  types_phase f (rules.out_of_range x) = ap phase_of x.0
  types_phase f (rules.no_initial x) = ap phase_of x.0

  limits_phase : (f : Finding) → BreaksLimits decls f → phase_of f.rule ≡ 7
  limits_phase f (rules.passes_limits x) = ap phase_of x.0
  limits_phase f (rules.large_type x) = ap phase_of x.0
  limits_phase f (rules.passes_words x) = ap phase_of x.0

  -- the rules on counts: the earliest of the first of each
  abbrev Counts : Finding → Type 0
  Counts f = OfRule C42 (Miscounts decls) f ⊎ (OfRule C43 (BindsTwice decls) f ⊎ OfRule C44 (HasStrayStar decls) f)

  to_counts : (f : Finding) → Counts f → BreaksCounts decls f
  to_counts f p = elim p [
    | inl x ↦ rules.miscounts x
    | inr q ↦ elim q [ inl x ↦ rules.binds_twice x | inr x ↦ rules.stray_star x ]
  ]

  from_counts : (f : Finding) → BreaksCounts decls f → Counts f
  from_counts f (rules.miscounts x) = inl x
  from_counts f (rules.binds_twice x) = inr (inl x)
  from_counts f (rules.stray_star x) = inr (inr x)

  pub least_count : (a b c : Option ℕ) → IsFirst (Miscounts decls) a → IsFirst (BindsTwice decls) b → IsFirst (HasStrayStar decls) c
      → IsLeast (BreaksCounts decls) (earlier_of (finding_of C42 a) (earlier_of (finding_of C43 b) (finding_of C44 c)))
  least_count a b c p q r =
      IsLeast-same Counts (BreaksCounts decls) _ (λ f. (to_counts f, from_counts f))
      (IsLeast-either (OfRule C42 (Miscounts decls)) (λ f. OfRule C43 (BindsTwice decls) f ⊎ OfRule C44 (HasStrayStar decls) f) _ _
      (IsLeast-rule C42 (Miscounts decls) a p)
      (IsLeast-either (OfRule C43 (BindsTwice decls)) (OfRule C44 (HasStrayStar decls)) _ _
      (IsLeast-rule C43 (BindsTwice decls) b q) (IsLeast-rule C44 (HasStrayStar decls) c r)))

  -- the rules on types
  abbrev Types : Finding → Type 0
  Types f = IsMistyped decls f ⊎ OfRule C45 (HasNoInitial decls) f

  of_mistyped : (f : Finding) → IsMistyped decls f → BreaksTypes decls f
  of_mistyped f (mistyped.untyped x) = rules.untyped x
  of_mistyped f (mistyped.out_of_range x) = rules.out_of_range x

  to_types : (f : Finding) → Types f → BreaksTypes decls f
  to_types f p = elim p [ inl x ↦ of_mistyped f x | inr x ↦ rules.no_initial x ]

  from_types : (f : Finding) → BreaksTypes decls f → Types f
  from_types f (rules.untyped x) = inl (mistyped.untyped x)
  from_types f (rules.out_of_range x) = inl (mistyped.out_of_range x)
  from_types f (rules.no_initial x) = inr x

  pub least_type : (a b : Option Finding) → IsLeast (IsMistyped decls) a → IsLeast (OfRule C45 (HasNoInitial decls)) b
      → IsLeast (BreaksTypes decls) (earlier_of a b)
  least_type a b p q =
      IsLeast-same Types (BreaksTypes decls) _ (λ f. (to_types f, from_types f))
      (IsLeast-either (IsMistyped decls) (OfRule C45 (HasNoInitial decls)) _ _ p q)

  -- the rules on limits
  abbrev Sizes : Finding → Type 0
  Sizes f = OfRule C73 (HasLargeType decls) f ⊎ OfRule C74 (PassesWords decls) f

  abbrev Limits : Finding → Type 0
  Limits f = OfRule C72 (PassesLimits decls) f ⊎ Sizes f

  to_limits : (f : Finding) → Limits f → BreaksLimits decls f
  to_limits f p = elim p [
    | inl x ↦ rules.passes_limits x
    | inr q ↦ elim q [ inl x ↦ rules.large_type x | inr x ↦ rules.passes_words x ]
  ]

  from_limits : (f : Finding) → BreaksLimits decls f → Limits f
  from_limits f (rules.passes_limits x) = inl x
  from_limits f (rules.large_type x) = inr (inl x)
  from_limits f (rules.passes_words x) = inr (inr x)

  pub least_limit : (a : Option ℕ) (b c : Option Finding) → IsFirst (PassesLimits decls) a
      → IsLeast (OfRule C73 (HasLargeType decls)) b → IsLeast (OfRule C74 (PassesWords decls)) c
      → IsLeast (BreaksLimits decls) (earlier_of (finding_of C72 a) (earlier_of b c))
  least_limit a b c p q r =
      IsLeast-same Limits (BreaksLimits decls) _ (λ f. (to_limits f, from_limits f))
      (IsLeast-either (OfRule C72 (PassesLimits decls)) Sizes _ _ (IsLeast-rule C72 (PassesLimits decls) a p)
      (IsLeast-either (OfRule C73 (HasLargeType decls)) (OfRule C74 (PassesWords decls)) _ _ q r))

  -- two phases in one
  abbrev pub Early : Finding → Type 0
  Early f = BreaksNames decls f ⊎ BreaksCounts decls f

  abbrev pub Late : Finding → Type 0
  Late f = BreaksTypes decls f ⊎ BreaksLimits decls f

  by_phases : (m n p q : ℕ) → p ≡ m → q ≡ n → m < n → p < q
  by_phases m n p q a b h = omega arith

  pub least_early : (x : Finding) → IsLeast (BreaksNames decls) (Some x) → IsLeast Early (Some x)
  least_early x p = IsLeast-phase (BreaksNames decls) (BreaksCounts decls) x p
      (λ f b. by_phases 4 5 (phase_of x.rule) (phase_of f.rule) (names_phase x p.0) (counts_phase f b) (omega arith))

  pub least_early_later : (o : Option Finding) → IsLeast (BreaksNames decls) None → IsLeast (BreaksCounts decls) o → IsLeast Early o
  least_early_later o p q = IsLeast-later (BreaksNames decls) (BreaksCounts decls) o p q

  pub least_late : (x : Finding) → IsLeast (BreaksTypes decls) (Some x) → IsLeast Late (Some x)
  least_late x p = IsLeast-phase (BreaksTypes decls) (BreaksLimits decls) x p
      (λ f b. by_phases 6 7 (phase_of x.rule) (phase_of f.rule) (types_phase x p.0) (limits_phase f b) (omega arith))

  pub least_late_later : (o : Option Finding) → IsLeast (BreaksTypes decls) None → IsLeast (BreaksLimits decls) o → IsLeast Late o
  least_late_later o p q = IsLeast-later (BreaksTypes decls) (BreaksLimits decls) o p q

  -- all phases
  to_check : (f : Finding) → Early f ⊎ Late f → BreaksCheck decls f
  to_check f p = elim p [
    | inl e ↦ elim e [ inl x ↦ rules.names x | inr x ↦ rules.counts x ]
    | inr l ↦ elim l [ inl x ↦ rules.types x | inr x ↦ rules.limits x ]
  ]

  from_check : (f : Finding) → BreaksCheck decls f → Early f ⊎ Late f
  from_check f (rules.names x) = inl (inl x)
  from_check f (rules.counts x) = inl (inr x)
  from_check f (rules.types x) = inr (inl x)
  from_check f (rules.limits x) = inr (inr x)

  early_phase : (f : Finding) → Early f → phase_of f.rule < 6
  early_phase f p = elim p [ inl x ↦ below (phase_of f.rule) 4 (names_phase f x) (omega arith) | inr x ↦ below (phase_of f.rule) 5 (counts_phase f x) (omega arith) ]
    where
      below : (p m : ℕ) → p ≡ m → m < 6 → p < 6
      below p m e h = omega arith

  late_phase : (f : Finding) → Late f → 5 < phase_of f.rule
  late_phase f p = elim p [ inl x ↦ above (phase_of f.rule) 6 (types_phase f x) (omega arith) | inr x ↦ above (phase_of f.rule) 7 (limits_phase f x) (omega arith) ]
    where
      above : (p m : ℕ) → p ≡ m → 5 < m → 5 < p
      above p m e h = omega arith

  pub least_in_early : (x : Finding) → IsLeast Early (Some x) → IsLeast (BreaksCheck decls) (Some x)
  least_in_early x p = IsLeast-same (λ f. Early f ⊎ Late f) (BreaksCheck decls) (Some x) (λ f. (to_check f, from_check f))
      (IsLeast-phase Early Late x p (λ f b. between (phase_of x.rule) (phase_of f.rule) (early_phase x p.0) (late_phase f b)))
    where
      between : (p q : ℕ) → p < 6 → 5 < q → p < q
      between p q a b = omega arith

  pub least_in_late : (o : Option Finding) → IsLeast Early None → IsLeast Late o → IsLeast (BreaksCheck decls) o
  least_in_late o p q = IsLeast-same (λ f. Early f ⊎ Late f) (BreaksCheck decls) o (λ f. (to_check f, from_check f))
      (IsLeast-later Early Late o p q)

  -- each of these rules is of a phase before those that are asked of a core
  pub check_phase : (f : Finding) → BreaksCheck decls f → phase_of f.rule < 8
  check_phase f (rules.names x) = below (phase_of f.rule) 4 (names_phase f x) (omega arith)
    where
      below : (p m : ℕ) → p ≡ m → m < 8 → p < 8
      below p m e h = omega arith
  check_phase f (rules.counts x) = below (phase_of f.rule) 5 (counts_phase f x) (omega arith)
    where
      below : (p m : ℕ) → p ≡ m → m < 8 → p < 8
      below p m e h = omega arith
  check_phase f (rules.types x) = below (phase_of f.rule) 6 (types_phase f x) (omega arith)
    where
      below : (p m : ℕ) → p ≡ m → m < 8 → p < 8
      below p m e h = omega arith
  check_phase f (rules.limits x) = below (phase_of f.rule) 7 (limits_phase f x) (omega arith)
    where
      below : (p m : ℕ) → p ≡ m → m < 8 → p < 8
      below p m e h = omega arith

  pub no_early_names : IsLeast Early None → (f : Finding) → BreaksNames decls f → ⊥
  no_early_names p f x = p f (inl x)

  pub no_early_counts : IsLeast Early None → (f : Finding) → BreaksCounts decls f → ⊥
  no_early_counts p f x = p f (inr x)
