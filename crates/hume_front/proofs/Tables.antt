-- The tables of rules have just the rules of the phases.
use Rattle.std.proofs.Common.{◌≡◌, ℕ, inl, inr, refl, sym, subst}
use Rattle.hume_base.specs.declared.finding.Finding.{Finding}
use Rattle.hume_base.specs.declared.rule.Rule.{Rule}
use Rattle.hume_base.specs.declared.rule.Rule.TheVariants.{C30, C31, C32, C33, C40, C41, C42, C43, C44, C45, C50, C51, C52, C53, C54, C60, C61, C72, C73, C74, C75, C76, C78, C79}
use Rattle.hume_model.specs.declared.core_tree.Core.{Core}
use Rattle.check_names.specs.Misnamed as names
use Rattle.check_names.specs.Misnamed.{BreaksNames}
use Rattle.check_rules.specs.Declared.{Decls}
use Rattle.check_rules.specs.CheckRules as rules
use Rattle.check_rules.specs.CheckRules.{BreaksCounts, BreaksTypes, BreaksLimits, BreaksCheck}
use Rattle.hume_front.specs.Broken.{Broken, BrokenCore}
use Rattle.hume_front.specs.inner.Checked as inner
use Rattle.hume_front.specs.inner.Checked.{BreaksCore}

module _ (decls : Decls) where
  -- a finding of the rule is one of the table
  at_rule : (f : Finding) (rule : Rule) → f.rule ≡ rule → Broken decls rule f.declaration → Broken decls f.rule f.declaration
  at_rule f rule is holds = subst (λ r. Broken decls r f.declaration) (sym is) holds

  of_names : (f : Finding) → BreaksNames decls f → Broken decls f.rule f.declaration
  of_names _ (names.repeats f x) = at_rule f C30 x.0 x.1
  of_names _ (names.unknown f x) = at_rule f C31 x.0 x.1
  of_names _ (names.calls_itself f x) = at_rule f C32 x.0 x.1
  of_names _ (names.holds_itself f x) = at_rule f C33 x.0 x.1

  of_counts : (f : Finding) → BreaksCounts decls f → Broken decls f.rule f.declaration
  of_counts f (rules.miscounts x) = at_rule f C42 x.0 x.1
  of_counts f (rules.binds_twice x) = at_rule f C43 x.0 x.1
  of_counts f (rules.stray_star x) = at_rule f C44 x.0 x.1

  of_types : (f : Finding) → BreaksTypes decls f → Broken decls f.rule f.declaration
  of_types f (rules.untyped x) = at_rule f C40 x.0 x.1
  of_types f (rules.out_of_range x) = at_rule f C41 x.0 x.1
  of_types f (rules.no_initial x) = at_rule f C45 x.0 x.1

  of_limits : (f : Finding) → BreaksLimits decls f → Broken decls f.rule f.declaration
  of_limits f (rules.passes_limits x) = at_rule f C72 x.0 x.1
  of_limits f (rules.large_type x) = at_rule f C73 x.0 x.1
  of_limits f (rules.passes_words x) = at_rule f C74 x.0 x.1

  pub in_table : (f : Finding) → BreaksCheck decls f → Broken decls f.rule f.declaration
  in_table f (rules.names x) = of_names f x
  in_table f (rules.counts x) = of_counts f x
  in_table f (rules.types x) = of_types f x
  in_table f (rules.limits x) = of_limits f x

  rule_of : (rule : Rule) (number : ℕ) → Broken decls rule number → BreaksCheck decls (record { rule = rule; declaration = number })
  rule_of C30 number x = rules.names (names.repeats _ (refl, x))
  rule_of C31 number x = rules.names (names.unknown _ (refl, x))
  rule_of C32 number x = rules.names (names.calls_itself _ (refl, x))
  rule_of C33 number x = rules.names (names.holds_itself _ (refl, x))
  rule_of C40 number x = rules.types (rules.untyped (refl, x))
  rule_of C41 number x = rules.types (rules.out_of_range (refl, x))
  rule_of C42 number x = rules.counts (rules.miscounts (refl, x))
  rule_of C43 number x = rules.counts (rules.binds_twice (refl, x))
  rule_of C44 number x = rules.counts (rules.stray_star (refl, x))
  rule_of C45 number x = rules.types (rules.no_initial (refl, x))
  rule_of C72 number x = rules.limits (rules.passes_limits (refl, x))
  rule_of C73 number x = rules.limits (rules.large_type (refl, x))
  rule_of C74 number x = rules.limits (rules.passes_words (refl, x))
  rule_of _ number x = absurd x

  pub from_table : (f : Finding) → Broken decls f.rule f.declaration → BreaksCheck decls f
  from_table f x = rule_of f.rule f.declaration x

module _ (core : Core) where
  core_rule : (f : Finding) (rule : Rule) → f.rule ≡ rule → BrokenCore core rule f.declaration → BrokenCore core f.rule f.declaration
  core_rule f rule is holds = subst (λ r. BrokenCore core r f.declaration) (sym is) holds

  pub in_core_table : (f : Finding) → BreaksCore core f → BrokenCore core f.rule f.declaration
  in_core_table f (inner.wires h) = elim h [
    | inl x ↦ core_rule f C50 x.0 x.1
    | inr h ↦ elim h [
      | inl x ↦ core_rule f C51 x.0 x.1
      | inr h ↦ elim h [
        | inl x ↦ core_rule f C52 x.0 x.1
        | inr h ↦ elim h [ inl x ↦ core_rule f C53 x.0 x.1 | inr x ↦ core_rule f C54 x.0 x.1 ]
      ]
    ]
  ]
  in_core_table f (inner.handlers h) = elim h [ inl x ↦ core_rule f C60 x.0 x.1 | inr x ↦ core_rule f C61 x.0 x.1 ]
  in_core_table f (inner.costs h) = elim h [
    | inl x ↦ core_rule f C75 x.0 x.1
    | inr h ↦ elim h [
      | inl x ↦ core_rule f C76 x.0 x.1
      | inr h ↦ elim h [ inl x ↦ core_rule f C78 x.0 x.1 | inr x ↦ core_rule f C79 x.0 x.1 ]
    ]
  ]

  rule_of_core : (rule : Rule) (number : ℕ) → BrokenCore core rule number → BreaksCore core (record { rule = rule; declaration = number })
  rule_of_core C50 number x = inner.wires (inl (refl, x))
  rule_of_core C51 number x = inner.wires (inr (inl (refl, x)))
  rule_of_core C52 number x = inner.wires (inr (inr (inl (refl, x))))
  rule_of_core C53 number x = inner.wires (inr (inr (inr (inl (refl, x)))))
  rule_of_core C54 number x = inner.wires (inr (inr (inr (inr (refl, x)))))
  rule_of_core C60 number x = inner.handlers (inl (refl, x))
  rule_of_core C61 number x = inner.handlers (inr (refl, x))
  rule_of_core C75 number x = inner.costs (inl (refl, x))
  rule_of_core C76 number x = inner.costs (inr (inl (refl, x)))
  rule_of_core C78 number x = inner.costs (inr (inr (inl (refl, x))))
  rule_of_core C79 number x = inner.costs (inr (inr (inr (refl, x))))
  rule_of_core _ number x = absurd x

  pub from_core_table : (f : Finding) → BrokenCore core f.rule f.declaration → BreaksCore core f
  from_core_table f x = rule_of_core f.rule f.declaration x
