-- The least rule that a program breaks: the rules on the program come before those on its core.
use Rattle.std.proofs.Common.{◌≡◌, ℕ, ◌<◌, ◌⊎◌, inl, inr, List, Option, Some, None, subst, arith}
use Rattle.hume_base.specs.declared.finding.Finding.{Finding}
use Rattle.hume_base.specs.declared.rule.Refusal.{Refusal}
use Rattle.hume_base.specs.Rules.{phase_of}
use Rattle.hume_base.specs.Least.{IsLeast}
use Rattle.hume_base.proofs.Least.{IsLeast-same, IsLeast-phase, IsLeast-later}
use Rattle.hume_ast.specs.declared.tree.Program.{Program}
use Rattle.hume_ast.specs.Fits.{IsFit}
use Rattle.hume_model.specs.declared.core_tree.Core.{Core}
use Rattle.hume_model.specs.Declarations.{IsRefusal}
use Rattle.check_rules.specs.CheckRules.{BreaksCheck}
use Rattle.check_rules.specs.CoreOf.{IsCoreOf}
use Rattle.check_rules.proofs.CoresOnce.{the_core}
use Rattle.hume_check.proofs.fine_lemmas.LeastRules.{least_broken}
use Rattle.hume_check.proofs.fine_lemmas.Cores.{some_core}
use Rattle.hume_check.specs.Refused.{IsRefusedFor}
use Rattle.hume_check.proofs.Phases.{check_phase}
use Rattle.hume_front.specs.Broken.{BreaksProgram, itself, by_core}
use Rattle.hume_front.specs.inner.Checked as front
use Rattle.hume_front.specs.inner.Checked.{BreaksCore}
use Rattle.hume_front.proofs.CoreRules.{wires_phase, handlers_phase, costs_phase, least_of_core}
use Rattle.hume_front.proofs.Lines.{line_is}
use Rattle.hume_front.proofs.Tables.{in_table, from_table, in_core_table, from_core_table}

above : (p m : ℕ) → p ≡ m → 7 < m → 7 < p
above p m e h = omega (arith, e, h)

core_phase : (core : Core) (f : Finding) → BreaksCore core f → 7 < phase_of f.rule
core_phase core f (front.wires x) = above (phase_of f.rule) 8 (wires_phase core f x) (omega arith)
core_phase core f (front.handlers x) = above (phase_of f.rule) 9 (handlers_phase core f x) (omega arith)
core_phase core f (front.costs x) = above (phase_of f.rule) 10 (costs_phase core f x) (omega arith)

module _ (text : List ℕ) (program : Program) where
  abbrev InCore : Finding → Type 0
  InCore f = (core : Core) × IsCoreOf text program core × BreaksCore core f

  to_program : (f : Finding) → BreaksCheck program.decls f ⊎ InCore f → BreaksProgram text program f
  to_program f h = elim h [ inl x ↦ itself (in_table program.decls f x) | inr x ↦ by_core x.0 x.1 (in_core_table x.0 f x.2) ]

  pub from_program : (f : Finding) → BreaksProgram text program f → BreaksCheck program.decls f ⊎ InCore f
  from_program f (itself x) = inl (from_table program.decls f x)
  from_program f (by_core c is x) = inr (c, is, from_core_table c f x)

  between : (p q : ℕ) → p < 8 → 7 < q → p < q
  between p q a b = omega arith

  least_check : (x : Finding) → IsLeast (BreaksCheck program.decls) (Some x) → IsLeast (BreaksProgram text program) (Some x)
  least_check x p = IsLeast-same (λ f. BreaksCheck program.decls f ⊎ InCore f) (BreaksProgram text program) (Some x) (λ f. (to_program f, from_program f))
      (IsLeast-phase (BreaksCheck program.decls) InCore x p
      (λ f b. between (phase_of x.rule) (phase_of f.rule) (check_phase program.decls x p.0) (core_phase b.0 f b.2)))

  pub refused_check : (r : Refusal) → IsRefusedFor (BreaksCheck program.decls) text program.decls r
      → IsRefusedFor (BreaksProgram text program) text program.decls r
  refused_check r h = record { finding = h.finding; least = least_check h.finding h.least; is = h.is }

  module _ (core : Core) (is : IsCoreOf text program core) (fine : IsLeast (BreaksCheck program.decls) None) where
    to_this : (f : Finding) → BreaksCore core f → InCore f
    to_this f x = (core, is, x)

    from_this : (f : Finding) → InCore f → BreaksCore core f
    from_this f x = subst (λ c. BreaksCore c f) (the_core text program x.0 core x.1 is) x.2

    pub least_core : (o : Option Finding) → IsLeast (BreaksCore core) o → IsLeast (BreaksProgram text program) o
    least_core o p = IsLeast-same (λ f. BreaksCheck program.decls f ⊎ InCore f) (BreaksProgram text program) o (λ f. (to_program f, from_program f))
        (IsLeast-later (BreaksCheck program.decls) InCore o fine
        (IsLeast-same (BreaksCore core) InCore o (λ f. (to_this f, from_this f)) p))

    pub refused_core : (r : Refusal) → IsRefusal core (BreaksCore core) r → IsRefusedFor (BreaksProgram text program) text program.decls r
    refused_core r h = record {
      finding = h.finding;
      least = least_core (Some h.finding) h.least;
      is = λ i. record { rule = h.rule i; line = line_is text program core is h.finding.declaration r.line h.line i };
    }

  -- the least rule that the program breaks, or else its core
  abbrev pub Checked : Type 0
  Checked = ((x : Finding) × IsLeast (BreaksProgram text program) (Some x))
      ⊎ ((core : Core) × IsCoreOf text program core × IsLeast (BreaksProgram text program) None)

  of_core : (core : Core) → IsCoreOf text program core → IsLeast (BreaksCheck program.decls) None → (o : Option Finding) → IsLeast (BreaksCore core) o → Checked
  of_core core is fine None p = inr (core, is, least_core core is fine None p)
  of_core core is fine (Some x) p = inl (x, least_core core is fine (Some x) p)

  of_check : IsFit program → (o : Option Finding) → IsLeast (BreaksCheck program.decls) o → Checked
  of_check fit (Some x) p = inl (x, least_check x p)
  of_check fit None fine = let c = some_core text program fit fine in let least = least_of_core c.0 in of_core c.0 c.1 fine least.0 least.1

  pub checked : IsFit program → Checked
  checked fit = let least = least_broken program fit in of_check fit least.0 least.1
