-- The least rule that a core breaks: the rules on wires come before those on exceptions, and these before those on costs.
use Rattle.std.proofs.Common.{◌≡◌, ℕ, ◌<◌, ◌⊎◌, inl, inr, Option, Some, None, ap, arith}
use Rattle.hume_base.specs.declared.finding.Finding.{Finding}
use Rattle.hume_base.specs.declared.rule.Refusal.{Refusal}
use Rattle.hume_base.specs.Rules.{phase_of}
use Rattle.hume_base.specs.Least.{IsLeast}
use Rattle.hume_base.proofs.Least.{IsLeast-same, IsLeast-phase, IsLeast-later}
use Rattle.hume_model.specs.declared.core_tree.Core.{Core}
use Rattle.hume_model.specs.Declarations.{IsRefusal}
use Rattle.hume_model.specs.WireRules.{BreaksWires}
use Rattle.hume_model.specs.HandlerRules.{BreaksHandlers}
use Rattle.box_costs.specs.CostRules.{BreaksCosts}
use Rattle.hume_check.proofs.fine_lemmas.Decided.{HasLeast, least_as, least_of_phases}
use Rattle.hume_front.specs.inner.Checked as front
use Rattle.hume_front.specs.inner.Checked.{BreaksCore}
use Rattle.hume_front.proofs.LeastCoreRules.{least_wire, least_handler, least_cost}

module _ (core : Core) where
  pub wires_phase : (f : Finding) → BreaksWires core f → phase_of f.rule ≡ 8
  wires_phase f h = elim h [
    | inl x ↦ ap phase_of x.0
    | inr h ↦ elim h [
      | inl x ↦ ap phase_of x.0
      | inr h ↦ elim h [
        | inl x ↦ ap phase_of x.0
        | inr h ↦ elim h [ inl x ↦ ap phase_of x.0 | inr x ↦ ap phase_of x.0 ]
      ]
    ]
  ]

  pub handlers_phase : (f : Finding) → BreaksHandlers core f → phase_of f.rule ≡ 9
  handlers_phase f h = elim h [ inl x ↦ ap phase_of x.0 | inr x ↦ ap phase_of x.0 ]

  pub costs_phase : (f : Finding) → BreaksCosts core f → phase_of f.rule ≡ 10
  costs_phase f h = elim h [
    | inl x ↦ ap phase_of x.0
    | inr h ↦ elim h [
      | inl x ↦ ap phase_of x.0
      | inr h ↦ elim h [ inl x ↦ ap phase_of x.0 | inr x ↦ ap phase_of x.0 ]
    ]
  ]

  -- what comes after the rules on wires
  abbrev Later : Finding → Type 0
  Later f = BreaksHandlers core f ⊎ BreaksCosts core f

  abbrev Broken : Finding → Type 0
  Broken f = BreaksWires core f ⊎ Later f

  to_core : (f : Finding) → Broken f → BreaksCore core f
  to_core f h = elim h [ inl x ↦ front.wires x | inr h ↦ elim h [ inl x ↦ front.handlers x | inr x ↦ front.costs x ] ]

  from_core : (f : Finding) → BreaksCore core f → Broken f
  from_core f (front.wires x) = inl x
  from_core f (front.handlers x) = inr (inl x)
  from_core f (front.costs x) = inr (inr x)

  as_core : (o : Option Finding) → IsLeast Broken o → IsLeast (BreaksCore core) o
  as_core o p = IsLeast-same Broken (BreaksCore core) o (λ f. (to_core f, from_core f)) p

  smaller : (a b m n : ℕ) → a ≡ m → b ≡ n → m < n → a < b
  smaller a b m n p q r = omega (arith, p, q, r)

  later_phase : (x f : Finding) → BreaksWires core x → Later f → phase_of x.rule < phase_of f.rule
  later_phase x f p h = elim h [
    | inl b ↦ smaller (phase_of x.rule) (phase_of f.rule) 8 9 (wires_phase x p) (handlers_phase f b) (omega arith)
    | inr b ↦ smaller (phase_of x.rule) (phase_of f.rule) 8 10 (wires_phase x p) (costs_phase f b) (omega arith)
  ]

  least_wires : (x : Finding) → IsLeast (BreaksWires core) (Some x) → IsLeast (BreaksCore core) (Some x)
  least_wires x p = as_core (Some x) (IsLeast-phase (BreaksWires core) Later x p (λ f b. later_phase x f p.0 b))

  least_handlers : (x : Finding) → IsLeast (BreaksWires core) None → IsLeast (BreaksHandlers core) (Some x) → IsLeast (BreaksCore core) (Some x)
  least_handlers x p q = as_core (Some x) (IsLeast-later (BreaksWires core) Later (Some x) p
      (IsLeast-phase (BreaksHandlers core) (BreaksCosts core) x q
      (λ f b. smaller (phase_of x.rule) (phase_of f.rule) 9 10 (handlers_phase x q.0) (costs_phase f b) (omega arith))))

  pub least_costs : (o : Option Finding) → IsLeast (BreaksWires core) None → IsLeast (BreaksHandlers core) None → IsLeast (BreaksCosts core) o → IsLeast (BreaksCore core) o
  least_costs o p q r = as_core o (IsLeast-later (BreaksWires core) Later o p (IsLeast-later (BreaksHandlers core) (BreaksCosts core) o q r))

  pub refused_wires : (r : Refusal) → IsRefusal core (BreaksWires core) r → IsRefusal core (BreaksCore core) r
  refused_wires r h = record { finding = h.finding; least = least_wires h.finding h.least; rule = h.rule; line = h.line }

  pub refused_handlers : (r : Refusal) → IsLeast (BreaksWires core) None → IsRefusal core (BreaksHandlers core) r → IsRefusal core (BreaksCore core) r
  refused_handlers r p h = record { finding = h.finding; least = least_handlers h.finding p h.least; rule = h.rule; line = h.line }

  pub refused_costs : (r : Refusal) → IsLeast (BreaksWires core) None → IsLeast (BreaksHandlers core) None → IsRefusal core (BreaksCosts core) r → IsRefusal core (BreaksCore core) r
  refused_costs r p q h = record { finding = h.finding; least = least_costs (Some h.finding) p q h.least; rule = h.rule; line = h.line }

  -- a core that breaks no rule breaks none of any phase
  pub fine_wires : IsLeast (BreaksCore core) None → IsLeast (BreaksWires core) None
  fine_wires p = λ f x. p f (front.wires x)

  pub fine_handlers : IsLeast (BreaksCore core) None → IsLeast (BreaksHandlers core) None
  fine_handlers p = λ f x. p f (front.handlers x)

  pub fine_costs : IsLeast (BreaksCore core) None → IsLeast (BreaksCosts core) None
  fine_costs p = λ f x. p f (front.costs x)

  -- there is a least rule that the core breaks, or it breaks none
  pub least_of_core : HasLeast (BreaksCore core)
  least_of_core = least_as to_core from_core (least_of_phases (least_wire core)
      (λ wired. least_of_phases (least_handler core) (λ handled. least_cost core)
      (λ x f p q. smaller (phase_of x.rule) (phase_of f.rule) 9 10 (handlers_phase x p) (costs_phase f q) (omega arith)))
      later_phase)
