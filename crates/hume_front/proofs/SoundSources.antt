-- Each source is sound or isn't.
use Rattle.std.proofs.Common.{◌≡◌, ℕ, ◌<◌, ◌≤◌, ◌⊎◌, inl, inr, true, false, List, [], length, Some, None, refl, sym, ap, ◌∙◌, subst, arith}
use Rattle.std.proofs.lemmas.Bool.{cases_lt}
use Rattle.std.proofs.lemmas.Bool.Decides.{nat_tests}
use Rattle.hume_base.specs.declared.finding.Finding.{Finding}
use Rattle.hume_base.specs.declared.rule.Refusal.{Refusal}
use Rattle.hume_base.specs.Least.{IsLeast, goes_first, precedes}
use Rattle.hume_base.specs.Rules.{code_of, phase_of}
use Rattle.hume_ast.specs.declared.tree.Program.{Program}
use Rattle.hume_model.specs.declared.core_tree.Core.{Core}
use Rattle.check_rules.specs.CoreOf.{IsCoreOf}
use Rattle.check_rules.specs.CheckRules.{BreaksCheck}
use Rattle.wiring_check.proofs.TheWires.{are_wired}
use Rattle.wiring_check.proofs.SomeWiring.{some_wiring}
use Rattle.hume_check.proofs.Phases.{check_phase}
use Rattle.hume_check.specs.Refused.{IsRefusedFor, refusal_of}
use Rattle.hume_front.specs.declared.acceptance.Accepted.{Accepted}
use Rattle.hume_front.specs.declared.acceptance.Sound.{Sound}
use Rattle.hume_front.specs.Accepted.{IsProgramOf, IsAccepted, IsSound, Breaks, BreaksSoundness, too_long, bad_token, no_program, in_program, bounds_phase}
use Rattle.hume_front.specs.Broken.{BreaksProgram, by_core}
use Rattle.hume_front.specs.inner.Checked as front
use Rattle.hume_front.specs.inner.Checked.{BreaksCore}
use Rattle.hume_front.proofs.Accepting.{early_lexer, early_parser}
use Rattle.hume_front.proofs.CoreRules.{wires_phase, handlers_phase, costs_phase}
use Rattle.hume_front.proofs.OneProgram.{one_program}
use Rattle.hume_front.proofs.OneRefusal.{unbroken, apart}
use Rattle.hume_front.proofs.ProgramRules.{from_program}
use Rattle.hume_front.proofs.Reported.{rule_of_lexer, rule_of_parser, reported_by_lexer, reported_by_parser}
use Rattle.hume_front.proofs.SomeAnswer.{some_answer}
use Rattle.hume_front.proofs.Tables.{in_core_table}

module _ (text : List ℕ) where
  -- never both
  in_one_program : (sound : Sound) (f : Finding) (refusal : Refusal) → IsSound text sound → BreaksProgram text sound.program f → refusal.rule ≡ f.rule
      → phase_of refusal.rule < bounds_phase → ⊥
  in_one_program sound f refusal s breaks is early = let both = ap phase_of is ∙ s.fine f breaks in omega (arith, both, early)

  sound_unbroken : (sound : Sound) (refusal : Refusal) → IsSound text sound → Breaks text refusal → phase_of refusal.rule < bounds_phase → ⊥
  sound_unbroken sound _ s (too_long long) early = omega (arith, long, s.program.short)
  sound_unbroken sound _ s (bad_token short c p bad) early = unbroken text s.program.tokens c p s.program.read bad
  sound_unbroken sound _ s (no_program short tokens read c p wrong) early = apart text tokens c p sound.program read wrong s.program
  sound_unbroken sound refusal s (in_program p is f refused) early =
      let same = one_program text p sound.program is s.program in
      let here = subst (λ (program : Program). IsRefusedFor (BreaksProgram text program) text program.decls f) same refused in
      in_one_program sound here.finding f s here.least.0 (ap (λ (r : Refusal). r.rule) here.is) early

  pub not_both : (sound : Sound) (refusal : Refusal) → IsSound text sound → BreaksSoundness text refusal → ⊥
  not_both sound refusal s b = sound_unbroken sound refusal s b.breaks b.early

  -- one of both

  abbrev Answered : Type 0
  Answered = ((sound : Sound) × IsSound text sound) ⊎ ((refusal : Refusal) × BreaksSoundness text refusal)

  of_accepted : (a : Accepted) → IsAccepted text a → Answered
  of_accepted a p = inl (
    record { program = a.program; core = a.core; wiring = a.wiring; raised = [] },
    record { program = p.program; fine = λ f b. absurd (p.fine f b); core = p.core; wiring = p.wiring },
  )

  -- a program whose first broken rule is on what boxes may take
  module _ (program : Program) (is : IsProgramOf text program) (x : Finding) (least : IsLeast (BreaksProgram text program) (Some x))
      (late : bounds_phase ≤ phase_of x.rule) where
    goes_on : (p q d e c k : ℕ) → goes_first (p, d, c) (q, e, k) ≡ true → p ≤ q
    unfolding goes_first
    goes_on p q d e c k h = grind (arith, nat_tests)

    not_before : (f : Finding) → BreaksProgram text program f → bounds_phase ≤ phase_of f.rule
    not_before f b =
        let on = goes_on (phase_of x.rule) (phase_of f.rule) x.declaration f.declaration (code_of x.rule) (code_of f.rule) (least.1 f b) in
        omega (arith, on, late)

    no_check : (f : Finding) → BreaksProgram text program f → BreaksCheck program.decls f → ⊥
    no_check f b c = let there = not_before f b in let early = check_phase program.decls f c in omega (arith, there, early)

    of_bounds : (core : Core) (f : Finding) → bounds_phase ≤ phase_of f.rule → BreaksCore core f → phase_of f.rule ≡ bounds_phase
    of_bounds core f there (front.wires b) = let is = wires_phase core f b in absurd (omega (arith, there, is))
    of_bounds core f there (front.handlers b) = let is = handlers_phase core f b in absurd (omega (arith, there, is))
    of_bounds core f there (front.costs b) = costs_phase core f b

    fine : (f : Finding) → BreaksProgram text program f → phase_of f.rule ≡ bounds_phase
    fine f b = elim (from_program text program f b) [
      | inl c ↦ absurd (no_check f b c)
      | inr c ↦ of_bounds c.0 f (not_before f b) c.2
    ]

    sound_with : (core : Core) → IsCoreOf text program core → Answered
    sound_with core stands =
        let wiring = some_wiring core (are_wired core (λ f b.
        let late = fine f (by_core core stands (in_core_table core f (front.wires b))) in
        let early = wires_phase core f b in omega (arith, late, early))) in
        inl (
          record { program = program; core = core; wiring = wiring.0; raised = [] },
          record { program = is; fine = fine; core = stands; wiring = wiring.1 },
        )

    of_late : Answered
    of_late = elim (from_program text program x least.0) [
      | inl c ↦ absurd (no_check x least.0 c)
      | inr c ↦ sound_with c.0 c.1
    ]

  of_refused : (refusal : Refusal) → Breaks text refusal → Answered
  of_refused _ (too_long long) = inr (_, record { breaks = too_long long; early = omega arith })
  of_refused _ (bad_token short rule place bad) =
      let e = reported_by_lexer text rule place bad in
      inr (_, record { breaks = bad_token short rule place bad; early = subst (λ r. phase_of r < bounds_phase) e.2 (early_lexer e.0) })
  of_refused _ (no_program short tokens read rule place wrong) =
      let e = reported_by_parser tokens (length text) rule place wrong in
      inr (_, record { breaks = no_program short tokens read rule place wrong; early = subst (λ r. phase_of r < bounds_phase) e.2 (early_parser e.0) })
  of_refused refusal (in_program program is f refused) = elim (cases_lt (phase_of refusal.rule) bounds_phase) [
    | inl early ↦ inr (refusal, record { breaks = in_program program is f refused; early = early })
    | inr late ↦
        let same : phase_of f.rule ≡ phase_of refused.finding.rule = ap (λ (r : Refusal). phase_of r.rule) refused.is in
        of_late program is refused.finding refused.least (omega (arith, late, same))
  ]

  pub sound_or_not : Answered
  sound_or_not = elim (some_answer text) [ inl a ↦ of_accepted a.0 a.1 | inr r ↦ of_refused r.0 r.1 ]
