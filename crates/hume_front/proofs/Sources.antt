-- What sources have that stand for a program, and the core of an accepted one.
use Rattle.std.proofs.Common.{◌≡◌, ℕ, ◌<◌, ◌^◌, List, length, Some, None, slice_get, inl, inr, ap, sym, ◌∙◌, subst, arith}
use Rattle.hume_base.specs.declared.finding.Finding.{Finding}
use Rattle.hume_base.specs.declared.rule.Rule.{Rule}
use Rattle.hume_base.specs.Least.{IsLeast}
use Rattle.hume_base.specs.Rules.{phase_of}
use Rattle.hume_ast.specs.declared.tree.Program.{Program}
use Rattle.hume_ast.specs.Fits.{Each}
use Rattle.hume_model.specs.declared.core_tree.BoxC.{BoxC}
use Rattle.hume_model.specs.declared.core_tree.NodeC.TheVariants.{Rules}
use Rattle.hume_model.specs.declared.core_tree.Core.{Core}
use Rattle.hume_model.specs.Handling.{HandlesAll}
use Rattle.hume_model.specs.WellFormed.{IsWellFormed}
use Rattle.hume_model.specs.Wiring.{IsWired, WiresAgree}
use Rattle.box_costs.specs.CostRules.{BreaksCosts}
use Rattle.check_rules.specs.CheckRules.{BreaksCheck}
use Rattle.check_rules.specs.CoreOf.{IsCoreOf}
use Rattle.check_rules.specs.OfTokens.{IsOfTokens}
use Rattle.check_rules.proofs.CoresOnce.{the_core}
use Rattle.check_rules.proofs.WellFormed.{well_formed}
use Rattle.hume_front.proofs.programs_lemmas.SmallKinds.{IsSmall, kinds_small}
use Rattle.hume_front.proofs.programs_lemmas.Names.{all_names}
use Rattle.hume_front.proofs.programs_lemmas.Lengths.{all_few, short, tokens_bound}
use Rattle.wiring_check.proofs.TheWires.{are_wired, wires_agree}
use Rattle.hume_exceptions.proofs.Handles.{handles_all}
use Rattle.hume_front.specs.Accepted as front
use Rattle.hume_front.specs.Accepted.{IsProgramOf, IsAccepted, IsSound, IsUnaccepted, IsUnsound, bounds_phase}
use Rattle.hume_front.specs.Broken.{BreaksProgram, itself, by_core}
use Rattle.hume_front.specs.inner.Checked as core_rules
use Rattle.hume_front.specs.inner.Checked.{BreaksCore}
use Rattle.hume_front.specs.declared.acceptance.Accepted.{Accepted}
use Rattle.hume_front.specs.declared.acceptance.Sound.{Sound}
use Rattle.wiring_check.specs.declared.wiring.Wiring.{Wiring}
use Rattle.box_costs.specs.declared.cost.Cost.{Cost}
use Rattle.space_costs.specs.NodeCosts.{AreCosts}
use Rattle.hume_front.specs.Errors.{of_check, of_wires, of_costs}
use Rattle.hume_check.specs.declared.checking.CheckError.{CheckError}
use Rattle.hume_check.specs.declared.checking.CheckError.TheVariants as checking
use Rattle.hume_check.specs.Refused.{IsUnchecked}
use Rattle.wiring_check.specs.declared.check.WireError.{WireError}
use Rattle.wiring_check.specs.declared.check.WireError.TheVariants as wiring
use Rattle.wiring_check.specs.Wires.{IsWireError, IsWiringOf}
use Rattle.space_costs.specs.declared.check.CostError.{CostError}
use Rattle.space_costs.specs.declared.check.CostError.TheVariants as costing
use Rattle.space_costs.specs.NodeCosts.{IsCostError}
use Rattle.hume_base.specs.declared.rule.Refusal.{Refusal}
use Rattle.hume_model.specs.Declarations.{IsRefusal}
use Rattle.hume_model.specs.WireRules.{BreaksWires}
use Rattle.hume_model.specs.HandlerRules.{BreaksHandlers}
use Rattle.hume_front.specs.declared.error.FrontError.{FrontError}
use Rattle.hume_front.specs.declared.error.FrontError.TheVariants.{Refused, NoMemory}
use Rattle.hume_check.proofs.Phases.{check_phase}
use Rattle.hume_front.proofs.CoreRules.{wires_phase, handlers_phase, costs_phase, fine_wires, fine_handlers, fine_costs, least_costs, refused_wires, refused_handlers, refused_costs}
use Rattle.hume_front.proofs.OneProgram.{one_program}
use Rattle.hume_front.proofs.ProgramRules.{from_program, refused_core, refused_check, least_core}
use Rattle.hume_front.proofs.Tables.{in_table, in_core_table}

pub of_tokens : (text : List ℕ) (program : Program) → IsProgramOf text program → IsOfTokens program
of_tokens text program h = record {
  names = all_names program.decls (subst (Each IsSmall) (sym h.spelled.1) (kinds_small text h.tokens h.read));
  constructors = all_few _ program.decls (omega arith) (tokens_bound text h.tokens program h.read h.spelled);
}

pub few_declarations : (text : List ℕ) (program : Program) → IsProgramOf text program → length program.decls < 2 ^ 32
few_declarations text program h = omega (arith, short program.decls, tokens_bound text h.tokens program h.read h.spelled)

pub sound_core : (text : List ℕ) (program : Program) (core : Core) → IsProgramOf text program → IsLeast (BreaksCheck program.decls) None
    → IsCoreOf text program core → IsWellFormed core
sound_core text program core h fine is = well_formed text program core fine h.spelled.0 (of_tokens text program h) is

-- a rule of an earlier phase
early_as : (rule other : Rule) (phase : ℕ) → rule ≡ other → phase_of other ≡ phase → phase < bounds_phase → phase_of rule < bounds_phase
early_as rule other phase same is early = let both = ap phase_of same ∙ is in omega (arith, both, early)

-- a core that breaks a rule is why its source isn't sound or isn't accepted
module _ (text : List ℕ) (program : Program) (core : Core) (h : IsProgramOf text program) (fine : IsLeast (BreaksCheck program.decls) None)
    (is : IsCoreOf text program core) where
  told_core : (refusal : Refusal) → IsRefusal core (BreaksCore core) refusal → IsUnaccepted text (Refused refusal)
  told_core refusal e = front.in_program program h refusal (refused_core text program core is fine refusal e)

  wires_told : (told : WireError) → IsWireError core told → IsUnsound text (of_wires told)
  wires_told (wiring.Refused refusal) e = record {
    breaks = told_core refusal (refused_wires core refusal e);
    early = early_as refusal.rule e.finding.rule 8 e.rule (wires_phase core e.finding e.least.0) (omega arith);
  }
  wires_told wiring.NoMemory e = tt

  pub unwired : (given told : WireError) (error : FrontError) → given ≡ told → IsWireError core given → error ≡ of_wires told → IsUnsound text error
  unwired given told error same e is_told = subst (IsUnsound text) (sym is_told) (wires_told told (subst (IsWireError core) same e))

  pub unhandled : (refusal : Refusal) (error : FrontError) → IsLeast (BreaksWires core) None → IsRefusal core (BreaksHandlers core) refusal
      → error ≡ Refused refusal → IsUnsound text error
  unhandled refusal error wires e is_told = subst (IsUnsound text) (sym is_told) (record {
    breaks = told_core refusal (refused_handlers core refusal wires e);
    early = early_as refusal.rule e.finding.rule 9 e.rule (handlers_phase core e.finding e.least.0) (omega arith);
  })

  module _ (wires : IsLeast (BreaksWires core) None) (handlers : IsLeast (BreaksHandlers core) None) where
    costs_told : (told : CostError) → IsCostError core told → IsUnaccepted text (of_costs told)
    costs_told (costing.Refused refusal) e = told_core refusal (refused_costs core refusal wires handlers e)
    costs_told costing.NoMemory e = tt

    pub too_dear : (given told : CostError) (error : FrontError) → given ≡ told → IsCostError core given → error ≡ of_costs told → IsUnaccepted text error
    too_dear given told error same e is_told = subst (IsUnaccepted text) (sym is_told) (costs_told told (subst (IsCostError core) same e))

    pub accepted : IsLeast (BreaksCosts core) None → (wiring : Wiring) → IsWiringOf core wiring → (costs : List Cost) → AreCosts core costs
        → IsAccepted text (record { program = program; core = core; wiring = wiring; costs = costs })
    accepted cheap wiring its costs are = record {
      program = h;
      fine = least_core text program core is fine None (least_costs core None wires handlers cheap);
      core = is;
      wiring = its;
      costs = are;
    }

    late_core : (f : Finding) → BreaksCore core f → phase_of f.rule ≡ bounds_phase
    late_core f (core_rules.wires x) = absurd (wires f x)
    late_core f (core_rules.handlers x) = absurd (handlers f x)
    late_core f (core_rules.costs x) = costs_phase core f x

    late : (f : Finding) → BreaksProgram text program f → phase_of f.rule ≡ bounds_phase
    late f b = elim (from_program text program f b) [
      | inl x ↦ absurd (fine f x)
      | inr c ↦ late_core f (subst (λ (k : Core). BreaksCore k f) (the_core text program c.0 core c.1 is) c.2)
    ]

    pub made_sound : (sound : Sound) → sound.program ≡ program → sound.core ≡ core → IsWiringOf core sound.wiring → IsSound text sound
    made_sound sound same_program same_core its = record {
      program = subst (IsProgramOf text) (sym same_program) h;
      fine = subst (λ (p : Program). (f : Finding) → BreaksProgram text p f → phase_of f.rule ≡ bounds_phase) (sym same_program) late;
      core = subst (λ (c : Core). IsCoreOf text sound.program c) (sym same_core) (subst (λ (p : Program). IsCoreOf text p core) (sym same_program) is);
      wiring = subst (λ (c : Core). IsWiringOf c sound.wiring) (sym same_core) its;
    }

-- a program that breaks a rule by itself is why, too
check_told : (text : List ℕ) (program : Program) (told : CheckError) → IsProgramOf text program → IsUnchecked text program.decls told
    → IsUnsound text (of_check told)
check_told text program (checking.Refused refusal) h e = record {
  breaks = front.in_program program h refusal (refused_check text program refusal e);
  early = let same : refusal.rule ≡ e.finding.rule = ap (λ (r : Refusal). r.rule) e.is in
      let both = ap phase_of same in omega (arith, both, check_phase program.decls e.finding e.least.0);
}
check_told text program checking.NoMemory h e = tt

pub unchecked : (text : List ℕ) (program : Program) (given told : CheckError) (error : FrontError) → given ≡ told → IsProgramOf text program
    → IsUnchecked text program.decls given → error ≡ of_check told → IsUnsound text error
unchecked text program given told error same h e is_told =
    subst (IsUnsound text) (sym is_told) (check_told text program told h (subst (IsUnchecked text program.decls) same e))

-- what isn't sound isn't accepted
pub unaccepted : (text : List ℕ) (error : FrontError) → IsUnsound text error → IsUnaccepted text error
unaccepted text (Refused refusal) unsound = unsound.breaks
unaccepted text NoMemory unsound = tt

-- the rules of a sound source, phase by phase
module _ (text : List ℕ) (sound : Sound) (h : IsSound text sound) where
  apart_from_bounds : (phase : ℕ) → phase ≡ bounds_phase → phase < bounds_phase → ⊥
  apart_from_bounds phase is early = omega (arith, is, early)

  pub sound_check : IsLeast (BreaksCheck sound.program.decls) None
  sound_check = λ f b.
      apart_from_bounds (phase_of f.rule) (h.fine f (itself (in_table sound.program.decls f b))) (below (phase_of f.rule) (check_phase sound.program.decls f b))
    where
      below : (phase : ℕ) → phase < 8 → phase < bounds_phase
      below phase early = omega (arith, early)

  late_of : (f : Finding) → BreaksCore sound.core f → phase_of f.rule ≡ bounds_phase
  late_of f b = h.fine f (by_core sound.core h.core (in_core_table sound.core f b))

  other_phase : (phase other : ℕ) → phase ≡ other → phase ≡ bounds_phase → other < bounds_phase → ⊥
  other_phase phase other is late early = omega (arith, is, late, early)

  pub sound_wires : IsLeast (BreaksWires sound.core) None
  sound_wires = λ f b. other_phase (phase_of f.rule) 8 (wires_phase sound.core f b) (late_of f (core_rules.wires b)) (omega arith)

  pub sound_handlers : IsLeast (BreaksHandlers sound.core) None
  sound_handlers = λ f b. other_phase (phase_of f.rule) 9 (handlers_phase sound.core f b) (late_of f (core_rules.handlers b)) (omega arith)

  pub sound_formed : IsWellFormed sound.core
  sound_formed = sound_core text sound.program sound.core h.program sound_check h.core

  pub sound_wired : IsWired sound.core × WiresAgree sound.core
  sound_wired = (are_wired sound.core sound_wires, wires_agree sound.core sound_wires sound_formed.frame.wires)

  pub sound_handled : (n : ℕ) (b : BoxC) → slice_get sound.core.nodes n ≡ Some (Rules b) → HandlesAll sound.core b
  sound_handled n b at = handles_all sound.core sound_formed sound_handlers n b at

-- the rules of an accepted source, phase by phase
module _ (text : List ℕ) (accepted : Accepted) (h : IsAccepted text accepted) where
  pub fine_check : IsLeast (BreaksCheck accepted.program.decls) None
  fine_check = λ f b. h.fine f (itself (in_table accepted.program.decls f b))

  fine_core : IsLeast (BreaksCore accepted.core) None
  fine_core = λ f b. h.fine f (by_core accepted.core h.core (in_core_table accepted.core f b))

  pub formed : IsWellFormed accepted.core
  formed = sound_core text accepted.program accepted.core h.program fine_check h.core

  pub wired : IsWired accepted.core × WiresAgree accepted.core
  wired =
      let wires = fine_wires accepted.core fine_core in
      (are_wired accepted.core wires, wires_agree accepted.core wires formed.frame.wires)

  pub within : IsLeast (BreaksCosts accepted.core) None
  within = fine_costs accepted.core fine_core

  pub handled : (n : ℕ) (b : BoxC) → slice_get accepted.core.nodes n ≡ Some (Rules b) → HandlesAll accepted.core b
  handled n b at = handles_all accepted.core formed (fine_handlers accepted.core fine_core) n b at

pub one_accepted_core : (text : List ℕ) (a b : Accepted) → IsAccepted text a → IsAccepted text b → a.core ≡ b.core
one_accepted_core text a b p q =
    let same : b.program ≡ a.program = one_program text b.program a.program q.program p.program in
    the_core text a.program a.core b.core p.core (subst (λ program. IsCoreOf text program b.core) same q.core)

pub one_sound_core : (text : List ℕ) (a b : Sound) → IsSound text a → IsSound text b → a.core ≡ b.core
one_sound_core text a b p q =
    let same : b.program ≡ a.program = one_program text b.program a.program q.program p.program in
    the_core text a.program a.core b.core p.core (subst (λ program. IsCoreOf text program b.core) same q.core)

pub sound_and_accepted : (text : List ℕ) (a : Sound) (b : Accepted) → IsSound text a → IsAccepted text b → a.core ≡ b.core
sound_and_accepted text a b p q =
    let same : b.program ≡ a.program = one_program text b.program a.program q.program p.program in
    the_core text a.program a.core b.core p.core (subst (λ program. IsCoreOf text program b.core) same q.core)
