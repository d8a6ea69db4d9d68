-- How what comes of a script ends, from its parts.
use Rattle.std.proofs.Common.{◌≡◌, ◌⊎◌, ℕ, false, List, [], ◌∷◌, None, Some, Ok, Err, refl, sym, subst, inl, inr}
use Rattle.hume_base.specs.declared.rule.Refusal.{Refusal}
use Rattle.hume_base.specs.declared.rule.Rule.{Rule}
use Rattle.hume_base.specs.declared.rule.Rule.TheVariants.{C55}
use Rattle.hume_base.specs.Least.{IsLeast}
use Rattle.hume_model.specs.declared.core_tree.Core.{Core}
use Rattle.hume_model.specs.Declarations.{IsRefusal}
use Rattle.box_costs.specs.CostRules.{BreaksCosts}
use Rattle.calculus_laws.specs.declared.step.CalcError.{CalcError}
use Rattle.box_calculus.specs.declared.scripts.ScriptError.{ScriptError}
use Rattle.box_calculus.specs.declared.scripts.ScriptError.TheVariants as script
use Rattle.box_calculus.specs.Scripts.{scripted}
use Rattle.hume_ports.specs.Port.{PortView}
use Rattle.hume_ports.specs.Ports.{names}
use Rattle.run_rounds.specs.Streams.{streams}
use Rattle.hume_calls.specs.declared.status.Status.{Status}
use Rattle.hume_calls.specs.declared.status.Status.TheVariants.{NoMemory}
use Rattle.hume_calls.specs.Calc.{IsScriptRefusal, of_box, of_line, of_stream, rule_of_cause, script_refusal}
use Rattle.hume_calls.specs.Owed.{owed_refused}
use Rattle.hume_calls.specs.Streams.{unfit_line}
use Rattle.hume_calls.specs.Ended.{EndsOwed, RunsCore, RunsOut}
use Rattle.hume_run.specs.inner.ScriptEnds.{EndsScript, refuses, runs, runs_out}

module _ (steps : ℕ) (first : Core) (lines source port : List ℕ) (olds news : List PortView) where
  abbrev EndsAs : Status → Type 0
  EndsAs status = EndsScript steps first lines source port olds news status

  -- memory ran out, and nothing was touched
  pub out_before : news ≡ olds → EndsAs NoMemory
  out_before same = runs_out (refl, same)

  -- a line makes no step
  pub line_refused : (error : ScriptError) (status : Status) → (error ≡ script.NoMemory) ⊎ (scripted first lines ≡ Err error)
      → EndsOwed (owed_refused (script_refusal error)) olds news status → (error ≡ script.NoMemory → RunsOut olds news status) → EndsAs status
  line_refused error status (inl none) told out = runs_out (out none)
  line_refused error status (inr is) told out = refuses (script_refusal error) (of_line error is) told

  module _ (new : Core) (made : scripted first lines ≡ Ok new) where
    -- a box takes too much
    pub box_refused : (refusal : Refusal) (status : Status) → IsRefusal new (BreaksCosts new) refusal → EndsOwed (owed_refused refusal) olds news status → EndsAs status
    box_refused refusal status is told = refuses refusal (of_box new made refusal is) told

    module _ (others : List (List ℕ)) (only : others ≡ port ∷ []) (within : IsLeast (BreaksCosts new) None) where
      -- a stream's port is unfit
      pub stream_refused : (line : ℕ) (refusal : Refusal) (status : Status) → unfit_line (names olds) source others (streams new) ≡ Some line
          → refusal ≡ record { rule = C55; line = line } → EndsOwed (owed_refused refusal) olds news status → EndsAs status
      stream_refused line refusal status found is told =
          let here : unfit_line (names olds) source (port ∷ []) (streams new) ≡ Some line =
          subst (λ (ports : List (List ℕ)). unfit_line (names olds) source ports (streams new) ≡ Some line) only found in
          refuses refusal (subst (IsScriptRefusal first lines (names olds) source port) (sym is) (of_stream new made within line here)) told

      -- the new core is run
      pub ran : (status : Status) → unfit_line (names olds) source others (streams new) ≡ None
          → RunsOut olds news status ⊎ RunsCore false steps new olds news status → EndsAs status
      ran status fit (inl out) = runs_out out
      ran status fit (inr r) =
          runs new made within (subst (λ (ports : List (List ℕ)). unfit_line (names olds) source ports (streams new) ≡ None) only fit) r

-- a step that isn't made is told by its cause
pub told_as : (error : ScriptError) (cause : CalcError) (line : ℕ) (rule : Rule) (olds news : List PortView) (status : Status) → error ≡ script.Refused cause line
    → rule ≡ rule_of_cause cause → EndsOwed (owed_refused (record { rule = rule; line = line })) olds news status
    → EndsOwed (owed_refused (script_refusal error)) olds news status
told_as error cause line rule olds news status is same ends =
    subst (λ (e : ScriptError). EndsOwed (owed_refused (script_refusal e)) olds news status) (sym is)
    (subst (λ (r : Rule). EndsOwed (owed_refused (record { rule = r; line = line })) olds news status) same ends)
