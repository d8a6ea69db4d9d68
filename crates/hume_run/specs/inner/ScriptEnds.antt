-- How the parts of a call with a script end.
use Rattle.std.specs.Prelude.{◌≡◌, ◌⊎◌, ℕ, false, List, [], ◌∷◌, None, Ok}
use Rattle.hume_base.specs.declared.rule.Refusal.{Refusal}
use Rattle.hume_base.specs.Least.{IsLeast}
use Rattle.box_costs.specs.CostRules.{BreaksCosts}
use Rattle.box_calculus.specs.Scripts.{scripted}
use Rattle.run_rounds.specs.Streams.{streams}
use Rattle.hume_calls.specs.Calc.{IsScriptRefusal}
use Rattle.hume_calls.specs.Streams.{unfit_line}
use Rattle.hume_ports.specs.Port.{PortView}
use Rattle.hume_ports.specs.Ports.{names}
use Rattle.hume_model.specs.declared.core_tree.Core.{Core}
use Rattle.hume_calls.specs.declared.status.Status.{Status}
use Rattle.hume_front.specs.Accepted.{BreaksSoundness}
use Rattle.hume_calls.specs.Owed.{owed_refused}
use Rattle.hume_calls.specs.Ended.{EndsOwed, RunsOut, RunsCore}

-- A rule for which the source of that text isn't sound is told, or memory ran out.
abbrev pub EndsUnsound : List ℕ → List PortView → List PortView → Status → Type 0
EndsUnsound text old new status =
    RunsOut old new status ⊎ ((refusal : Refusal) × BreaksSoundness text refusal × EndsOwed (owed_refused refusal) old new status)

-- What comes of a core once a script of these lines was read from its port: memory ran out; or what is refused is told; or the core
-- that the script makes is run.
pub data EndsScript (steps : ℕ) (core : Core) (lines source port : List ℕ) (old new : List PortView) (status : Status) : Type 0 where
  runs_out : RunsOut old new status → EndsScript steps core lines source port old new status
  refuses : (refusal : Refusal) → IsScriptRefusal core lines (names old) source port refusal → EndsOwed (owed_refused refusal) old new status
      → EndsScript steps core lines source port old new status
  runs : (made : Core) → scripted core lines ≡ Ok made → IsLeast (BreaksCosts made) None
      → unfit_line (names old) source (port ∷ []) (streams made) ≡ None → RunsCore false steps made old new status
      → EndsScript steps core lines source port old new status
