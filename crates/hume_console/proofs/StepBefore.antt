-- A step that is to be made.
use Rattle.std.proofs.Common.{◌≡◌, ℕ, List, length, ap, sym, ◌∙◌, subst, Option, None, Some, Result, Ok, Err}
use Rattle.hume_model.specs.declared.core_tree.Core.{Core}
use Rattle.hume_ports.specs.declared.port.Failed.{Failed}
use Rattle.hume_ports.specs.Port.{PortView}
use Rattle.phase_workers.specs.Engines.{EngineView as Engine}
use Rattle.phase_workers.specs.Engines.{core_of}
use Rattle.phase_workers.specs.Runnable.{IsRunnable}
use Rattle.run_rounds.specs.declared.bad_line.BadLine.{BadLine}
use Rattle.hume_console.specs.declared.ending.Ending.TheVariants.{Fault}
use Rattle.hume_console.specs.declared.places.Places.{Places}
use Rattle.hume_console.specs.inner.Standing.{EndsCall}
use Rattle.hume_console.specs.inner.Stepping.{EndsFills, IsBefore, IsBlockedAt, IsFilling, StandsFilling, Step, hands_in, left_step}
use Rattle.hume_console.proofs.Standings.{own_placed}
use Rattle.hume_console.proofs.StepFilling.{filling_none}

module _ (step : Step) (steps : ℕ) (places : Places) (engine : Engine) (ports : List PortView) (it : IsBefore step steps places engine ports) where
  pub before_filling : (streams : List ℕ) → streams ≡ places.streams.items → IsFilling step 0 steps streams engine ports
  before_filling streams same = record {
    is_steps = it.is_steps;
    are_places = ap (λ (p : Places). p.streams.items) it.are_places ∙ sym same;
    stands = subst (λ e. StandsFilling step 0 e ports) it.is_engine (subst (StandsFilling step 0 step.engine) it.are_ports (filling_none step it.stands));
  }

  in_core : core_of engine ≡ step.call.core
  in_core = ap core_of (sym it.is_engine) ∙ it.stands.stands.rests.is_core

  pub before_runnable : IsRunnable (core_of engine)
  before_runnable = subst IsRunnable (sym in_core) it.stands.stands.serving.runnable

  pub before_long : (streams : List ℕ) → streams ≡ places.streams.items → length streams ≡ length (core_of engine).nodes
  before_long streams same =
      let place = own_placed step.call step.limit (left_step step.call step.steps step.later) step.engine step.commands step.places step.before step.bindings it.stands.stands in
      ap length same ∙ ap (λ (p : Places). length p.streams.items) (sym it.are_places) ∙ place.count ∙ ap (λ (c : Core). length c.nodes) (sym in_core)

  module _ (filled : Engine) (mids : List PortView) (result : Result (Option BadLine) Failed) (ends : EndsFills step filled mids result) where
    pub then_filled : (streams : List ℕ) → streams ≡ places.streams.items → result ≡ Ok None → IsFilling step (length (core_of filled).nodes) steps streams filled mids
    then_filled streams same is =
        let all = subst (EndsFills step filled mids) is ends in
        record {
          is_steps = it.is_steps;
          are_places = ap (λ (p : Places). p.streams.items) it.are_places ∙ sym same;
          stands = subst (λ (c : Core). StandsFilling step (length c.nodes) filled mids) (sym all.same_core) all;
        }

    pub then_blocked : (bad : BadLine) → result ≡ Ok (Some bad) → IsBlockedAt step bad.node bad.line filled mids
    then_blocked bad is = subst (EndsFills step filled mids) is ends

    pub then_failed : (failed : Failed) → result ≡ Err failed → EndsCall step.call (hands_in step mids) Fault
    then_failed failed is = subst (EndsFills step filled mids) is ends
