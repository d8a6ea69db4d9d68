-- The fills and the supersteps of a round, in turn.
use Rattle.std.proofs.Common.{◌≡◌, ℕ, suc, ◌-◌, ◌*◌, min, Bool, List, [], length, Result, Ok, Err, ap, sym, ◌∙◌, subst, refl}
use Rattle.hume_model.specs.declared.core_tree.Core.{Core}
use Rattle.hume_net.specs.Lockstep.{lockstep}
use Rattle.hume_net.specs.Nodes.{IsOutputStream}
use Rattle.hume_net.specs.Parts.{IsStateOf}
use Rattle.hume_net.specs.Sides.{part_of}
use Rattle.hume_net.specs.rounds.Rounds.{length_of}
use Rattle.hume_ports.specs.declared.port.Failed.{Failed}
use Rattle.hume_ports.specs.Port.{PortView}
use Rattle.port_acts.specs.Acts.{write_each}
use Rattle.port_acts.specs.Ends.{Ends, never}
use Rattle.phase_workers.specs.Engines.{EngineView as Engine}
use Rattle.phase_workers.specs.Engines.{core_of, queue_at, span_of as room_of, state_of}
use Rattle.phase_workers.specs.Runnable.{IsRunnable}
use Rattle.run_rounds.specs.MadeRounds.{FailsInRounds}
use Rattle.run_rounds.specs.Writes.{span_of}
use Rattle.run_rounds.specs.inner.Clearing.{Clears}
use Rattle.run_rounds.specs.inner.Rounding.{PeaksGrow, told_now}
use Rattle.run_rounds.specs.inner.Steps.{StandsAfter, StandsFilling, filling_acts}
use Rattle.run_rounds.proofs.RoundMaking.{next_length, outputs_clear}
use Rattle.run_rounds.proofs.RoundSteps.{round_failed, round_stands}

-- how many supersteps a round has
pub supersteps_are : (traced : Bool) (steps done first second result : ℕ) → first ≡ span_of traced → second ≡ span_of traced
    → result ≡ min (steps - done * first) second
    → result ≡ length_of (span_of traced) steps (suc done)
supersteps_are traced steps done first second result a b is =
    is ∙ ap (λ k. min (steps - done * k) second) a ∙ ap (min (steps - done * span_of traced)) b ∙ next_length steps done (span_of traced)

module _ (traced : Bool) (steps done want : ℕ) (olds mids : List PortView) (first filled : Engine) (run : IsRunnable (core_of first)) (same : core_of filled ≡ core_of first)
    (filling : StandsFilling (core_of first) traced steps done (length (core_of first).nodes) want olds mids filled) where
  own : StandsFilling (core_of filled) traced steps done (length (core_of filled).nodes) want olds mids filled
  own = subst (λ (c : Core). StandsFilling c traced steps done (length c.nodes) want olds mids filled) (sym same) filling

  run_own : IsRunnable (core_of filled)
  run_own = subst IsRunnable (sym same) run

  pub parts_own : IsStateOf (core_of filled) (state_of filled)
  parts_own = own.stands.parts

  pub clear_own : (n : ℕ) → IsOutputStream (core_of filled) n → (part_of (state_of filled) n).taken ≡ []
  clear_own = outputs_clear (core_of filled) traced steps done (filling_acts (core_of filled) traced steps done (length (core_of filled).nodes)) olds mids filled own.stands

  module _ (new : Engine) (news : List PortView) (number : ℕ) (is_next : number ≡ suc done) (result : Result (Unit {0}) Failed)
      (did : Ends never [] (write_each (told_now (core_of filled) traced number (lockstep (core_of filled) (state_of filled) want))) [] mids news result) where
    did_next : Ends never [] (write_each (told_now (core_of filled) traced (suc done) (lockstep (core_of filled) (state_of filled) want))) [] mids news result
    did_next = subst (λ r. Ends never [] (write_each (told_now (core_of filled) traced r (lockstep (core_of filled) (state_of filled) want))) [] mids news result) is_next did

    pub joined_failed : (failed : Failed) → result ≡ Err failed → FailsInRounds (core_of first) traced steps olds news
    joined_failed failed is = subst (λ c. FailsInRounds c traced steps olds news) same
        (round_failed (core_of filled) run_own traced steps done want olds mids filled refl own new news want filling.wanted result did_next failed is)

    pub joined : result ≡ Ok tt → core_of new ≡ core_of filled → room_of new ≡ room_of filled → ((n : ℕ) → queue_at new n ≡ queue_at filled n)
        → PeaksGrow filled want new
        → Clears (core_of filled) (lockstep (core_of filled) (state_of filled) want) (state_of new)
        → StandsAfter (core_of first) traced steps (suc done) olds news new
    joined is new_core new_span queues grow clears = subst (λ c. StandsAfter c traced steps (suc done) olds news new) same
        (round_stands (core_of filled) run_own traced steps done want olds mids filled refl own new news want filling.wanted result did_next is
        new_core new_span queues grow clears)
