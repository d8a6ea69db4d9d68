-- Where a run stands before its first round.
use Rattle.std.proofs.Common.{◌≡◌, ℕ, Bool, true, false, List, [], refl, ap, sym, ◌∙◌, subst, arith}
use Rattle.hume_model.specs.declared.core_tree.Core.{Core}
use Rattle.hume_net.specs.declared.state.State.{State}
use Rattle.hume_net.specs.Lockstep.{lockstep}
use Rattle.hume_net.specs.Parts.{IsStateOf}
use Rattle.hume_net.specs.Sides.{part_of}
use Rattle.hume_net.specs.Start.{start, no_values}
use Rattle.hume_net.specs.rounds.Pieces.{IsPieceOf, nothing}
use Rattle.hume_net.specs.rounds.Rounds.{made}
use Rattle.hume_net.proofs.StatePlaces.{lockstep_places}
use Rattle.hume_net.proofs.rounds_lemmas.Clearing.{none_at}
use Rattle.hume_net.proofs.rounds_lemmas.RoundCounts.{none_made}
use Rattle.hume_net.proofs.rounds_lemmas.Rounds.{start_piece}
use Rattle.std.proofs.lemmas.List.FromFn.{length-map-range_with_len}
use Rattle.hume_ports.specs.Port.{PortView}
use Rattle.hume_streams.specs.Queues.{QueueView}
use Rattle.net_costs.specs.Steps.{peaks}
use Rattle.net_costs.proofs.Peaks.{no_peak}
use Rattle.box_costs.specs.declared.cost.Cost.{Cost}
use Rattle.port_acts.proofs.Making.{Made-start}
use Rattle.phase_workers.specs.Engines.{EngineView as Engine}
use Rattle.phase_workers.specs.Engines.{queue_at, state_of}
use Rattle.run_rounds.specs.Inputs.{Inputs}
use Rattle.run_rounds.specs.Opened.{IsFresh}
use Rattle.run_rounds.specs.MadeRounds.{IsPeak}
use Rattle.run_rounds.specs.Writes.{span_of}
use Rattle.run_rounds.specs.inner.Reading.{HasRead, later_of}
use Rattle.run_rounds.specs.inner.Standing.{IsCleared, IsPieceAt}
use Rattle.run_rounds.specs.inner.Steps.{StandsAfter}
use Rattle.run_rounds.proofs.Comings.{inputs_are}
use Rattle.run_rounds.proofs.EngineFacts.{queues_show_no_values}

lockstep_none : (core : Core) (state : State) (k : ℕ) → k ≡ 0 → lockstep core state k ≡ state
unfolding lockstep
lockstep_none core state k none = ap (lockstep core state) none

start_parts : (core : Core) → IsStateOf core (start core (no_values core))
start_parts core =
    let places = lockstep_places core (no_values core) (length-map-range_with_len (λ n. []) 0 _) 0 in
    subst (IsStateOf core) (lockstep_none core (start core (no_values core)) 0 refl) places.places

module _ (core : Core) (traced : Bool) (steps : ℕ) (ports : List PortView) (engine : Engine) (fresh : IsFresh core (span_of traced) engine) where
  read_none : HasRead core (queue_at engine) [] (λ n. [])
  read_none = record {
    given = queues_show_no_values engine;
    right = λ n stream is rest ends. fresh.right n (inputs_are core n stream is) rest;
    none = λ n node is other. refl;
  }

  piece_none : IsPieceAt core (queue_at engine) (state_of engine) [] (λ n. []) (made (span_of traced) steps 0)
  piece_none inputs may = (
    nothing,
    subst (λ s. IsPieceOf core nothing (later_of inputs (λ n. [])) s (lockstep core (start core inputs.good) (made (span_of traced) steps 0))) (sym fresh.state)
        (subst (IsPieceOf core nothing (later_of inputs (λ n. [])) (start core (no_values core)))
        (sym (lockstep_none core (start core inputs.good) (made (span_of traced) steps 0) (none_made (span_of traced) steps)))
        (start_piece core inputs.good)),
  )

  cleared_none : IsCleared core (state_of engine)
  cleared_none n node is = ap (λ (s : State). (part_of s n).taken) fresh.state ∙ none_at core n node is

  peak_none : (inputs : Inputs) (n : ℕ) → IsPeak core inputs.good (made (span_of traced) steps 0) engine n
  peak_none inputs n =
      let none = ap (λ k. peaks core (start core inputs.good) k n) (none_made (span_of traced) steps) ∙ no_peak core (start core inputs.good) n in
      record {
        heap = (fresh.peaks n).0 ∙ sym (ap (λ (cost : Cost). cost.heap) none);
        stack = (fresh.peaks n).1 ∙ sym (ap (λ (cost : Cost). cost.stack) none);
      }

  pub stands_first : StandsAfter core traced steps 0 ports ports engine
  stands_first = record {
    acts = [];
    taken = [];
    fed = λ n. [];
    is_core = fresh.is_core;
    is_span = fresh.is_span;
    parts = subst (IsStateOf core) (sym fresh.state) (start_parts core);
    made = Made-start ports;
    told = λ n stream is ended. (let never : ◌≡◌ {A = Bool} false true = sym (ap (λ (q : QueueView). q.ended) (fresh.begun n (inputs_are core n stream is))) ∙ ended in cc);
    after = record {
      read = read_none;
      piece = piece_none;
      cleared = cleared_none;
      unblocked = λ inputs may round least most. absurd (omega (arith, least, most));
    };
    peaks = λ inputs may n node is. peak_none inputs n;
    are = λ inputs may. refl;
  }
