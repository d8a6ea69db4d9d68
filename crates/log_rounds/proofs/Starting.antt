-- Where a logged run stands before its first superstep.
use Rattle.std.proofs.Common.{◌≡◌, ℕ, Bool, true, false, List, [], ◌++◌, append-nil, refl, ap, sym, ◌∙◌, subst, arith}
use Rattle.std.proofs.lemmas.List.FromFn.{length-map-range_with_len}
use Rattle.hume_base.specs.declared.types.Value.{Value}
use Rattle.hume_model.specs.declared.core_tree.Core.{Core}
use Rattle.hume_net.specs.declared.state.State.{State}
use Rattle.hume_net.specs.Lockstep.{lockstep}
use Rattle.hume_net.specs.Parts.{IsStateOf}
use Rattle.hume_net.specs.Start.{start, no_values}
use Rattle.hume_net.specs.rounds.Pieces.{IsPieceOf, nothing}
use Rattle.hume_net.proofs.StatePlaces.{lockstep_places}
use Rattle.hume_net.proofs.rounds_lemmas.Rounds.{start_piece}
use Rattle.hume_ports.specs.Port.{PortView}
use Rattle.hume_streams.specs.Queues.{QueueView}
use Rattle.port_acts.specs.Ends.{Fails, Made, never}
use Rattle.port_acts.proofs.Making.{Made-start}
use Rattle.phase_workers.specs.Engines.{queue_at}
use Rattle.phase_workers.specs.Runnable.{IsRunnable}
use Rattle.trace_print.specs.InTurn.{lines_to}
use Rattle.run_log.specs.declared.half.Half.TheVariants.{End}
use Rattle.run_log.specs.declared.log_run.LogRun.{LogRun}
use Rattle.run_log.specs.Logs.{block}
use Rattle.run_log.specs.Moments.{Moment, block_at, core_in, engine_of, moment_of}
use Rattle.run_rounds.specs.Inputs.{Inputs}
use Rattle.run_rounds.specs.inner.Reading.{HasRead, later_of}
use Rattle.run_rounds.proofs.ActSteps.{BeginsWith}
use Rattle.run_rounds.proofs.Comings.{inputs_are}
use Rattle.run_rounds.proofs.EngineFacts.{queues_show_no_values}
use Rattle.log_rounds.specs.Ended.{FailsToRecord}
use Rattle.log_rounds.specs.Opened.{IsFresh}
use Rattle.log_rounds.specs.RecordActs.{logged_acts, record_acts}
use Rattle.log_rounds.specs.inner.Standing.{Deeds, IsPieceThere, StandsAt}
use Rattle.log_rounds.specs.inner.Steps.{HasRecorded, recorded}
use Rattle.log_rounds.proofs.Blocks.{lockstep_start}
use Rattle.log_rounds.proofs.Doing.{restated}
use Rattle.log_rounds.proofs.Halves.{rerun}
use Rattle.log_rounds.proofs.RecordedActs.{free_first, noting}
use Rattle.log_rounds.proofs.RecordSteps.{half_failed, half_noted, noted}

-- nothing was done
abbrev pub nothing_done : List ℕ → Deeds
nothing_done log = record { log = log; bytes = λ good. []; acts = λ good. [] }

start_parts : (core : Core) → IsStateOf core (start core (no_values core))
start_parts core =
    let places = lockstep_places core (no_values core) (length-map-range_with_len (λ n. []) 0 _) 0 in
    subst (IsStateOf core) (lockstep_start core (start core (no_values core))) places.places

module _ (core : Core) (log : List ℕ) (steps : ℕ) (ports : List PortView) (logs : LogRun) (fresh : IsFresh core logs) where
  state_is : (moment_of logs).state ≡ start core (no_values core)
  state_is = ap (λ (m : Moment). m.state) fresh.moment

  read_none : HasRead core (queue_at (engine_of logs)) [] (λ n. [])
  read_none = record {
    given = queues_show_no_values (engine_of logs);
    right = λ n stream is rest ends. fresh.right n (inputs_are core n stream is) rest;
    none = λ n node is other. refl;
  }

  piece_none : IsPieceThere core (queue_at (engine_of logs)) (moment_of logs).state [] (λ n. []) End 0
  piece_none inputs may = (
    nothing,
    subst (λ s. IsPieceOf core nothing (later_of inputs (λ n. [])) s (lockstep core (start core inputs.good) 0)) (sym state_is)
        (subst (IsPieceOf core nothing (later_of inputs (λ n. [])) (start core (no_values core))) (sym (lockstep_start core (start core inputs.good)))
        (start_piece core inputs.good)),
  )

  pub stands_first : StandsAt core steps End 0 (nothing_done log) ports ports logs
  stands_first = record {
    acts = [];
    taken = [];
    fed = λ n. [];
    is_core = fresh.is_core;
    is_half = ap (λ (m : Moment). m.half) fresh.moment;
    is_superstep = ap (λ (m : Moment). m.superstep) fresh.moment;
    parts = subst (IsStateOf core) (sym state_is) (start_parts core);
    made = Made-start ports;
    told = λ n stream is ended. (let never : ◌≡◌ {A = Bool} false true = sym (ap (λ (q : QueueView). q.ended) (fresh.begun n (inputs_are core n stream is))) ∙ ended in cc);
    read = read_none;
    piece = piece_none;
    filled = tt;
    unblocked = λ inputs may superstep least most. absurd (omega (arith, least, most));
    did = λ inputs may. refl;
    logged = λ apart inputs may. refl;
  }

  -- the block of the start is written
  module _ (run : IsRunnable core) (news : List PortView) where
    acts_first : (good : List (List Value)) → (noted core log steps End 0 (nothing_done log)).acts good ≡ logged_acts core good log steps 0
    acts_first good =
        ap (λ (s : State). noting core log steps good (block core End 0 s)) (lockstep_start core (start core good))
        ∙ sym (append-nil (noting core log steps good (block core End 0 (start core good))))

    lines_are : block_at (core_in logs) (moment_of logs) ≡ block_at core (moment_of logs)
    lines_are = ap (λ c. block_at c (moment_of logs)) fresh.is_core

    pub start_noted : (after : LogRun) → engine_of after ≡ engine_of logs → moment_of after ≡ moment_of logs
        → Made (lines_to log (block_at (core_in logs) (moment_of logs))) [] ports news → HasRecorded core log steps 0 ports news after
    start_noted after engine moment made =
        rerun core steps End 0 (recorded core log steps 0) ports news logs after engine moment
        (restated core steps End 0 (noted core log steps End 0 (nothing_done log)) ports news logs
        (half_noted core run log steps End 0 (nothing_done log) ports ports logs stands_first (block_at (core_in logs) (moment_of logs)) lines_are news made)
        (recorded core log steps 0) refl (λ inputs can. acts_first inputs.good) (λ inputs can. refl))

    first_acts : (inputs : Inputs) → BeginsWith (record_acts core inputs log steps) ((noted core log steps End 0 (nothing_done log)).acts inputs.good)
    first_acts inputs =
        let its = free_first core log steps inputs 0 (omega arith) (λ superstep least most. absurd (omega (arith, least, most))) in
        (its.0, its.1 ∙ ap (λ front. front ++ its.0) (sym (acts_first inputs.good)))

    pub start_failed : Fails never [] (lines_to log (block_at (core_in logs) (moment_of logs))) ports news → FailsToRecord core log steps ports news
    start_failed fails =
        half_failed core run log steps End 0 (nothing_done log) ports ports logs stands_first (block_at (core_in logs) (moment_of logs)) lines_are news fails
        (λ inputs can. first_acts inputs)
