-- What is known of a logged run where it stands: what may come, how many values are wanted, and whether streams block the next superstep.
use Rattle.std.proofs.Common.{◌≡◌, ℕ, suc, ◌+◌, ◌-◌, ◌<◌, false, List, [], ◌++◌, length, Option, None, Some, slice_get, ap, sym, ◌∙◌, subst, arith, append-nil, length-append, refl}
use Rattle.std.specs.Io.KnownBytes.{Consumes, IsAtEnd}
use Rattle.std.specs.Option.{unwrap_or}
use Rattle.hume_base.specs.declared.types.Value.{Value}
use Rattle.hume_model.specs.declared.core_tree.NodeC.TheVariants.{From}
use Rattle.hume_model.specs.declared.core_tree.StreamC.{StreamC}
use Rattle.hume_model.specs.declared.core_tree.Core.{Core}
use Rattle.hume_net.specs.Lockstep.{lockstep}
use Rattle.hume_net.specs.Start.{start}
use Rattle.hume_net.specs.rounds.Blocked.{blocks}
use Rattle.hume_net.specs.rounds.Pieces.{IsPieceOf}
use Rattle.hume_net.specs.rounds.Rounds.{begins, length_of}
use Rattle.hume_net.specs.rounds.Streams.{asserted_between}
use Rattle.hume_ports.specs.Port.{PortView}
use Rattle.hume_ports.specs.Ports.{left_of}
use Rattle.hume_ports.specs.Delivery.{bytes_for}
use Rattle.hume_ports.proofs.Progress.{Drawn-first}
use Rattle.phase_workers.specs.Engines.{coming_at, queue_at}
use Rattle.phase_workers.specs.Runnable.{IsRunnable}
use Rattle.run_log.specs.declared.half.Half.{Half}
use Rattle.run_log.specs.declared.half.Half.TheVariants.{End}
use Rattle.run_log.specs.declared.log_run.LogRun.{LogRun}
use Rattle.run_log.specs.Moments.{engine_of, moment_of}
use Rattle.run_rounds.specs.Inputs.{Inputs, is_bad}
use Rattle.run_rounds.specs.RunActs.{needed}
use Rattle.run_rounds.specs.Runs.{Comes}
use Rattle.run_rounds.specs.inner.Beginning.{MayBegin}
use Rattle.run_rounds.specs.inner.Reading.{MayCome, later_of}
use Rattle.run_rounds.proofs.Ending.{texts_read, texts_told, the_inputs, inputs_of_texts, they_may_come}
use Rattle.run_rounds.proofs.Filled.{node_goes_on}
use Rattle.run_rounds.proofs.Sharing.{shared}
use Rattle.run_rounds.proofs.Standings.{item_at, stream_printable}
use Rattle.log_rounds.specs.inner.Standing.{Deeds, StandsAt}
use Rattle.log_rounds.specs.inner.Steps.{GoesOn}

-- The text of a port is what was read of it, and a rest: none where the port is at its end.
abbrev pub GoesOnAs : Option (List ℕ) → List ℕ → List ℕ → Type 0
GoesOnAs left bytes text = (rest : List ℕ) × (text ≡ bytes ++ rest) × (IsAtEnd left → rest ≡ [])

text_begins : (before after : Option (List ℕ)) (bytes : List ℕ) → Consumes before after bytes → GoesOnAs after bytes (unwrap_or before bytes)
text_begins None after bytes consumes = ([], sym (append-nil bytes), (λ end. refl))
text_begins (Some all) None bytes consumes = absurd consumes
text_begins (Some all) (Some left) bytes consumes = (left, consumes, (λ end. end))

module _ (core : Core) (run : IsRunnable core) (steps : ℕ) (half : Half) (superstep : ℕ) (deeds : Deeds) (olds news : List PortView) (logs : LogRun)
    (stands : StandsAt core steps half superstep deeds olds news logs) where
  abbrev pub inputs : Inputs
  inputs = the_inputs core run.formed.frame.sizes run.names (stream_printable core run) (texts_read olds stands.taken)

  pub may : MayCome core (queue_at (engine_of logs)) stands.taken inputs
  may = they_may_come core run.formed.frame.sizes run.names (stream_printable core run) (queue_at (engine_of logs)) stands.taken stands.acts olds news stands.made stands.told

  -- what the ports have to read, once it is known what was read
  abbrev pub comes : Comes core olds
  comes = record {
    texts = texts_read olds stands.taken;
    told = texts_told olds stands.taken;
    inputs = inputs;
    are = inputs_of_texts core run.formed.frame.sizes run.names (stream_printable core run) (texts_read olds stands.taken);
  }

  -- the text of each port goes on as was read
  pub text_read : (name : List ℕ) → GoesOnAs (left_of name news) (bytes_for name stands.taken) (texts_read olds stands.taken name)
  text_read name =
      text_begins (left_of name olds) (left_of name news) (bytes_for name stands.taken)
      (Drawn-first olds news name stands.taken stands.made.progress.same_names stands.made.progress.drawn)

  pub text_on : GoesOn core deeds inputs.good (texts_read olds stands.taken deeds.log)
  text_on apart = let t = text_read deeds.log in (t.0, t.1 ∙ ap (λ bytes. bytes ++ t.0) (stands.logged apart inputs may))

pub begins_one : (done : ℕ) → begins 1 (suc done) ≡ done
begins_one done = omega arith

pub length_one : (steps done : ℕ) → done < steps → length_of 1 steps (suc done) ≡ 1
length_one steps done less = omega (arith, less)

module _ (core : Core) (run : IsRunnable core) (steps done : ℕ) (deeds : Deeds) (olds news : List PortView) (logs : LogRun)
    (stands : StandsAt core steps End done deeds olds news logs) (others : Inputs) (can : MayCome core (queue_at (engine_of logs)) stands.taken others) where
  -- of the values that came the first were asserted
  pub shares : (n : ℕ) (stream : StreamC) → slice_get core.nodes n ≡ Some (From stream)
      → stands.fed n ≡ asserted_between (start core others.good) (lockstep core (start core others.good) done) n ++ coming_at (engine_of logs) n
  shares n stream is =
      let p = stands.piece others can in
      shared core run.names (queue_at (engine_of logs)) stands.taken stands.fed stands.read others can done (moment_of logs).state p.0 p.1 n stream is

  pub piece_now : IsPieceOf core (stands.piece others can).0 (later_of others stands.fed) (moment_of logs).state
      (lockstep core (start core others.good) (begins 1 (suc done)))
  piece_now = subst (λ k. IsPieceOf core (stands.piece others can).0 (later_of others stands.fed) (moment_of logs).state (lockstep core (start core others.good) k))
      (sym (begins_one done)) (stands.piece others can).1

  module _ (less : done < steps) where
    -- how many values are wanted of a stream
    pub count_is : (n : ℕ) (stream : StreamC) → slice_get core.nodes n ≡ Some (From stream)
        → (length (stands.fed n) - length (coming_at (engine_of logs) n)) + 1 ≡ needed core others.good 1 steps (suc done) n
    count_is n stream there =
        let gone : List Value = asserted_between (start core others.good) (lockstep core (start core others.good) done) n in
        let all = ap length (shares n stream there) ∙ length-append gone (coming_at (engine_of logs) n) in
        let first : length (stands.fed n) - length (coming_at (engine_of logs) n) ≡ length gone = omega (arith, all) in
        ap (λ count. count + 1) first
        ∙ ap (λ count. length gone + count) (sym (length_one steps done less))
        ∙ ap (λ j. length (asserted_between (start core others.good) (lockstep core (start core others.good) j) n) + length_of 1 steps (suc done)) (sym (begins_one done))

    -- a stream that may begin doesn't block the superstep
    pub goes_on : (n : ℕ) → n < length core.nodes
        → ((stream : StreamC) → slice_get core.nodes n ≡ Some (From stream) → MayBegin core (queue_at (engine_of logs)) 1 (moment_of logs).state n)
        → blocks core others.good (is_bad others) 1 steps (suc done) n ≡ false
    goes_on n within begin =
        let item = item_at core.nodes n within in
        node_goes_on core run.names (queue_at (engine_of logs)) stands.taken stands.fed stands.read others can 1 steps (suc done) (moment_of logs).state
        (stands.piece others can).0 piece_now n item.0 item.1
        (λ stream there. subst (λ count. MayBegin core (queue_at (engine_of logs)) count (moment_of logs).state n) (sym (length_one steps done less)) (begin stream there))
