-- What a logged run does besides its halves: it writes blocks, and reads the log.
use Rattle.std.proofs.Common.{◌≡◌, ℕ, List, [], ◌∷◌, ◌++◌, Some, IfSome, slice_get, refl, ap, sym, ◌∙◌, subst, append-nil}
use Rattle.hume_base.specs.declared.types.Value.{Value}
use Rattle.hume_model.specs.declared.core_tree.NodeC.TheVariants.{From}
use Rattle.hume_model.specs.declared.core_tree.StreamC.{StreamC}
use Rattle.hume_model.specs.declared.core_tree.Core.{Core}
use Rattle.hume_net.specs.declared.state.State.{State}
use Rattle.hume_net.specs.Start.{start}
use Rattle.hume_ports.specs.Port.{PortView}
use Rattle.hume_ports.specs.Ports.{left_of, Untouched}
use Rattle.hume_ports.specs.Delivery.{Pairs, Progress, bytes_for}
use Rattle.hume_ports.proofs.Names.{bytes_eq-swap, bytes_for-append, bytes_for-one}
use Rattle.hume_streams.specs.Good.{IsGoodUntil}
use Rattle.hume_streams.specs.Queues.{IsQueueOf, QueueView}
use Rattle.port_acts.specs.Acts.{Act, wants}
use Rattle.port_acts.specs.Ends.{Made}
use Rattle.port_acts.proofs.Making.{Made-on}
use Rattle.port_acts.proofs.Single.{want_made}
use Rattle.phase_workers.specs.Engines.{queue_at}
use Rattle.phase_workers.specs.StreamTypes.{type_at}
use Rattle.run_log.specs.declared.half.Half.{Half}
use Rattle.run_log.specs.declared.half.Half.TheVariants.{Mid, End}
use Rattle.run_log.specs.declared.log_run.LogRun.{LogRun}
use Rattle.run_log.specs.Logs.{block}
use Rattle.run_log.specs.Moments.{block_at, engine_of, moment_of}
use Rattle.run_log.proofs.Pieces.{same_block}
use Rattle.run_rounds.specs.Inputs.{Inputs}
use Rattle.run_rounds.specs.inner.Reading.{HasRead, MayCome, later_of}
use Rattle.run_rounds.specs.inner.Standing.{EndsAreTold}
use Rattle.hume_net.specs.rounds.Pieces.{listed}
use Rattle.log_rounds.specs.Opened.{IsApart}
use Rattle.log_rounds.specs.Outcomes.{moment_at}
use Rattle.log_rounds.specs.inner.Standing.{Deeds, IsFilledThere, StandsAt}
use Rattle.log_rounds.proofs.Wanting.{none_of_other}

module _ (core : Core) (steps : ℕ) (half : Half) (superstep : ℕ) (deeds : Deeds) (olds mids : List PortView) (logs : LogRun)
    (stands : StandsAt core steps half superstep deeds olds mids logs) where
  abbrev queues : ℕ → QueueView
  queues = queue_at (engine_of logs)

  -- the same, said otherwise
  pub restated : (others : Deeds) → others.log ≡ deeds.log
      → ((inputs : Inputs) → MayCome core queues stands.taken inputs → deeds.acts inputs.good ≡ others.acts inputs.good)
      → ((inputs : Inputs) → MayCome core queues stands.taken inputs → deeds.bytes inputs.good ≡ others.bytes inputs.good)
      → StandsAt core steps half superstep others olds mids logs
  restated others same acts bytes = record {
    acts = stands.acts;
    taken = stands.taken;
    fed = stands.fed;
    is_core = stands.is_core;
    is_half = stands.is_half;
    is_superstep = stands.is_superstep;
    parts = stands.parts;
    made = stands.made;
    told = stands.told;
    read = stands.read;
    piece = stands.piece;
    filled = stands.filled;
    unblocked = stands.unblocked;
    did = λ inputs can. stands.did inputs can ∙ acts inputs can;
    logged = λ apart inputs can.
        ap (λ log. bytes_for log stands.taken) same ∙ stands.logged (subst (IsApart core) same apart) inputs can ∙ bytes inputs can;
  }

  -- the block of the run is that of the whole run
  pub block_there : (inputs : Inputs) → MayCome core queues stands.taken inputs
      → block_at core (moment_of logs) ≡ block_at core (moment_at core (start core inputs.good) half superstep)
  block_there inputs can =
      let p = stands.piece inputs can in
      let whole : State = (moment_at core (start core inputs.good) half superstep).state in
      ap (λ h. block core h (moment_of logs).superstep (moment_of logs).state) stands.is_half
      ∙ ap (λ k. block core half k (moment_of logs).state) stands.is_superstep
      ∙ same_block core p.0 (later_of inputs stands.fed) (moment_of logs).state whole p.1 half superstep
      ∙ is_block half superstep (start core inputs.good)
    where
      is_block : (h : Half) (k : ℕ) (first : State) → block core h k (moment_at core first h k).state ≡ block_at core (moment_at core first h k)
      is_block Mid k first = refl
      is_block End k first = refl

  -- writes were made
  module _ (more : List Act) (news : List PortView) (made : Made more [] mids news) (also : List (List Value) → List Act)
      (are : (inputs : Inputs) → MayCome core queues stands.taken inputs → more ≡ also inputs.good) where
    pub written_on : StandsAt core steps half superstep (record deeds { acts = λ good. deeds.acts good ++ also good }) olds news logs
    written_on = record {
      acts = stands.acts ++ more;
      taken = stands.taken;
      fed = stands.fed;
      is_core = stands.is_core;
      is_half = stands.is_half;
      is_superstep = stands.is_superstep;
      parts = stands.parts;
      made = subst (λ pairs. Made (stands.acts ++ more) pairs olds news) (append-nil stands.taken)
          (Made-on stands.acts more stands.taken [] olds mids news stands.made made);
      told = stands.told;
      read = stands.read;
      piece = stands.piece;
      filled = stands.filled;
      unblocked = stands.unblocked;
      did = λ inputs can. ap (λ acts. acts ++ more) (stands.did inputs can) ∙ ap (λ acts. deeds.acts inputs.good ++ acts) (are inputs can);
      logged = stands.logged;
    }

  -- bytes of the log were read
  module _ (apart : IsApart core deeds.log) (bytes : List ℕ) (count : ℕ) (news : List PortView) where
    abbrev more_taken : Pairs
    more_taken = stands.taken ++ (deeds.log, bytes) ∷ []

    same_bytes : (n : ℕ) (stream : StreamC) → slice_get core.nodes n ≡ Some (From stream) → bytes_for stream.port more_taken ≡ bytes_for stream.port stands.taken
    same_bytes n stream is =
        none_of_other stream.port deeds.log bytes stands.taken (bytes_eq-swap stream.port deeds.log (apart n (From stream) stream is refl))

    may_before : (inputs : Inputs) → MayCome core queues more_taken inputs → MayCome core queues stands.taken inputs
    may_before inputs may = record {
      count = may.count;
      each = λ n stream is. (
          let comes = may.each n stream is in
          (comes.0, comes.1, subst (λ text. IsGoodUntil core.types (type_at core n) (text ++ comes.0) (listed inputs.good n) (inputs.bad n)) (same_bytes n stream is) comes.2));
      others = may.others;
    }

    read_still : HasRead core queues more_taken stands.fed
    read_still = record {
      given = stands.read.given;
      right = λ n stream is rest ends.
          subst (λ text. IsQueueOf core.types (type_at core n) (queues n) (text ++ rest) (stands.fed n) rest) (sym (same_bytes n stream is)) (stands.read.right n stream is rest ends);
      none = stands.read.none;
    }

    told_still : EndsAreTold core queues more_taken olds
    told_still n stream is ended = subst (λ text. IfSome (left_of stream.port olds) (λ left. left ≡ text)) (sym (same_bytes n stream is)) (stands.told n stream is ended)

    pub read_on : Progress mids news ((deeds.log, bytes) ∷ []) [] → Untouched (deeds.log ∷ []) mids news
        → StandsAt core steps half superstep
        (record { log = deeds.log; bytes = λ good. deeds.bytes good ++ bytes; acts = λ good. deeds.acts good ++ wants deeds.log count ∷ [] }) olds news logs
    read_on progress untouched = record {
      acts = stands.acts ++ wants deeds.log count ∷ [];
      taken = more_taken;
      fed = stands.fed;
      is_core = stands.is_core;
      is_half = stands.is_half;
      is_superstep = stands.is_superstep;
      parts = stands.parts;
      made = Made-on stands.acts (wants deeds.log count ∷ []) stands.taken ((deeds.log, bytes) ∷ []) olds mids news stands.made
          (want_made deeds.log count bytes mids news progress untouched);
      told = told_still;
      read = read_still;
      piece = λ inputs can. stands.piece inputs (may_before inputs can);
      filled = filled_still;
      unblocked = λ inputs can. stands.unblocked inputs (may_before inputs can);
      did = λ inputs can. ap (λ acts. acts ++ wants deeds.log count ∷ []) (stands.did inputs (may_before inputs can));
      logged = λ alone inputs can.
          bytes_for-append deeds.log stands.taken ((deeds.log, bytes) ∷ []) ∙ ap (λ last. bytes_for deeds.log stands.taken ++ last) (bytes_for-one deeds.log bytes)
          ∙ ap (λ front. front ++ bytes) (stands.logged apart inputs (may_before inputs can));
    }
      where
        still : (h : Half) → IsFilledThere core queues (moment_of logs).state stands.taken stands.fed h
            → IsFilledThere core queues (moment_of logs).state more_taken stands.fed h
        still Mid filled = λ inputs can. filled inputs (may_before inputs can)
        still End filled = tt

        filled_still : IsFilledThere core queues (moment_of logs).state more_taken stands.fed half
        filled_still = still half stands.filled

    -- what may come then might come before
    pub might_come : (progress : Progress mids news ((deeds.log, bytes) ∷ []) []) (untouched : Untouched (deeds.log ∷ []) mids news) (inputs : Inputs)
        → MayCome core queues (read_on progress untouched).taken inputs → MayCome core queues stands.taken inputs
    unfolding read_on
    might_come progress untouched inputs can = may_before inputs can
