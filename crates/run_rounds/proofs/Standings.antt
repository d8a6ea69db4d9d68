-- What is known of a run where it stands: what may come, how many values are wanted, and whether streams block the next round.
use Rattle.std.proofs.Common.{◌≡◌, ℕ, zero, suc, ◌+◌, ◌-◌, ◌<◌, Bool, false, List, [], ◌∷◌, ◌++◌, length, Some, slice_get, slice_set, ap, sym, ◌∙◌, subst, inl, arith, length-append, refl}
use Rattle.hume_base.specs.declared.types.Value.{Value}
use Rattle.hume_model.specs.declared.core_tree.NodeC.{NodeC}
use Rattle.hume_model.specs.declared.core_tree.NodeC.TheVariants.{From}
use Rattle.hume_model.specs.declared.core_tree.StreamC.{StreamC}
use Rattle.hume_model.specs.declared.core_tree.Core.{Core}
use Rattle.hume_net.specs.declared.state.State.{State}
use Rattle.hume_net.specs.Lockstep.{lockstep}
use Rattle.hume_net.specs.Nodes.{HasParts}
use Rattle.hume_net.specs.Parts.{IsStateOf}
use Rattle.hume_net.specs.Start.{start}
use Rattle.hume_net.specs.rounds.Blocked.{blocks}
use Rattle.hume_net.specs.rounds.Pieces.{IsPieceOf}
use Rattle.hume_net.specs.rounds.Rounds.{IsRound, begins, length_of, made}
use Rattle.hume_net.specs.rounds.Streams.{asserted_between}
use Rattle.hume_net.proofs.rounds_lemmas.RoundCounts.{begins_made}
use Rattle.hume_ports.specs.Port.{PortView}
use Rattle.hume_text.specs.Bounds.{IsPrintable}
use Rattle.port_acts.specs.Acts.{Act}
use Rattle.phase_workers.specs.Engines.{EngineView as Engine}
use Rattle.phase_workers.specs.Engines.{coming_at, queue_at, state_of}
use Rattle.phase_workers.specs.Runnable.{IsRunnable}
use Rattle.phase_workers.specs.StreamTypes.{type_at}
use Rattle.run_rounds.specs.Inputs.{Inputs, AreInputs, is_bad}
use Rattle.run_rounds.specs.RunActs.{needed}
use Rattle.run_rounds.specs.Runs.{Comes}
use Rattle.run_rounds.specs.Writes.{span_of}
use Rattle.run_rounds.specs.inner.Beginning.{MayBegin}
use Rattle.run_rounds.specs.inner.Reading.{MayCome, later_of}
use Rattle.run_rounds.specs.inner.Steps.{Stands}
use Rattle.run_rounds.proofs.Comings.{inputs_are}
use Rattle.run_rounds.proofs.Ending.{texts_read, texts_told, the_inputs, inputs_of_texts, they_may_come}
use Rattle.run_rounds.proofs.Filled.{node_goes_on}
use Rattle.run_rounds.proofs.Sharing.{shared}
use Rattle.run_rounds.proofs.StreamWires.{printable_type}

-- the texts of input streams can be printed
pub stream_printable : (core : Core) → IsRunnable core → (n : ℕ) (stream : StreamC) → slice_get core.nodes n ≡ Some (From stream)
    → IsPrintable core.types (type_at core n)
stream_printable core run n stream is = printable_type core run n (inl (inputs_are core n stream is))

-- whatever texts there are, something comes of them
pub has_inputs : (core : Core) → IsRunnable core → (texts : List ℕ → List ℕ) → (inputs : Inputs) × AreInputs core texts inputs
has_inputs core run texts = (
  the_inputs core run.formed.frame.sizes run.names (stream_printable core run) texts,
  inputs_of_texts core run.formed.frame.sizes run.names (stream_printable core run) texts,
)

-- a number below the length has its item
pub item_at : (nodes : List NodeC) (n : ℕ) → n < length nodes → (node : NodeC) × (slice_get nodes n ≡ Some node)
item_at [] n within = absurd (omega (arith, within))
item_at (node ∷ nodes) zero within = (node, refl)
item_at (node ∷ nodes) (suc n) within = item_at nodes n (omega (arith, within))

-- a state with a place for each node has the parts of each
pub parts_of : (core : Core) (state : State) → IsStateOf core state → HasParts core state
parts_of core state is = record { coming = is.coming; taken = is.taken }

pub length_set : (lists : List (List Value)) (n : ℕ) (list : List Value) → length (slice_set lists n list) ≡ length lists
length_set [] n list = refl
length_set (first ∷ lists) zero list = refl
length_set (first ∷ lists) (suc n) list = ap suc (length_set lists n list)

module _ (core : Core) (run : IsRunnable core) (traced : Bool) (steps done : ℕ) (acts_of : List (List Value) → List Act) (olds news : List PortView) (engine : Engine)
    (stands : Stands core traced steps done acts_of olds news engine) where
  abbrev pub inputs : Inputs
  inputs = the_inputs core run.formed.frame.sizes run.names (stream_printable core run) (texts_read olds stands.taken)

  pub may : MayCome core (queue_at engine) stands.taken inputs
  may = they_may_come core run.formed.frame.sizes run.names (stream_printable core run) (queue_at engine) stands.taken stands.acts olds news stands.made stands.told

  -- what the ports have to read, once it is known what was read
  abbrev pub comes : Comes core olds
  comes = record {
    texts = texts_read olds stands.taken;
    told = texts_told olds stands.taken;
    inputs = inputs;
    are = inputs_of_texts core run.formed.frame.sizes run.names (stream_printable core run) (texts_read olds stands.taken);
  }

  module _ (others : Inputs) (can : MayCome core (queue_at engine) stands.taken others) where
    -- of the values that came the first were asserted
    pub shares : (n : ℕ) (stream : StreamC) → slice_get core.nodes n ≡ Some (From stream)
        → stands.fed n
        ≡ asserted_between (start core others.good) (lockstep core (start core others.good) (made (span_of traced) steps done)) n ++ coming_at engine n
    shares n stream is =
        let p = stands.after.piece others can in
        shared core run.names (queue_at engine) stands.taken stands.fed stands.after.read others can (made (span_of traced) steps done) (state_of engine) p.0 p.1 n stream is

    module _ (is : IsRound (span_of traced) steps (suc done)) where
      pub begun : begins (span_of traced) (suc done) ≡ made (span_of traced) steps done
      begun = begins_made (span_of traced) steps done is.begins_within

      pub piece_now : IsPieceOf core (stands.after.piece others can).0 (later_of others stands.fed) (state_of engine)
          (lockstep core (start core others.good) (begins (span_of traced) (suc done)))
      piece_now = subst (λ k. IsPieceOf core (stands.after.piece others can).0 (later_of others stands.fed) (state_of engine) (lockstep core (start core others.good) k))
          (sym begun) (stands.after.piece others can).1

      -- how many values are wanted of a stream
      pub count_is : (want n : ℕ) (stream : StreamC) → slice_get core.nodes n ≡ Some (From stream) → want ≡ length_of (span_of traced) steps (suc done)
          → (length (stands.fed n) - length (coming_at engine n)) + want ≡ needed core others.good (span_of traced) steps (suc done) n
      count_is want n stream there wanted =
          let k : ℕ = made (span_of traced) steps done in
          let gone : List Value = asserted_between (start core others.good) (lockstep core (start core others.good) k) n in
          let all = ap length (shares n stream there) ∙ length-append gone (coming_at engine n) in
          let first : length (stands.fed n) - length (coming_at engine n) ≡ length gone = omega (arith, all) in
          ap (λ count. count + want) first
          ∙ ap (λ count. length gone + count) wanted
          ∙ ap (λ j. length (asserted_between (start core others.good) (lockstep core (start core others.good) j) n) + length_of (span_of traced) steps (suc done)) (sym begun)

      -- a stream that may begin doesn't block the round
      pub goes_on : (n want : ℕ) → n < length core.nodes → want ≡ length_of (span_of traced) steps (suc done)
          → ((stream : StreamC) → slice_get core.nodes n ≡ Some (From stream) → MayBegin core (queue_at engine) want (state_of engine) n)
          → blocks core others.good (is_bad others) (span_of traced) steps (suc done) n ≡ false
      goes_on n want within wanted begin =
          let item = item_at core.nodes n within in
          node_goes_on core run.names (queue_at engine) stands.taken stands.fed stands.after.read others can (span_of traced) steps (suc done) (state_of engine)
          (stands.after.piece others can).0 piece_now n item.0 item.1
          (λ stream there. subst (λ count. MayBegin core (queue_at engine) count (state_of engine) n) wanted (begin stream there))
