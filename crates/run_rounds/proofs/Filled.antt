-- All streams are filled: the round may go on, or a stream blocks it.
use Rattle.std.proofs.Common.{◌≡◌, ◌⊎◌, ℕ, ◌+◌, ◌<◌, ◌≤◌, nat_lt, Bool, true, false, ◌&&◌, List, [], ◌++◌, length, drop, Option, None, Some, slice_get, refl, ap, sym, ◌∙◌, subst, inl, inr}
use Rattle.std.proofs.lemmas.Bool.{lt-ltb}
use Rattle.std.proofs.lemmas.List.{append-nil}
use Rattle.std.proofs.Math.Seq.{drop-append_seam}
use Rattle.std.specs.Option.{is_some}
use Rattle.hume_base.specs.declared.types.Value.{Value}
use Rattle.hume_model.specs.declared.core_tree.NodeC.{NodeC}
use Rattle.hume_model.specs.declared.core_tree.NodeC.TheVariants.{Rules, From, To}
use Rattle.hume_model.specs.declared.core_tree.StreamC.{StreamC}
use Rattle.hume_model.specs.declared.core_tree.Core.{Core}
use Rattle.hume_net.specs.declared.state.State.{State}
use Rattle.hume_net.specs.Lockstep.{lockstep}
use Rattle.hume_net.specs.Nodes.{IsInput}
use Rattle.hume_net.specs.Sides.{part_of}
use Rattle.hume_net.specs.Start.{start}
use Rattle.hume_ports.specs.Delivery.{Pairs, bytes_for}
use Rattle.hume_text.specs.Names.{HaveNames}
use Rattle.hume_streams.specs.Good.{IsGoodUntil}
use Rattle.hume_streams.specs.Queues.{QueueView, IsQueueOf}
use Rattle.hume_streams.proofs.GoodOnce.{good_once}
use Rattle.phase_workers.specs.StreamTypes.{type_at}
use Rattle.hume_net.specs.rounds.Blocked.{blocks}
use Rattle.hume_net.specs.rounds.Streams.{asserted_between}
use Rattle.hume_net.specs.rounds.Pieces.{IsFilled, IsPieceOf, listed}
use Rattle.hume_net.specs.rounds.Rounds.{begins, length_of}
use Rattle.hume_net.proofs.rounds_lemmas.Blocking.{blocks_at_its_end, filled_goes_on}
use Rattle.run_rounds.specs.Inputs.{Inputs, is_bad}
use Rattle.run_rounds.specs.inner.Reading.{HasRead, MayCome, later_of}
use Rattle.run_rounds.specs.inner.Beginning.{HasAllRead, MayBegin, StandsBeforeBad}
use Rattle.run_rounds.proofs.Comings.{input_or_not}
use Rattle.run_rounds.proofs.Sharing.{IsShared, shared}

drop_all : (values : List Value) → drop (length values) values ≡ []
drop_all values = ap (drop (length values)) (sym (append-nil values)) ∙ drop-append_seam values []

module _ (core : Core) (names : HaveNames core.types) (queues : ℕ → QueueView) (taken : Pairs) (fed : ℕ → List Value) (read : HasRead core queues taken fed)
    (inputs : Inputs) (may : MayCome core queues taken inputs) where
  module _ (n : ℕ) (stream : StreamC) (is : slice_get core.nodes n ≡ Some (From stream)) where
    none_later : fed n ≡ listed inputs.good n → later_of inputs fed n ≡ []
    none_later same = ap (λ came. drop (length came) (listed inputs.good n)) same ∙ drop_all (listed inputs.good n)

    pub all_came : (state : State) → IsShared fed state n → HasAllRead core queues state n → (later_of inputs fed n ≡ []) × (inputs.bad n ≡ None)
    all_came state shares all =
        let comes = may.each n stream is in
        let none : comes.0 ≡ [] = comes.1 all.ended in
        let text : List ℕ = bytes_for stream.port taken ++ [] in
        let P : List Value → Type 0 = λ came. IsQueueOf core.types (type_at core n) (queues n) text came [] in
        let Q : List Value → Type 0 = λ came. IsGoodUntil core.types (type_at core n) text came None in
        let here = subst Q (sym shares.1) (all.all text shares.0 (subst P shares.1 (read.right n stream is [] (λ ended. refl)))) in
        let there : IsGoodUntil core.types (type_at core n) text (listed inputs.good n) (inputs.bad n) =
        subst (λ rest. IsGoodUntil core.types (type_at core n) (bytes_for stream.port taken ++ rest) (listed inputs.good n) (inputs.bad n)) none comes.2 in
        let same = good_once core.types (type_at core n) text (fed n) (listed inputs.good n) None (inputs.bad n) names here there in
        (none_later same.0, sym same.1)

    pub bad_comes : (state : State) → IsShared fed state n → (Is : ℕ → Type 0) → StandsBeforeBad core queues state n Is
        → (number : ℕ) × Is number × (later_of inputs fed n ≡ []) × (inputs.bad n ≡ Some number)
    bad_comes state shares Is bad =
        let comes = may.each n stream is in
        let text : List ℕ = bytes_for stream.port taken ++ comes.0 in
        let P : List Value → Type 0 = λ came. IsQueueOf core.types (type_at core n) (queues n) text came comes.0 in
        let here = bad text shares.0 comes.0 (subst P shares.1 (read.right n stream is comes.0 comes.1)) in
        let Q : List Value → Type 0 = λ came. IsGoodUntil core.types (type_at core n) text came (Some here.0) in
        let same = good_once core.types (type_at core n) text (fed n) (listed inputs.good n) (Some here.0) (inputs.bad n) names (subst Q (sym shares.1) here.2) comes.2 in
        (here.0, here.1, none_later same.0, sym same.1)

  module _ (span steps round : ℕ) (state : State) (earlier : ℕ → List Value)
      (it : IsPieceOf core earlier (later_of inputs fed) state (lockstep core (start core inputs.good) (begins span round))) where
    pub shares : (n : ℕ) (stream : StreamC) → slice_get core.nodes n ≡ Some (From stream) → IsShared fed state n
    shares n stream is = (
      asserted_between (start core inputs.good) (lockstep core (start core inputs.good) (begins span round)) n,
      shared core names queues taken fed read inputs may (begins span round) state earlier it n stream is,
    )

    abbrev Blocks : ℕ → Bool
    Blocks n = blocks core inputs.good (is_bad inputs) span steps round n

    not_bad : (n : ℕ) → inputs.bad n ≡ None → Blocks n ≡ false
    not_bad n none =
        ap (λ b. is_some b && nat_lt (length (part_of (start core inputs.good) n).coming)
        (length (asserted_between (start core inputs.good) (lockstep core (start core inputs.good) (begins span round)) n) + length_of span steps round)) none

    pub stream_goes_on : (n : ℕ) (stream : StreamC) → slice_get core.nodes n ≡ Some (From stream) → MayBegin core queues (length_of span steps round) state n
        → Blocks n ≡ false
    stream_goes_on n stream is (inl enough) =
        filled_goes_on core inputs.good (is_bad inputs) span steps round n (From stream) is earlier (later_of inputs fed) state it enough
    stream_goes_on n stream is (inr all) = not_bad n (all_came n stream is state (shares n stream is) all).1

    pub node_goes_on : (n : ℕ) (node : NodeC) → slice_get core.nodes n ≡ Some node
        → ((stream : StreamC) → slice_get core.nodes n ≡ Some (From stream) → MayBegin core queues (length_of span steps round) state n) → Blocks n ≡ false
    node_goes_on n node is begin = elim (input_or_not core n node is) [
      | inl input ↦ stream_goes_on n input.0 input.1 (begin input.0 input.1)
      | inr other ↦ not_bad n (may.others n node is other).1
    ]

    pub stream_blocks : (n : ℕ) (stream : StreamC) → slice_get core.nodes n ≡ Some (From stream) → later_of inputs fed n ≡ [] → (number : ℕ)
        → inputs.bad n ≡ Some number
        → length (part_of state n).coming < length_of span steps round → Blocks n ≡ true
    stream_blocks n stream is none number bad few =
        blocks_at_its_end core inputs.good (is_bad inputs) span steps round n (From stream) is earlier (later_of inputs fed) state it none
        ∙ ap (λ b. is_some b && nat_lt (length (part_of state n).coming) (length_of span steps round)) bad
        ∙ lt-ltb (length (part_of state n).coming) (length_of span steps round) few

  filled_at : (want : ℕ) (state : State) (n : ℕ) (stream : StreamC) → slice_get core.nodes n ≡ Some (From stream) → IsShared fed state n
      → MayBegin core queues want state n
      → (later_of inputs fed n ≡ []) ⊎ (want ≤ length (part_of state n).coming)
  filled_at want state n stream is shares (inl enough) = inr enough
  filled_at want state n stream is shares (inr all) = inl (all_came n stream is state shares all).0

  stream_of_input : (o : Option NodeC) → IsInput o → (stream : StreamC) × (o ≡ Some (From stream))
  stream_of_input (Some (From stream)) input = (stream, refl)
  stream_of_input (Some (Rules b)) input = absurd input
  stream_of_input (Some (To stream)) input = absurd input
  stream_of_input None input = absurd input

  -- the net has what it may need
  pub is_filled : (want k : ℕ) (state : State) (earlier : ℕ → List Value)
      → IsPieceOf core earlier (later_of inputs fed) state (lockstep core (start core inputs.good) k)
      → ((n : ℕ) (stream : StreamC) → slice_get core.nodes n ≡ Some (From stream) → MayBegin core queues want state n)
      → IsFilled core want (later_of inputs fed) state
  is_filled want k state earlier it begin n input =
      let s = stream_of_input (slice_get core.nodes n) input in
      filled_at want state n s.0 s.1
      (asserted_between (start core inputs.good) (lockstep core (start core inputs.good) k) n, shared core names queues taken fed read inputs may k state earlier it n s.0 s.1)
      (begin n s.0 s.1)
