-- A fill of one stream's queue, and where the net and its queues are then.
use Rattle.std.proofs.Common.{◌≡◌, ℕ, zero, suc, ◌≤◌, Bool, true, false, List, [], ◌∷◌, ◌++◌, length, Option, None, Some, IfSome, slice_get, slice_set, slice_index_or, refl, ap, sym, ◌∙◌, subst, inl, inr}
use Rattle.std.proofs.lemmas.List.{append-nil}
use Rattle.std.specs.Io.KnownBytes.{Consumes, IsAtEnd}
use Rattle.hume_base.specs.declared.types.Value.{Value}
use Rattle.hume_model.specs.declared.core_tree.NodeC.{NodeC}
use Rattle.hume_model.specs.declared.core_tree.NodeC.TheVariants.{From}
use Rattle.hume_model.specs.declared.core_tree.StreamC.{StreamC}
use Rattle.hume_model.specs.declared.core_tree.Core.{Core}
use Rattle.hume_net.specs.declared.state.State.{State}
use Rattle.hume_net.specs.Nodes.{HasParts}
use Rattle.hume_net.specs.Sides.{part_of}
use Rattle.hume_net.specs.rounds.Pieces.{listed}
use Rattle.hume_ports.specs.Port.{PortView}
use Rattle.hume_ports.specs.Ports.{left_of}
use Rattle.hume_ports.specs.Delivery.{Pairs, Progress, bytes_for}
use Rattle.hume_ports.proofs.Progress.{Drawn-first}
use Rattle.hume_text.specs.Names.{HaveNames}
use Rattle.hume_streams.specs.Good.{IsGoodUntil}
use Rattle.hume_streams.specs.Queues.{QueueView, IsQueueOf}
use Rattle.phase_workers.specs.StreamTypes.{type_at}
use Rattle.run_rounds.specs.Streams.{ArePortsApart}
use Rattle.run_rounds.specs.Inputs.{Inputs}
use Rattle.run_rounds.specs.inner.Reading.{HasRead, MayCome}
use Rattle.run_rounds.specs.inner.Standing.{IsAfter, EndsAreTold}
use Rattle.run_rounds.specs.inner.Beginning.{MayBegin}
use Rattle.run_rounds.proofs.Fed.{before, more, with_values, read_more, piece_fed, same_or_other, own_bytes, same_bytes}

pub set_elsewhere : (lists : List (List Value)) (n m : ℕ) (list : List Value) → (m ≡ n → ⊥) → listed (slice_set lists n list) m ≡ listed lists m
set_elsewhere [] n m list other = refl
set_elsewhere (first ∷ lists) zero zero list other = absurd (other refl)
set_elsewhere (first ∷ lists) zero (suc m) list other = refl
set_elsewhere (first ∷ lists) (suc n) zero list other = refl
set_elsewhere (first ∷ lists) (suc n) (suc m) list other = set_elsewhere lists n m list (λ same. other (ap suc same))

-- the state in which these values come to the node too
abbrev fed_state : ℕ → List Value → State → State
fed_state n values state = record state { coming = slice_set state.coming n (slice_index_or state.coming n [] ++ values) }

-- what comes to other nodes is the same
module _ (core : Core) (queues after : ℕ → QueueView) (want n m : ℕ) (values : List Value) (state : State) (differ : m ≡ n → ⊥) (same : after m ≡ queues m) where
  same_coming : (part_of (fed_state n values state) m).coming ≡ (part_of state m).coming
  same_coming = set_elsewhere state.coming n m (slice_index_or state.coming n [] ++ values) differ

  pub begin_kept : MayBegin core queues want state m → MayBegin core after want (fed_state n values state) m
  begin_kept (inl enough) = inl (subst (λ (list : List Value). want ≤ length list) (sym same_coming) enough)
  begin_kept (inr all) =
      let P : List Value → Type 0 = λ coming. (text : List ℕ) (gone : List Value) → IsQueueOf core.types (type_at core m) (after m) text (gone ++ coming) []
      → IsGoodUntil core.types (type_at core m) text (gone ++ coming) None in
      inr (record {
        ended = ap (λ (q : QueueView). q.ended) same ∙ all.ended;
        all = subst P (sym same_coming) (λ text gone right. all.all text gone
            (subst (λ q. IsQueueOf core.types (type_at core m) q text (gone ++ (part_of state m).coming) []) same right));
      })

-- where nothing that a port told is left, all of it was taken
all_taken : (first now : Option (List ℕ)) (bytes : List ℕ) → Consumes first now bytes → IsAtEnd now → IfSome first (λ left. left ≡ bytes)
all_taken None now bytes consumes at_end = tt
all_taken (Some all) None bytes consumes at_end = absurd consumes
all_taken (Some all) (Some left) bytes consumes at_end = consumes ∙ ap (λ rest. bytes ++ rest) at_end ∙ append-nil bytes

module _ (core : Core) (names : HaveNames core.types) (apart : ArePortsApart core) (queues after : ℕ → QueueView) (taken : Pairs) (fed : ℕ → List Value)
    (n : ℕ) (stream : StreamC) (is : slice_get core.nodes n ≡ Some (From stream)) (bytes : List ℕ) (values : List Value)
    (others : (m : ℕ) → (m ≡ n → ⊥) → after m ≡ queues m) (stays : (queues n).ended ≡ true → (bytes ≡ []) × ((after n).ended ≡ true)) where
  abbrev More : Pairs
  More = more core names apart queues after taken fed n stream is bytes values

  own_end : (olds news : List PortView) (given : Pairs) → EndsAreTold core queues taken olds → Progress olds news More given
      → ((queues n).ended ≡ false → (after n).ended ≡ true → IsAtEnd (left_of stream.port news)) → (after n).ended ≡ true
      → (was : Bool) → (queues n).ended ≡ was → IfSome (left_of stream.port olds) (λ left. left ≡ bytes_for stream.port More)
  own_end olds news given told progress ended now false not_yet =
      all_taken (left_of stream.port olds) (left_of stream.port news) (bytes_for stream.port More)
      (Drawn-first olds news stream.port More progress.same_names progress.drawn) (ended not_yet now)
  own_end olds news given told progress ended now true was =
      let none : bytes ≡ [] = (stays was).0 in
      let same : bytes_for stream.port More ≡ bytes_for stream.port taken =
      own_bytes core names apart queues after taken fed n stream is bytes values ∙ ap (λ last. bytes_for stream.port taken ++ last) none
      ∙ append-nil (bytes_for stream.port taken) in
      subst (λ all. IfSome (left_of stream.port olds) (λ left. left ≡ all)) (sym same) (told n stream is was)

  -- a queue that is at its end has left nothing that was told
  pub told_more : (olds news : List PortView) (given : Pairs) → EndsAreTold core queues taken olds → Progress olds news More given
      → ((queues n).ended ≡ false → (after n).ended ≡ true → IsAtEnd (left_of stream.port news)) → EndsAreTold core after More olds
  told_more olds news given told progress ended m other there now = elim (same_or_other m n) [
    | inl same ↦ (
        let P : ℕ → Type 0 = λ k. (o : StreamC) → slice_get core.nodes k ≡ Some (From o) → (after k).ended ≡ true
        → IfSome (left_of o.port olds) (λ left. left ≡ bytes_for o.port More) in
        let here : P n = λ o at over. (
        let one : ◌≡◌ {A = Option NodeC} (Some (From stream)) (Some (From o)) = sym is ∙ at in
        let port : stream.port ≡ o.port = cc in
        subst (λ name. IfSome (left_of name olds) (λ left. left ≡ bytes_for name More)) port (own_end olds news given told progress ended over (queues n).ended refl)) in
        subst P (sym same) here other there now)
    | inr differ ↦ subst (λ all. IfSome (left_of other.port olds) (λ left. left ≡ all))
        (sym (same_bytes core names apart queues after taken fed n stream is bytes values m other there differ))
        (told m other there (ap (λ (q : QueueView). q.ended) (sym (others m differ)) ∙ now))
  ]

  module _ (read : HasRead core queues taken fed) (given : (m : ℕ) → (after m).values ≡ [])
      (goes_on : (text rest : List ℕ) → ((after n).ended ≡ true → rest ≡ [])
      → IsQueueOf core.types (type_at core n) (queues n) text (fed n) (bytes ++ rest)
      → IsQueueOf core.types (type_at core n) (after n) text (fed n ++ values) rest) (state : State) (parts : HasParts core state) where
    -- where the net is then
    pub after_fed : (span steps done : ℕ) → IsAfter core span steps done queues state taken fed
        → IsAfter core span steps done after (fed_state n values state) More (with_values n values fed)
    after_fed span steps done it = record {
      read = read_more core names apart queues after taken fed n stream is bytes values others stays read given goes_on;
      piece = λ inputs may. (
          let p = it.piece inputs (earlier_may inputs may) in
          (p.0, piece_fed core names apart queues after taken fed n stream is bytes values others stays read given goes_on inputs may p.0 state _ parts p.1));
      cleared = it.cleared;
      unblocked = λ inputs may. it.unblocked inputs (earlier_may inputs may);
    }
      where
        earlier_may : (inputs : Inputs) → MayCome core after More inputs → MayCome core queues taken inputs
        earlier_may inputs may = before core names apart queues after taken fed n stream is bytes values others stays inputs may
