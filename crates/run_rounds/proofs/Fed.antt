-- One stream is filled: what was read then, and what comes later.
use Rattle.std.proofs.Common.{◌≡◌, ◌⊎◌, ℕ, Bool, true, false, cond, if◌then◌else◌, List, [], ◌∷◌, ◌++◌, length, drop, Option, Some, slice_get, slice_set, slice_index_or, refl, ap, sym, ◌∙◌, subst, inl, inr}
use Rattle.std.proofs.lemmas.List.{append_assoc, append-nil}
use Rattle.std.proofs.lemmas.Bool.{eq-eqb, ne_eqb}
use Rattle.std.proofs.lemmas.Bool.Decides.{eqb_tells}
use Rattle.std.proofs.Math.Seq.{drop-append_seam}
use Rattle.std.specs.Str.{bytes_eq}
use Rattle.hume_base.specs.declared.types.Value.{Value}
use Rattle.hume_model.specs.declared.core_tree.NodeC.{NodeC}
use Rattle.hume_model.specs.declared.core_tree.NodeC.TheVariants.{From}
use Rattle.hume_model.specs.declared.core_tree.StreamC.{StreamC}
use Rattle.hume_model.specs.declared.core_tree.Core.{Core}
use Rattle.hume_net.specs.declared.state.State.{State}
use Rattle.hume_net.specs.Nodes.{HasParts, IsInputStream}
use Rattle.hume_net.specs.Sides.{part_of}
use Rattle.hume_ports.specs.Delivery.{Pairs, bytes_for}
use Rattle.hume_ports.proofs.Names.{bytes_for-append, bytes_for-one, same_name}
use Rattle.hume_text.specs.Names.{HaveNames}
use Rattle.hume_streams.specs.Good.{IsGoodUntil}
use Rattle.hume_streams.specs.Queues.{QueueView, IsQueueOf}
use Rattle.phase_workers.specs.StreamTypes.{type_at}
use Rattle.hume_net.specs.rounds.Pieces.{IsPieceOf, listed, only}
use Rattle.hume_net.proofs.rounds_lemmas.OneNode.{fed_one}
use Rattle.run_rounds.specs.Streams.{ArePortsApart}
use Rattle.run_rounds.specs.Inputs.{Inputs}
use Rattle.run_rounds.specs.inner.Reading.{HasRead, MayCome, later_of}
use Rattle.run_rounds.proofs.Comings.{inputs_are, splits}

pub same_or_other : (a b : ℕ) → (a ≡ b) ⊎ (a ≡ b → ⊥)
same_or_other a b = elim (eqb_tells a b) [ inl same ↦ inl same.1 | inr other ↦ inr other.1 ]

pub only_here : (n m : ℕ) (values : List Value) → m ≡ n → only n values m ≡ values
only_here n m values same = ap (λ b. if b then values else []) (eq-eqb m n same)

pub none_elsewhere : (n m : ℕ) (values : List Value) → (m ≡ n → ⊥) → only n values m ≡ []
none_elsewhere n m values other = ap (λ b. if b then values else []) (ne_eqb m n other)

-- the values that came, with those of one node
abbrev pub with_values : ℕ → List Value → (ℕ → List Value) → ℕ → List Value
with_values n values fed m = fed m ++ only n values m

-- a piece to which the same values come later
pub piece_same : (core : Core) (earlier later other : ℕ → List Value) (piece whole : State)
    → ((n : ℕ) (node : NodeC) → slice_get core.nodes n ≡ Some node → later n ≡ other n)
    → IsPieceOf core earlier later piece whole → IsPieceOf core earlier other piece whole
piece_same core earlier later other piece whole same it = record {
  wires = it.wires;
  parts = λ n node is.
      it.parts n node is
      ∙ (λ i. record {
        pending = (part_of piece n).pending;
        order = (part_of piece n).order;
        coming = (part_of piece n).coming ++ same n node is i;
        taken = earlier n ++ (part_of piece n).taken;
      });
}

-- bytes of another port are not those of this one
other_bytes : (is_same : Bool) (name other bytes : List ℕ) → bytes_eq name other ≡ is_same → (name ≡ other → ⊥) → cond is_same (bytes ++ []) [] ≡ []
other_bytes true name other bytes same differ = absurd (differ (same_name name other same))
other_bytes false name other bytes same differ = refl

module _ (core : Core) (names : HaveNames core.types) (apart : ArePortsApart core) (queues after : ℕ → QueueView) (taken : Pairs) (fed : ℕ → List Value)
    (n : ℕ) (stream : StreamC) (is : slice_get core.nodes n ≡ Some (From stream)) (bytes : List ℕ) (values : List Value) where
  abbrev pub more : Pairs
  more = taken ++ (stream.port, bytes) ∷ []

  pub own_bytes : bytes_for stream.port more ≡ bytes_for stream.port taken ++ bytes
  own_bytes = bytes_for-append stream.port taken ((stream.port, bytes) ∷ []) ∙ ap (λ last. bytes_for stream.port taken ++ last) (bytes_for-one stream.port bytes)

  own_text : (rest : List ℕ) → bytes_for stream.port more ++ rest ≡ bytes_for stream.port taken ++ (bytes ++ rest)
  own_text rest = ap (λ text. text ++ rest) own_bytes ∙ append_assoc (bytes_for stream.port taken) bytes rest

  pub same_bytes : (m : ℕ) (other : StreamC) → slice_get core.nodes m ≡ Some (From other) → (m ≡ n → ⊥) → bytes_for other.port more ≡ bytes_for other.port taken
  same_bytes m other there differ =
      bytes_for-append other.port taken ((stream.port, bytes) ∷ [])
      ∙ ap (λ last. bytes_for other.port taken ++ last)
      (other_bytes (bytes_eq other.port stream.port) other.port stream.port bytes refl
      (λ same. differ (apart m n (From other) (From stream) other stream there is refl refl same)))
      ∙ append-nil (bytes_for other.port taken)

  abbrev Stays : Type 0
  Stays = (queues n).ended ≡ true → (bytes ≡ []) × ((after n).ended ≡ true)

  module _ (others : (m : ℕ) → (m ≡ n → ⊥) → after m ≡ queues m) (stays : Stays) where
    -- where nothing was left to read nothing was read
    was_ended : (rest : List ℕ) → ((after n).ended ≡ true → rest ≡ []) → (queues n).ended ≡ true → bytes ++ rest ≡ []
    was_ended rest ends ended = let s = stays ended in ap (λ first. first ++ rest) s.0 ∙ ends s.1

    module _ (m : ℕ) (other : StreamC) (there : slice_get core.nodes m ≡ Some (From other)) where
      -- what may come now might come before
      earlier_text : (inputs : Inputs) → MayCome core after more inputs → (m ≡ n) ⊎ (m ≡ n → ⊥)
          → (rest : List ℕ) × ((queues m).ended ≡ true → rest ≡ [])
          × IsGoodUntil core.types (type_at core m) (bytes_for other.port taken ++ rest) (listed inputs.good m) (inputs.bad m)
      earlier_text inputs may (inl same) =
          let comes = may.each n stream is in
          let P : ℕ → Type 0 = λ k. (o : StreamC) → slice_get core.nodes k ≡ Some (From o) → (rest : List ℕ) × ((queues k).ended ≡ true → rest ≡ [])
          × IsGoodUntil core.types (type_at core k) (bytes_for o.port taken ++ rest) (listed inputs.good k) (inputs.bad k) in
          let here : P n = λ o at. (
          let one : ◌≡◌ {A = Option NodeC} (Some (From o)) (Some (From stream)) = sym at ∙ is in
          let port : o.port ≡ stream.port = cc in (
            bytes ++ comes.0,
            was_ended comes.0 comes.1,
            subst (λ text. IsGoodUntil core.types (type_at core n) text (listed inputs.good n) (inputs.bad n))
                (own_text comes.0 ∙ ap (λ name. bytes_for name taken ++ (bytes ++ comes.0)) (sym port)) comes.2,
          )) in
          subst P (sym same) here other there
      earlier_text inputs may (inr differ) =
          let comes = may.each m other there in (
            comes.0,
            (λ ended. comes.1 (ap (λ (q : QueueView). q.ended) (others m differ) ∙ ended)),
            subst (λ text. IsGoodUntil core.types (type_at core m) text (listed inputs.good m) (inputs.bad m))
                (ap (λ text. text ++ comes.0) (same_bytes m other there differ)) comes.2,
          )

    pub before : (inputs : Inputs) → MayCome core after more inputs → MayCome core queues taken inputs
    before inputs may = record {
      count = may.count;
      each = λ m other there. earlier_text m other there inputs may (same_or_other m n);
      others = may.others;
    }

    module _ (read : HasRead core queues taken fed) (given : (m : ℕ) → (after m).values ≡ [])
        (goes_on : (text rest : List ℕ) → ((after n).ended ≡ true → rest ≡ [])
        → IsQueueOf core.types (type_at core n) (queues n) text (fed n) (bytes ++ rest)
        → IsQueueOf core.types (type_at core n) (after n) text (fed n ++ values) rest) where
      abbrev Right : ℕ → List ℕ → Type 0
      Right m rest = (other : StreamC) → slice_get core.nodes m ≡ Some (From other)
          → IsQueueOf core.types (type_at core m) (after m) (bytes_for other.port more ++ rest) (with_values n values fed m) rest

      right_here : (rest : List ℕ) → ((after n).ended ≡ true → rest ≡ []) → Right n rest
      right_here rest ends other at =
          let one : ◌≡◌ {A = Option NodeC} (Some (From other)) (Some (From stream)) = sym at ∙ is in
          let port : stream.port ≡ other.port = cc in
          let was = read.right n stream is (bytes ++ rest) (was_ended rest ends) in
          let now = goes_on (bytes_for stream.port taken ++ (bytes ++ rest)) rest ends was in
          let P : List ℕ → Type 0 = λ text. IsQueueOf core.types (type_at core n) (after n) text (with_values n values fed n) rest in
          let Q : List Value → Type 0 = λ came. IsQueueOf core.types (type_at core n) (after n) (bytes_for stream.port taken ++ (bytes ++ rest)) came rest in
          subst P (sym (own_text rest) ∙ ap (λ name. bytes_for name more ++ rest) port)
          (subst Q (ap (λ v. fed n ++ v) (sym (only_here n n values refl))) now)

      right_elsewhere : (m : ℕ) (other : StreamC) → slice_get core.nodes m ≡ Some (From other) → (m ≡ n → ⊥) → (rest : List ℕ)
          → ((after m).ended ≡ true → rest ≡ [])
          → IsQueueOf core.types (type_at core m) (after m) (bytes_for other.port more ++ rest) (with_values n values fed m) rest
      right_elsewhere m other there differ rest ends =
          let was = read.right m other there rest (λ ended. ends (ap (λ (q : QueueView). q.ended) (others m differ) ∙ ended)) in
          let P : QueueView → Type 0 = λ q. IsQueueOf core.types (type_at core m) q (bytes_for other.port taken ++ rest) (fed m) rest in
          let Q : List ℕ → Type 0 = λ text. IsQueueOf core.types (type_at core m) (after m) (text ++ rest) (fed m) rest in
          let R : List Value → Type 0 = λ came. IsQueueOf core.types (type_at core m) (after m) (bytes_for other.port more ++ rest) came rest in
          subst R (sym (append-nil (fed m)) ∙ ap (λ v. fed m ++ v) (sym (none_elsewhere n m values differ)))
          (subst Q (sym (same_bytes m other there differ)) (subst P (sym (others m differ)) was))

      right_at : (m : ℕ) (other : StreamC) → slice_get core.nodes m ≡ Some (From other) → (m ≡ n) ⊎ (m ≡ n → ⊥) → (rest : List ℕ)
          → ((after m).ended ≡ true → rest ≡ [])
          → IsQueueOf core.types (type_at core m) (after m) (bytes_for other.port more ++ rest) (with_values n values fed m) rest
      right_at m other there (inl same) rest ends =
          let P : ℕ → Type 0 = λ k. ((after k).ended ≡ true → rest ≡ []) → Right k rest in
          let here : P n = λ e. right_here rest e in
          subst P (sym same) here ends other there
      right_at m other there (inr differ) rest ends = right_elsewhere m other there differ rest ends

      none_at : (m : ℕ) (node : NodeC) → slice_get core.nodes m ≡ Some node → (IsInputStream core m → ⊥) → with_values n values fed m ≡ []
      none_at m node there other =
          let differ : m ≡ n → ⊥ = λ same. other (subst (IsInputStream core) (sym same) (inputs_are core n stream is)) in
          ap (λ v. fed m ++ v) (none_elsewhere n m values differ) ∙ append-nil (fed m) ∙ read.none m node there other

      pub read_more : HasRead core after more (with_values n values fed)
      read_more = record {
        given = given;
        right = λ m other there. right_at m other there (same_or_other m n);
        none = none_at;
      }

      -- what came later before are the values that came now, and then those that come later now
      later_splits : (inputs : Inputs) → MayCome core after more inputs → (m : ℕ) (node : NodeC) → slice_get core.nodes m ≡ Some node
          → later_of inputs fed m ≡ only n values m ++ later_of inputs (with_values n values fed) m
      later_splits inputs may m node there =
          let s = splits core names after more (with_values n values fed) read_more inputs may m node there in
          ap (drop (length (fed m))) (s ∙ append_assoc (fed m) (only n values m) (later_of inputs (with_values n values fed) m))
          ∙ drop-append_seam (fed m) (only n values m ++ later_of inputs (with_values n values fed) m)

      pub piece_fed : (inputs : Inputs) → MayCome core after more inputs → (earlier : ℕ → List Value) (state whole : State) → HasParts core state
          → IsPieceOf core earlier (later_of inputs fed) state whole
          → IsPieceOf core earlier (later_of inputs (with_values n values fed))
          (record state { coming = slice_set state.coming n (slice_index_or state.coming n [] ++ values) }) whole
      piece_fed inputs may earlier state whole parts it =
          fed_one core earlier (later_of inputs (with_values n values fed)) state whole parts n (From stream) is values
          (piece_same core earlier (later_of inputs fed) (λ m. only n values m ++ later_of inputs (with_values n values fed) m) state whole
          (later_splits inputs may) it)
