-- What may come, from what was read: the values that came and those that come later.
use Rattle.std.proofs.Common.{◌≡◌, ◌⊎◌, ℕ, List, [], ◌∷◌, ◌++◌, length, map, drop, Some, slice_get, refl, ap, sym, ◌∙◌, subst, inl, inr}
use Rattle.std.proofs.lemmas.List.{append-nil}
use Rattle.std.proofs.Math.Seq.{drop-append_seam}
use Rattle.hume_base.specs.declared.types.Ty.{Ty}
use Rattle.hume_base.specs.declared.types.Types.{Types}
use Rattle.hume_base.specs.declared.types.Value.{Value}
use Rattle.hume_base.specs.Flat.{flat}
use Rattle.hume_model.specs.declared.core_tree.NodeC.{NodeC}
use Rattle.hume_model.specs.declared.core_tree.NodeC.TheVariants.{Rules, From, To}
use Rattle.hume_model.specs.declared.core_tree.StreamC.{StreamC}
use Rattle.hume_model.specs.declared.core_tree.Core.{Core}
use Rattle.hume_net.specs.Nodes.{IsInput, IsInputStream}
use Rattle.hume_ports.specs.Delivery.{Pairs, bytes_for}
use Rattle.hume_text.specs.Names.{HaveNames}
use Rattle.hume_streams.specs.Queues.{QueueView}
use Rattle.hume_streams.proofs.GoodOnce.{queue_front}
use Rattle.phase_workers.specs.StreamTypes.{type_at}
use Rattle.hume_net.specs.rounds.Pieces.{listed}
use Rattle.run_rounds.specs.Inputs.{Inputs}
use Rattle.run_rounds.specs.inner.Reading.{HasRead, MayCome, later_of}

no_rows : (types : Types) (ty : Ty) (held : List Value) → map (flat types ty) held ≡ [] → held ≡ []
no_rows types ty [] none = refl
no_rows types ty (value ∷ held) none = cc

-- a node is an input stream, or it isn't
pub input_or_not : (core : Core) (n : ℕ) (node : NodeC) → slice_get core.nodes n ≡ Some node
    → ((stream : StreamC) × (slice_get core.nodes n ≡ Some (From stream))) ⊎ (IsInputStream core n → ⊥)
input_or_not core n (Rules b) is = inr (subst (λ o. IsInput o → ⊥) (sym is) (λ no. no))
input_or_not core n (From stream) is = inl (stream, is)
input_or_not core n (To stream) is = inr (subst (λ o. IsInput o → ⊥) (sym is) (λ no. no))

pub inputs_are : (core : Core) (n : ℕ) (stream : StreamC) → slice_get core.nodes n ≡ Some (From stream) → IsInputStream core n
inputs_are core n stream is = subst IsInput (sym is) tt

module _ (core : Core) (names : HaveNames core.types) (queues : ℕ → QueueView) (taken : Pairs) (fed : ℕ → List Value) (read : HasRead core queues taken fed)
    (inputs : Inputs) (may : MayCome core queues taken inputs) where
  -- an input stream's good values are those that came, and then others
  begins_with : (n : ℕ) (stream : StreamC) → slice_get core.nodes n ≡ Some (From stream) → (later : List Value) × (listed inputs.good n ≡ fed n ++ later)
  begins_with n stream is =
      let comes = may.each n stream is in
      let front = queue_front core.types (type_at core n) (queues n) (bytes_for stream.port taken ++ comes.0) comes.0 (fed n)
      (listed inputs.good n) (inputs.bad n) names (read.right n stream is comes.0 comes.1) comes.2 in
      let none : front.0 ≡ [] = no_rows core.types (type_at core n) front.0 (sym front.2 ∙ read.given n) in
      (front.1, front.3 ∙ ap (λ held. fed n ++ (held ++ front.1)) none)

  split_at : (n : ℕ) (later : List Value) → listed inputs.good n ≡ fed n ++ later → listed inputs.good n ≡ fed n ++ later_of inputs fed n
  split_at n later is = is ∙ ap (λ rest. fed n ++ rest) (sym (ap (drop (length (fed n))) is ∙ drop-append_seam (fed n) later))

  -- each node's values are those that came and those that come later
  pub splits : (n : ℕ) (node : NodeC) → slice_get core.nodes n ≡ Some node → listed inputs.good n ≡ fed n ++ later_of inputs fed n
  splits n node is = elim (input_or_not core n node is) [
    | inl input ↦ (let b = begins_with n input.0 input.1 in split_at n b.0 b.1)
    | inr other ↦ (let none = (may.others n node is other).0 in
        let never = read.none n node is other in
        split_at n [] (none ∙ sym (append-nil []) ∙ ap (λ came. came ++ []) (sym never)))
  ]
