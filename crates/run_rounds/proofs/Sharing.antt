-- Of the values that came to an input stream, it has asserted the first, and the others are to come.
use Rattle.std.proofs.Common.{◌≡◌, ℕ, List, ◌++◌, Some, slice_get, ap, sym, ◌∙◌}
use Rattle.std.proofs.lemmas.List.{append_assoc, append_cancel_right}
use Rattle.hume_base.specs.declared.types.Value.{Value}
use Rattle.hume_model.specs.declared.core_tree.NodeC.TheVariants.{From}
use Rattle.hume_model.specs.declared.core_tree.StreamC.{StreamC}
use Rattle.hume_model.specs.declared.core_tree.Core.{Core}
use Rattle.hume_net.specs.declared.state.Part.{Part}
use Rattle.hume_net.specs.declared.state.State.{State}
use Rattle.hume_net.specs.Lockstep.{lockstep}
use Rattle.hume_net.specs.Sides.{part_of}
use Rattle.hume_net.specs.Start.{start}
use Rattle.hume_net.specs.rounds.Pieces.{IsPieceOf, listed}
use Rattle.hume_net.specs.rounds.Streams.{asserted_between}
use Rattle.hume_net.proofs.rounds_lemmas.AheadOfStreams.{all_asserted}
use Rattle.hume_ports.specs.Delivery.{Pairs}
use Rattle.hume_text.specs.Names.{HaveNames}
use Rattle.hume_streams.specs.Queues.{QueueView}
use Rattle.run_rounds.specs.Inputs.{Inputs}
use Rattle.run_rounds.specs.inner.Reading.{HasRead, MayCome, later_of}
use Rattle.run_rounds.proofs.Comings.{splits}

-- the values are some that have gone, and those that are to come
abbrev pub IsShared : (ℕ → List Value) → State → ℕ → Type 0
IsShared fed state n = (gone : List Value) × (fed n ≡ gone ++ (part_of state n).coming)

pub shared : (core : Core) → HaveNames core.types → (queues : ℕ → QueueView) (taken : Pairs) (fed : ℕ → List Value) → HasRead core queues taken fed
    → (inputs : Inputs) → MayCome core queues taken inputs → (k : ℕ) (state : State) (earlier : ℕ → List Value)
    → IsPieceOf core earlier (later_of inputs fed) state (lockstep core (start core inputs.good) k)
    → (n : ℕ) (stream : StreamC) → slice_get core.nodes n ≡ Some (From stream)
    → fed n ≡ asserted_between (start core inputs.good) (lockstep core (start core inputs.good) k) n ++ (part_of state n).coming
shared core names queues taken fed read inputs may k state earlier it n stream is =
    let first : State = start core inputs.good in
    let whole : State = lockstep core first k in
    let later : List Value = later_of inputs fed n in
    let gone : List Value = asserted_between first whole n in
    let now : (part_of whole n).coming ≡ (part_of state n).coming ++ later = ap (λ (part : Part). part.coming) (it.parts n (From stream) is) in
    let all : listed inputs.good n ≡ gone ++ (part_of whole n).coming = all_asserted core first k n (From stream) is in
    let good : listed inputs.good n ≡ fed n ++ later = splits core names queues taken fed read inputs may n (From stream) is in
    append_cancel_right (fed n) (gone ++ (part_of state n).coming) later
    (sym good ∙ all ∙ ap (λ (values : List Value). gone ++ values) now ∙ sym (append_assoc gone (part_of state n).coming later))
