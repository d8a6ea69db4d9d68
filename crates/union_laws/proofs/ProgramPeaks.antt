-- Each program of a list starts in the union of all as it starts alone, and its nodes take there what they take alone.
use Rattle.std.proofs.Common.{◌≡◌, ℕ, ◌+◌, ◌<◌, List, [], ◌∷◌, length, map, take, drop, None, Option, Some, slice_get, refl, ap, sym, ◌∙◌, subst, arith}
use Rattle.std.specs.List.{All}
use Rattle.std.specs.Option.{option_to_list}
use Rattle.std.proofs.lemmas.List.{length-map}
use Rattle.std.proofs.lemmas.List.Elements.{All-head, All-tail}
use Rattle.hume_base.specs.declared.types.Value.{Value}
use Rattle.hume_model.specs.declared.core_tree.Core.{Core}
use Rattle.hume_model.specs.declared.core_tree.WireC.{WireC}
use Rattle.hume_net.specs.declared.state.State.{State}
use Rattle.hume_net.specs.Sides.{numbered}
use Rattle.hume_net.specs.Start.{start, written_order}
use Rattle.hume_net.proofs.Starts.{length-numbered}
use Rattle.net_costs.specs.Steps.{peaks}
use Rattle.union_laws.specs.Union.{followed_by, no_program, united, united_all}
use Rattle.union_laws.specs.Shares.{left, right, share}
use Rattle.union_laws.proofs.AloneInUnions.{union_alone}
use Rattle.union_laws.proofs.Programs.{among, left_left, none_alone, right_left, self_stands, take_all, take_less, take_rest}
use Rattle.union_laws.proofs.SharedNets.{RunsAlone}
use Rattle.union_laws.proofs.SharedPeaks.{left_peaks, peaks_same, right_peaks}
use Rattle.union_laws.proofs.Starts.{left_start, right_start}
use Rattle.union_laws.proofs.Unions.{all_nodes, left_share}
use Rattle.union_laws.proofs.Unmoved.{unmoved}

-- peaks

own_peaks : (core : Core) → RunsAlone core → (s : State) (steps n : ℕ) → n < length core.nodes → peaks core s steps n ≡ peaks core (left core s) steps n
own_peaks core alone s steps n within =
    let at : 0 + n ≡ n = omega arith in
    ap (peaks core s steps) (sym at) ∙ peaks_same unmoved 0 core core alone (self_stands core) s (left core s) (left_share core s) steps n within

first_peaks : (core : Core) (others : List Core) → RunsAlone core → All RunsAlone others → (s : State) (steps n : ℕ) → n < length core.nodes
    → peaks (followed_by core others) s steps n ≡ peaks core (left core s) steps n
first_peaks core [] alone each s steps n within = own_peaks core alone s steps n within
first_peaks core (next ∷ others) alone each s steps n within =
    let both : Core = united core next in
    let more : n < length both.nodes = omega (arith, within, all_nodes core next) in
    first_peaks both others (union_alone core next alone (All-head RunsAlone next others each)) (All-tail RunsAlone next others each) s steps n more
    ∙ left_peaks core next alone (left both s) steps n within
    ∙ ap (λ t. peaks core t steps n) (left_left core next s)

pub share_peaks : (programs : List Core) → All RunsAlone programs → (place : ℕ) (program : Core) → slice_get programs place ≡ Some program
    → (s : State) (steps n : ℕ) → n < length program.nodes
    → peaks (united_all programs) s steps (length (united_all (take place programs)).nodes + n) ≡ peaks program (share programs place program s) steps n
share_peaks programs each place program found s steps n within =
    let at = among no_program programs place program none_alone each found in
    let before : Core = united_all (take place programs) in
    let both : Core = united before program in
    let number : ℕ = length before.nodes + n in
    ap (λ core. peaks core s steps number) at.whole
    ∙ first_peaks both at.later (union_alone before program at.before_alone at.alone) at.later_alone s steps number (omega (arith, within, all_nodes before program))
    ∙ right_peaks before program at.before_alone at.alone (left both s) steps n within
    ∙ ap (λ t. peaks program t steps n) (right_left before program s)

-- starts

own_start : (core : Core) (coming : List (List Value)) → left core (start core coming) ≡ start core (take (length core.nodes) coming)
own_start core coming = λ i. record {
  wires = take_all (length core.wires) (map (λ (wire : WireC). option_to_list wire.initial) core.wires) (length-map core.wires (λ wire. option_to_list wire.initial)) i;
  pending = take_all (length core.nodes) (start core coming).pending (length-numbered (length core.nodes) (λ n. None)) i;
  orders = take_all (length core.nodes) (map written_order core.nodes) (length-map core.nodes written_order) i;
  coming = take (length core.nodes) coming;
  taken = take_all (length core.nodes) (start core coming).taken (length-numbered (length core.nodes) (λ n. [])) i;
}

first_start : (core : Core) (others : List Core) (coming : List (List Value))
    → left core (start (followed_by core others) coming) ≡ start core (take (length core.nodes) coming)
first_start core [] coming = own_start core coming
first_start core (next ∷ others) coming =
    let both : Core = united core next in
    sym (left_left core next (start (followed_by both others) coming))
    ∙ ap (left core) (first_start both others coming)
    ∙ left_start core next (take (length both.nodes) coming)
    ∙ ap (start core) (take_less (length core.nodes) (length next.nodes) (length both.nodes) coming (all_nodes core next))

pub share_start : (programs : List Core) → All RunsAlone programs → (place : ℕ) (program : Core) → slice_get programs place ≡ Some program
    → (coming : List (List Value))
    → share programs place program (start (united_all programs) coming)
    ≡ start program (take (length program.nodes) (drop (length (united_all (take place programs)).nodes) coming))
share_start programs each place program found coming =
    let at = among no_program programs place program none_alone each found in
    let before : Core = united_all (take place programs) in
    let both : Core = united before program in
    ap (λ core. left program (right before (start core coming))) at.whole
    ∙ sym (right_left before program (start (followed_by both at.later) coming))
    ∙ ap (right before) (first_start both at.later coming)
    ∙ right_start before program (take (length both.nodes) coming)
    ∙ ap (start program) (take_rest (length before.nodes) (length program.nodes) (length both.nodes) coming (all_nodes before program))
