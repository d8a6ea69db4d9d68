-- What two cores of one net have in common, node by node and wire by wire.
use Rattle.std.proofs.Common.{◌≡◌, ℕ, Ok, List, [], ◌∷◌, map, Option, slice_get, refl, ap, sym, ◌∙◌}
use Rattle.std.specs.List.{cons_option, filter_map, find}
use Rattle.std.specs.Option.{option_map}
use Rattle.std.proofs.lemmas.Option.{slice_get-map}
use Rattle.hume_base.specs.declared.types.Value.{Value}
use Rattle.hume_model.specs.declared.core_tree.NodeC.{NodeC}
use Rattle.hume_model.specs.declared.core_tree.NodeC.TheVariants.{Rules, From, To}
use Rattle.hume_model.specs.declared.core_tree.StreamC.{StreamC}
use Rattle.hume_model.specs.declared.core_tree.Core.{Core}
use Rattle.hume_model.specs.WellFormed.{IsWellFormed}
use Rattle.hume_net.specs.Lockstep.{lockstep}
use Rattle.hume_net.specs.Start.{start}
use Rattle.phase_workers.specs.StreamTypes.{joins, type_at, type_of_found}
use Rattle.calculus_laws.specs.Boxes.{without_rules}
use Rattle.calculus_laws.proofs.SameNets.{start_written}
use Rattle.box_calculus.specs.Kept.{HasSameNet}
use Rattle.box_calculus.specs.Scripts.{scripted}
use Rattle.box_calculus.proofs.KeptByLines.{runs_kept, same_nets}
use Rattle.run_rounds.specs.Streams.{input_of, inputs, output_of, outputs, stream_of, streams}
use Rattle.form_laws.proofs.RewrittenStarts.{same_start, script_orders}

-- what rules don't enter
abbrev pub IsBlind : {X : Type 0} → (NodeC → X) → Type 0
IsBlind of = (node : NodeC) → of (without_rules node) ≡ of node

abbrev pub IsBlindAt : {X : Type 0} → (Option NodeC → X) → Type 0
IsBlindAt of = (o : Option NodeC) → of (option_map without_rules o) ≡ of o

filtered : (of : NodeC → Option StreamC) → IsBlind of → (nodes : List NodeC) → filter_map of (map without_rules nodes) ≡ filter_map of nodes
filtered of blind [] = refl
filtered of blind (node ∷ nodes) = λ i. cons_option (blind node i) (filtered of blind nodes i)

stream_blind : IsBlind stream_of
stream_blind (Rules b) = refl
stream_blind (From stream) = refl
stream_blind (To stream) = refl

input_blind : IsBlind input_of
input_blind (Rules b) = refl
input_blind (From stream) = refl
input_blind (To stream) = refl

output_blind : IsBlind output_of
output_blind (Rules b) = refl
output_blind (From stream) = refl
output_blind (To stream) = refl

module _ (core new : Core) (net : HasSameNet core new) where
  same_filtered : (of : NodeC → Option StreamC) → IsBlind of → filter_map of new.nodes ≡ filter_map of core.nodes
  same_filtered of blind = sym (filtered of blind new.nodes) ∙ ap (filter_map of) net.nodes ∙ filtered of blind core.nodes

  pub same_streams : streams new ≡ streams core
  same_streams = same_filtered stream_of stream_blind

  pub same_input_streams : inputs new ≡ inputs core
  same_input_streams = same_filtered input_of input_blind

  pub same_output_streams : outputs new ≡ outputs core
  same_output_streams = same_filtered output_of output_blind

  pub same_bare : (n : ℕ) → option_map without_rules (slice_get new.nodes n) ≡ option_map without_rules (slice_get core.nodes n)
  same_bare n =
      sym (slice_get-map without_rules new.nodes n) ∙ ap (λ nodes. slice_get nodes n) net.nodes ∙ slice_get-map without_rules core.nodes n

  -- what rules don't enter is the same of the nodes at a place
  pub same_at : {X : Type 0} (of : Option NodeC → X) → IsBlindAt of → (n : ℕ) → of (slice_get new.nodes n) ≡ of (slice_get core.nodes n)
  same_at of blind n = sym (blind (slice_get new.nodes n)) ∙ ap of (same_bare n) ∙ blind (slice_get core.nodes n)

  pub same_type : (n : ℕ) → type_at new n ≡ type_at core n
  same_type n = ap (λ wires. type_of_found (find (joins n) wires)) net.wires

-- Two cores have one net, which starts and runs alike.
pub record RunsAlike (core new : Core) : Type 0 where
  pub net : HasSameNet core new
  pub starts : (coming : List (List Value)) → start new coming ≡ start core coming
  pub runs : (coming : List (List Value)) (k : ℕ) → lockstep new (start new coming) k ≡ lockstep core (start core coming) k

pub starts_alike : (core new : Core) (script : List ℕ) → scripted core script ≡ Ok new → (coming : List (List Value)) → start new coming ≡ start core coming
starts_alike core new script made = same_start core new (same_nets core new script made) (script_orders core new script made)

pub runs_alike : (core new : Core) (script : List ℕ) → IsWellFormed core → scripted core script ≡ Ok new → RunsAlike core new
runs_alike core new script formed made = record {
  net = same_nets core new script made;
  starts = starts_alike core new script made;
  runs = λ coming k.
      ap (λ state. lockstep new state k) (starts_alike core new script made coming)
      ∙ runs_kept core new script formed made (start core coming) (start_written core coming) k;
}
