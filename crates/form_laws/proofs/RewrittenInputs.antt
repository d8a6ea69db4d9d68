-- To two cores of one net the same comes from the same texts.
use Rattle.std.proofs.Common.{◌≡◌, ◌↔◌, ℕ, List, Option, Some, None, Ok, slice_get, sym, ◌∙◌, subst}
use Rattle.std.specs.Option.{option_map}
use Rattle.hume_base.specs.declared.types.Ty.{Ty}
use Rattle.hume_base.specs.declared.types.Types.{Types}
use Rattle.hume_base.specs.declared.types.Value.{Value}
use Rattle.hume_model.specs.declared.core_tree.NodeC.{NodeC}
use Rattle.hume_model.specs.declared.core_tree.NodeC.TheVariants.{Rules, From, To}
use Rattle.hume_model.specs.declared.core_tree.Core.{Core}
use Rattle.hume_net.specs.rounds.Pieces.{listed}
use Rattle.hume_streams.specs.Good.{IsGoodUntil}
use Rattle.phase_workers.specs.StreamTypes.{type_at}
use Rattle.calculus_laws.specs.Boxes.{without_rules}
use Rattle.box_calculus.specs.Kept.{HasSameNet}
use Rattle.box_calculus.specs.Scripts.{scripted}
use Rattle.box_calculus.proofs.KeptByLines.{same_nets}
use Rattle.run_rounds.specs.Inputs.{AreInputs, ComesTo, Inputs}
use Rattle.form_laws.proofs.RewrittenStarts.{same_count}
use Rattle.form_laws.proofs.RewrittenNodes.{same_bare, same_type}

module _ (texts : List ℕ → List ℕ) (n : ℕ) (good : List Value) (bad : Option ℕ) where
  -- rules don't matter to what comes
  to_bare : (core : Core) (o : Option NodeC) → ComesTo core texts n o good bad → ComesTo core texts n (option_map without_rules o) good bad
  to_bare core None comes = comes
  to_bare core (Some (Rules b)) comes = comes
  to_bare core (Some (From stream)) comes = comes
  to_bare core (Some (To stream)) comes = comes

  from_bare : (core : Core) (o : Option NodeC) → ComesTo core texts n (option_map without_rules o) good bad → ComesTo core texts n o good bad
  from_bare core None comes = comes
  from_bare core (Some (Rules b)) comes = comes
  from_bare core (Some (From stream)) comes = comes
  from_bare core (Some (To stream)) comes = comes

  comes_too : (core new : Core) → HasSameNet core new → (o : Option NodeC) → ComesTo core texts n o good bad → ComesTo new texts n o good bad
  comes_too core new net None comes = comes
  comes_too core new net (Some (Rules b)) comes = comes
  comes_too core new net (Some (From stream)) comes =
      subst (λ (types : Types). IsGoodUntil types (type_at new n) (texts stream.port) good bad) (sym net.types)
      (subst (λ (ty : Ty). IsGoodUntil core.types ty (texts stream.port) good bad) (sym (same_type core new net n)) comes)
  comes_too core new net (Some (To stream)) comes = comes

  comes_at : (core new : Core) → HasSameNet core new → ComesTo core texts n (slice_get core.nodes n) good bad
      → ComesTo new texts n (slice_get new.nodes n) good bad
  comes_at core new net comes =
      let bare = comes_too core new net (option_map without_rules (slice_get core.nodes n)) (to_bare core (slice_get core.nodes n) comes) in
      from_bare new (slice_get new.nodes n) (subst (λ (o : Option NodeC). ComesTo new texts n o good bad) (sym (same_bare core new net n)) bare)

inputs_too : (core new : Core) → HasSameNet core new → (texts : List ℕ → List ℕ) (coming : Inputs) → AreInputs core texts coming → AreInputs new texts coming
inputs_too core new net texts coming are = record {
  count = are.count ∙ sym (same_count core new net);
  each = λ n. comes_at texts n (listed coming.good n) (coming.bad n) core new net (are.each n);
}

other_way : (core new : Core) → HasSameNet core new → HasSameNet new core
other_way core new net = record { types = sym net.types; exns = sym net.exns; nodes = sym net.nodes; wires = sym net.wires }

pub same_inputs : (core new : Core) (script : List ℕ) → scripted core script ≡ Ok new
    → (texts : List ℕ → List ℕ) (coming : Inputs) → AreInputs new texts coming ↔ AreInputs core texts coming
same_inputs core new script made texts coming =
    let net = same_nets core new script made in
    (inputs_too new core (other_way core new net) texts coming, inputs_too core new net texts coming)
