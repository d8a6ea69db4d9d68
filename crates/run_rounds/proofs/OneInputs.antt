-- What comes to a run from the texts of its streams is one thing.
use Rattle.std.proofs.Common.{◌≡◌, ℕ, List, [], length, Option, None, Some, slice_get, sym, ◌∙◌, arith}
use Rattle.std.proofs.lemmas.List.{same_lists, get_or_default}
use Rattle.std.proofs.lemmas.Option.{unwrap_or-slice_get}
use Rattle.hume_base.specs.declared.types.Value.{Value}
use Rattle.hume_model.specs.declared.core_tree.NodeC.{NodeC}
use Rattle.hume_model.specs.declared.core_tree.NodeC.TheVariants.{Rules, From, To}
use Rattle.hume_model.specs.declared.core_tree.Core.{Core}
use Rattle.hume_text.specs.Names.{HaveNames}
use Rattle.hume_streams.proofs.GoodOnce.{good_once}
use Rattle.phase_workers.specs.StreamTypes.{type_at}
use Rattle.hume_net.specs.rounds.Pieces.{listed}
use Rattle.run_rounds.specs.Inputs.{Inputs, AreInputs, ComesTo}

module _ (core : Core) (names : HaveNames core.types) (texts : List ℕ → List ℕ) where
  one_comes : (n : ℕ) (o : Option NodeC) (good values : List Value) (bad other : Option ℕ) → ComesTo core texts n o good bad
      → ComesTo core texts n o values other
      → (good ≡ values) × (bad ≡ other)
  one_comes n (Some (From stream)) good values bad other p q = good_once core.types (type_at core n) (texts stream.port) good values bad other names p q
  one_comes n (Some (To stream)) good values bad other p q = (p.0 ∙ sym q.0, p.1 ∙ sym q.1)
  one_comes n (Some (Rules b)) good values bad other p q = (p.0 ∙ sym q.0, p.1 ∙ sym q.1)
  one_comes n None good values bad other p q = (p.0 ∙ sym q.0, p.1 ∙ sym q.1)

  module _ (first second : Inputs) (p : AreInputs core texts first) (q : AreInputs core texts second) where
    same : (n : ℕ) → (listed first.good n ≡ listed second.good n) × (first.bad n ≡ second.bad n)
    same n = one_comes n (slice_get core.nodes n) (listed first.good n) (listed second.good n) (first.bad n) (second.bad n) (p.each n) (q.each n)

    long : length first.good ≡ length second.good
    long = p.count ∙ sym q.count

    same_good : first.good ≡ second.good
    same_good = same_lists first.good second.good long (λ k d lt.
        get_or_default first.good k d [] lt ∙ sym (unwrap_or-slice_get first.good k []) ∙ (same k).0
        ∙ unwrap_or-slice_get second.good k [] ∙ sym (get_or_default second.good k d [] (omega (arith, long))))

    pub one_inputs : first ≡ second
    one_inputs = λ i. record { good = same_good i; bad = λ n. (same n).1 i }
