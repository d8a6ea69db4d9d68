-- Texts and inputs of a run that has ended, chosen once all is read.
use Rattle.std.proofs.Common.{◌≡◌, ℕ, Bool, true, List, [], ◌++◌, length, Option, None, Some, IfSome, slice_get, refl, ap, sym, ◌∙◌, subst, inl, inr}
use Rattle.std.proofs.lemmas.List.{append-nil, append_cancel_left}
use Rattle.std.proofs.lemmas.Bool.{cases_lt}
use Rattle.std.proofs.lemmas.Option.{slice_get_past}
use Rattle.std.specs.Io.KnownBytes.{Consumes}
use Rattle.std.specs.Option.{unwrap_or}
use Rattle.hume_base.specs.declared.types.Value.{Value}
use Rattle.hume_base.specs.Sizes.{HaveTheirSizes}
use Rattle.hume_model.specs.declared.core_tree.NodeC.{NodeC}
use Rattle.hume_model.specs.declared.core_tree.NodeC.TheVariants.{Rules, From, To}
use Rattle.hume_model.specs.declared.core_tree.StreamC.{StreamC}
use Rattle.hume_model.specs.declared.core_tree.Core.{Core}
use Rattle.hume_net.specs.Nodes.{IsInputStream}
use Rattle.hume_net.specs.Sides.{numbered}
use Rattle.hume_net.proofs.Gathered.{numbered_get, numbered_past}
use Rattle.std.proofs.lemmas.List.FromFn.{length-map-range_with_len}
use Rattle.hume_ports.specs.Port.{PortView}
use Rattle.hume_ports.specs.Ports.{left_of}
use Rattle.hume_ports.specs.Delivery.{Pairs, bytes_for}
use Rattle.hume_ports.proofs.Progress.{Drawn-first}
use Rattle.port_acts.specs.Acts.{Act}
use Rattle.port_acts.specs.Ends.{Made}
use Rattle.hume_text.specs.Bounds.{IsPrintable}
use Rattle.hume_text.specs.Names.{HaveNames}
use Rattle.hume_streams.specs.Good.{IsGoodUntil}
use Rattle.hume_streams.specs.Queues.{QueueView}
use Rattle.hume_streams.proofs.GoodAlways.{good_always}
use Rattle.phase_workers.specs.StreamTypes.{type_at}
use Rattle.hume_net.specs.rounds.Pieces.{listed}
use Rattle.run_rounds.specs.Inputs.{Inputs, AreInputs, ComesTo}
use Rattle.run_rounds.specs.inner.Reading.{MayCome}
use Rattle.run_rounds.specs.inner.Standing.{EndsAreTold}
use Rattle.run_rounds.proofs.Comings.{inputs_are}

-- what comes to a node
pub comes_at : (core : Core) (texts : List ℕ → List ℕ) (inputs : Inputs) → AreInputs core texts inputs → (n : ℕ) (node : NodeC)
    → slice_get core.nodes n ≡ Some node
    → ComesTo core texts n (Some node) (listed inputs.good n) (inputs.bad n)
comes_at core texts inputs are n node is = subst (λ o. ComesTo core texts n o (listed inputs.good n) (inputs.bad n)) is (are.each n)

told_self : (left : Option (List ℕ)) (bytes : List ℕ) → IfSome left (λ known. unwrap_or left bytes ≡ known)
told_self None bytes = tt
told_self (Some known) bytes = refl

no_more : (all bytes left : List ℕ) → all ≡ bytes ++ left → all ≡ bytes → left ≡ []
no_more all bytes left consumes same = append_cancel_left bytes left [] (sym consumes ∙ same ∙ sym (append-nil bytes))

-- the text of a port is what was read of it, and a rest
text_rest : (before after : Option (List ℕ)) (bytes : List ℕ) (ended : Bool) → Consumes before after bytes
    → (ended ≡ true → IfSome before (λ left. left ≡ bytes))
    → (rest : List ℕ) × (ended ≡ true → rest ≡ []) × (unwrap_or before bytes ≡ bytes ++ rest)
text_rest None after bytes ended consumes at_end = ([], (λ e. refl), sym (append-nil bytes))
text_rest (Some all) None bytes ended consumes at_end = absurd consumes
text_rest (Some all) (Some left) bytes ended consumes at_end = (left, (λ e. no_more all bytes left consumes (at_end e)), consumes)

-- what each port tells, or else what was read of it
abbrev pub texts_read : List PortView → Pairs → List ℕ → List ℕ
texts_read olds taken name = unwrap_or (left_of name olds) (bytes_for name taken)

pub texts_told : (olds : List PortView) (taken : Pairs) (name : List ℕ) → IfSome (left_of name olds) (λ left. texts_read olds taken name ≡ left)
texts_told olds taken name = told_self (left_of name olds) (bytes_for name taken)

module _ (core : Core) (sizes : HaveTheirSizes core.types) (names : HaveNames core.types)
    (printable : (n : ℕ) (stream : StreamC) → slice_get core.nodes n ≡ Some (From stream) → IsPrintable core.types (type_at core n)) where
  module _ (texts : List ℕ → List ℕ) where
    abbrev choice : (n : ℕ) (o : Option NodeC) → slice_get core.nodes n ≡ o → List Value × Option ℕ
    choice n (Some (From stream)) is = let g = good_always core.types (type_at core n) sizes names (printable n stream is) (texts stream.port) in (g.0, g.1)
    choice n (Some (Rules b)) is = ([], None)
    choice n (Some (To stream)) is = ([], None)
    choice n None is = ([], None)

    abbrev chosen : ℕ → List Value × Option ℕ
    chosen n = choice n (slice_get core.nodes n) refl

    abbrev pub the_inputs : Inputs
    the_inputs = record { good = numbered (length core.nodes) (λ n. (chosen n).0); bad = λ n. (chosen n).1 }

    none_chosen : (n : ℕ) (o : Option NodeC) (e : slice_get core.nodes n ≡ o) → o ≡ None → (choice n o e).0 ≡ []
    none_chosen n None e none = refl
    none_chosen n (Some node) e none = cc

    good_at : (n : ℕ) → listed the_inputs.good n ≡ (chosen n).0
    good_at n = elim (cases_lt n (length core.nodes)) [
      | inl lt ↦ ap (λ o. unwrap_or o []) (numbered_get (length core.nodes) (λ n. (chosen n).0) n lt)
      | inr past ↦ ap (λ o. unwrap_or o []) (numbered_past 0 (length core.nodes) (λ n. (chosen n).0) n past) ∙ sym (none_chosen n _ refl (slice_get_past core.nodes n past))
    ]

    comes_to : (n : ℕ) (o : Option NodeC) (e : slice_get core.nodes n ≡ o) → ComesTo core texts n o (choice n o e).0 (choice n o e).1
    comes_to n (Some (From stream)) e = (good_always core.types (type_at core n) sizes names (printable n stream e) (texts stream.port)).2
    comes_to n (Some (Rules b)) e = (refl, refl)
    comes_to n (Some (To stream)) e = (refl, refl)
    comes_to n None e = (refl, refl)

    pub inputs_of_texts : AreInputs core texts the_inputs
    inputs_of_texts = record {
      count = length-map-range_with_len (λ n. (chosen n).0) 0 (length core.nodes);
      each = λ n. subst (λ good. ComesTo core texts n (slice_get core.nodes n) good (chosen n).1) (sym (good_at n)) (comes_to n (slice_get core.nodes n) refl);
    }

    none_comes : (n : ℕ) (node : NodeC) (good : List Value) (bad : Option ℕ) → slice_get core.nodes n ≡ Some node → (IsInputStream core n → ⊥)
        → ComesTo core texts n (Some node) good bad → (good ≡ []) × (bad ≡ None)
    none_comes n (From stream) good bad is other comes = absurd (other (inputs_are core n stream is))
    none_comes n (To stream) good bad is other comes = comes
    none_comes n (Rules b) good bad is other comes = comes

  module _ (queues : ℕ → QueueView) (taken : Pairs) (acts : List Act) (olds news : List PortView) (did : Made acts taken olds news) (told : EndsAreTold core queues taken olds) where
    abbrev inputs : Inputs
    inputs = the_inputs (texts_read olds taken)

    are : AreInputs core (texts_read olds taken) inputs
    are = inputs_of_texts (texts_read olds taken)

    pub they_may_come : MayCome core queues taken inputs
    they_may_come = record {
      count = are.count;
      each = λ n stream is. (
          let drawn = Drawn-first olds news stream.port taken did.progress.same_names did.progress.drawn in
          let t = text_rest (left_of stream.port olds) (left_of stream.port news) (bytes_for stream.port taken) (queues n).ended drawn (told n stream is) in
          (t.0, t.1, subst (λ text. IsGoodUntil core.types (type_at core n) text (listed inputs.good n) (inputs.bad n)) t.2 (comes_at core (texts_read olds taken) inputs are n (From stream) is)));
      others = λ n node is other. none_comes (texts_read olds taken) n node (listed inputs.good n) (inputs.bad n) is other (comes_at core (texts_read olds taken) inputs are n node is);
    }
