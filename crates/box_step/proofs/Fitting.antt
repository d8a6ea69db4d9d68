-- From what matching finds to a rule that fires.
use Rattle.std.proofs.Common.{◌≡◌, ◌<◌, ◌^◌, ℕ, true, List, map, Option, Some, None, slice_get, refl, ap, sym, ◌∙◌, arith}
use Rattle.std.specs.List.{find}
use Rattle.std.specs.Option.{is_some, option_and_then, option_map}
use Rattle.std.proofs.lemmas.Option.{slice_get_within}
use Rattle.hume_model.specs.declared.core_tree.RuleC.{RuleC}
use Rattle.hume_model.specs.declared.core_tree.BoxC.{BoxC}
use Rattle.hume_model.specs.declared.core_tree.Core.{Core}
use Rattle.hume_model.specs.BoxTyping.{port_types}
use Rattle.hume_model.specs.Firing.{rule_fits}
use Rattle.hume_net.specs.declared.state.HalfStep.{HalfStep}
use Rattle.hume_net.specs.HalfSteps.{oldest}
use Rattle.code_laws.specs.Ending.{flat_outputs}
use Rattle.wire_cells.specs.Cells.{CellView}
use Rattle.box_step.specs.Views.{CompiledView}
use Rattle.box_step.specs.Boxes.{AreBareForms, IsAt}
use Rattle.match_rules.specs.Choosing.{first_fitting}
use Rattle.box_step.specs.inner.Firing.{Fires}
use Rattle.box_step.proofs.BareForms.{few_bare_rules, few_rules, first_same, no_rule, whole_rule}
use Rattle.box_step.proofs.Idling.{idle_at}

none_before : {X Y : Type 0} (f : X → Y) (o : Option X) → option_map f o ≡ None → o ≡ None
none_before f None is = refl
none_before f (Some x) is = cc

some_before : {X Y : Type 0} (f : X → Y) (o : Option X) (y : Y) → option_map f o ≡ Some y → is_some o ≡ true
some_before f None y is = cc
some_before f (Some x) y is = refl

module _ {core : Core} {b : BoxC} {before : HalfStep} {box : CompiledView} {cells : List CellView} {bare : Core} {bare_b : BoxC}
    (forms : AreBareForms core b bare bare_b) (at : IsAt core b before box cells) where
  abbrev found_bare : Option ℕ
  found_bare = find (λ number. rule_fits (map oldest before.side) (slice_get bare_b.rules number)) box.order

  -- what the bare box finds is what the whole one finds
  pub same_found : (result : Option ℕ) → result ≡ found_bare → first_fitting b before.part.order (map oldest before.side) ≡ result
  same_found result is =
      sym (is ∙ ap (λ order. first_fitting bare_b order (map oldest before.side)) at.box_at.order
      ∙ ap (λ x. first_fitting x before.part.order (map oldest before.side)) forms.box_is ∙ first_same b before.part.order (map oldest before.side))

  pub free : box.pending ≡ None → before.part.pending ≡ None
  free is = none_before (flat_outputs core.types (port_types b.outs)) before.part.pending (sym at.box_at.pending ∙ is)

  pub waits : (words : List (Option (List ℕ))) → box.pending ≡ Some words → is_some before.part.pending ≡ true
  waits words is = some_before (flat_outputs core.types (port_types b.outs)) before.part.pending words (sym at.box_at.pending ∙ is)

  pub small_number : (number : ℕ) (rule : RuleC) → slice_get bare_b.rules number ≡ Some rule → number < 2 ^ 32
  small_number number rule there =
      let inside = slice_get_within bare_b.rules number rule there in
      let many = few_bare_rules forms in
      let few = few_rules forms.sound in
      omega (arith, inside, many, few)

  pub fires_so : (number : ℕ) (rule : RuleC) → first_fitting b before.part.order (map oldest before.side) ≡ Some number
      → slice_get bare_b.rules number ≡ Some rule → before.part.pending ≡ None
      → Fires core b before (record box { work = 0 }) cells bare bare_b.fair number rule
  fires_so number rule found there unblocked =
      let whole = whole_rule b number rule (sym (ap (λ (x : BoxC). slice_get x.rules number) forms.box_is) ∙ there) in
      record {
        sound = forms.sound;
        core_is = forms.core_is;
        fair_is = ap (λ (x : BoxC). x.fair) forms.box_is;
        at = idle_at at;
        unblocked = unblocked;
        found = found;
        rule = whole.0;
        there = whole.1;
        rule_is = whole.2;
      }

  -- no rule is found, or there is none of the number
  pub none_there : (number : ℕ) → first_fitting b before.part.order (map oldest before.side) ≡ Some number → slice_get bare_b.rules number ≡ None
      → option_and_then (slice_get b.rules) (first_fitting b before.part.order (map oldest before.side)) ≡ None
  none_there number found missing =
      ap (option_and_then (slice_get b.rules)) found ∙ no_rule b number (sym (ap (λ (x : BoxC). slice_get x.rules number) forms.box_is) ∙ missing)
