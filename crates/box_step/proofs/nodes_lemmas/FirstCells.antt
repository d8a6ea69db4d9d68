-- Cells of nodes before their first half step.
use Rattle.std.proofs.Common.{◌≡◌, ◌≤◌, ℕ, max, [], map, Option, Some, Result, Ok, Err, IfOk, slice_get, ap, sym, ◌∙◌, subst}
use Rattle.hume_base.specs.declared.limits.TheConstants.{MAX_TYPE_WORDS}
use Rattle.hume_base.specs.Flat.{flat}
use Rattle.hume_base.specs.Sizes.{HaveTheirSizes, size_of}
use Rattle.hume_model.specs.declared.core_tree.BoxC.{BoxC}
use Rattle.hume_model.specs.declared.core_tree.StreamC.{StreamC}
use Rattle.hume_model.specs.declared.core_tree.NodeC.{NodeC}
use Rattle.hume_model.specs.declared.core_tree.NodeC.TheVariants.{Rules, From, To}
use Rattle.hume_model.specs.declared.core_tree.WireC.{WireC}
use Rattle.hume_model.specs.declared.core_tree.Core.{Core}
use Rattle.hume_net.specs.declared.state.Part.{Part}
use Rattle.hume_net.specs.Lockstep.{node_at}
use Rattle.hume_net.specs.Sides.{part_of}
use Rattle.model_bare.specs.Bare.{bare_of, bare_box, bare_node}
use Rattle.model_bare.proofs.SameCores.{node_was_there, box_was_there}
use Rattle.box_costs.specs.declared.cost.Cost.{Cost}
use Rattle.box_code.specs.declared.program.BoxProgram.{BoxProgram}
use Rattle.box_code.specs.RepresentsBox.{RepresentsBox}
use Rattle.hume_streams.specs.Queues.{QueueView}
use Rattle.hume_streams.specs.Logs.{LogView}
use Rattle.box_step.specs.Views.{CompiledView}
use Rattle.box_step.specs.Boxes.{AreBareForms, IsBoxAt, IsUnused, first_part}
use Rattle.box_step.specs.nodes.Openings.{Opening, IsOpeningOf}
use Rattle.box_step.specs.nodes.Sides.{brought_type, taken_type}
use Rattle.box_step.specs.nodes.Right.{IsRightBox, IsRightQueue, IsRightLog}
use Rattle.box_step.specs.nodes.Beginnings.{BeginsAt, first_queue, first_log}
use Rattle.box_step.proofs.AcceptedBoxes.{forms_there}
use Rattle.box_step.proofs.nodes_lemmas.Begun.{first_state}

-- what is made is what is wanted, if anything is made
pub if_made : {T E : Type 0} {P Q : T → Type 0} (result : Result T E) → ((x : T) → P x → Q x) → IfOk result P → IfOk result Q
if_made (Ok x) goes made = goes x made
if_made (Err e) goes made = made

input_there : (core : Core) (n : ℕ) (stream : StreamC) → slice_get (bare_of core).nodes n ≡ Some (From stream)
    → (its : StreamC) × (slice_get core.nodes n ≡ Some (From its))
input_there core n stream at = by (node_was_there core n (From stream) at)
  where
    by : (node : NodeC) × (slice_get core.nodes n ≡ Some node) × (bare_node node ≡ From stream) → (its : StreamC) × (slice_get core.nodes n ≡ Some (From its))
    by (Rules b, here, same) = cc
    by (From its, here, same) = (its, here)
    by (To its, here, same) = cc

output_there : (core : Core) (n : ℕ) (stream : StreamC) → slice_get (bare_of core).nodes n ≡ Some (To stream)
    → (its : StreamC) × (slice_get core.nodes n ≡ Some (To its))
output_there core n stream at = by (node_was_there core n (To stream) at)
  where
    by : (node : NodeC) × (slice_get core.nodes n ≡ Some node) × (bare_node node ≡ To stream) → (its : StreamC) × (slice_get core.nodes n ≡ Some (To its))
    by (Rules b, here, same) = cc
    by (From its, here, same) = cc
    by (To its, here, same) = (its, here)

module _ (opening : Opening) (bare : Core) (opens : IsOpeningOf bare opening) where
  pub sizes_of_bare : HaveTheirSizes bare.types
  sizes_of_bare = subst (λ (c : Core). HaveTheirSizes c.types) (sym opens.core_is) opens.formed.frame.sizes

  pub small_of_bare : (w : ℕ) (wire : WireC) → slice_get bare.wires w ≡ Some wire → size_of bare.types wire.ty ≤ MAX_TYPE_WORDS
  small_of_bare w wire there =
      let found : slice_get opening.core.wires w ≡ Some wire = ap (λ (c : Core). slice_get c.wires w) (sym opens.core_is) ∙ there in
      subst (λ (c : Core). size_of c.types wire.ty ≤ MAX_TYPE_WORDS) (sym opens.core_is) (opens.formed.frame.wires w wire found).written.words

  module _ (n : ℕ) where
    at_bare : {node : NodeC} → slice_get bare.nodes n ≡ Some node → slice_get (bare_of opening.core).nodes n ≡ Some node
    at_bare at = ap (λ (c : Core). slice_get c.nodes n) (sym opens.core_is) ∙ at

    abbrev whole_box : (its : BoxC) → slice_get bare.nodes n ≡ Some (Rules its)
        → (b : BoxC) × (slice_get opening.core.nodes n ≡ Some (Rules b)) × (bare_box b ≡ its)
    whole_box its at = box_was_there opening.core n its (at_bare at)

    forms : (its : BoxC) (at : slice_get bare.nodes n ≡ Some (Rules its)) → AreBareForms opening.core (whole_box its at).0 bare its
    forms its at =
        let whole = whole_box its at in
        forms_there opening.core opens.formed n whole.0 whole.1 (opens.handles n whole.0 whole.1) bare opens.core_is its at

    pub first_forms : (its : BoxC) → slice_get bare.nodes n ≡ Some (Rules its) → (whole : Core) × (b : BoxC) × AreBareForms whole b bare its
    first_forms its at = (opening.core, (whole_box its at).0, forms its at)

    module _ (span : ℕ) (program : Option BoxProgram) (begins : BeginsAt opening n span program) where
      first_at : (node : NodeC) → slice_get opening.core.nodes n ≡ Some node → part_of opening.state n ≡ node_at opening.core opening.state n 0
      first_at node there = ap (λ s. part_of s n) (sym (first_state opening.core opening.state))

      pub first_box : (code : BoxProgram) → program ≡ Some code → (its : BoxC) → slice_get bare.nodes n ≡ Some (Rules its) → (box : CompiledView)
          → ((whole : Core) (b : BoxC) → AreBareForms whole b bare its → RepresentsBox whole b code → IsBoxAt whole b (first_part b) box) → IsUnused box
          → IsRightBox opening n 0 box
      first_box code is its at box made unused =
          let whole = whole_box its at in
          let represents = begins.represents whole.0 code whole.1 is in
          record {
            b = whole.0;
            there = whole.1;
            at = subst (λ part. IsBoxAt opening.core whole.0 part box) (sym (begins.part (Rules whole.0) whole.1) ∙ first_at (Rules whole.0) whole.1)
                (made opening.core whole.0 (forms its at) represents);
            heap = unused.heap ∙ ap (λ (c : Cost). max c.heap 0) (sym begins.peaks);
            stack = unused.stack ∙ ap (λ (c : Cost). max c.stack 0) (sym begins.peaks);
          }

      pub first_queued : (stream : StreamC) → slice_get bare.nodes n ≡ Some (From stream) → (queue : QueueView) → queue ≡ first_queue bare n span
          → IsRightQueue opening n 0 queue
      first_queued stream at queue is =
          let its = input_there opening.core n stream (at_bare at) in
          let same : queue ≡ first_queue opening.core n span = is ∙ ap (λ (c : Core). first_queue c n span) opens.core_is in
          let part = sym (begins.part (From its.0) its.1) ∙ first_at (From its.0) its.1 in
          record {
            stream = its.0;
            there = its.1;
            values = ap (λ (q : QueueView). q.values) same ∙ ap (λ (p : Part). map (flat opening.core.types (brought_type opening.core n)) p.coming) part;
            rest = ap (λ (q : QueueView). record q { values = [] }) same ∙ sym begins.queue;
          }

      pub first_logged : (stream : StreamC) → slice_get bare.nodes n ≡ Some (To stream) → (log : LogView) → log ≡ first_log bare n span
          → IsRightLog opening n 0 log
      first_logged stream at log is =
          let its = output_there opening.core n stream (at_bare at) in
          let same : log ≡ first_log opening.core n span = is ∙ ap (λ (c : Core). first_log c n span) opens.core_is in
          let part = sym (begins.part (To its.0) its.1) ∙ first_at (To its.0) its.1 in
          record {
            stream = its.0;
            there = its.1;
            values = ap (λ (l : LogView). l.values) same ∙ ap (λ (p : Part). map (flat opening.core.types (taken_type opening.core n)) p.taken) part;
            width = ap (λ (l : LogView). l.width) same;
            rest = ap (λ (l : LogView). record l { values = [] }) same ∙ sym begins.log;
          }
