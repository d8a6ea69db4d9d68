-- What the cell of a node begins with.
use Rattle.std.specs.Prelude.{◌≡◌, ℕ, ⊤, [], Option, None, Some, slice_get}
use Rattle.hume_base.specs.Sizes.{size_of}
use Rattle.hume_model.specs.declared.core_tree.BoxC.{BoxC}
use Rattle.hume_model.specs.declared.core_tree.NodeC.{NodeC}
use Rattle.hume_model.specs.declared.core_tree.NodeC.TheVariants.{Rules, From, To}
use Rattle.hume_model.specs.declared.core_tree.Core.{Core}
use Rattle.hume_net.specs.declared.state.Part.{Part}
use Rattle.hume_net.specs.Sides.{part_of}
use Rattle.hume_net.specs.Start.{written_order}
use Rattle.box_costs.specs.Costs.{nothing}
use Rattle.box_code.specs.declared.program.BoxProgram.{BoxProgram}
use Rattle.box_code.specs.RepresentsBox.{RepresentsBox}
use Rattle.hume_streams.specs.Queues.{QueueView, first_view}
use Rattle.hume_streams.specs.Logs.{LogView}
use Rattle.box_step.specs.Boxes.{TakesLittle}
use Rattle.box_step.specs.nodes.Openings.{Opening}
use Rattle.box_step.specs.nodes.Sides.{brought_type, taken_type}

-- a box has a program, which takes no more words than a box may, and a stream has none
abbrev pub HasItsProgram : Option NodeC → Option BoxProgram → Type 0
HasItsProgram None program = ⊥
HasItsProgram (Some (Rules b)) None = ⊥
HasItsProgram (Some (Rules b)) (Some program) = TakesLittle program
HasItsProgram (Some (From stream)) None = ⊤
HasItsProgram (Some (From stream)) (Some program) = ⊥
HasItsProgram (Some (To stream)) None = ⊤
HasItsProgram (Some (To stream)) (Some program) = ⊥

-- the part of a node before its first half step: nothing is pending, nothing comes and nothing is taken
abbrev pub first_part_of : NodeC → Part
first_part_of node = record { pending = None; order = written_order node; coming = []; taken = [] }

-- a queue of an input stream with room for so many values, before the first byte
abbrev pub first_queue : Core → ℕ → ℕ → QueueView
first_queue core n span = first_view (size_of core.types (brought_type core n)) span

-- an empty log of an output stream with room for so many values
abbrev pub first_log : Core → ℕ → ℕ → LogView
first_log core n span = record { values = []; width = size_of core.types (taken_type core n); span = span }

-- The opening is one before the first half step of a node: it has the first part and took nothing, its queue or log is empty, and
-- a program that is there represents its box.
pub record BeginsAt (opening : Opening) (n span : ℕ) (program : Option BoxProgram) : Type 0 where
  pub part : (node : NodeC) → slice_get opening.core.nodes n ≡ Some node → part_of opening.state n ≡ first_part_of node
  pub peaks : opening.peaks n ≡ nothing
  pub queue : opening.queues n ≡ first_queue opening.core n span
  pub log : opening.logs n ≡ first_log opening.core n span
  pub represents : (b : BoxC) (its : BoxProgram) → slice_get opening.core.nodes n ≡ Some (Rules b) → program ≡ Some its
      → RepresentsBox opening.core b its
