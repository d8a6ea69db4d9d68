-- The box that a call is handed, by its fields: what is known of it is so of their view, and what is so of the view is so of it.
use Rattle.std.proofs.Common.{◌≡◌, ℕ, Bool, List, Option, sym, subst}
use Rattle.hume_model.specs.declared.core_tree.RuleC.{RuleC}
use Rattle.hume_model.specs.declared.core_tree.BoxC.{BoxC}
use Rattle.hume_model.specs.declared.core_tree.Core.{Core}
use Rattle.hume_net.specs.declared.state.HalfStep.{HalfStep}
use Rattle.box_machine.specs.declared.ran.Ran.{Ran}
use Rattle.wire_cells.specs.Cells.{CellView}
use Rattle.box_step.specs.Boxes.{HasExecuted, IsAt}
use Rattle.box_step.specs.Views.{CompiledView}
use Rattle.box_step.specs.inner.Firing.{Fires, HasFired}

module _ {core : Core} {b : BoxC} {before : HalfStep} {box inside : CompiledView} {cells : List CellView} where
  pub inside_at : inside ≡ box → IsAt core b before box cells → IsAt core b before inside cells
  inside_at is at = subst (λ x. IsAt core b before x cells) (sym is) at

  pub inside_fires : {bare : Core} {fair : Bool} {number : ℕ} {pats_of : RuleC} → inside ≡ box
      → Fires core b before box cells bare fair number pats_of → Fires core b before inside cells bare fair number pats_of
  inside_fires {bare = bare} {fair = fair} {number = number} {pats_of = pats_of} is fires =
      subst (λ x. Fires core b before x cells bare fair number pats_of) (sym is) fires

  pub whole_fired : {new : CompiledView} {number : ℕ} {answer : Ran} → inside ≡ box
      → HasFired core b before number inside new cells answer → HasFired core b before number box new cells answer
  whole_fired {new = new} {number = number} {answer = answer} is has = subst (λ x. HasFired core b before number x new cells answer) is has

  pub whole_executed : {new : CompiledView} {answer : Option Ran} → inside ≡ box
      → HasExecuted core b before inside new cells answer → HasExecuted core b before box new cells answer
  whole_executed {new = new} {answer = answer} is has = subst (λ x. HasExecuted core b before x new cells answer) is has
