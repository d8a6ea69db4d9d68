-- What is kept of an engine in the midst of a superstep.
use Rattle.std.specs.Prelude.{◌≡◌, ℕ, List, length, Option}
use Rattle.hume_model.specs.declared.core_tree.Core.{Core}
use Rattle.hume_net.specs.declared.state.State.{State}
use Rattle.hume_net.specs.Lockstep.{mid}
use Rattle.wire_cells.specs.Cells.{CellView}
use Rattle.box_step.specs.declared.nodes.cell.BoxCell.{BoxCell}
use Rattle.phase_workers.specs.declared.paths.Paths.{Paths}
use Rattle.step_turns.specs.Rounds.{AllRight, AreFrom, AreInPlace, AreUntil}
use Rattle.phase_workers.specs.Engines.{EngineView}
use Rattle.phase_workers.specs.inner.Whole.{IsWhole, engine_view, opening_at}

-- what callers see of it: the state is the one in the midst of the superstep that began at this one
abbrev pub midst_view : Core → ℕ → State → List BoxCell → EngineView
midst_view core span before nodes = engine_view core span (mid core before) nodes

-- The cells are those of a whole engine one half step later.
pub record IsMidst (core bare : Core) (paths : Paths) (span : ℕ) (before : State) (nodes : List BoxCell) (home : List (Option CellView))
    : Type 0 where
  pub first_nodes : List BoxCell
  pub first_home : List (Option CellView)
  pub whole : IsWhole core bare paths span before first_nodes first_home
  pub right : AllRight (opening_at core before first_nodes) nodes home
  pub place : AreInPlace bare nodes home
  pub wires : length home ≡ length bare.wires
  pub from : AreFrom 1 nodes
  pub until : AreUntil 1 nodes
