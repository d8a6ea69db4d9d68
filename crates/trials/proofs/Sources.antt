-- What an accepted source has: few nodes and wires, and small boxes.
use Rattle.std.proofs.Common.{◌≤◌, length}
use Rattle.hume_base.specs.declared.limits.TheConstants.{MAX_NODES, MAX_WIRES}
use Rattle.hume_model.specs.WellFormed.{HasSmallBoxes, IsWellFormed}
use Rattle.hume_model.proofs.WellFormedCores.{small_boxes}
use Rattle.hume_front.specs.declared.acceptance.Accepted.{Accepted}
use Rattle.hume_front.proofs.Sources.{formed}
use Rattle.trials.specs.inner.Sources.{IsOfSource}

module _ (accepted : Accepted) (source : IsOfSource accepted) where
  core_formed : IsWellFormed accepted.core
  core_formed = formed source.text accepted source.is

  pub few_nodes : length accepted.core.nodes ≤ MAX_NODES
  few_nodes = core_formed.frame.limits.nodes

  pub few_wires : length accepted.core.wires ≤ MAX_WIRES
  few_wires = core_formed.frame.limits.wires

  pub boxes_small : HasSmallBoxes accepted.core
  boxes_small = small_boxes accepted.core core_formed
