-- Whether a union is within the limits of a program.
use Rattle.std.specs.Prelude.{◌≤◌, length, map, sum}
use Rattle.hume_base.specs.declared.limits.TheConstants.{MAX_EXCEPTIONS, MAX_FUNCTIONS, MAX_NODES, MAX_WIRES, MAX_WIRE_WORDS}
use Rattle.hume_model.specs.declared.core_tree.Core.{Core}
use Rattle.hume_model.specs.Limits.{wire_words}

-- there are no more functions, exceptions, nodes and wires than a program may have, and no more words of values on wires
pub record HasRoom (core : Core) : Type 0 where
  pub functions : length core.funs ≤ MAX_FUNCTIONS
  pub exceptions : length core.exns ≤ MAX_EXCEPTIONS
  pub nodes : length core.nodes ≤ MAX_NODES
  pub wires : length core.wires ≤ MAX_WIRES
  pub words : sum (map (wire_words core) core.wires) ≤ MAX_WIRE_WORDS
