-- The union of programs: the one, and behind it the other with its numbers moved up. They share nothing but the exceptions that
-- every program has.
use Rattle.std.specs.Prelude.{◌-◌, List, [], ◌∷◌, ◌++◌, map, length, drop}
use Rattle.hume_model.specs.declared.core_tree.ExnDef.{ExnDef}
use Rattle.hume_model.specs.declared.core_tree.Core.{Core}
use Rattle.hume_model.specs.OwnExceptions.{own_exceptions}
use Rattle.union_laws.specs.declared.moves.Moves.{Moves}
use Rattle.union_laws.specs.Moving.{moved_data, moved_exception, moved_function, moved_node, moved_wire}

-- the exceptions that a program declares: all but those that every program has
abbrev pub declared_exceptions : Core → List ExnDef
declared_exceptions core = drop (length own_exceptions) core.exns

-- how far the numbers of a program move up behind this one
abbrev pub behind : Core → Moves
behind core = record {
  types = length core.types.sums;
  exns = length core.exns - length own_exceptions;
  funs = length core.funs;
  nodes = length core.nodes;
}

-- the union of two programs
abbrev pub united : Core → Core → Core
united a b = record {
  types = record { sums = a.types.sums ++ map (moved_data (behind a)) b.types.sums };
  exns = a.exns ++ map (moved_exception (behind a)) (declared_exceptions b);
  funs = a.funs ++ map (moved_function (behind a)) b.funs;
  nodes = a.nodes ++ map (moved_node (behind a)) b.nodes;
  wires = a.wires ++ map (moved_wire (behind a)) b.wires;
}

-- a program and others, one behind the other
abbrev pub followed_by : Core → List Core → Core
followed_by core [] = core
followed_by core (next ∷ others) = followed_by (united core next) others

-- the program of nothing
abbrev pub no_program : Core
no_program = record { types = record { sums = [] }; exns = own_exceptions; funs = []; nodes = []; wires = [] }

-- the union of all programs of a list
abbrev pub united_all : List Core → Core
united_all programs = followed_by no_program programs
