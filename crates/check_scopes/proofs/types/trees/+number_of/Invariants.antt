use Rattle.std.proofs.Common.{◌≡◌, length, map, take}
use Rattle.check_scopes.specs.types.Nodes.{type_at, all_below, Grows}
use Rattle.check_scopes.proofs.types.trees.+number_of.Given as goal

abbrev pub invariant-numbers_of-loop-ty : goal.invariant-numbers_of-loop-ty
invariant-numbers_of-loop-ty l = record {
  grows : Grows l.fn.types l.types;
  within : all_below (length l.types) l.numbers.items;
  so_far : map (type_at l.types) l.numbers.items ≡ take l.ty-index l.tys;
}
