use Rattle.std.proofs.Common.{◌≡◌, ◌≤◌, ◌*◌, map, sum, take}
use Rattle.hume_base.specs.declared.limits.TheConstants.{MAX_TYPE_WORDS, MAX_WIRE_DEPTH}
use Rattle.hume_model.specs.Limits.{wire_words}
use Rattle.net_union.proofs.room.words.Given as goal

abbrev pub invariant-loop-wire : goal.invariant-loop-wire
invariant-loop-wire l = record {
  so_far : l.total ≡ sum (map (wire_words l.core) (take l.wire-index l.wire-items));
  few : l.total ≤ MAX_TYPE_WORDS * MAX_WIRE_DEPTH * l.wire-index;
}
