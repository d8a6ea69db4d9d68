use Rattle.std.proofs.Common.{◌≡◌, ◌+◌, ◌≤◌, max, map, drop, length}
use Rattle.hume_base.specs.declared.types.ConDef.{ConDef}
use Rattle.hume_base.specs.declared.limits.TheConstants.{MAX_TYPE_WORDS}
use Rattle.hume_base.specs.Sizes.{sizes_with, named_size, greatest, written_size}
use Rattle.check_signatures.proofs.sizes.words_of.Given as goal

abbrev pub invariant-loop-con : goal.invariant-loop-con
invariant-loop-con l =
    let words = λ (con : ConDef). sizes_with (named_size l.types (length l.types.sums)) con.fields in
    record {
      small : l.most ≤ MAX_TYPE_WORDS + 1;
      all : written_size (max l.most (greatest (map words (drop l.con-index l.cons)))) ≡ written_size (greatest (map words l.cons));
    }
