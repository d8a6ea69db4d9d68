use Rattle.std.proofs.Common.{◌≡◌, ◌+◌, ◌≤◌, max, map, drop}
use Rattle.hume_base.specs.declared.types.ConDef.{ConDef}
use Rattle.hume_base.specs.declared.limits.TheConstants.{MAX_WIRE_WORDS}
use Rattle.hume_base.specs.Sizes.{sizes_with, greatest}
use Rattle.check_sizes.specs.inner.Capped.{capped, named_in}
use Rattle.check_sizes.proofs.data_sizes.size_of_constructors.Given as goal

abbrev pub invariant-loop-con : goal.invariant-loop-con
invariant-loop-con l =
    let words = λ (con : ConDef). sizes_with (named_in l.sizes) con.fields in
    record {
      small : l.most ≤ MAX_WIRE_WORDS + 1;
      all : capped (max l.most (greatest (map words (drop l.con-index l.cons)))) ≡ capped (greatest (map words l.cons));
    }
