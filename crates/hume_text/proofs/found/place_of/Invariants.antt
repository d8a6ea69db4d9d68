use Rattle.std.proofs.Common.{◌≡◌, drop}
use Rattle.hume_text.specs.inner.Readers.{first_named}
use Rattle.hume_text.proofs.found.place_of.Given as goal

abbrev pub invariant-loop-con : goal.invariant-loop-con
invariant-loop-con l =
    record {
      place : l.place ≡ l.con-index;
      found : first_named l.place (drop l.con-index l.sum.cons) l.name ≡ first_named 0 l.sum.cons l.name;
    }
