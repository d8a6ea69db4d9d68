use Rattle.std.proofs.Common.{ℕ, ◌<◌, take}
use Rattle.check_names.specs.Repeated.{RepeatsName, spaces_in}
use Rattle.check_names.specs.inner.Spaces.{SameSpaces, spaces_of}
use Rattle.check_names.proofs.repeated.first_repeated_in.Given as goal

abbrev pub invariant-loop-i : goal.invariant-loop-i
invariant-loop-i l = record {
  spaces : SameSpaces (spaces_of l.tables) (spaces_in (take l.i l.decls));
  none : (j : ℕ) → j < l.i → RepeatsName l.decls j → ⊥;
}
