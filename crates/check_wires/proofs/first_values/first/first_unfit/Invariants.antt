use Rattle.std.proofs.Common.{IsTrue, ℕ, ◌<◌}
use Rattle.check_names.specs.Names.{OfDecl}
use Rattle.check_wires.specs.first_values.inner.Unfit.{has_unfit_value}
use Rattle.check_wires.proofs.first_values.first.first_unfit.Given as goal

abbrev pub invariant-loop-i : goal.invariant-loop-i
invariant-loop-i l = (j : ℕ) → j < l.i → OfDecl l.decls j (λ decl. IsTrue (has_unfit_value l.table l.types decl)) → ⊥
