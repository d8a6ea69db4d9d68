use Rattle.std.proofs.Common.{IsTrue, ℕ, ◌<◌}
use Rattle.check_names.specs.Names.{OfDecl}
use Rattle.check_sizes.specs.inner.Large.{has_large_type}
use Rattle.check_sizes.proofs.large_types.first_large.Given as goal

abbrev pub invariant-loop-i : goal.invariant-loop-i
invariant-loop-i l = (j : ℕ) → j < l.i → OfDecl l.decls j (λ decl. IsTrue (has_large_type l.table.types l.sizes decl)) → ⊥
