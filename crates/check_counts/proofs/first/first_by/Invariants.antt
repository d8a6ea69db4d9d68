use Rattle.std.proofs.Common.{IsTrue, ℕ, ◌<◌}
use Rattle.check_names.specs.Names.{OfDecl}
use Rattle.check_counts.specs.CountRules.{declaration_miscounts}
use Rattle.check_counts.proofs.first.first_by.Given as goal

abbrev pub invariant-loop-i : goal.invariant-loop-i
invariant-loop-i l = (j : ℕ) → j < l.i → OfDecl l.decls j (λ decl. IsTrue (declaration_miscounts l.counts decl)) → ⊥
