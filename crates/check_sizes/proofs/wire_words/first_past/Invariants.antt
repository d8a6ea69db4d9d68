use Rattle.std.proofs.Common.{◌≡◌, IsTrue, ℕ, ◌<◌, ◌≤◌, take}
use Rattle.hume_base.specs.declared.limits.TheConstants.{MAX_WIRE_WORDS}
use Rattle.check_names.specs.Names.{OfDecl}
use Rattle.check_sizes.specs.inner.Passing.{all_words, passes}
use Rattle.check_sizes.proofs.wire_words.first_past.Given as goal

abbrev pub invariant-loop-i : goal.invariant-loop-i
invariant-loop-i l = record {
  few : l.total ≤ MAX_WIRE_WORDS;
  so_far : l.total ≡ all_words l.types l.sizes (take l.i l.decls);
  none : (j : ℕ) → j < l.i → OfDecl l.decls j (λ decl. IsTrue (passes l.types l.sizes l.decls j decl)) → ⊥;
}
