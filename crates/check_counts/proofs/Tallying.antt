-- One more declaration in a tally.
use Rattle.std.proofs.Common.{◌≡◌, ℕ, ◌+◌, ◌<◌, Bool, true, false, length, get_or, take, refl, sym, ap, ◌∙◌, arith}
use Rattle.std.proofs.lemmas.List.Sums.{count_by_more_no, count_by_more_yes}
use Rattle.hume_ast.specs.declared.tree.Decl.{Decl}
use Rattle.check_counts.specs.declared.tally.Tally.{Tally}
use Rattle.check_counts.specs.Counted.{Decls}
use Rattle.check_counts.specs.Limits.{tally_of, how_many, is_function, is_exception, is_node, is_wire}
use Rattle.check_counts.specs.inner.Tallies.{with_one, one_if}

-- one more declaration of those that pass a test, or not
one_more : (test : Decl → Bool) (decls : Decls) (i : ℕ) (d : ℕ × Decl) → i < length decls → get_or decls i d ≡ d
    → how_many test (take i decls) + one_if (test d.1) ≡ how_many test (take (i + 1) decls)
one_more test decls i d lt at = by (test d.1) refl
  where
    by : (b : Bool) → test d.1 ≡ b → how_many test (take i decls) + one_if b ≡ how_many test (take (i + 1) decls)
    by true e = sym (count_by_more_yes (λ (x : ℕ × Decl). test x.1) decls i d lt (ap (λ (x : ℕ × Decl). test x.1) at ∙ e))
    by false e = (let n : how_many test (take i decls) + 0 ≡ how_many test (take i decls) = omega arith in n) ∙ sym (count_by_more_no (λ (x : ℕ × Decl). test x.1) decls i d lt (ap (λ (x : ℕ × Decl). test x.1) at ∙ e))

pub tallied : (decls : Decls) (i : ℕ) (d : ℕ × Decl) (before after : Tally) → i < length decls → get_or decls i d ≡ d → before ≡ tally_of (take i decls)
    → after ≡ with_one before d.1 → after ≡ tally_of (take (i + 1) decls)
tallied decls i d before after lt at is e =
    e ∙ ap (λ (t : Tally). with_one t d.1) is
    ∙ (λ k. record {
      functions = one_more is_function decls i d lt at k;
      exceptions = one_more is_exception decls i d lt at k;
      nodes = one_more is_node decls i d lt at k;
      wires = one_more is_wire decls i d lt at k;
    })
