use Rattle.std.proofs.Common.{IsTrue, ◌≡◌, ◌<◌, ◌^◌, List, ℕ, length, sym, subst, ◌∙◌, ap}
use Rattle.hume_base.specs.Least.{IsFirst}
use Rattle.hume_ast.specs.declared.tree.Decl.{Decl}
use Rattle.check_counts.specs.declared.counts.Counts.{Counts}
use Rattle.check_counts.specs.Counted.{counted}
use Rattle.check_names.specs.Names.{OfDecl}
use Rattle.check_counts.specs.CountRules.{declaration_miscounts}
use Rattle.check_counts.proofs.first.first_miscounted.Goals as goal

pub first_by-first-requires : goal.first_by-first-requires
first_by-first-requires c = subst (λ (decls : List (ℕ × Decl)). length decls < 2 ^ 32) (sym c.as_slice-decls.ensures) c.requires

pub returns : goal.returns
returns c =
    let decls = c.as_slice-decls.ensures in
    let counts : c.in_ok-counts.counts ≡ counted c.args.program.now.decls = c.in_ok-counts.ensures ∙ ap counted decls in
    subst (λ (counts : Counts). IsFirst (λ i. OfDecl c.args.program.now.decls i (λ decl. IsTrue (declaration_miscounts counts decl))) c.first_by-first.result) counts
    (subst (λ (decls : List (ℕ × Decl)). IsFirst (λ i. OfDecl decls i (λ decl. IsTrue (declaration_miscounts c.in_ok-counts.counts decl))) c.first_by-first.result) decls c.first_by-first.ensures)
