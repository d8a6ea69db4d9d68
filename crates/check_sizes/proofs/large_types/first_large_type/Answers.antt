use Rattle.std.proofs.Common.{IsTrue, List, ℕ, sym, subst, ◌∙◌, ap}
use Rattle.hume_base.specs.declared.rule.Rule.TheVariants.{C73}
use Rattle.hume_base.specs.Least.{IsFirst, IsLeast, OfRule}
use Rattle.hume_base.proofs.Least.{IsLeast-rule}
use Rattle.check_names.specs.Names.{OfDecl}
use Rattle.check_rules.specs.SizeRules.{HasLargeType}
use Rattle.check_typing.specs.declared.signatures.Signatures.{Signatures}
use Rattle.check_sizes.specs.inner.Capped.{sizes_of}
use Rattle.check_sizes.specs.inner.Large.{has_large_type}
use Rattle.check_sizes.proofs.FoundLarge.{first_has_large}
use Rattle.check_sizes.proofs.large_types.first_large_type.Goals as goal

pub returns : goal.returns
returns c =
    let decls = c.args.decls.now in
    let signatures = c.args.table.now in
    let found = c.first_large-first.result in
    let sizes = c.as_slice-2.ensures ∙ c.in_ok-sizes.ensures ∙ ap sizes_of (c.as_slice.ensures ∙ ap (λ (s : Signatures). s.types.sums) c.signatures.ensures) in
    let first = subst (λ (sizes : List ℕ). IsFirst (λ i. OfDecl decls i (λ decl. IsTrue (has_large_type signatures.types sizes decl))) found) sizes c.first_large-first.ensures in
    subst (IsLeast (OfRule C73 (HasLargeType decls))) (sym c.of.ensures)
    (IsLeast-rule C73 (HasLargeType decls) found
    (first_has_large decls signatures c.requires.are (λ t is. c.signatures_are_unique.ensures decls t signatures is c.requires.are) found first))
