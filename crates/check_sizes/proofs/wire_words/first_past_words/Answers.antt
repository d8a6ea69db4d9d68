use Rattle.std.proofs.Common.{IsTrue, List, ℕ, sym, subst, ◌∙◌, ap}
use Rattle.hume_base.specs.declared.rule.Rule.TheVariants.{C74}
use Rattle.hume_base.specs.Least.{IsFirst, IsLeast, OfRule}
use Rattle.hume_base.proofs.Least.{IsLeast-rule}
use Rattle.check_names.specs.Names.{OfDecl}
use Rattle.check_typing.specs.declared.signatures.Signatures.{Signatures}
use Rattle.check_rules.specs.SizeRules.{PassesWords}
use Rattle.check_wires.specs.declared.types.wires.WireTypes.{WireTypes}
use Rattle.check_sizes.specs.inner.Capped.{sizes_of}
use Rattle.check_sizes.specs.inner.Passing.{passes}
use Rattle.check_sizes.proofs.PassedWords.{first_passes}
use Rattle.check_sizes.proofs.wire_words.first_past_words.Goals as goal

pub returns : goal.returns
returns c =
    let decls = c.args.decls.now in
    let signatures = c.args.table.now in
    let found = c.first_past-first.result in
    let sizes = c.as_slice-2.ensures ∙ c.in_ok-sizes.ensures ∙ ap sizes_of (c.as_slice.ensures ∙ ap (λ (s : Signatures). s.types.sums) c.signatures.ensures) in
    let first = subst (λ (types : WireTypes). IsFirst (λ i. OfDecl decls i (λ decl. IsTrue (passes types (sizes_of signatures.types.sums) decls i decl))) found) c.in_ok-types.ensures
    (subst (λ (sizes : List ℕ). IsFirst (λ i. OfDecl decls i (λ decl. IsTrue (passes c.in_ok-types.types sizes decls i decl))) found) sizes c.first_past-first.ensures) in
    subst (IsLeast (OfRule C74 (PassesWords decls))) (sym c.of.ensures)
    (IsLeast-rule C74 (PassesWords decls) found
    (first_passes decls signatures c.requires.are (λ t is. c.signatures_are_unique.ensures decls t signatures is c.requires.are) found first))
