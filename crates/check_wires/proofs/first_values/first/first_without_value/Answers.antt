use Rattle.std.proofs.Common.{IsTrue, sym, subst}
use Rattle.hume_base.specs.declared.rule.Rule.TheVariants.{C45}
use Rattle.hume_base.specs.Least.{IsFirst, IsLeast, OfRule}
use Rattle.hume_base.proofs.Least.{IsLeast-rule}
use Rattle.check_names.specs.Names.{OfDecl}
use Rattle.check_rules.specs.TypeRules.{HasNoInitial}
use Rattle.check_wires.specs.declared.types.wires.WireTypes.{WireTypes}
use Rattle.check_wires.specs.first_values.inner.Unfit.{has_unfit_value}
use Rattle.check_wires.proofs.first_values_lemmas.Unfit.{first_no_initial}
use Rattle.check_wires.proofs.first_values.first.first_without_value.Goals as goal

pub returns : goal.returns
returns c =
    let decls = c.args.decls.now in
    let signatures = c.args.table.now in
    let found = c.in_ok-first.first in
    let first = subst (λ (types : WireTypes). IsFirst (λ i. OfDecl decls i (λ decl. IsTrue (has_unfit_value signatures types decl))) found) c.in_ok-types.ensures c.in_ok-first.ensures in
    subst (IsLeast (OfRule C45 (HasNoInitial decls))) (sym c.of.ensures)
    (IsLeast-rule C45 (HasNoInitial decls) found
    (first_no_initial decls signatures c.requires.are (λ t is. c.signatures_are_unique.ensures decls t signatures is c.requires.are) found first))
