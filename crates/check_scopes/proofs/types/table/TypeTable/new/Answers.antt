use Rattle.std.proofs.Common.{List, sym, ap, subst, ◌∙◌}
use Rattle.hume_base.specs.declared.types.Ty.{Ty}
use Rattle.check_scopes.specs.types.Nodes.{types_of, Grows, IsTable}
use Rattle.check_scopes.proofs.types_lemmas.Numbers.{none, built_none}
use Rattle.check_scopes.proofs.types_lemmas.Trees.{no_trees}
use Rattle.check_scopes.proofs.types.table.TypeTable.new.Goals as goal

pub invariant_of-result : goal.invariant_of-result
invariant_of-result c = (
  subst (λ nodes. IsTable nodes (types_of nodes)) (sym c.new.ensures.empty) none,
  subst (λ (trees : List Ty). Grows trees (types_of c.new.result.keys)) (sym c.new-2.ensures.items) (no_trees _),
)

pub returns : goal.returns
returns c = ap types_of c.new.ensures.empty ∙ built_none
