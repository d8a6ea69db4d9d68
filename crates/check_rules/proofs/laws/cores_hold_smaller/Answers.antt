use Rattle.std.proofs.Common.{sym, subst}
use Rattle.hume_base.specs.Holding.{HoldSmaller}
use Rattle.hume_base.specs.Sizes.{HaveTheirSizes}
use Rattle.check_rules.proofs.TypesOrdered.{hold_smaller}
use Rattle.check_rules.proofs.laws.cores_hold_smaller.Goals as goal

pub returns-clause-holds : goal.returns-clause-holds
returns-clause-holds c text program core fine p = subst HoldSmaller (sym p.types) (hold_smaller program.decls p.signatures.types p.are.types)

pub returns-clause-sizes : goal.returns-clause-sizes
returns-clause-sizes c text program core fine p = subst HaveTheirSizes (sym p.types) p.are.types.sizes
