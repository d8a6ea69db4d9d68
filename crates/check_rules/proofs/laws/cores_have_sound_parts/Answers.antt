use Rattle.std.proofs.Common.{sym, subst}
use Rattle.hume_base.specs.Holding.{HoldSmaller}
use Rattle.check_rules.proofs.TypesOrdered.{hold_smaller}
use Rattle.check_rules.proofs.FunctionsOrdered.{calls_go_down}
use Rattle.check_rules.proofs.CoreTyped.{own_first, functions_typed}
use Rattle.check_rules.proofs.laws.cores_have_sound_parts.Goals as goal

pub returns : goal.returns
returns c = λ text program core fine p. record {
  holds = subst HoldSmaller (sym p.types) (hold_smaller program.decls p.signatures.types p.are.types);
  exceptions = own_first text program core p;
  calls = calls_go_down text program core p;
  functions = functions_typed text program core fine p;
}
