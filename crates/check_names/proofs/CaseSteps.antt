-- A `case` whose patterns bind a variable twice.
use Rattle.std.proofs.Common.{◌≡◌, List, map, Bool, ◌||◌, ap, sym, ◌∙◌}
use Rattle.hume_ast.specs.declared.tree.Pat.{Pat}
use Rattle.hume_ast.specs.declared.tree.Exp.{Exp, Case, fold-roll-Exp}
use Rattle.hume_ast.specs.declared.tree.Exp.TheOpen.{Exp-F}
use Rattle.hume_ast.specs.declared.tree.Exp.TheVariants.{rolls-Case}
use Rattle.check_names.specs.Twice.{exp_binds_twice, twice_step, any_alternative}
use Rattle.check_names.specs.inner.Alternatives.{alternative_twice}

pub case_twice : (subject : Exp) (alternatives : List (Pat × Exp)) → exp_binds_twice (Case subject alternatives) ≡ (exp_binds_twice subject || any_alternative (map alternative_twice alternatives))
case_twice subject alternatives = ap exp_binds_twice (sym (rolls-Case subject alternatives)) ∙ fold-roll-Exp Bool twice_step (Exp-F.Case subject alternatives)
