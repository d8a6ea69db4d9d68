-- One level of a tree, and one more declaration.
use Rattle.std.proofs.Common.{◌≡◌, ℕ, Bool, List, map, ap, sym, ◌∙◌}
use Rattle.std.proofs.lemmas.Grind.{common_steps}
use Rattle.hume_ast.specs.declared.tree.TyExp.{the_lemmas as type_lemmas}
use Rattle.hume_ast.specs.declared.tree.Pat.{Pat, the_lemmas as pattern_lemmas}
use Rattle.hume_ast.specs.declared.tree.Exp.{Exp, Case, fold-roll-Exp, the_lemmas as expression_lemmas}
use Rattle.hume_ast.specs.declared.tree.Exp.TheOpen.{Exp-F}
use Rattle.hume_ast.specs.declared.tree.Exp.TheVariants.{rolls-Case}
use Rattle.check_tables.proofs.names_lemmas.Lookup.{with_names-append}
use Rattle.check_counts.specs.declared.counts.Counts.{Counts}
use Rattle.check_counts.specs.inner.Arms.{arm_with}
use Rattle.check_counts.specs.Miscounts.{miscounts, expression_step, has_other_leaf, leaf_step}
use Rattle.check_counts.specs.Stars.{Stray, strays, star_step}

-- a `case` by what holds of its parts
pub case_miscounts : (counts : Counts) (part : Exp) (arms : List (Pat × Exp))
    → miscounts counts (Case part arms) ≡ expression_step counts (Exp-F.Case (miscounts counts part) (map (arm_with (miscounts counts)) arms))
case_miscounts counts part arms =
    ap (miscounts counts) (sym (rolls-Case part arms)) ∙ fold-roll-Exp Bool (expression_step counts) (Exp-F.Case part arms)

pub case_leaves : (count : ℕ) (part : Exp) (arms : List (Pat × Exp))
    → has_other_leaf count (Case part arms) ≡ leaf_step count (Exp-F.Case (has_other_leaf count part) (map (arm_with (has_other_leaf count)) arms))
case_leaves count part arms =
    ap (has_other_leaf count) (sym (rolls-Case part arms)) ∙ fold-roll-Exp Bool (leaf_step count) (Exp-F.Case part arms)

pub case_strays : (part : Exp) (arms : List (Pat × Exp)) → strays (Case part arms) ≡ star_step (Exp-F.Case (strays part) (map (arm_with strays) arms))
case_strays part arms = ap strays (sym (rolls-Case part arms)) ∙ fold-roll-Exp Stray star_step (Exp-F.Case part arms)

pub ruleset count_steps = (common_steps, case_miscounts, case_leaves, case_strays, with_names-append, type_lemmas, pattern_lemmas, expression_lemmas)
