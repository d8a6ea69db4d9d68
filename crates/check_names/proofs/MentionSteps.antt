-- What is mentioned, step by step.
use Rattle.std.proofs.Common.{ℕ, List, max}
use Rattle.std.proofs.lemmas.Grind.{common_steps}
use denote.Param.Weighed.{most}
use Rattle.hume_ast.specs.declared.tree.TyExp.{the_lemmas as ty_lemmas}
use Rattle.hume_ast.specs.declared.tree.Pat.{Pat, the_lemmas as pat_lemmas}
use Rattle.hume_ast.specs.declared.tree.Exp.{Exp, size-Exp, the_lemmas as exp_lemmas}

pub ruleset type_steps = (common_steps, ty_lemmas)

pub ruleset pattern_steps = (common_steps, pat_lemmas)

pub ruleset exp_steps = (common_steps, ty_lemmas, pat_lemmas, exp_lemmas)

abbrev pub alternatives_size : List (Pat × Exp) → ℕ
alternatives_size alternatives = most (λ alternative. max 0 (max (size-Exp alternative.1) 0)) alternatives
