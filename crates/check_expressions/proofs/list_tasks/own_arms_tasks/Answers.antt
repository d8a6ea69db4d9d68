use Rattle.std.proofs.Common.{◌≡◌, ◌≤◌, ◌∷◌, ◌++◌, length, take, drop, sym, ◌∙◌, arith}
use Rattle.std.proofs.lemmas.List.{take-append-drop}
use Rattle.check_expressions.proofs.list_tasks.own_arms_tasks.Goals as goal

pub split_at-requires : goal.split_at-requires
split_at-requires c = let within = c.in-Some.ensures.within in omega arith
