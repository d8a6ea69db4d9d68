-- The variables of several patterns, one pattern after the other.
use Rattle.std.proofs.Common.{◌≡◌, ℕ, suc, ◌+◌, ◌<◌, List, drop, get_or, length, map, add-one, drop-cons}
use Rattle.std.specs.List.{sum}
use Rattle.std.proofs.lemmas.Grind.{common_steps}
use Rattle.std.proofs.lemmas.List.Sums.{sum_by-cons}
use Rattle.hume_model.specs.declared.core_tree.PatC.{PatC}
use Rattle.calculus_laws.specs.Unfolding.{variables_in}

pub sum_next : (parts : List PatC) (i : ℕ) (pat : PatC) → i < length parts
    → sum (map variables_in (drop i parts)) ≡ variables_in (get_or parts i pat) + sum (map variables_in (drop (i + 1) parts))
sum_next parts i pat within =
    rw (drop-cons parts i pat, add-one) (sum_by-cons (λ x. x) (variables_in (get_or parts i pat)) (map variables_in (drop (suc i) parts)))

pub ruleset sum_steps = (common_steps, sum_next)
