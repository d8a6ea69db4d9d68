-- What each place below a number gives, a place more.
use Rattle.std.proofs.Common.{◌≡◌, ℕ, ◌+◌, List, ◌++◌, ap, add-one, append_assoc}
use Rattle.std.proofs.lemmas.Grind.{common_steps}
use Rattle.c_nets.specs.Parts.{each_below}

pub one_more : {A : Type 0} (gives : ℕ → List A) (place : ℕ) → each_below gives (place + 1) ≡ each_below gives place ++ gives place
one_more gives place = ap (each_below gives) (add-one place)

pub ruleset below_steps = (common_steps, append_assoc, one_more)
