-- Which number a variable gets.
use Rattle.std.specs.Prelude.{ℕ}
use Rattle.calculus_unfolding.specs.declared.renumbering.Numbers.{Numbers}
use Rattle.calculus_unfolding.specs.declared.renumbering.Numbers.TheVariants.{Moved, Listed}
use Rattle.calculus_laws.specs.Unfolding.{moved_on, numbers_from}

-- the new number of a variable
abbrev pub new_number : Numbers → ℕ → ℕ
new_number (Moved scope count) = moved_on scope count
new_number (Listed first later) = numbers_from first later
