-- The numbers of the endings.
use Rattle.std.specs.Prelude.{ℕ}
use Rattle.hume_console.specs.declared.ending.Ending.{Ending}
use Rattle.hume_console.specs.declared.ending.Ending.TheVariants.{Done, Usage, Refused, BadValue, Fault, NoMemory}

-- the number with which a program ends
abbrev pub number_of_ending : Ending → ℕ
number_of_ending Done = 0
number_of_ending Usage = 1
number_of_ending Refused = 2
number_of_ending BadValue = 3
number_of_ending Fault = 4
number_of_ending NoMemory = 5
