-- The numbers of the answers.
use Rattle.std.specs.Prelude.{ℕ}
use Rattle.hume_calls.specs.declared.status.Status.{Status}
use Rattle.hume_calls.specs.declared.status.Status.TheVariants.{Done, Usage, Refused, BadValue, Fault, NoMemory, LogFails}

-- the number with which a program ends
abbrev pub number_of_status : Status → ℕ
number_of_status Done = 0
number_of_status Usage = 1
number_of_status Refused = 2
number_of_status BadValue = 3
number_of_status Fault = 4
number_of_status NoMemory = 5
number_of_status LogFails = 6
