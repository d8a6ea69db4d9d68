-- The places of the names of a source and of a further port among the words.
use Rattle.std.specs.Prelude.{ℕ, Option, None, Some}
use Rattle.hume_calls.specs.declared.order.Order.{Order}
use Rattle.hume_calls.specs.declared.order.Order.TheVariants.{Run, Calc, Log, Check, Union, Demo}

-- the place of the word that names the source's port; a demo has none
abbrev pub source_place : Order → Option ℕ
source_place (Run steps workers source traced) = Some source
source_place (Calc steps workers source script) = Some source
source_place (Log steps source log verify) = Some source
source_place (Check source) = Some source
source_place (Union steps workers count sources) = Some sources
source_place (Demo number steps workers) = None

-- the place of the word that names the first further port, if there is one of its own
abbrev pub further_place : Order → Option ℕ
further_place (Run steps workers source traced) = None
further_place (Calc steps workers source script) = Some script
further_place (Log steps source log verify) = Some log
further_place (Check source) = None
further_place (Union steps workers count sources) = None
further_place (Demo number steps workers) = None
