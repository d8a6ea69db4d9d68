-- Which orders name a source alone.
use Rattle.std.specs.Prelude.{Bool, true, false}
use Rattle.hume_calls.specs.declared.order.Order.{Order}
use Rattle.hume_calls.specs.declared.order.Order.TheVariants.{Run, Calc, Log, Check, Union, Demo}

-- whether the words name one port beside those of streams, that of a source
abbrev pub has_source_alone : Order → Bool
has_source_alone (Run steps workers source traced) = true
has_source_alone (Calc steps workers source script) = false
has_source_alone (Log steps source log verify) = false
has_source_alone (Check source) = true
has_source_alone (Union steps workers count sources) = false
has_source_alone (Demo number steps workers) = false
