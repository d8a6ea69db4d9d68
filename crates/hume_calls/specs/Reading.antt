-- What a call reads whole: its source, and perhaps more, before it knows all that it owes.
use Rattle.std.specs.Prelude.{ℕ, ◌+◌, true, List, [], ◌∷◌, ◌++◌, map, take}
use Rattle.hume_base.specs.declared.limits.TheConstants.{MAX_SOURCE_BYTES}
use Rattle.port_acts.specs.Early.{Reads, names_read}
use Rattle.box_calculus.specs.declared.scripts.TheConstants.{MAX_SCRIPT_BYTES}
use Rattle.hume_calls.specs.declared.order.Order.{Order}
use Rattle.hume_calls.specs.declared.order.Order.TheVariants.{Run, Calc, Log, Check, Union, Demo}
use Rattle.hume_calls.specs.Words.{Named, further_of}

-- a source is read to its end, or to one byte more than a source may have
abbrev pub source_text : List ℕ → List ℕ
source_text left = take (MAX_SOURCE_BYTES + 1) left

-- a call reads its source before all else
abbrev pub source_reads : List ℕ → Reads
source_reads source = (source, MAX_SOURCE_BYTES + 1) ∷ []

-- a script is read to its end, or to one byte more than its lines may have
abbrev pub script_text : List ℕ → List ℕ
script_text left = take (MAX_SCRIPT_BYTES + 1) left

abbrev pub script_reads : List ℕ → Reads
script_reads script = (script, MAX_SCRIPT_BYTES + 1) ∷ []

-- sources that are all read
abbrev pub reads_whole : List (List ℕ) → Reads
reads_whole sources = map (λ source. (source, MAX_SOURCE_BYTES + 1)) sources

-- what it may read whole behind its source: a script, or the other sources of a union
abbrev pub further_reads : Order → Named → Reads
further_reads (Run steps workers source traced) named = []
further_reads (Calc steps workers source script) named = script_reads (further_of named)
further_reads (Log steps source log verify) named = []
further_reads (Check source) named = []
further_reads (Union steps workers count sources) named = reads_whole named.others
further_reads (Demo number steps workers) named = []

-- all that it may have read when memory runs out
abbrev pub early_reads : Order → Named → Reads
early_reads order named = source_reads named.source ++ further_reads order named

-- the port of a log that is compared
abbrev pub compared_logs : Order → Named → List (List ℕ)
compared_logs (Log steps source log true) named = further_of named ∷ []
compared_logs _ named = []

-- the ports, besides those of streams, all of whose reads come before the first write
abbrev pub read_first : Order → Named → List (List ℕ)
read_first order named = named.source ∷ names_read (further_reads order named) ++ compared_logs order named
