-- The writes of the lines of values to one port.
use Rattle.std.specs.Prelude.{ℕ, List, map}
use Rattle.hume_base.specs.declared.types.Ty.{Ty}
use Rattle.hume_base.specs.declared.types.Types.{Types}
use Rattle.hume_base.specs.declared.types.Value.{Value}
use Rattle.hume_ports.specs.Delivery.{Pairs}
use Rattle.hume_streams.specs.Logs.{line_of}

-- the writes of the lines of these values to the port of that name, in order
abbrev pub line_writes : List ℕ → Types → Ty → List Value → Pairs
line_writes name types ty values = map (λ value. (name, line_of types ty value)) values
