-- What a command that was read asks for.
use Rattle.hume_console.specs.declared.command.Command.{Command as Read}
use Rattle.hume_console.specs.declared.command.Command.TheVariants as read
use Rattle.hume_console.specs.Commands.{Command, Step, Wires, Peaks, Exchange, End}

-- what a line was read as
abbrev pub asked_by : Read → Command
asked_by (read.Step steps) = Step steps
asked_by read.Wires = Wires
asked_by read.Peaks = Peaks
asked_by (read.Exchange stream port) = Exchange stream.now port.now
asked_by read.End = End
