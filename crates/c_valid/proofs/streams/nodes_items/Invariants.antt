use Rattle.std.proofs.Common.{◌≡◌, ◌++◌, drop}
use Rattle.c_valid.specs.inner.Known.{known}
use Rattle.c_valid.specs.Streams.{nodes_items}
use Rattle.c_valid.proofs.streams.nodes_items.Given as goal

abbrev pub invariant-loop-number : goal.invariant-loop-number
invariant-loop-number l =
    l.items ++ nodes_items l.defined (known l.tested) l.core l.number (drop l.number l.nodes)
    ≡ nodes_items l.defined (known l.tested) l.core 0 l.nodes
