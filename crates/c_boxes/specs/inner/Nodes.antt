-- What code knows of the box that it writes.
use Rattle.c_boxes.specs.declared.rules.Node.{Node}
use Rattle.c_boxes.specs.Rules.{Shown}

abbrev pub shown : Node → Shown
shown node = record { number = node.number; core = node.core.now; raising = node.raising.now }
