use Rattle.hume_check.proofs.nodes_lemmas.FunctionLaws.{AreMade}
use Rattle.hume_check.proofs.nodes.functions.functions_in_order.Given as goal

-- the functions so far are made
abbrev pub invariant-loop-number : goal.invariant-loop-number
invariant-loop-number l = AreMade l.lines l.table l.decls l.order l.number-index l.functions
