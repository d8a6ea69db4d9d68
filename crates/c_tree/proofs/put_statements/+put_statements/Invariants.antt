use Rattle.std.proofs.Common.{◌≡◌, ◌++◌, ◌+◌, ◌*◌, max, drop, map}
use Rattle.std.specs.List.{flat_map}
use denote.Param.Weighed.{most}
use Rattle.c_tree.specs.declared.tree.CStm.{size-CStm}
use Rattle.c_tree.specs.Statements.{case_text, each_behind, else_if_text, statement_text}
use Rattle.c_tree.specs.inner.Arms.{written_arm}
use Rattle.c_tree.proofs.Measures.{arms_size}
use Rattle.c_tree.proofs.put_statements.+put_statements.Given as goal

abbrev pub decreases-put_statement : goal.decreases-put_statement
decreases-put_statement l = 8 * size-CStm l.statement.now

abbrev pub decreases-put_statements : goal.decreases-put_statements
decreases-put_statements l = 8 * most size-CStm l.statements.now + 1

abbrev pub decreases-put_block : goal.decreases-put_block
decreases-put_block l = 8 * most size-CStm l.statements.now + 2

abbrev pub decreases-put_arm : goal.decreases-put_arm
decreases-put_arm l = 8 * most size-CStm l.body.now + 3

abbrev pub decreases-put_else : goal.decreases-put_else
decreases-put_else l = 8 * most size-CStm l.body.now + 3

abbrev pub decreases-put_case_end : goal.decreases-put_case_end
decreases-put_case_end l = 8 * most size-CStm l.body.now + 3

abbrev pub decreases-put_default : goal.decreases-put_default
decreases-put_default l = 8 * most size-CStm l.body.now + 4

abbrev pub decreases-put_for : goal.decreases-put_for
decreases-put_for l = 8 * most size-CStm l.body.now + 3

abbrev pub decreases-put_clause : goal.decreases-put_clause
decreases-put_clause l = 8 * most size-CStm l.body.now + 4

abbrev pub decreases-put_case : goal.decreases-put_case
decreases-put_case l = 8 * most size-CStm l.body.now + 4

abbrev pub decreases-put_else_ifs : goal.decreases-put_else_ifs
decreases-put_else_ifs l = 8 * arms_size l.others.now + 5

abbrev pub decreases-put_cases : goal.decreases-put_cases
decreases-put_cases l = 8 * arms_size l.cases.now + 5

abbrev pub decreases-put_if : goal.decreases-put_if
decreases-put_if l = 8 * max (most size-CStm l.body.now) (max (arms_size l.others.now) (most size-CStm l.otherwise.now)) + 6

abbrev pub decreases-put_switch : goal.decreases-put_switch
decreases-put_switch l = 8 * max (arms_size l.cases.now) (most size-CStm l.otherwise.now) + 6

abbrev pub invariant-put_statements-loop-statement : goal.invariant-put_statements-loop-statement
invariant-put_statements-loop-statement l =
    l.text.items ++ each_behind l.margin (map statement_text (drop l.statement-index l.statements))
    ≡ l.initial.text.items ++ each_behind l.margin (map statement_text l.statements)

abbrev pub invariant-put_else_ifs-loop-other : goal.invariant-put_else_ifs-loop-other
invariant-put_else_ifs-loop-other l =
    l.text.items ++ flat_map (else_if_text l.margin) (map written_arm (drop l.other-index l.others))
    ≡ l.initial.text.items ++ flat_map (else_if_text l.margin) (map written_arm l.others)

abbrev pub invariant-put_cases-loop-one : goal.invariant-put_cases-loop-one
invariant-put_cases-loop-one l =
    l.text.items ++ flat_map (case_text l.margin) (map written_arm (drop l.one-index l.cases))
    ≡ l.initial.text.items ++ flat_map (case_text l.margin) (map written_arm l.cases)
