use Rattle.std.proofs.Common.{◌≡◌, ℕ, List, ◌++◌, codes, map, ap, ◌∙◌, append_assoc}
use Rattle.std.proofs.lemmas.Result.{on_ok_weaker}
use Rattle.c_tree.specs.Statements.{else_if_text, statement_text}
use Rattle.c_tree.specs.inner.Arms.{written_arm}
use Rattle.c_tree.proofs.Steps.{next_turn}
use Rattle.c_tree.proofs.put_statements.+put_statements.Goals as goal

three_added : (old a b d x y z : List ℕ) → x ≡ old ++ a → y ≡ x ++ b → z ≡ y ++ d → z ≡ old ++ (a ++ (b ++ d))
three_added old a b d x y z p q r =
    r ∙ ap (λ l. l ++ d) (q ∙ ap (λ l. l ++ b) p ∙ append_assoc old a b) ∙ append_assoc old (a ++ b) d ∙ ap (λ l. old ++ l) (append_assoc a b d)

pub put_default-returns : goal.put_default-returns
put_default-returns t c =
    on_ok_weaker c.put_case_end.result
    (three_added c.args.text.now.items c.args.margin.now (codes "default") _ _ _ _
    c.in_ok-extend_from_slice.ensures.items c.in_ok-extend_from_slice-2.ensures.items)
    c.put_case_end.ensures

pub put_else_ifs-loop-other-preserved : goal.put_else_ifs-loop-other-preserved
put_else_ifs-loop-other-preserved t c =
    next_turn (else_if_text c.args.margin.now) written_arm c.args.others.now c.loop-other.other-index c.other-item.result _ _ _
    c.loop-other-test.true c.other-item.is
    (c.in_ok-put_clause.ensures
    ∙ ap (λ body. c.loop-other.text.items ++ else_if_text c.args.margin.now (c.other-item.result.0, map statement_text body)) c.as_slice.ensures)
    c.loop-other.invariant
