use Rattle.std.proofs.Common.{[], ◌∷◌, Ok, Err, refl}
use Rattle.trace_print.proofs.LinesInTurn.{both_end, later_unwritten, one_line}
use Rattle.hume_run.proofs.union.making.write_program.Goals as goal

pub returns-in-Err-clause-ends : goal.returns-in-Err-clause-ends
returns-in-Err-clause-ends g c = later_unwritten _ (c.args.member.now.head.items ∷ []) _ _ _
    (one_line _ c.args.member.now.head.items _ (c.args.member.now.head.items ∷ []) _ _ (Err c.in-Err.failed) refl c.deref.ensures.value c.in-Err.ensures.ends)

pub returns-clause-ends : goal.returns-clause-ends
returns-clause-ends g c = both_end _ (c.args.member.now.head.items ∷ []) _ _ _ _ _ (record {
  same_names = c.in-Ok.ensures.same_names;
  made = one_line _ c.args.member.now.head.items _ (c.args.member.now.head.items ∷ []) _ _ (Ok tt) refl c.deref.ensures.value c.in-Ok.ensures.ends;
}) c.write_boxes.ensures.same_names c.write_boxes.ensures.ends
