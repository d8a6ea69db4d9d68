use Rattle.std.proofs.Common.{◌≡◌, Bool, List, OnOk, subst}
use Rattle.c_analysis.specs.Targets.{target}
use Rattle.c_analysis.proofs.MarkLaws.{marks_fit}
use Rattle.c_analysis.proofs.uses.mark_used.Goals as goal

pub returns : goal.returns
returns c =
    subst (λ (marks : List Bool). OnOk c.set_marks.result (c.set_marks.new.used.items ≡ marks))
    (marks_fit (target c.args.s) c.args.e.now c.args.used.now.items)
    c.set_marks.ensures
