use Rattle.std.proofs.Common.{◌≡◌, true, false, get_or, set, sym, ap, arith}
use Rattle.std.proofs.lemmas.Bool.{false_from_ne_true}
use Rattle.check_tables.specs.graph.inner.Progress.{unmarked}
use Rattle.check_tables.proofs.graph_lemmas.Grown.{one_fewer}
use Rattle.check_tables.proofs.graph_lemmas.ProgressSteps.{progress_more, place_in_marks}
use Rattle.check_tables.proofs.graph.numbering.number_node.Goals as goal

pub returns-clause-progress : goal.returns-clause-progress
returns-clause-progress c = rw (sym c.in_ok-push.ensures.ok) at (rw (sym c.set.ensures) at (rw (sym c.set-2.ensures) at (rw (sym c.len.ensures) at (progress_more c.args.graph.now c.args.progress.now c.requires.progress c.args.a c.requires.next))))

pub returns-clause-fewer : goal.returns-clause-fewer
returns-clause-fewer c =
    let lt = c.requires.next.0.within in
    let off : get_or c.args.progress.now.marks c.args.a false ≡ false =
    false_from_ne_true (get_or c.args.progress.now.marks c.args.a false) (λ e. c.requires.next.0.new' ((c.requires.progress.marked c.args.a lt).0 e)) in
    let e = one_fewer c.args.progress.now.marks c.args.a (place_in_marks c.args.graph.now c.args.progress.now c.requires.progress c.args.a lt) off in
    let f : unmarked c.set.new.self ≡ unmarked (set c.args.progress.now.marks c.args.a true) = ap unmarked c.set.ensures in
    omega arith
