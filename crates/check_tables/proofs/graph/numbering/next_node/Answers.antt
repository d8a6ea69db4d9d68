use Rattle.std.proofs.Common.{subst, sym, ◌∙◌, refl}
use Rattle.std.proofs.lemmas.Bool.{false≢true}
use Rattle.check_tables.specs.graph.Orders.{IsNext}
use Rattle.check_tables.proofs.graph_lemmas.ProgressSteps.{none_below, none_up_to, none_at_all}
use Rattle.check_tables.proofs.graph.numbering.next_node.Goals as goal

pub returns-then-is_next-clause-next : goal.returns-then-is_next-clause-next
returns-then-is_next-clause-next c = (
  subst (λ o. IsNext c.args.graph.now o c.in-Some.a) c.loop-a.invariant.order (c.if-is_next.ensures.is.0 refl),
  none_below c.args.graph.now c.loop-a.progress c.loop-a.invariant.progress c.args.progress.now.order c.loop-a.invariant.order c.loop-a.from c.loop-a.invariant.none c.in-Some.a (rw c.as_slice.ensures at (rw c.as_slice-in-loop-a.ensures at c.in-Some.ensures.1)),
)

pub loop-a-preserved : goal.loop-a-preserved
loop-a-preserved c = record {
  progress = c.if-is_next.ensures.progress;
  order = c.if-is_next.ensures.order ∙ c.loop-a.invariant.order;
  marks = c.if-is_next.ensures.marks ∙ c.loop-a.invariant.marks;
  none = none_up_to c.args.graph.now c.loop-a.progress c.loop-a.invariant.progress c.args.progress.now.order c.loop-a.invariant.order c.loop-a.from c.loop-a.invariant.none c.in-Some.a (rw c.as_slice.ensures at (rw c.as_slice-in-loop-a.ensures at c.in-Some.ensures.1))
      (λ n. false≢true (c.if-is_next.ensures.is.1 (subst (λ o. IsNext c.args.graph.now o c.in-Some.a) (sym c.loop-a.invariant.order) n)));
}

pub returns-clause-next : goal.returns-clause-next
returns-clause-next c =
    none_at_all c.args.graph.now c.loop-a.progress c.loop-a.invariant.progress c.args.progress.now.order c.loop-a.invariant.order c.loop-a.from c.loop-a.invariant.none (rw c.as_slice.ensures at (rw c.as_slice-in-loop-a.ensures at c.in_default.ensures))
