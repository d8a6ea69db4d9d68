use Rattle.std.proofs.Common.{sym, ◌∙◌, arith}
use Rattle.std.proofs.lemmas.Bool.{false≢true}
use borrow.Author.Count.{below_more}
use Rattle.hume_base.proofs.Least.{IsFirst-none, IsFirst-here}
use Rattle.check_tables.specs.graph.Cycles.{InCycle}
use Rattle.check_tables.proofs.graph_lemmas.Chains.{cycle_within}
use Rattle.check_tables.proofs.graph.cycle.first_of_left_out.Goals as goal

pub returns-then-branch : goal.returns-then-branch
returns-then-branch c = IsFirst-here (InCycle c.args.graph.now) c.loop-a.a c.loop-a.invariant (c.in_ok-leads_to_itself.ensures.0 c.if-branch.true)

pub loop-a-preserved : goal.loop-a-preserved
loop-a-preserved c = below_more _ _ c.loop-a.invariant (λ q. false≢true (sym c.if-branch.false ∙ c.in_ok-leads_to_itself.ensures.1 q))

pub returns : goal.returns
returns c = IsFirst-none (InCycle c.args.graph.now) c.loop-a.a c.loop-a.invariant (λ j q. let lt = cycle_within c.args.graph.now j q in let e = c.loop-a-test.false in let l = c.len-a-end.ensures in omega arith)
