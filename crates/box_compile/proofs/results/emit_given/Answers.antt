use Rattle.std.proofs.Common.{◌≡◌, ◌+◌, List, ◌++◌, ◌∷◌, [], Option, length, take, ap, sym, ◌∙◌, subst, arith}
use Rattle.hume_model.specs.declared.core_tree.Expr.{Expr}
use Rattle.box_costs.specs.Bounds.{given_outs}
use Rattle.box_compile.specs.inner.Entries.{entry_in}
use Rattle.box_compile.proofs.Taken.{taken_more, taken_all}
use Rattle.box_compile.proofs.Forms.{PartsDone}
use Rattle.box_compile.proofs.ResultForms.{none_given, given_more, given_long}
use Rattle.box_compile.proofs.results.emit_given.Goals as goal

pub loop-out-init : goal.loop-out-init
loop-out-init c = record { top = omega arith; stands = none_given }

pub loop-out-preserved : goal.loop-out-preserved
loop-out-preserved c =
    let outs : List (Option Expr) = c.args.outs.now in
    let more : take (c.loop-out.out-index + 1) outs ≡ take c.loop-out.out-index outs ++ c.out-item.result ∷ [] = taken_more outs c.loop-out.out-index
    c.out-item.result c.loop-out-test.true c.out-item.is in
    record {
      top = given_long (take c.loop-out.out-index outs) c.out-item.result c.args.high c.loop-out.top c.in_ok-top.top c.loop-out.invariant.top
          c.in_ok-top.ensures.0
          ∙ ap (λ (l : List (Option Expr)). c.args.high + length (given_outs l)) (sym more);
      stands = subst (λ (l : List (Option Expr)). PartsDone (entry_in c.args.entries.now) c.args.places.now c.args.high c.args.writer.now
          c.emit_out.new.writer (given_outs l))
          (sym more) (given_more c.loop-out.top (take c.loop-out.out-index outs) c.out-item.result c.loop-out.invariant.top c.loop-out.invariant.stands
          c.in_ok-top.ensures.1);
    }

pub returns : goal.returns
returns c =
    let outs : List (Option Expr) = c.args.outs.now in
    subst (λ (l : List (Option Expr)). PartsDone (entry_in c.args.entries.now) c.args.places.now c.args.high c.args.writer.now c.loop-out.writer (given_outs l))
    (taken_all outs c.loop-out.out-index c.loop-out-test.false) c.loop-out.invariant.stands
