use Rattle.std.proofs.Common.{◌≡◌, ◌+◌, take, Some, Result, slice_get, refl, ap, sym, subst, ◌∙◌}
use Rattle.std.specs.Prelude.{OnOk}
use Rattle.std.proofs.lemmas.List.{take_all}
use Rattle.std.proofs.lemmas.Option.{slice_get_read}
use Rattle.hume_base.specs.declared.rule.Rule.{Rule}
use Rattle.typed_core.specs.declared.typed_tree.TypedDeclaration.{TypedDeclaration}
use Rattle.check_tasks.specs.results.ResultStates.{ResultState}
use Rattle.check_declarations.specs.inner.Verdicts.{verdict_by, AreTrees}
use Rattle.check_declarations.proofs.FirstLaws.{none_more, least_here, least_none, trees_more}
use Rattle.check_declarations.proofs.first.verdicts_by.Goals as goal

pub returns-in-Err : goal.returns-in-Err
returns-in-Err c =
    let decls = c.args.decls.now in
    let d = c.index-decls-i.result in
    let at : slice_get decls c.loop-i.i ≡ Some d = slice_get_read decls _ c.loop-i.i d refl c.loop-i-test.true c.index-decls-i.is in
    let found = ap (λ (state : ResultState). verdict_by state.0.0.2 d) (sym c.loop-i.invariant.same) ∙ sym c.in_ok-trees.ensures.is in
    least_here c.args.at.now.0.0.2 decls c.loop-i.i d at c.in-Err.rule (found ∙ c.in-Err.is) c.loop-i.invariant.none

pub loop-i-preserved : goal.loop-i-preserved
loop-i-preserved c =
    let decls = c.args.decls.now in
    let d = c.index-decls-i.result in
    let at : slice_get decls c.loop-i.i ≡ Some d = slice_get_read decls _ c.loop-i.i d refl c.loop-i-test.true c.index-decls-i.is in
    let found = ap (λ (state : ResultState). verdict_by state.0.0.2 d) (sym c.loop-i.invariant.same) ∙ sym c.in_ok-trees.ensures.is in
    let kept = subst (λ (r : Result TypedDeclaration Rule). OnOk r (c.verdict_of.new.at ≡ c.loop-i.at)) c.in-Ok.is c.in_ok-trees.ensures.keeps in
    record {
      same = kept ∙ c.loop-i.invariant.same;
      none = none_more c.args.at.now.0.0.2 decls c.loop-i.i d at c.in-Ok.trees (found ∙ c.in-Ok.is) c.loop-i.invariant.none;
      so_far = subst (AreTrees c.args.at.now.0.0.2 (take (c.loop-i.i + 1) decls)) (sym c.in_ok-push-in-Ok.ensures.ok)
          (trees_more c.args.at.now.0.0.2 decls c.loop-i.all c.loop-i.i d c.in-Ok.trees c.loop-i-test.true c.index-decls-i.is (found ∙ c.in-Ok.is) c.loop-i.invariant.so_far);
    }

pub returns : goal.returns
returns c = (
  subst (λ ds. AreTrees c.args.at.now.0.0.2 ds c.loop-i.all) (take_all c.loop-i.i c.args.decls.now c.loop-i-test.false) c.loop-i.invariant.so_far,
  least_none c.args.at.now.0.0.2 c.args.decls.now c.loop-i.i c.loop-i-test.false c.loop-i.invariant.none,
)
