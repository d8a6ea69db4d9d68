use Rattle.std.proofs.Common.{length, sym, subst, ◌∙◌}
use Rattle.check_scopes.specs.types.Nodes.{all_below}
use Rattle.check_scopes.proofs.types_lemmas.Held.{grows_then, below_more, below_last, one_more}
use Rattle.check_scopes.proofs.types.trees.+number_of.Goals as goal

pub numbers_of-loop-ty-preserved : goal.numbers_of-loop-ty-preserved
numbers_of-loop-ty-preserved t c =
    let g = c.number_of.ensures.grows in
    record {
      grows = grows_then _ _ _ c.loop-ty.invariant.grows g;
      within = subst (all_below (length c.number_of.new.types)) (sym c.in_ok-push.ensures.items)
          (below_last _ _ c.loop-ty.numbers.items (below_more _ _ c.loop-ty.numbers.items g.0 c.loop-ty.invariant.within) c.in_ok-number.ensures.within);
      so_far = one_more _ _ g _ _ _ _ _ _ c.loop-ty-test.true (sym c.ty-item.is) c.loop-ty.invariant.within c.loop-ty.invariant.so_far c.in_ok-push.ensures.items (c.in_ok-number.ensures.is ∙ c.deref.ensures);
    }
