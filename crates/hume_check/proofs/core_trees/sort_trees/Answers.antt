use Rattle.std.proofs.Common.{[], ◌∷◌, ◌++◌, ap, sym, ◌∙◌}
use Rattle.std.specs.List.{cons_option}
use Rattle.std.proofs.lemmas.List.{map-append}
use Rattle.std.proofs.lemmas.List.Elements.{filter_map-append}
use Rattle.hume_check.specs.inner.CoreTrees.{box_trees_of, equations_of}
use Rattle.hume_check.proofs.core_trees.sort_trees.Goals as goal

pub loop-trees-preserved : goal.loop-trees-preserved
loop-trees-preserved c =
    let trees = c.in-Some.trees in
    let yielded = c.loop-trees.yielded in
    record {
      equations = c.in_ok-sort_one.ensures.equations ∙ ap (λ equations. equations ++ equations_of trees ∷ []) c.loop-trees.invariant.equations
          ∙ sym (map-append equations_of yielded (trees ∷ []));
      boxes = c.in_ok-sort_one.ensures.boxes ∙ ap (λ boxes. boxes ++ cons_option (box_trees_of trees) []) c.loop-trees.invariant.boxes
          ∙ sym (filter_map-append box_trees_of yielded (trees ∷ []));
    }
