-- What an accepted core says of a box that is compiled: its program takes little, and its bare form stands in the bare core.
use Rattle.std.proofs.Common.{◌≡◌, ◌≤◌, ℕ, None, Some, slice_get, refl, ap, sym, ◌∙◌, subst}
use Rattle.std.specs.Option.{option_map}
use Rattle.std.proofs.lemmas.Option.{slice_get-map}
use Rattle.hume_base.specs.Least.{IsLeast}
use Rattle.hume_base.specs.declared.limits.TheConstants.{MAX_HEAP_WORDS, MAX_STACK_WORDS}
use Rattle.hume_model.specs.declared.core_tree.BoxC.{BoxC}
use Rattle.hume_model.specs.declared.core_tree.NodeC.TheVariants.{Rules}
use Rattle.hume_model.specs.declared.core_tree.Core.{Core}
use Rattle.hume_model.specs.Handling.{HandlesAll}
use Rattle.hume_model.specs.WellFormed.{IsWellFormed}
use Rattle.model_bare.specs.Bare.{bare_of, bare_node, bare_box}
use Rattle.box_code.specs.declared.program.BoxProgram.{BoxProgram}
use Rattle.box_code.specs.RepresentsBox.{RepresentsBox}
use Rattle.box_costs.specs.CostRules.{BreaksCosts}
use Rattle.box_costs.proofs.Limits.{small_heap, small_stack}
use Rattle.box_step.specs.Boxes.{AreBareForms, TakesLittle}

pub takes_little : (core : Core) → IsLeast (BreaksCosts core) None → (n : ℕ) (b : BoxC) → slice_get core.nodes n ≡ Some (Rules b)
    → (program : BoxProgram) → RepresentsBox core b program → TakesLittle program
takes_little core within n b there program is = record {
  heap = subst (λ words. words ≤ MAX_HEAP_WORDS) (sym is.heap) (small_heap core within n b there);
  stack = subst (λ words. words ≤ MAX_STACK_WORDS) (sym is.stack) (small_stack core within n b there);
}

module _ (core : Core) (formed : IsWellFormed core) (n : ℕ) (b : BoxC) (there : slice_get core.nodes n ≡ Some (Rules b)) (handles : HandlesAll core b) where
  pub own_forms : AreBareForms core b (bare_of core) (bare_box b)
  own_forms = record {
    sound = record { formed = formed; node = n; there = there; handles = handles };
    core_is = refl;
    box_is = refl;
  }

  pub forms_there : (bare : Core) → bare ≡ bare_of core → (its : BoxC) → slice_get bare.nodes n ≡ Some (Rules its) → AreBareForms core b bare its
  forms_there bare same its found =
      let at : slice_get bare.nodes n ≡ Some (Rules (bare_box b)) =
      ap (λ (c : Core). slice_get c.nodes n) same ∙ slice_get-map bare_node core.nodes n ∙ ap (option_map bare_node) there in
      let both : Some (Rules its) ≡ Some (Rules (bare_box b)) = sym found ∙ at in
      record {
        sound = record { formed = formed; node = n; there = there; handles = handles };
        core_is = same;
        box_is = (let is : its ≡ bare_box b = cc in is);
      }
