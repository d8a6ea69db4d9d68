-- A text from the names and the types that were made.
use Rattle.std.proofs.Common.{◌≡◌, ℕ, List, Result, IfOk, Vec, Global, ap, subst, ◌∙◌}
use Rattle.hume_model.specs.declared.core_tree.Core.{Core}
use Rattle.typed_core.specs.declared.trees.Trees.{Trees}
use Rattle.c_names.specs.declared.names.Names.{Names}
use Rattle.c_names.specs.Names.{names_of}
use Rattle.c_types.specs.Gathered.{Gathered}
use Rattle.c_told.specs.Told.{types_of}
use Rattle.c_main.specs.Main.{main_text}
use Rattle.hume_c.specs.Texts.{types_told}

pub main_made : {E : Type 0} (core : Core) (trees : Trees) (program : List ℕ) (names : Names) (types : Gathered)
    (result : Result (Vec ℕ Global) E)
    → names ≡ names_of program → types ≡ types_of core names trees.functions trees.boxes → IfOk result (λ text. text.items ≡ main_text types core)
    → IfOk result (λ text. text.items ≡ main_text (types_told core trees program) core)
main_made core trees program names types result names_are types_are made =
    subst (λ (it : Gathered). IfOk result (λ text. text.items ≡ main_text it core))
    (types_are ∙ ap (λ (it : Names). types_of core it trees.functions trees.boxes) names_are) made
