-- The trees of the declarations of a program that breaks no rule, in order, are those of the program's core.
use Rattle.std.proofs.Common.{◌≡◌, ℕ, List, map, sym, subst, ◌∙◌}
use Rattle.std.specs.List.{filter_map}
use Rattle.hume_ast.specs.declared.tree.Program.{Program}
use Rattle.hume_model.specs.declared.core_tree.Core.{Core}
use Rattle.check_tables.proofs.graph_lemmas.Orders.{same_order}
use Rattle.check_names.specs.declared.mention_list.NameKind.TheVariants.{Function}
use Rattle.check_names.specs.Leading.{graph_of}
use Rattle.check_typing.specs.CoreSignatures.{HasSignatures}
use Rattle.check_typing.specs.declared.signatures.Signatures.{Signatures}
use Rattle.check_rules.specs.SignaturesOf.{AreSignatures}
use Rattle.check_rules.specs.CoreOf.{IsCoreOf}
use Rattle.check_rules.specs.CheckRules.{IsFine}
use Rattle.check_rules.proofs.SignaturesOnce.{the_signatures}
use Rattle.check_rules.proofs.CoreTyped.{has_signatures}
use Rattle.typed_core.specs.declared.trees.Trees.{Trees}
use Rattle.typed_core.specs.Trees.{FunctionsHave, AreTrees}
use Rattle.hume_check.specs.inner.Trees.{HaveTrees}
use Rattle.hume_check.specs.inner.CoreTrees.{slot_at, equations_of, AreInOrder}
use Rattle.hume_check.proofs.TypedCores.{functions_have, boxes_have}

module _ (text : List ℕ) (program : Program) (core : Core) (fine : IsFine program.decls) (is : IsCoreOf text program core) where
  of : HasSignatures is.signatures core
  of = has_signatures text program core fine is

  pub trees_of_core : (s : Signatures) (are : AreSignatures program.decls s) (order : List ℕ) → are.funs.order ≡ order → (trees : Trees)
      → AreInOrder s program.decls order trees → AreTrees core trees
  trees_of_core s are order same trees h =
      let own = the_signatures program.decls s is.signatures are is.are in
      let own_order : is.are.funs.order ≡ order =
      same_order (graph_of Function program.decls) is.are.funs.order are.funs.order is.are.funs.numbered are.funs.numbered ∙ same in
      let have : HaveTrees is.signatures program.decls h.declared = subst (λ (s : Signatures). HaveTrees s program.decls h.declared) own h.have in
      subst (AreTrees core) (sym h.are) (record {
        functions = subst (λ order. FunctionsHave core core.funs (filter_map (slot_at (map equations_of h.declared)) order)) own_order
            (functions_have text is.signatures core of program.decls h.declared have is.are.funs.order core.funs is.funs);
        boxes = boxes_have text is.signatures core of 0 program.decls h.declared core.nodes have is.nodes;
      })
