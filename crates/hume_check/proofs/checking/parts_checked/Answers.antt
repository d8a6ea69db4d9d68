use Rattle.std.proofs.Common.{◌≡◌, ℕ, List, IfOk, sym, subst, ◌∙◌}
use Rattle.check_typing.specs.declared.signatures.Signatures.{Signatures}
use Rattle.check_rules.specs.SignaturesOf.{AreSignatures}
use Rattle.hume_check.specs.declared.assembly.TypedParts.{TypedParts}
use Rattle.hume_check.specs.inner.CoreTrees.{AreInOrder}
use Rattle.hume_check.specs.inner.Parts.{AreParts}
use Rattle.hume_check.proofs.checking.parts_checked.Goals as goal

pub parts_by_table-requires-clause-are : goal.parts_by_table-requires-clause-are
parts_by_table-requires-clause-are c =
    subst (λ (s : Signatures). (are : AreSignatures c.args.program.now.decls s) × (are.funs.order ≡ c.as_slice.result.now)) (sym c.in_ok-table.ensures)
    (c.requires.are.0, c.requires.are.1 ∙ sym c.as_slice.ensures)

pub returns-clause-parts : goal.returns-clause-parts
returns-clause-parts c =
    let text = c.args.lines.now in
    let decls = c.args.program.now.decls in
    let found = c.parts_by_table.result in
    subst (λ (order : List ℕ). IfOk found (λ (typed : TypedParts). AreParts text decls order c.args.ordered.now.signatures typed.parts)) c.as_slice.ensures
    (subst (λ (s : Signatures). IfOk found (λ (typed : TypedParts). AreParts text decls c.as_slice.result.now s typed.parts)) c.in_ok-table.ensures
    c.parts_by_table.ensures.parts)

pub returns-clause-trees : goal.returns-clause-trees
returns-clause-trees c =
    let decls = c.args.program.now.decls in
    let found = c.parts_by_table.result in
    subst (λ (order : List ℕ). IfOk found (λ (typed : TypedParts). AreInOrder c.args.ordered.now.signatures decls order typed.trees)) c.as_slice.ensures
    (subst (λ (s : Signatures). IfOk found (λ (typed : TypedParts). AreInOrder s decls c.as_slice.result.now typed.trees)) c.in_ok-table.ensures
    c.parts_by_table.ensures.trees)
