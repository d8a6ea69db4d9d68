use Rattle.std.proofs.Common.{◌≡◌, ℕ, Option, None, subst}
use Rattle.std.specs.Option.{IfSome}
use Rattle.hume_base.specs.declared.limits.TheConstants.{MAX_DEPTH}
use Rattle.check_signatures.specs.declared.ordered.Ordered.{Ordered}
use Rattle.hume_base.specs.declared.finding.Finding.{Finding}
use Rattle.hume_ast.specs.Fits.{DeclsFit}
use Rattle.check_names.specs.Misnamed.{BreaksNames}
use Rattle.check_rules.specs.CheckRules.{BreaksCounts}
use Rattle.check_rules.specs.Declared.{Decls}
use Rattle.check_rules.specs.SignaturesOf.{AreSignatures}
use Rattle.hume_check.proofs.Phases.{no_early_names, no_early_counts}
use Rattle.hume_check.proofs.checking.check_named.Goals as goal

abbrev Are : Decls → Option Ordered → Type 0
Are decls found = IfSome found (λ ordered. (are : AreSignatures decls ordered.signatures) × (are.funs.order ≡ ordered.functions))

abbrev Fine : Decls → Option Ordered → Type 0
Fine decls found =
    (bound : ℕ) → DeclsFit bound decls → ((f : Finding) → BreaksNames decls f → ⊥) → ((f : Finding) → BreaksCounts decls f → ⊥) → found ≡ None → ⊥

pub check_ordered-requires-clause-are : goal.check_ordered-requires-clause-are
check_ordered-requires-clause-are c =
    let found = subst (λ d. Are d c.in_ok-ordered.field-0) c.as_slice.ensures c.in_ok-ordered.ensures.are in
    subst (Are c.args.program.now.decls) c.in-Some.is found

pub unreachable-requires : goal.unreachable-requires
unreachable-requires c =
    let decls = c.args.program.now.decls in
    let fine = subst (λ (d : Decls). Fine d c.in_ok-ordered.field-0) c.as_slice.ensures c.in_ok-ordered.ensures.fine in
    fine MAX_DEPTH c.requires.fit (no_early_names decls c.requires.named) (no_early_counts decls c.requires.named) c.in-None.is
