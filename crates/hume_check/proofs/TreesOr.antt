-- The trees of declarations that break none of the rules of a phase, or the least of these.
use Rattle.std.proofs.Common.{◌≡◌, List, Option, Some, None, sym, subst}
use Rattle.hume_base.specs.declared.rule.Rule.TheVariants.{C45}
use Rattle.hume_base.specs.declared.finding.Finding.{Finding}
use Rattle.hume_base.specs.Least.{IsLeast, OfRule, earlier_of}
use Rattle.typed_core.specs.declared.typed_tree.TypedDeclaration.{TypedDeclaration}
use Rattle.check_typing.specs.declared.signatures.Signatures.{Signatures}
use Rattle.check_rules.specs.Declared.{Decls}
use Rattle.check_rules.specs.TypeRules.{HasNoInitial}
use Rattle.check_rules.specs.CheckRules.{BreaksTypes, BreaksLimits}
use Rattle.check_declarations.specs.Mistyped.{IsMistyped}
use Rattle.hume_check.specs.inner.Trees.{HaveTrees, HaveTreesOr, unless}
use Rattle.hume_check.proofs.Phases.{Late, least_type, least_late_later}

trees_or : (broken : Finding → Type 0) (s : Signatures) (decls : Decls) (found : Option Finding) (trees : List TypedDeclaration)
    → IsLeast broken found → HaveTrees s decls trees → HaveTreesOr broken s decls (unless found trees)
trees_or broken s decls None trees least have = (least, have)
trees_or broken s decls (Some finding) trees least have = least

module _ (s : Signatures) (decls : Decls) where
  -- no declaration is mistyped
  pub typed_trees : (found : Option Finding) (trees : List TypedDeclaration) → IsLeast (IsMistyped decls) None → IsLeast (OfRule C45 (HasNoInitial decls)) found
      → HaveTrees s decls trees → HaveTreesOr (BreaksTypes decls) s decls (unless found trees)
  typed_trees found trees none least have = trees_or (BreaksTypes decls) s decls found trees (least_type decls None found none least) have

  -- one is
  pub mistyped_least : (finding earliest : Finding) (found : Option Finding) → IsLeast (IsMistyped decls) (Some finding)
      → IsLeast (OfRule C45 (HasNoInitial decls)) found → Some earliest ≡ earlier_of (Some finding) found → IsLeast (BreaksTypes decls) (Some earliest)
  mistyped_least finding earliest found mistyped least is =
      subst (IsLeast (BreaksTypes decls)) (sym is) (least_type decls (Some finding) found mistyped least)

  -- no rule on types is broken
  pub limited_trees : (found : Option Finding) (trees : List TypedDeclaration) → IsLeast (BreaksLimits decls) found
      → IsLeast (BreaksTypes decls) None → HaveTrees s decls trees → HaveTreesOr (Late decls) s decls (unless found trees)
  limited_trees found trees least none have = trees_or (Late decls) s decls found trees (least_late_later decls found none least) have
