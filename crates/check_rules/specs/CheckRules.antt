-- What a program breaks in its names, counts, types and limits.
use Rattle.hume_base.specs.declared.finding.Finding.{Finding}
use Rattle.hume_base.specs.declared.rule.Rule.TheVariants.{C40, C41, C42, C43, C44, C45, C72, C73, C74}
use Rattle.hume_base.specs.Least.{OfRule}
use Rattle.check_names.specs.Misnamed.{BreaksNames}
use Rattle.check_names.specs.Twice.{BindsTwice}
use Rattle.check_counts.specs.CountRules.{Miscounts, HasStrayStar}
use Rattle.check_counts.specs.Limits.{PassesLimits}
use Rattle.check_rules.specs.Declared.{Decls}
use Rattle.check_rules.specs.TypeRules.{IsUntyped, HasLiteralOutOfRange, HasNoInitial}
use Rattle.check_rules.specs.SizeRules.{HasLargeType, PassesWords}

-- one of the rules on counts is broken by one of the declarations
pub data BreaksCounts (decls : Decls) (f : Finding) : Type 0 where
  miscounts : OfRule C42 (Miscounts decls) f → BreaksCounts decls f
  binds_twice : OfRule C43 (BindsTwice decls) f → BreaksCounts decls f
  stray_star : OfRule C44 (HasStrayStar decls) f → BreaksCounts decls f

-- one of the rules on types
pub data BreaksTypes (decls : Decls) (f : Finding) : Type 0 where
  untyped : OfRule C40 (IsUntyped decls) f → BreaksTypes decls f
  out_of_range : OfRule C41 (HasLiteralOutOfRange decls) f → BreaksTypes decls f
  no_initial : OfRule C45 (HasNoInitial decls) f → BreaksTypes decls f

-- one of the rules on limits
pub data BreaksLimits (decls : Decls) (f : Finding) : Type 0 where
  passes_limits : OfRule C72 (PassesLimits decls) f → BreaksLimits decls f
  large_type : OfRule C73 (HasLargeType decls) f → BreaksLimits decls f
  passes_words : OfRule C74 (PassesWords decls) f → BreaksLimits decls f

-- what has no core
pub data BreaksCheck (decls : Decls) (f : Finding) : Type 0 where
  names : BreaksNames decls f → BreaksCheck decls f
  counts : BreaksCounts decls f → BreaksCheck decls f
  types : BreaksTypes decls f → BreaksCheck decls f
  limits : BreaksLimits decls f → BreaksCheck decls f

-- no declaration of the program breaks one of these rules
abbrev pub IsFine : Decls → Type 0
IsFine decls = (f : Finding) → BreaksCheck decls f → ⊥
