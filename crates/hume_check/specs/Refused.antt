-- What a program is refused for: the least rule that it breaks, at the line of the declaration that breaks it.
use Rattle.std.specs.Prelude.{◌≡◌, ℕ, List, Option, Some, None, slice_get}
use Rattle.hume_base.specs.declared.finding.Finding.{Finding}
use Rattle.hume_base.specs.declared.rule.Refusal.{Refusal}
use Rattle.hume_base.specs.Least.{IsLeast}
use Rattle.hume_base.specs.Places.{line_at}
use Rattle.hume_ast.specs.declared.tree.Decl.{Decl}
use Rattle.check_rules.specs.Declared.{Decls}
use Rattle.check_rules.specs.CheckRules.{BreaksCheck}
use Rattle.hume_check.specs.declared.checking.CheckError.{CheckError}
use Rattle.hume_check.specs.declared.checking.CheckError.TheVariants.{Refused, NoMemory}

-- the place of a declaration; 0 where there is none
abbrev pub place_of : Option (ℕ × Decl) → ℕ
place_of None = 0
place_of (Some decl) = decl.0

-- the line of the first token of a declaration
abbrev pub line_of_declaration : List ℕ → Decls → ℕ → ℕ
line_of_declaration text decls number = line_at text (place_of (slice_get decls number))

-- the broken rule, at the line of the declaration that breaks it
abbrev pub refusal_of : List ℕ → Decls → Finding → Refusal
refusal_of text decls f = record { rule = f.rule; line = line_of_declaration text decls f.declaration }

-- the refusal is of the least of the findings
pub record IsRefusedFor (broken : Finding → Type 0) (text : List ℕ) (decls : Decls) (refusal : Refusal) : Type 0 where
  pub finding : Finding
  pub least : IsLeast broken (Some finding)
  pub is : refusal ≡ refusal_of text decls finding

-- a program has no core for a rule that it breaks, or for want of memory
abbrev pub IsUnchecked : List ℕ → Decls → CheckError → Type 0
IsUnchecked text decls (Refused refusal) = IsRefusedFor (BreaksCheck decls) text decls refusal
IsUnchecked text decls NoMemory = Unit {0}
