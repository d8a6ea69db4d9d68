-- What comes of a declaration, by what is found of it: its trees, or the rule that it breaks.
use Rattle.std.specs.Prelude.{◌≡◌, ℕ, true, false, List, Option, Some, None, Result, Ok, Err, slice_get}
use Rattle.hume_base.specs.declared.finding.Finding.{Finding}
use Rattle.hume_base.specs.declared.rule.Rule.{Rule}
use Rattle.hume_base.specs.declared.rule.Rule.TheVariants.{C40, C41}
use Rattle.hume_base.specs.Least.{IsLeast}
use Rattle.hume_ast.specs.declared.tree.Decl.{Decl}
use Rattle.typed_core.specs.declared.typed_tree.TypedDeclaration.{TypedDeclaration}
use Rattle.check_typing.specs.Declarations.{CoredDeclaration, InPlaces}
use Rattle.check_typing.specs.inner.DeclarationWalk.{declaration_walk}
use Rattle.check_typing.specs.declared.signatures.Signatures.{Signatures}

-- something has no type, or a literal is out of the range of its type, or neither
abbrev pub verdict_on : Option CoredDeclaration → Result TypedDeclaration Rule
verdict_on None = Err C40
verdict_on (Some (trees, true)) = Err C41
verdict_on (Some (trees, false)) = Ok trees

-- by the signatures
abbrev pub verdict_by : Signatures → ℕ × Decl → Result TypedDeclaration Rule
verdict_by signatures decl = verdict_on (declaration_walk signatures decl.1)

-- by the signatures, the declaration of the finding breaks its rule
pub record Breaks (signatures : Signatures) (decls : List (ℕ × Decl)) (f : Finding) : Type 0 where
  pub decl : ℕ × Decl
  pub there : slice_get decls f.declaration ≡ Some decl
  pub broken : verdict_by signatures decl ≡ Err f.rule

-- by the signatures, the declarations have these trees
abbrev pub AreTrees : Signatures → List (ℕ × Decl) → List TypedDeclaration → Type 0
AreTrees signatures decls trees = InPlaces (λ (decl : ℕ × Decl) tree. verdict_by signatures decl ≡ Ok tree) decls trees

-- the trees of all declarations, or the least finding
abbrev pub AreVerdicts : Signatures → List (ℕ × Decl) → Result (List TypedDeclaration) Finding → Type 0
AreVerdicts signatures decls (Ok trees) = AreTrees signatures decls trees × IsLeast (Breaks signatures decls) None
AreVerdicts signatures decls (Err f) = IsLeast (Breaks signatures decls) (Some f)
