-- The trees of all declarations of a program.
use Rattle.std.specs.Prelude.{ℕ, List, Option, Some, None, Ok, Err}
use Rattle.std.specs.declared.result.Result.{Result}
use Rattle.hume_base.specs.declared.finding.Finding.{Finding}
use Rattle.hume_base.specs.Least.{IsLeast}
use Rattle.hume_ast.specs.declared.tree.Decl.{Decl}
use Rattle.typed_core.specs.declared.typed_tree.TypedDeclaration.{TypedDeclaration}
use Rattle.check_typing.specs.Declarations.{InPlaces, HasTrees}
use Rattle.check_typing.specs.declared.signatures.Signatures.{Signatures}
use Rattle.check_rules.specs.Declared.{Decls}

-- each declaration has the trees in its place
abbrev pub HaveTrees : Signatures → Decls → List TypedDeclaration → Type 0
HaveTrees signatures decls trees = InPlaces (λ (d : ℕ × Decl) t. HasTrees signatures d.1 t) decls trees

-- the trees of declarations that break none of the rules, or the least that they break
abbrev pub HaveTreesOr : (Finding → Type 0) → Signatures → Decls → Result (List TypedDeclaration) Finding → Type 0
HaveTreesOr broken signatures decls (Ok trees) = IsLeast broken None × HaveTrees signatures decls trees
HaveTreesOr broken signatures decls (Err finding) = IsLeast broken (Some finding)

-- the trees, if nothing is found
abbrev pub unless : Option Finding → List TypedDeclaration → Result (List TypedDeclaration) Finding
unless None trees = Ok trees
unless (Some finding) trees = Err finding
