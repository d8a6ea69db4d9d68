-- Where in a source the declarations of a program stand, and for which program the tokens of a source stand.
use Rattle.std.specs.Prelude.{◌≡◌, ℕ, List, [], ◌∷◌, map, length, drop}
use Rattle.hume_base.specs.declared.token.Kind.{Kind}
use Rattle.hume_base.specs.declared.token.Token.{Token}
use Rattle.hume_ast.specs.declared.tree.Decl.{Decl}
use Rattle.hume_ast.specs.declared.tree.Program.{Program}
use Rattle.hume_ast.specs.Spelling.{spelled_decl, spelled}
use Rattle.hume_ast.specs.Fits.{IsFit}

-- the tokens without their places
abbrev pub kinds : List Token → List Kind
kinds tokens = map (λ (token : Token). token.kind) tokens

-- the declarations without their places
abbrev pub unplaced : List (ℕ × Decl) → List Decl
unplaced decls = map (λ (decl : ℕ × Decl). decl.1) decls

-- where the first token stands
abbrev pub first_place : List Token → ℕ
first_place [] = 0
first_place (token ∷ tokens) = token.place

-- the declarations that are spelled so, each with the place of its first token
abbrev pub placed : List Token → List Decl → List (ℕ × Decl)
placed tokens [] = []
placed tokens (decl ∷ decls) = (first_place tokens, decl) ∷ placed (drop (length (spelled_decl decl)) tokens) decls

-- the program is fit and spelled so, and each of its declarations has the place of its first token
abbrev pub StandsFor : List Token → Program → Type 0
StandsFor tokens program =
    IsFit program × (spelled program ≡ kinds tokens)
    × (program.decls ≡ placed tokens (unplaced program.decls))
