-- A program has no more declarations and constructors than tokens.
use Rattle.std.proofs.Common.{ℕ, ◌≤◌, List, [], ◌∷◌, map, length, ap, arith, length-append}
use Rattle.std.proofs.lemmas.List.{length-map}
use Rattle.hume_base.specs.declared.symbol.Symbol.TheVariants as symbol
use Rattle.hume_base.specs.declared.token.Kind.TheVariants.{Sign}
use Rattle.hume_base.specs.declared.limits.TheConstants.{MAX_CONSTRUCTORS, MAX_TOKENS}
use Rattle.hume_ast.specs.declared.tree.TyExp.{TyExp}
use Rattle.hume_ast.specs.declared.tree.Decl.{Decl}
use Rattle.hume_ast.specs.declared.tree.Decl.TheVariants.{Sum, Exn, Fun, BoxD, Stream, Wire}
use Rattle.hume_ast.specs.Fits.{Each}
use Rattle.hume_ast.specs.Spelling.{separated, preceded, spelled_constructor, spelled_decl, spelled_decls}
use Rattle.hume_base.specs.declared.token.Token.{Token}
use Rattle.hume_ast.specs.declared.tree.Program.{Program}
use Rattle.hume_ast.specs.Places.{StandsFor}
use Rattle.hume_lex.specs.BadPlaces.{IsRead}
use Rattle.check_rules.specs.OfTokens.{HasConstructors}

after : (cons : List (List ℕ × List TyExp)) → length cons ≤ length (preceded symbol.Bar (map spelled_constructor cons))
after [] = omega arith
after (con ∷ cons) =
    omega (arith, after cons, length-append (spelled_constructor con) (preceded symbol.Bar (map spelled_constructor cons)))

between : (cons : List (List ℕ × List TyExp)) → length cons ≤ length (separated symbol.Bar (map spelled_constructor cons))
between [] = omega arith
between (con ∷ cons) =
    omega (arith, after cons, length-append (spelled_constructor con) (preceded symbol.Bar (map spelled_constructor cons)))

few : (bound : ℕ) (decl : Decl) → bound ≤ MAX_CONSTRUCTORS → length (spelled_decl decl) ≤ bound → HasConstructors decl
few bound (Sum name cons) b h =
    omega (arith, b, h, between cons, length-append (separated symbol.Bar (map spelled_constructor cons)) (Sign symbol.Semicolon ∷ []))
few bound (Exn name ty) b h = tt
few bound (Fun name tys equations) b h = tt
few bound (BoxD name ins outs fair rules handlers) b h = tt
few bound (Stream name from port) b h = tt
few bound (Wire source target depth initial) b h = tt

pub all_few : (bound : ℕ) (decls : List (ℕ × Decl)) → bound ≤ MAX_CONSTRUCTORS → length (spelled_decls decls) ≤ bound
    → Each (λ (d : ℕ × Decl). HasConstructors d.1) decls
all_few bound [] b h = tt
all_few bound (d ∷ decls) b h = (
  few bound d.1 b (omega (arith, h, length-append (spelled_decl d.1) (spelled_decls decls))),
  all_few bound decls b (omega (arith, h, length-append (spelled_decl d.1) (spelled_decls decls))),
)

some_token : (decl : Decl) → 1 ≤ length (spelled_decl decl)
some_token (Sum name cons) = omega arith
some_token (Exn name ty) = omega arith
some_token (Fun name tys equations) = omega arith
some_token (BoxD name ins outs fair rules handlers) = omega arith
some_token (Stream name from port) = omega arith
some_token (Wire source target depth initial) = omega arith

pub short : (decls : List (ℕ × Decl)) → length decls ≤ length (spelled_decls decls)
short [] = omega arith
short (d ∷ decls) = omega (arith, some_token d.1, short decls, length-append (spelled_decl d.1) (spelled_decls decls))

-- a program of a source is spelled with no more tokens than a source may have
pub tokens_bound : (text : List ℕ) (tokens : List Token) (program : Program) → IsRead text tokens → StandsFor tokens program
    → length (spelled_decls program.decls) ≤ MAX_TOKENS
tokens_bound text tokens program r s = omega (arith, ap length s.1, length-map tokens (λ (t : Token). t.kind), r.1)
