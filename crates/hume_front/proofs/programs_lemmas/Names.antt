-- Names and texts of declarations are among the tokens that the declarations are spelled with.
use Rattle.std.proofs.Common.{ℕ, List, [], ◌∷◌, ◌++◌, map}
use Rattle.hume_base.specs.declared.symbol.Symbol.TheVariants as symbol
use Rattle.hume_base.specs.declared.token.Kind.{Kind}
use Rattle.hume_base.specs.declared.token.Kind.TheVariants.{Sign}
use Rattle.hume_ast.specs.declared.tree.TyExp.{TyExp}
use Rattle.hume_ast.specs.declared.tree.Decl.{Decl}
use Rattle.hume_ast.specs.declared.tree.Decl.TheVariants.{Sum, Exn, Fun, BoxD, Stream, Wire}
use Rattle.hume_ast.specs.Fits.{Each}
use Rattle.hume_ast.specs.Spelling.{separated, preceded, spelled_constructor, spelled_typed_name, spelled_decl, spelled_decls}
use Rattle.check_rules.specs.OfTokens.{HasNames, AreConstructorNames, ArePlaceNames}
use Rattle.hume_front.proofs.programs_lemmas.SmallKinds.{IsSmall}

front : (xs ys : List Kind) → Each IsSmall (xs ++ ys) → Each IsSmall xs
front [] ys h = tt
front (x ∷ xs) ys h = (h.0, front xs ys h.1)

back : (xs ys : List Kind) → Each IsSmall (xs ++ ys) → Each IsSmall ys
back [] ys h = h
back (x ∷ xs) ys h = back xs ys h.1

constructors_after : (cons : List (List ℕ × List TyExp)) → Each IsSmall (preceded symbol.Bar (map spelled_constructor cons)) → AreConstructorNames cons
constructors_after [] h = tt
constructors_after (con ∷ cons) h =
    (h.1.0, constructors_after cons (back (spelled_constructor con) (preceded symbol.Bar (map spelled_constructor cons)) h.1))

constructors : (cons : List (List ℕ × List TyExp)) → Each IsSmall (separated symbol.Bar (map spelled_constructor cons)) → AreConstructorNames cons
constructors [] h = tt
constructors (con ∷ cons) h =
    (h.0, constructors_after cons (back (spelled_constructor con) (preceded symbol.Bar (map spelled_constructor cons)) h))

places_after : (places : List (List ℕ × TyExp)) → Each IsSmall (preceded symbol.Comma (map spelled_typed_name places)) → ArePlaceNames places
places_after [] h = tt
places_after (place ∷ places) h =
    (h.1.0, places_after places (back (spelled_typed_name place) (preceded symbol.Comma (map spelled_typed_name places)) h.1))

places_between : (places : List (List ℕ × TyExp)) → Each IsSmall (separated symbol.Comma (map spelled_typed_name places)) → ArePlaceNames places
places_between [] h = tt
places_between (place ∷ places) h =
    (h.0, places_after places (back (spelled_typed_name place) (preceded symbol.Comma (map spelled_typed_name places)) h))

-- the tokens of inputs or outputs, behind the parenthesis that opens
abbrev closed : List (List ℕ × TyExp) → List Kind
closed places = separated symbol.Comma (map spelled_typed_name places) ++ Sign symbol.CloseParen ∷ []

side : (places : List (List ℕ × TyExp)) (more : List Kind) → Each IsSmall (closed places ++ more) → ArePlaceNames places
side places more h =
    places_between places (front (separated symbol.Comma (map spelled_typed_name places)) (Sign symbol.CloseParen ∷ []) (front (closed places) more h))

has_names : (decl : Decl) → Each IsSmall (spelled_decl decl) → HasNames decl
has_names (Sum name cons) h =
    (h.1.0, constructors cons (front (separated symbol.Bar (map spelled_constructor cons)) (Sign symbol.Semicolon ∷ []) h.1.1.1))
has_names (Exn name ty) h = h.1.0
has_names (Fun name tys equations) h = h.0
has_names (BoxD name ins outs fair rules handlers) h =
    let sides = h.1.1.1.1 in
    let out = back (closed ins) _ sides in
    (h.1.0, side ins _ sides, side outs _ out.1.1)
has_names (Stream name from port) h = (h.1.0, h.1.1.1.0)
has_names (Wire source target depth initial) h = tt

pub all_names : (decls : List (ℕ × Decl)) → Each IsSmall (spelled_decls decls) → Each (λ (d : ℕ × Decl). HasNames d.1) decls
all_names [] h = tt
all_names (d ∷ decls) h = (has_names d.1 (front (spelled_decl d.1) (spelled_decls decls) h), all_names decls (back (spelled_decl d.1) (spelled_decls decls) h))
