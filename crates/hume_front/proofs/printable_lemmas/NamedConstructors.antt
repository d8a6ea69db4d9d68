-- The constructors of a source's data types have names, and differ within one.
use Rattle.std.proofs.Common.{◌≡◌, ℕ, inl, inr, List, [], ◌∷◌, ◌++◌, map, true, Some, slice_get, refl, ap, sym, subst, ◌∙◌, arith, take, append-nil}
use Rattle.std.specs.Option.{option_map}
use Rattle.std.proofs.lemmas.Bool.{cases_lt}
use Rattle.std.proofs.lemmas.Option.{slice_get-map}
use Rattle.hume_base.specs.declared.rule.Rule.TheVariants.{C30}
use Rattle.hume_base.specs.declared.symbol.Symbol.TheVariants as symbol
use Rattle.hume_base.specs.declared.token.Kind.{Kind}
use Rattle.hume_base.specs.declared.token.Kind.TheVariants.{Sign}
use Rattle.hume_base.specs.declared.token.Token.{Token}
use Rattle.hume_base.specs.declared.types.SumDef.{SumDef}
use Rattle.hume_base.specs.declared.types.Types.{Types}
use Rattle.hume_ast.specs.declared.tree.TyExp.{TyExp}
use Rattle.hume_ast.specs.declared.tree.Decl.{Decl}
use Rattle.hume_ast.specs.declared.tree.Decl.TheVariants.{Sum}
use Rattle.hume_ast.specs.declared.tree.Program.{Program}
use Rattle.hume_ast.specs.Fits.{Each}
use Rattle.hume_ast.specs.Spelling.{separated, preceded, spelled_constructor, spelled_decl, spelled_decls}
use Rattle.hume_ast.specs.Places.{StandsFor}
use Rattle.hume_lex.specs.BadPlaces.{IsRead}
use Rattle.check_names.specs.Names.{repeats}
use Rattle.check_names.specs.DeclaredNames.{constructors_of, exceptions_of, types_of}
use Rattle.check_names.specs.Repeated.{spaces_in, repeats_own}
use Rattle.check_names.specs.Misnamed.{BreaksNames}
use Rattle.hume_model.specs.declared.core_tree.Core.{Core}
use Rattle.check_rules.specs.SignaturesOf.{IsConstructor}
use Rattle.check_rules.specs.CheckRules.{IsFine, BreaksCheck}
use Rattle.check_rules.specs.CoreOf.{IsCoreOf}
use Rattle.check_rules.proofs.Stands.{from_right}
use Rattle.check_rules.proofs.BoxFrames.{or_left, or_right, repeated}
use Rattle.check_rules.proofs.PortsWritten.{each_at}
use Rattle.check_rules.proofs.DataWritten.{data_declared}
use Rattle.hume_text.specs.Names.{IsConName, HasNames, HaveNames}
use Rattle.hume_front.proofs.printable_lemmas.NamedTokens.{IsNamed, kinds_named}

-- a constructor as it is declared: its name, and the types of its fields
abbrev Declared : Type 0
Declared = List ℕ × List TyExp

-- names of constructors, in the tokens of a declaration

front : (xs ys : List Kind) → Each IsNamed (xs ++ ys) → Each IsNamed xs
front [] ys h = tt
front (x ∷ xs) ys h = (h.0, front xs ys h.1)

back : (xs ys : List Kind) → Each IsNamed (xs ++ ys) → Each IsNamed ys
back [] ys h = h
back (x ∷ xs) ys h = back xs ys h.1

abbrev AreNamed : List Declared → Type 0
AreNamed cons = Each (λ (con : Declared). IsConName con.0) cons

named_after : (cons : List Declared) → Each IsNamed (preceded symbol.Bar (map spelled_constructor cons)) → AreNamed cons
named_after [] h = tt
named_after (con ∷ cons) h = (h.1.0, named_after cons (back (spelled_constructor con) (preceded symbol.Bar (map spelled_constructor cons)) h.1))

named_between : (cons : List Declared) → Each IsNamed (separated symbol.Bar (map spelled_constructor cons)) → AreNamed cons
named_between [] h = tt
named_between (con ∷ cons) h = (h.0, named_after cons (back (spelled_constructor con) (preceded symbol.Bar (map spelled_constructor cons)) h))

named_data : (name : List ℕ) (cons : List Declared) → Each IsNamed (spelled_decl (Sum name cons)) → AreNamed cons
named_data name cons h = named_between cons (front (separated symbol.Bar (map spelled_constructor cons)) (Sign symbol.Semicolon ∷ []) h.1.1.1)

decls_named : (decls : List (ℕ × Decl)) → Each IsNamed (spelled_decls decls) → Each (λ (d : ℕ × Decl). Each IsNamed (spelled_decl d.1)) decls
decls_named [] h = tt
decls_named (d ∷ decls) h =
    (front (spelled_decl d.1) (spelled_decls decls) h, decls_named decls (back (spelled_decl d.1) (spelled_decls decls) h))

abbrev con_name : Declared → List ℕ
con_name con = con.0

name_at : (cons : List Declared) (n : ℕ) (con : Declared) → slice_get cons n ≡ Some con → slice_get (map con_name cons) n ≡ Some con.0
name_at cons n con e = slice_get-map con_name cons n ∙ ap (option_map con_name) e

module _ (text : List ℕ) (tokens : List Token) (program : Program) (core : Core) (read : IsRead text tokens) (stands : StandsFor tokens program)
    (fine : IsFine program.decls) (p : IsCoreOf text program core) where
  abbrev types : Types
  types = p.signatures.types

  declared_named : (number place : ℕ) (name : List ℕ) (cons : List Declared) → slice_get program.decls number ≡ Some (place, Sum name cons) → AreNamed cons
  declared_named number place name cons there =
      let all : Each IsNamed (spelled_decls program.decls) = subst (Each IsNamed) (sym stands.1) (kinds_named text tokens read) in
      named_data name cons (each_at (λ (d : ℕ × Decl). Each IsNamed (spelled_decl d.1)) program.decls (decls_named program.decls all) number (place, Sum name cons) there)

  not_again : (number place : ℕ) (name : List ℕ) (cons : List Declared) → slice_get program.decls number ≡ Some (place, Sum name cons)
      → repeats (spaces_in (take number program.decls)).capitals (map con_name cons) ≡ true → ⊥
  not_again number place name cons there again =
      let decl = Sum name cons in
      let spaces = spaces_in (take number program.decls) in
      let all : repeats spaces.capitals (constructors_of decl ++ exceptions_of decl) ≡ true =
      ap (repeats spaces.capitals) (append-nil (map con_name cons)) ∙ again in
      fine (record { rule = C30; declaration = number })
      (BreaksCheck.names (BreaksNames.repeats (record { rule = C30; declaration = number }) (
        refl,
        record {
          decl = (place, decl);
          at = there;
          holds = or_left _ (repeats_own decl) (or_right (repeats spaces.types (types_of decl)) _ (or_left _ _ all));
        },
      )))

  pub has_names : (number : ℕ) (sum : SumDef) → slice_get types.sums number ≡ Some sum → HasNames sum
  has_names number sum there =
      let d = data_declared text program core fine stands.0 p number sum there in
      let cons = d.declares.1 in
      let named = declared_named d.number d.place d.declares.0 cons d.there in
      let earlier = (spaces_in (take d.number program.decls)).capitals in
      record {
        names = λ place con e.
            let c = from_right (IsConstructor types) cons sum.cons d.is.constructors place con e in
            subst IsConName (sym c.2.name) (each_at (λ (con : Declared). IsConName con.0) cons named place c.0 c.1);
        differ = λ i j first second e f same.
            let a = from_right (IsConstructor types) cons sum.cons d.is.constructors i first e in
            let b = from_right (IsConstructor types) cons sum.cons d.is.constructors j second f in
            let x : slice_get (map con_name cons) i ≡ Some first.name = name_at cons i a.0 a.1 ∙ ap (λ name. Some name) (sym a.2.name) in
            let y : slice_get (map con_name cons) j ≡ Some first.name = name_at cons j b.0 b.1 ∙ ap (λ name. Some name) (sym (same ∙ b.2.name)) in
            elim (cases_lt i j) [
              | inl less ↦ absurd (not_again d.number d.place d.declares.0 cons d.there (repeated earlier (map con_name cons) i j first.name less x y))
              | inr le ↦ elim (cases_lt j i) [
                | inl less ↦ absurd (not_again d.number d.place d.declares.0 cons d.there (repeated earlier (map con_name cons) j i first.name less y x))
                | inr other ↦ (omega arith)
              ]
            ];
      }

  pub have_names : HaveNames core.types
  have_names = subst HaveNames (sym p.types) has_names
