-- Data types hold data types of smaller numbers only.
use Rattle.std.proofs.Common.{◌≡◌, ℕ, ◌<◌, ◌≤◌, List, [], ◌∷◌, ◌++◌, map, length, take, get_or, Contains, Option, Some, slice_get, refl, ap, sym, subst, ◌∙◌, arith, Bool, true}
use Rattle.std.specs.List.{list_all, filter_map}
use Rattle.std.proofs.lemmas.List.Elements.{Contains-append_left, Contains-append_right}
use Rattle.std.proofs.lemmas.Bool.Decides.{Decides-ltb}
use Rattle.std.proofs.lemmas.Option.{slice_get_within}
use Rattle.hume_base.specs.declared.types.Ty.{Ty, roll-Ty, fold-roll-Ty, Int, Nat, Vector, Named, Tuple}
use Rattle.hume_base.specs.declared.types.Ty.TheOpen.{Ty-F}
use Rattle.hume_base.specs.declared.types.Ty.TheVariants.{rolls-Bool, rolls-Char, rolls-Int, rolls-Nat, rolls-Vector, rolls-Named, rolls-Tuple}
use Rattle.hume_base.specs.declared.types.Types.{Types}
use Rattle.hume_base.specs.declared.types.SumDef.{SumDef}
use Rattle.hume_base.specs.declared.types.ConDef.{ConDef}
use Rattle.hume_base.specs.Holding.{holds_step, holds_below, con_holds, HoldSmaller}
use Rattle.hume_ast.specs.declared.tree.TyExp.{TyExp, roll-TyExp, map-TyExp, fold-roll-TyExp, ind-TyExp}
use Rattle.hume_ast.specs.declared.tree.TyExp.TheOpen.{TyExp-F}
use Rattle.hume_ast.specs.declared.tree.Decl.{Decl}
use Rattle.hume_ast.specs.declared.tree.Decl.TheVariants.{Sum}
use Rattle.check_names.specs.declared.mention_list.NameKind.TheVariants.{DataType}
use Rattle.check_names.specs.Names.{joined}
use Rattle.check_names.specs.Mentions.{Mention, type_step, type_mentions, types_mentions, mentions_of}
use Rattle.check_names.specs.Leading.{names_of_kind}
use Rattle.check_typing.specs.Partial.{given}
use Rattle.check_typing.specs.Signatures.{sum_named}
use Rattle.check_typing.specs.WrittenTypes.{is_width, is_length, all_there, written_step, written, all_written}
use Rattle.check_typing.specs.Declarations.{InPlaces}
use Rattle.check_typing.proofs.Maybe.{some-same, given-inv, given-at, when-inv}
use Rattle.check_typing.proofs.NamesFound.{first_stands}
use Rattle.check_rules.specs.Declared.{Decls, DataDecl, data_of, in_order}
use Rattle.check_rules.specs.SignaturesOf.{IsConstructor, IsDataType, AreTypes}
use Rattle.check_rules.proofs.Stands.{from_left, from_right, declared}
use Rattle.check_rules.proofs.OrderedPlaces.{placed, kept, kept_on, first_has_name, first_before}
use Rattle.check_rules.proofs.Mentioned.{leads}

module _ (types : Types) (bound : ℕ) where
  -- each data type that is mentioned has a number below the bound
  abbrev pub Below : List Mention → Type 0
  Below mentions = (name : List ℕ) → Contains mentions (DataType, name) → (j : ℕ) (s : SumDef) → sum_named name types ≡ Some (j, s) → j < bound

  pub below_left : (xs ys : List Mention) → Below (xs ++ ys) → Below xs
  below_left xs ys h name c = h name (Contains-append_left xs ys (DataType, name) c)

  pub below_right : (xs ys : List Mention) → Below (xs ++ ys) → Below ys
  below_right xs ys h name c = h name (Contains-append_right xs ys (DataType, name) c)

  abbrev Holds : Option Ty → List Mention → Type 0
  Holds o mentions = (ty : Ty) → o ≡ Some ty → Below mentions → holds_below bound ty ≡ true

  rolled : (x : Ty-F Ty) (ty : Ty) → roll-Ty x ≡ ty → holds_below bound ty ≡ holds_below bound (roll-Ty x)
  rolled x ty e = ap (holds_below bound) (sym e)

  abbrev Known : Type 0
  Known = (e : TyExp) × Holds (written types e) (type_mentions e)

  abbrev alone : Known → TyExp
  alone e = e.0

  all_hold : (es : List Known) (tys : List Ty) → all_there (map (written types) (map alone es)) ≡ Some tys → Below (joined (map type_mentions (map alone es)))
      → list_all (λ b. b) (map (holds_below bound) tys) ≡ true
  all_hold [] tys h below = subst (λ tys. list_all (λ b. b) (map (holds_below bound) tys) ≡ true) (some-same [] tys h) refl
  all_hold (e ∷ es) tys h below =
      let k = given-inv (written types e.0) (λ first. given (all_there (map (written types) (map alone es))) (λ others. Some (first ∷ others))) tys h in
      let m = given-inv (all_there (map (written types) (map alone es))) (λ others. Some (k.0 ∷ others)) tys k.2 in
      let first = e.1 k.0 k.1 (below_left (type_mentions e.0) _ below) in
      let others = all_hold es m.0 m.1 (below_right (type_mentions e.0) _ below) in
      subst (λ tys. list_all (λ b. b) (map (holds_below bound) tys) ≡ true) (some-same _ _ m.2) (rw (first, others) refl)

  abbrev exps : TyExp-F Known → TyExp-F TyExp
  exps y = map-TyExp Known TyExp alone y

  level : (y : TyExp-F Known) → Holds (written_step types (map-TyExp TyExp (Option Ty) (written types) (exps y))) (type_step (map-TyExp TyExp (List Mention) type_mentions (exps y)))
  level TyExp-F.Bool ty h below = rolled Ty-F.Bool ty (rolls-Bool ∙ some-same _ _ h) ∙ fold-roll-Ty Bool (holds_step bound) Ty-F.Bool
  level TyExp-F.Char ty h below = rolled Ty-F.Char ty (rolls-Char ∙ some-same _ _ h) ∙ fold-roll-Ty Bool (holds_step bound) Ty-F.Char
  level (TyExp-F.Int bits) ty h below =
      let k = when-inv (is_width bits) (Some (Int bits)) ty h in
      rolled (Ty-F.Int bits) ty (rolls-Int bits ∙ some-same _ _ k.1) ∙ fold-roll-Ty Bool (holds_step bound) (Ty-F.Int bits)
  level (TyExp-F.Nat bits) ty h below =
      let k = when-inv (is_width bits) (Some (Nat bits)) ty h in
      rolled (Ty-F.Nat bits) ty (rolls-Nat bits ∙ some-same _ _ k.1) ∙ fold-roll-Ty Bool (holds_step bound) (Ty-F.Nat bits)
  level (TyExp-F.Vector count item) ty h below =
      let k = when-inv (is_length count) (given (written types item.0) (λ ty. Some (Vector count ty))) ty h in
      let m = given-inv (written types item.0) (λ ty. Some (Vector count ty)) ty k.1 in
      rolled (Ty-F.Vector count m.0) ty (rolls-Vector count m.0 ∙ some-same _ _ m.2) ∙ fold-roll-Ty Bool (holds_step bound) (Ty-F.Vector count m.0) ∙ item.1 m.0 m.1 below
  level (TyExp-F.Named name) ty h below =
      let k = given-inv (sum_named name types) (λ found. Some (Named found.0)) ty h in
      let lt = below name (0, omega arith, refl) k.0.0 k.0.1 k.1 in
      rolled (Ty-F.Named k.0.0) ty (rolls-Named k.0.0 ∙ some-same _ _ k.2) ∙ fold-roll-Ty Bool (holds_step bound) (Ty-F.Named k.0.0) ∙ (Decides-ltb k.0.0 bound).1 lt
  level (TyExp-F.Tuple es) ty h below =
      let k = given-inv (all_there (map (written types) (map alone es))) (λ tys. Some (Tuple tys)) ty h in
      rolled (Ty-F.Tuple k.0) ty (rolls-Tuple k.0 ∙ some-same _ _ k.2) ∙ fold-roll-Ty Bool (holds_step bound) (Ty-F.Tuple k.0) ∙ all_hold es k.0 k.1 below

  at_roll : (y : TyExp-F Known) → Holds (written types (roll-TyExp (exps y))) (type_mentions (roll-TyExp (exps y)))
  at_roll y =
      subst (λ o. Holds o (type_mentions (roll-TyExp (exps y)))) (sym (fold-roll-TyExp (Option Ty) (written_step types) (exps y)))
      (subst (λ ms. Holds (written_step types (map-TyExp TyExp (Option Ty) (written types) (exps y))) ms) (sym (fold-roll-TyExp (List Mention) type_step (exps y))) (level y))

  -- a type that is written holds what it mentions
  pub type_holds : (e : TyExp) → Holds (written types e) (type_mentions e)
  type_holds = ind-TyExp (λ e. Holds (written types e) (type_mentions e))
      (λ x y is. subst (λ x. Holds (written types (roll-TyExp x)) (type_mentions (roll-TyExp x))) is (at_roll y))

  fields_hold : (es : List TyExp) (tys : List Ty) → all_written types es ≡ Some tys → Below (types_mentions es) → list_all (holds_below bound) tys ≡ true
  fields_hold [] tys h below = subst (λ tys. list_all (holds_below bound) tys ≡ true) (some-same [] tys h) refl
  fields_hold (e ∷ es) tys h below =
      let k = given-inv (written types e) (λ first. given (all_written types es) (λ others. Some (first ∷ others))) tys h in
      let m = given-inv (all_written types es) (λ others. Some (k.0 ∷ others)) tys k.2 in
      let first = type_holds e k.0 k.1 (below_left (type_mentions e) (types_mentions es) below) in
      let others = fields_hold es m.0 m.1 (below_right (type_mentions e) (types_mentions es) below) in
      subst (λ tys. list_all (holds_below bound) tys ≡ true) (some-same _ _ m.2) (rw (first, others) refl)

  pub constructors_hold : (ds : List (List ℕ × List TyExp)) (cons : List ConDef) → InPlaces (IsConstructor types) ds cons
      → Below (joined (map (λ (con : List ℕ × List TyExp). types_mentions con.1) ds)) → list_all (con_holds bound) cons ≡ true
  constructors_hold [] [] h below = refl
  constructors_hold [] (con ∷ cons) h below = absurd h
  constructors_hold (d ∷ ds) [] h below = absurd h
  constructors_hold (d ∷ ds) (con ∷ cons) h below =
      let first = fields_hold d.1 con.fields h.0.fields (below_left (types_mentions d.1) _ below) in
      let others = constructors_hold ds cons h.1 (below_right (types_mentions d.1) _ below) in
      rw (first, others) refl

pub data_here : (p : ℕ) (decl : Decl) (d : DataDecl) → data_of (p, decl) ≡ Some d → decl ≡ Sum d.0 d.1
data_here p (Sum name cons) d h = ap (λ (d : DataDecl). Sum d.0 d.1) (some-same (name, cons) d h)
data_here p _ d h = cc

module _ (decls : Decls) (types : Types) (p : AreTypes decls types) where
  number_at : ℕ → Option DataDecl
  number_at number = given (slice_get decls number) data_of

  abbrev name_of : SumDef → List ℕ
  name_of sum = sum.name

  -- what the declaration of a data type mentions has smaller numbers
  smaller : (number : ℕ) (d : DataDecl) → slice_get (in_order data_of p.order decls) number ≡ Some d
      → Below types number (joined (map (λ (con : List ℕ × List TyExp). types_mentions con.1) d.1))
  smaller number d there name mention j s found =
      let place = placed (λ number. given (slice_get decls number) data_of) p.order number d there in
      let a = get_or p.order place.place 0 in
      let own = given-inv (slice_get decls a) data_of d place.gives in
      let other = from_right (IsDataType types) _ _ p.each j s (first_stands name_of name types.sums j s found) in
      let at = declared data_of p.order decls j other.0 other.1 in
      let named : other.0.0 ≡ name = sym other.2.name ∙ first_has_name name_of name types.sums j s found in
      let mentions : Contains (mentions_of own.0.1) (DataType, name) =
      subst (λ decl. Contains (mentions_of decl) (DataType, name)) (sym (data_here own.0.0 own.0.1 d own.2)) mention in
      let names : Contains (names_of_kind DataType at.1.1) name =
      subst (λ decl. Contains (names_of_kind DataType decl) name) (sym (data_here at.1.0 at.1.1 other.0 at.3)) (0, omega arith, named) in
      let leads_there = leads DataType refl decls a at.0 own.0 at.1 name own.1 at.2 mentions names in
      let earlier : Contains (take place.place p.order) at.0 = (p.numbered.numbering place.place place.within).0.ready at.0 leads_there in
      let i = kept (λ number. given (slice_get decls number) data_of) (take place.place p.order) at.0 other.0 earlier (given-at (slice_get decls at.0) data_of at.1 at.2 ∙ at.3) in
      let first = from_left (IsDataType types) _ _ p.each i.0 other.0 (kept_on (λ number. given (slice_get decls number) data_of) p.order place.place i.0 other.0 i.1) in
      let le : j ≤ i.0 = first_before name_of name types.sums i.0 first.0 first.1 (first.2.name ∙ named) j s found in
      let lt : i.0 < length (filter_map (λ number. given (slice_get decls number) data_of) (take place.place p.order)) = slice_get_within _ i.0 other.0 i.1 in
      let before : number ≡ length (filter_map (λ number. given (slice_get decls number) data_of) (take place.place p.order)) = place.before in
      omega arith

  pub hold_smaller : HoldSmaller types
  hold_smaller number sum there =
      let d = from_right (IsDataType types) _ _ p.each number sum there in
      constructors_hold types number d.0.1 sum.cons d.2.constructors (smaller number d.0 d.1)
