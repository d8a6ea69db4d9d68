-- A program that breaks no rule on names and counts has signatures.
use Rattle.std.proofs.Common.{◌≡◌, ℕ, zero, suc, ◌+◌, ◌<◌, ◌≤◌, List, [], ◌∷◌, ◌++◌, map, length, get_or, Option, Some, None, option_map, slice_get, refl, ap, sym, subst, ◌∙◌, arith, Bool, true, false, ◌||◌, not, if◌then◌else◌, bytes_eq}
use Rattle.std.specs.List.{filter_map, flat_map, cons_option, list_any}
use Rattle.std.proofs.lemmas.Bool.{or_parts}
use Rattle.std.proofs.lemmas.List.{length-map}
use Rattle.std.proofs.lemmas.List.Folds.{list_any-append}
use Rattle.std.proofs.lemmas.Option.{slice_get_within}
use Rattle.std.proofs.lemmas.Slice.Eq.{bytes_eq-Decides}
use Rattle.hume_base.specs.declared.finding.Finding.{Finding}
use Rattle.hume_base.specs.declared.limits.TheConstants.{MAX_LENGTH, MAX_PARTS}
use Rattle.hume_base.specs.declared.rule.Rule.TheVariants.{C31, C33, C42}
use Rattle.hume_base.specs.declared.types.Ty.{Ty, Bool as BoolTy, Char as CharTy, Int, Nat, Vector, Named, Tuple}
use Rattle.hume_base.specs.declared.types.ConDef.{ConDef}
use Rattle.hume_ast.specs.declared.tree.TyExp.{TyExp, roll-TyExp, map-TyExp, fold-roll-TyExp, ind-TyExp}
use Rattle.hume_ast.specs.declared.tree.TyExp.TheOpen.{TyExp-F}
use Rattle.hume_ast.specs.declared.tree.Decl.{Decl}
use Rattle.hume_ast.specs.declared.tree.Decl.TheVariants.{Sum, Exn, Fun, BoxD, Stream, Wire}
use Rattle.hume_ast.specs.Fits.{DeclsFit, DeclFits}
use Rattle.check_tables.specs.graph.Cycles.{InCycle}
use Rattle.check_tables.specs.graph.Orders.{IsOrder, HasAll}
use Rattle.check_tables.proofs.graph_lemmas.LeftOut.{all_where_no_cycle}
use Rattle.check_names.specs.declared.mention_list.NameKind.TheVariants as kind
use Rattle.check_names.specs.Names.{joined}
use Rattle.check_names.specs.DeclaredNames.{types_of}
use Rattle.check_names.specs.Leading.{graph_of, meant, owners_from}
use Rattle.check_names.specs.Mentions.{Mention, type_mentions, types_mentions, clause_mentions, mentions_of}
use Rattle.check_names.specs.Mentions as mentioned
use Rattle.check_names.specs.Misnamed.{BreaksNames}
use Rattle.check_names.specs.Twice.{any_true}
use Rattle.check_names.specs.Unknown.{known_in, is_unknown, mentions_unknown, names_otherwise, misses_end}
use Rattle.check_counts.specs.Counted.{counted, parameters}
use Rattle.check_counts.specs.CountRules.{some_type_miscounts, equation_miscounts, declaration_miscounts}
use Rattle.check_counts.specs.Miscounts.{is_outside, has_many, type_miscounts}
use Rattle.check_counts.specs.Miscounts as counting
use Rattle.check_typing.specs.Partial.{given, when}
use Rattle.check_typing.specs.Signatures.{one_further, first_named}
use Rattle.check_typing.specs.WrittenTypes.{is_width, all_there}
use Rattle.check_typing.specs.Declarations.{parted}
use Rattle.check_typing.proofs.Maybe.{given-inv, some-same}
use Rattle.check_tables.specs.names.Names.{among, number_of}
use Rattle.check_scopes.proofs.signatures_lemmas.Lookup.{found_number}
use Rattle.check_rules.specs.Declared.{Decls, DataDecl, data_of, ExceptionDecl, exception_of, FunctionDecl, function_of, in_order}
use Rattle.check_rules.specs.CheckRules.{BreaksCounts}
use Rattle.check_signatures.specs.inner.Named.{Numbers, named_step, written_by, all_by, constructor_by, data_type_by, exception_by, function_by, data_type_name, numbers_in, signature_of, IsUnwritten}
use Rattle.check_signatures.proofs.Meant.{in_places}

-- there is one that it gives
abbrev Gives : {B : Type 0} → Option B → Type 0
Gives {B} o = (y : B) × (o ≡ Some y)

all_given : {A B : Type 0} (g : A → Option B) (xs : List A) → ((i : ℕ) (x : A) → slice_get xs i ≡ Some x → Gives (g x)) → Gives (all_there (map g xs))
all_given g [] h = ([], refl)
all_given g (x ∷ xs) h =
    let first = h 0 x refl in
    let others = all_given g xs (λ i y e. h (suc i) y e) in (
      first.0 ∷ others.0,
      ap (λ o. given o (λ y. given (all_there (map g xs)) (λ ys. Some (y ∷ ys)))) first.1 ∙ ap (λ o. given o (λ ys. Some (first.0 ∷ ys))) others.1,
    )

-- where an element of a filtered list comes from
from_filter : {X A : Type 0} (f : X → Option A) (xs : List X) (i : ℕ) (y : A) → slice_get (filter_map f xs) i ≡ Some y
    → (j : ℕ) × (x : X) × (slice_get xs j ≡ Some x) × (f x ≡ Some y)
from_filter f [] i y h = cc
from_filter {X} {A} f (x ∷ xs) i y h = by (f x) refl (λ i h. from_filter f xs i y h) i h
  where
    by : (o : Option A) → f x ≡ o
        → ((i : ℕ) → slice_get (filter_map f xs) i ≡ Some y → (j : ℕ) × (z : X) × (slice_get xs j ≡ Some z) × (f z ≡ Some y))
        → (i : ℕ) → slice_get (cons_option o (filter_map f xs)) i ≡ Some y
        → (j : ℕ) × (z : X) × (slice_get (x ∷ xs) j ≡ Some z) × (f z ≡ Some y)
    by None e rest i h = let r = rest i h in (suc r.0, r.1, r.2, r.3)
    by (Some w) e rest zero h = (0, x, refl, e ∙ h)
    by (Some w) e rest (suc i) h = let r = rest i h in (suc r.0, r.1, r.2, r.3)

in_filter : {A : Type 0} (f : ℕ → Option A) (xs : List ℕ) (k m : ℕ) (y : A) → k < length xs → get_or xs k m ≡ m → f m ≡ Some y
    → (i : ℕ) × (slice_get (filter_map f xs) i ≡ Some y)
in_filter f [] k m y lt e h = absurd (omega arith)
in_filter {A} f (x ∷ xs) zero m y lt e h = by (f x) (ap f e ∙ h)
  where
    by : (o : Option A) → o ≡ Some y → (i : ℕ) × (slice_get (cons_option o (filter_map f xs)) i ≡ Some y)
    by None h = cc
    by (Some w) h = (0, h)
in_filter {A} f (x ∷ xs) (suc k) m y lt e h = by (f x) (in_filter f xs k m y (omega arith) e h)
  where
    by : (o : Option A) → (i : ℕ) × (slice_get (filter_map f xs) i ≡ Some y) → (i : ℕ) × (slice_get (cons_option o (filter_map f xs)) i ≡ Some y)
    by None r = r
    by (Some w) r = (suc r.0, r.1)

-- of a name that stands somewhere there is a first one
first_of : {A : Type 0} (name_of : A → List ℕ) (name : List ℕ) (xs : List A) (n : ℕ) (x : A) → slice_get xs n ≡ Some x → bytes_eq (name_of x) name ≡ true
    → Gives (first_named name_of name xs)
first_of name_of name [] n x e h = cc
first_of {A} name_of name (y ∷ ys) n x e h = by (bytes_eq (name_of y) name) refl (λ n e. first_of name_of name ys n x e h) n e
  where
    by : (b : Bool) → bytes_eq (name_of y) name ≡ b → ((n : ℕ) → slice_get ys n ≡ Some x → Gives (first_named name_of name ys))
        → (n : ℕ) → slice_get (y ∷ ys) n ≡ Some x → Gives (if b then Some (0, y) else one_further (first_named name_of name ys))
    by true q rest n e = ((0, y), refl)
    by false q rest zero e = let is : y ≡ x = some-same y x e in let yes : bytes_eq (name_of y) name ≡ true = ap (λ z. bytes_eq (name_of z) name) is ∙ h in cc
    by false q rest (suc n) e = let r = rest n e in ((r.0.0 + 1, r.0.1), ap one_further r.1)

-- a data type that declares a name
record Declares (name : List ℕ) (decls : Decls) : Type 0 where
  at : ℕ
  decl : ℕ × Decl
  there : slice_get decls at ≡ Some decl
  data_type : DataDecl
  is : data_of decl ≡ Some data_type
  same : bytes_eq data_type.0 name ≡ true

abbrev data_type_names : Decls → List (List ℕ)
data_type_names decls = flat_map (λ (d : ℕ × Decl). types_of d.1) decls

declares : (name : List ℕ) (decls : Decls) → among name (data_type_names decls) ≡ true → Declares name decls
declares name [] h = cc
declares name ((place, decl) ∷ decls) h = by decl (declares name decls) h
  where
    later : Declares name decls → (decl : Decl) → Declares name ((place, decl) ∷ decls)
    later r decl = record { at = suc r.at; decl = r.decl; there = r.there; data_type = r.data_type; is = r.is; same = r.same }

    first : (title : List ℕ) (cons : List (List ℕ × List TyExp)) (b : Bool) → bytes_eq name title ≡ b → (among name (data_type_names decls) ≡ true → Declares name decls)
        → (b || among name (data_type_names decls)) ≡ true → Declares name ((place, Sum title cons) ∷ decls)
    first title cons true e rest h = record {
      at = 0;
      decl = (place, Sum title cons);
      there = refl;
      data_type = (title, cons);
      is = refl;
      same = (bytes_eq-Decides title name).1 (sym ((bytes_eq-Decides name title).0 e));
    }
    first title cons false e rest h = later (rest h) (Sum title cons)

    by : (decl : Decl) → (among name (data_type_names decls) ≡ true → Declares name decls) → among name (types_of decl ++ data_type_names decls) ≡ true
        → Declares name ((place, decl) ∷ decls)
    by (Sum title cons) rest h = first title cons (bytes_eq name title) refl rest h
    by (Exn title ty) rest h = later (rest h) (Exn title ty)
    by (Fun title tys equations) rest h = later (rest h) (Fun title tys equations)
    by (BoxD title ins outs fair rules handlers) rest h = later (rest h) (BoxD title ins outs fair rules handlers)
    by (Stream title from port) rest h = later (rest h) (Stream title from port)
    by (Wire source target depth initial) rest h = later (rest h) (Wire source target depth initial)

not_false : (b : Bool) → not b ≡ false → b ≡ true
not_false true h = refl
not_false false h = cc

never_true : (b : Bool) → (b ≡ true → ⊥) → b ≡ false
never_true true h = absurd (h refl)
never_true false h = refl

when_true : {A : Type 0} (b : Bool) (x : A) → b ≡ true → when b (Some x) ≡ Some x
when_true b x h = ap (λ b. when b (Some x)) h

parted-some : (ty : Ty) (tys : List Ty) → Gives (parted (ty ∷ tys))
parted-some ty [] = (([], ty), refl)
parted-some ty (next ∷ tys) =
    let r = parted-some next tys in
    ((ty ∷ r.0.0, r.0.1), ap (λ o. given o (λ others. Some (ty ∷ others.0, others.1))) r.1)

module _ (decls : Decls) (order : List ℕ) where
  abbrev numbers : Numbers
  numbers = numbers_in decls order

  abbrev is_strange : Mention → Bool
  is_strange mention = is_unknown (known_in decls) mention.0 mention.1

  abbrev IsKnown : List Mention → Type 0
  IsKnown mentions = list_any is_strange mentions ≡ false

  known_parts : (xs ys : List Mention) → IsKnown (xs ++ ys) → IsKnown xs × IsKnown ys
  known_parts xs ys h = or_parts _ _ (sym (list_any-append is_strange xs ys) ∙ h)

  module _ (numbered : (name : List ℕ) → among name (data_type_names decls) ≡ true → Gives (number_of name numbers)) where
    -- what is said of a type
    abbrev Whole : TyExp → Type 0
    Whole e = type_miscounts e ≡ false → IsKnown (type_mentions e) → Gives (written_by numbers e)

    abbrev Told : Type 0
    Told = (e : TyExp) × Whole e

    abbrev alone : Told → TyExp
    alone e = e.0

    abbrev exps : TyExp-F Told → TyExp-F TyExp
    exps y = map-TyExp Told TyExp alone y

    all_told : (es : List Told) → any_true (map type_miscounts (map alone es)) ≡ false → IsKnown (joined (map type_mentions (map alone es)))
        → Gives (all_there (map (written_by numbers) (map alone es)))
    all_told [] off known = ([], refl)
    all_told (e ∷ es) off known =
        let flags = or_parts (type_miscounts e.0) (any_true (map type_miscounts (map alone es))) off in
        let names = known_parts (type_mentions e.0) (joined (map type_mentions (map alone es))) known in
        let first = e.1 flags.0 names.0 in
        let others = all_told es flags.1 names.1 in (
          first.0 ∷ others.0,
          ap (λ o. given o (λ y. given (all_there (map (written_by numbers) (map alone es))) (λ ys. Some (y ∷ ys)))) first.1
              ∙ ap (λ o. given o (λ ys. Some (first.0 ∷ ys))) others.1,
        )

    level : (y : TyExp-F Told) → counting.type_step (map-TyExp TyExp Bool type_miscounts (exps y)) ≡ false
        → IsKnown (mentioned.type_step (map-TyExp TyExp (List Mention) type_mentions (exps y)))
        → Gives (named_step numbers (map-TyExp TyExp (Option Ty) (written_by numbers) (exps y)))
    level TyExp-F.Bool off known = (BoolTy, refl)
    level TyExp-F.Char off known = (CharTy, refl)
    level (TyExp-F.Int bits) off known = (Int bits, when_true (is_width bits) (Int bits) (not_false _ off))
    level (TyExp-F.Nat bits) off known = (Nat bits, when_true (is_width bits) (Nat bits) (not_false _ off))
    level (TyExp-F.Vector count item) off known =
        let flags = or_parts (is_outside MAX_LENGTH count) (type_miscounts item.0) off in
        let inner = item.1 flags.1 known in (
          Vector count inner.0,
          ap (λ b. when b (given (written_by numbers item.0) (λ ty. Some (Vector count ty)))) (not_false _ flags.0)
              ∙ ap (λ o. given o (λ ty. Some (Vector count ty))) inner.1,
        )
    level (TyExp-F.Named name) off known =
        let names = data_type_names decls in
        let n = numbered name (not_false _ (or_parts (not (among name names)) false known).0) in
        (Named n.0, ap (λ o. given o (λ number. Some (Named number))) n.1)
    level (TyExp-F.Tuple es) off known =
        let flags = or_parts (has_many MAX_PARTS (map type_miscounts (map alone es))) (any_true (map type_miscounts (map alone es))) off in
        let all = all_told es flags.1 known in
        (Tuple all.0, ap (λ o. given o (λ tys. Some (Tuple tys))) all.1)

    at_roll : (y : TyExp-F Told) → Whole (roll-TyExp (exps y))
    at_roll y off known =
        let r = level y (sym (fold-roll-TyExp Bool counting.type_step (exps y)) ∙ off)
        (subst IsKnown (fold-roll-TyExp (List Mention) mentioned.type_step (exps y)) known) in
        (r.0, fold-roll-TyExp (Option Ty) (named_step numbers) (exps y) ∙ r.1)

    a_type : (e : TyExp) → Whole e
    a_type = ind-TyExp Whole (λ x y is. subst (λ x. Whole (roll-TyExp x)) is (at_roll y))

    types : (es : List TyExp) → some_type_miscounts es ≡ false → IsKnown (types_mentions es) → Gives (all_by numbers es)
    types [] off known = ([], refl)
    types (e ∷ es) off known =
        let flags = or_parts (type_miscounts e) (some_type_miscounts es) off in
        let names = known_parts (type_mentions e) (types_mentions es) known in
        let first = a_type e flags.0 names.0 in
        let others = types es flags.1 names.1 in (
          first.0 ∷ others.0,
          ap (λ o. given o (λ y. given (all_by numbers es) (λ ys. Some (y ∷ ys)))) first.1 ∙ ap (λ o. given o (λ ys. Some (first.0 ∷ ys))) others.1,
        )

    constructors : (cons : List (List ℕ × List TyExp)) → list_any (λ (con : List ℕ × List TyExp). some_type_miscounts con.1) cons ≡ false
        → IsKnown (joined (map (λ (con : List ℕ × List TyExp). types_mentions con.1) cons)) → Gives (all_there (map (constructor_by numbers) cons))
    constructors [] off known = ([], refl)
    constructors (con ∷ cons) off known =
        let flags = or_parts (some_type_miscounts con.1) (list_any (λ (con : List ℕ × List TyExp). some_type_miscounts con.1) cons) off in
        let names = known_parts (types_mentions con.1) (joined (map (λ (con : List ℕ × List TyExp). types_mentions con.1) cons)) known in
        let fields = types con.1 flags.0 names.0 in
        let first : ConDef = record { name = con.0; fields = fields.0 } in
        let one : constructor_by numbers con ≡ Some first = ap (λ o. given o (λ tys. Some (record { name = con.0; fields = tys }))) fields.1 in
        let others = constructors cons flags.1 names.1 in (
          first ∷ others.0,
          ap (λ o. given o (λ y. given (all_there (map (constructor_by numbers) cons)) (λ ys. Some (y ∷ ys)))) one
              ∙ ap (λ o. given o (λ ys. Some (first ∷ ys))) others.1,
        )

    -- a declaration without unknown names and wrong counts
    record IsPlain (decl : Decl) : Type 0 where
      counts : declaration_miscounts (counted decls) decl ≡ false
      known : IsKnown (mentions_of decl)
      fits : (bound : ℕ) × DeclFits bound decl

    a_data_type : (d : ℕ × Decl) (x : DataDecl) → data_of d ≡ Some x → IsPlain d.1 → Gives (data_type_by numbers x)
    a_data_type (place, Sum title cons) x e p =
        let is : (title, cons) ≡ x = some-same _ x e in
        let r = constructors cons p.counts p.known in
        subst (λ x. Gives (data_type_by numbers x)) is ((title, r.0), ap (λ o. given o (λ cons. Some (title, cons))) r.1)
    a_data_type (place, Exn title ty) x e p = cc
    a_data_type (place, Fun title tys equations) x e p = cc
    a_data_type (place, BoxD title ins outs fair rules handlers) x e p = cc
    a_data_type (place, Stream title from port) x e p = cc
    a_data_type (place, Wire source target depth initial) x e p = cc

    an_exception : (d : ℕ × Decl) (x : ExceptionDecl) → exception_of d ≡ Some x → IsPlain d.1 → Gives (exception_by numbers x)
    an_exception (place, Exn title None) x e p =
        subst (λ x. Gives (exception_by numbers x)) (some-same _ x e) (record { name = title; carries = None }, refl)
    an_exception (place, Exn title (Some ty)) x e p =
        let r = a_type ty p.counts p.known in
        subst (λ x. Gives (exception_by numbers x)) (some-same _ x e) (
          record { name = title; carries = Some r.0 },
          ap (λ o. given (given o (λ t. Some (Some t))) (λ carried. Some (record { name = title; carries = carried }))) r.1,
        )
    an_exception (place, Sum title cons) x e p = cc
    an_exception (place, Fun title tys equations) x e p = cc
    an_exception (place, BoxD title ins outs fair rules handlers) x e p = cc
    an_exception (place, Stream title from port) x e p = cc
    an_exception (place, Wire source target depth initial) x e p = cc

    with_last : (title : List ℕ) (tys : List TyExp) (all : List Ty) → 2 ≤ length tys → all_by numbers tys ≡ Some all
        → Gives (given (parted all) (λ p. Some (signature_of title p.0 p.1)))
    with_last title [] all two h = absurd (omega arith)
    with_last title (e ∷ tys) [] two h = absurd (in_places (written_by numbers) (e ∷ tys) [] h)
    with_last title (e ∷ tys) (t ∷ all) two h =
        let r = parted-some t all in (signature_of title r.0.0 r.0.1, ap (λ o. given o (λ p. Some (signature_of title p.0 p.1))) r.1)

    a_function : (d : ℕ × Decl) (x : FunctionDecl) → function_of d ≡ Some x → IsPlain d.1 → Gives (function_by numbers x)
    a_function (place, Fun title tys equations) x e p =
        let flags = or_parts (some_type_miscounts tys) (list_any (equation_miscounts (counted decls) (parameters tys)) equations) p.counts in
        let names = known_parts (types_mentions tys) (joined (map (λ equation. clause_mentions equation.1 equation.2) equations)) p.known in
        let all = types tys flags.0 names.0 in
        let r = with_last title tys all.0 p.fits.1.0 all.1 in
        subst (λ x. Gives (function_by numbers x)) (some-same _ x e)
        (r.0, ap (λ o. given o (λ all. given (parted all) (λ p. Some (signature_of title p.0 p.1)))) all.1 ∙ r.1)
    a_function (place, Sum title cons) x e p = cc
    a_function (place, Exn title ty) x e p = cc
    a_function (place, BoxD title ins outs fair rules handlers) x e p = cc
    a_function (place, Stream title from port) x e p = cc
    a_function (place, Wire source target depth initial) x e p = cc

    module _ (plain : (i : ℕ) (d : ℕ × Decl) → slice_get decls i ≡ Some d → IsPlain d.1) where
      ordered_given : {A B : Type 0} (of : ℕ × Decl → Option A) (g : A → Option B) → ((d : ℕ × Decl) (x : A) → of d ≡ Some x → IsPlain d.1 → Gives (g x))
          → (some : List ℕ) → Gives (all_there (map g (in_order of some decls)))
      ordered_given of g one some = all_given g (in_order of some decls) (λ i x e.
          let r = from_filter (λ n. given (slice_get decls n) of) some i x e in
          let s = given-inv (slice_get decls r.1) of x r.3 in
          one s.0 x s.2 (plain r.1 s.0 s.1))

      nothing_unwritten : (function_order : List ℕ) → IsUnwritten numbers decls order function_order → ⊥
      nothing_unwritten fs un = by un
        where
          missing : {B : Type 0} (o : Option B) → o ≡ None → Gives o → ⊥
          missing o n h = let e : None ≡ Some h.0 = sym n ∙ h.1 in cc

          by : IsUnwritten numbers decls order fs → ⊥
          by (IsUnwritten.no_data_types n) = missing _ n (ordered_given data_of (data_type_by numbers) a_data_type order)
          by (IsUnwritten.no_exceptions n) = missing _ n (all_given (exception_by numbers) (filter_map exception_of decls) (λ i x e.
              let r = from_filter exception_of decls i x e in an_exception r.1 x r.3 (plain r.0 r.1 r.2)))
          by (IsUnwritten.no_functions n) = missing _ n (ordered_given function_of (function_by numbers) a_function fs)

module _ (decls : Decls) (order : List ℕ) (p : IsOrder (graph_of kind.DataType decls) order)
    (named : (f : Finding) → BreaksNames decls f → ⊥) (counts : (f : Finding) → BreaksCounts decls f → ⊥) (bound : ℕ) (fit : DeclsFit bound decls) where
  fits_at : (ds : Decls) → DeclsFit bound ds → (i : ℕ) (d : ℕ × Decl) → slice_get ds i ≡ Some d → DeclFits bound d.1
  fits_at [] h i d e = cc
  fits_at (x ∷ xs) h zero d e = subst (λ (y : ℕ × Decl). DeclFits bound y.1) (some-same x d e) h.0
  fits_at (x ∷ xs) h (suc i) d e = fits_at xs h.1 i d e

  no_cycle : (a : ℕ) → InCycle (graph_of kind.DataType decls) a → ⊥
  no_cycle a c = named (record { rule = C33; declaration = a }) (BreaksNames.holds_itself (record { rule = C33; declaration = a }) (refl, c))

  all_numbered : HasAll (graph_of kind.DataType decls) order
  all_numbered = (all_where_no_cycle (graph_of kind.DataType decls) order p).1 no_cycle

  name_has_number : (name : List ℕ) → among name (data_type_names decls) ≡ true → Gives (number_of name (numbers_in decls order))
  name_has_number name h =
      let d = declares name decls h in
      let rows = length-map decls (λ (d : ℕ × Decl). meant kind.DataType (owners_from kind.DataType 0 decls) (mentions_of d.1)) in
      let c = all_numbered d.at (subst (λ n. d.at < n) (sym rows) (slice_get_within decls d.at d.decl d.there)) in
      let there : given (slice_get decls d.at) data_of ≡ Some d.data_type = ap (λ o. given o data_of) d.there ∙ d.is in
      let r = in_filter (λ n. given (slice_get decls n) data_of) order c.0 d.at d.data_type c.1 c.2 there in
      let f = first_of data_type_name name (in_order data_of order decls) r.0 d.data_type r.1 d.same in
      (f.0.0, found_number data_type_name name (in_order data_of order decls) ∙ ap (option_map (λ (x : ℕ × DataDecl). x.0)) f.1)

  plain : (i : ℕ) (d : ℕ × Decl) → slice_get decls i ≡ Some d → IsPlain decls order name_has_number d.1
  plain i d e = record {
    counts = never_true (declaration_miscounts (counted decls) d.1) (λ h.
        counts (record { rule = C42; declaration = i }) (BreaksCounts.miscounts (refl, record { decl = d; at = e; holds = h })));
    known = (or_parts (mentions_unknown (known_in decls) (mentions_of d.1)) (names_otherwise d.1 || misses_end decls d.1)
        (never_true _ (λ h. named (record { rule = C31; declaration = i })
        (BreaksNames.unknown (record { rule = C31; declaration = i }) (refl, record { decl = d; at = e; holds = h }))))).0;
    fits = (bound, fits_at decls fit i d e);
  }

  -- all that is written has types
  pub all_is_written : (function_order : List ℕ) → IsUnwritten (numbers_in decls order) decls order function_order → ⊥
  all_is_written function_order = nothing_unwritten decls order name_has_number plain function_order
