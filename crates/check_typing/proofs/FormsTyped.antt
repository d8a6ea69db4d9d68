-- The typed core of an expression has its type, if no literal in it is out of range: form by form.
use Rattle.std.proofs.Common.{◌≡◌, ℕ, List, [], ◌∷◌, ◌++◌, length, replicate, slice_get, Some, refl, ap, sym, subst, ◌∙◌, Bool, true, false, ◌||◌}
use Rattle.std.proofs.lemmas.Bool.{or_parts}
use Rattle.std.proofs.lemmas.List.{map-append}
use Rattle.hume_base.specs.declared.types.Ty.{Ty, Bool as BoolTy, Vector as VectorTy}
use Rattle.hume_base.specs.declared.types.Types.{Types}
use Rattle.hume_ast.specs.declared.tree.BinOp.{BinOp}
use Rattle.hume_ast.specs.declared.tree.BinOp.TheVariants as sign
use Rattle.hume_ast.specs.declared.tree.TyExp.{TyExp}
use Rattle.hume_model.specs.declared.core_tree.Op.{Op}
use Rattle.hume_model.specs.declared.core_tree.Op.TheVariants as op
use Rattle.hume_model.specs.declared.core_tree.ExnDef.{ExnDef}
use Rattle.hume_model.specs.declared.core_tree.Core.{Core}
use Rattle.hume_model.specs.Typing.{is_arithmetic, IsPattern}
use Rattle.typed_core.specs.Typing.{IsTyped, AreTyped, ArmsAreTyped}
use Rattle.check_typing.specs.Signatures.{Scope, exn_named}
use Rattle.check_typing.specs.Patterns.{literal_word, word_of_truth}
use Rattle.check_typing.specs.Cores.{Cored, CoredArm, cores, some_too_wide, arm_cores, some_arm_too_wide, letter_core, truth_core, literal_core, variable_core, let_core, if_core, and_core, or_core, operation_core, neg_core, not_core, convert_core, index_core, update_core, case_core, raise_core, raise_with_core, call_core, con_core, tuple_core, vector_core}
use Rattle.check_typing.specs.Typing.{Judged, Arm, closed, opened, AllHave, AllChecked, EachChecked, literal_typing, letter_typing, truth_typing, Binding, let_typing, Branches, if_typing, ArmsChecked, Alternatives, case_typing, raise_typing, raise_with_typing, Arithmetic, arithmetic_typing, comparison_typing, logic_typing, not_typing, Negation, neg_typing, index_typing, Updated, update_typing, cast_typing, app_typing, con_typing, tuple_typing, Elements, vector_typing, star_typing, binary_typing}
use Rattle.check_typing.specs.CoreSignatures.{scope_types, HasSignatures}
use Rattle.check_typing.specs.declared.signatures.Signature.{Signature}
use Rattle.check_typing.specs.declared.signatures.Signatures.{Signatures}
use Rattle.check_typing.proofs.LiteralTypes.{literal-value, letter-value, truth-value}
use Rattle.check_typing.proofs.NamesFound.{first_stands, con_stands, variable_stands}
use Rattle.check_typing.proofs.PatternsTyped.{pattern_typed}

-- one variable more
pub one_more : (scope : Scope) (name : List ℕ) (t : Ty) → scope_types (scope ++ (name, t) ∷ []) ≡ scope_types scope ++ t ∷ []
one_more scope name t = map-append (λ (v : List ℕ × Ty). v.1) scope ((name, t) ∷ [])

module _ (s : Signatures) (core : Core) (of : HasSignatures s core) where
  abbrev pub IsTypedAs : Scope → Ty → Cored → Type 0
  IsTypedAs scope t c = c.1 ≡ false → IsTyped core (scope_types scope) c.0 t

  abbrev pub AllTypedAs : (Scope → Ty → Cored → Type 0) → Type 0
  AllTypedAs P = (scope : Scope) (t : Ty) (c : Cored) → P scope t c → IsTypedAs scope t c

  pub record IsSound (j : Judged) : Type 0 where
    pub has : AllTypedAs j.has
    pub checked : AllTypedAs j.checked

  -- what is equal is typed alike
  shown : (scope : Scope) (t u : Ty) (c d : Cored) → t ≡ u → c ≡ d → IsTypedAs scope u d → IsTypedAs scope t c
  shown scope t u c d is e f off =
      subst (λ v. IsTyped core (scope_types scope) c.0 v) (sym is) (subst (λ (r : Cored). IsTyped core (scope_types scope) r.0 u) (sym e) (f (ap
      (λ (r : Cored). r.1) (sym e) ∙ off)))

  sound_closed : (P : Scope → Ty → Cored → Type 0) → AllTypedAs P → IsSound (closed P)
  sound_closed P p = record { has = p; checked = p }

  sound_opened : (P : Scope → Ty → Cored → Type 0) → AllTypedAs P → IsSound (opened P)
  sound_opened P p = record { has = λ scope t c h. p scope t c h.1; checked = p }

  pub sound_literal : (negative : Bool) (amount : ℕ) → IsSound (literal_typing negative amount)
  sound_literal negative amount = sound_opened _ (λ scope t c h. shown scope t t c (literal_core negative amount t) refl h.1
      (λ off. IsTyped.word (literal_word negative amount) (literal-value core.types t negative amount h.0 off)))

  pub sound_letter : (byte : ℕ) → IsSound (letter_typing byte)
  sound_letter byte =
      sound_closed _ (λ scope t c h. shown scope t _ c (letter_core byte) h.0 h.1 (λ off. IsTyped.word byte (letter-value core.types byte off)))

  truth : (scope : Scope) (b : Bool) → IsTyped core (scope_types scope) (truth_core b).0 BoolTy
  truth scope b = IsTyped.word (word_of_truth b) (truth-value core.types b)

  pub sound_truth : (b : Bool) → IsSound (truth_typing b)
  sound_truth b = sound_closed _ (λ scope t c h. shown scope t _ c (truth_core b) h.0 h.1 (λ off. truth scope b))

  pub sound_star : IsSound star_typing
  sound_star = sound_closed _ (λ scope t c h. absurd h)

  binding : (name : List ℕ) (a : Judged) (Body : Scope → Ty → Cored → Type 0) → AllTypedAs a.has → AllTypedAs Body → AllTypedAs (Binding name a Body)
  binding name a Body p q scope t c h = shown scope t t c (let_core h.0 h.1 h.2) refl h.5 (λ off.
      let flags = or_parts h.1.1 h.2.1 off in
      IsTyped.binding h.0 (p scope h.0 h.1 h.3 flags.0) (subst
      (λ vars. IsTyped core vars h.2.0 t) (one_more scope name h.0) (q (scope ++ (name, h.0) ∷ []) t h.2 h.4 flags.1)))

  pub sound_let : (name : List ℕ) (a b : Judged) → IsSound a → IsSound b → IsSound (let_typing name a b)
  sound_let name a b p q = record { has = binding name a b.has p.has q.has; checked = binding name a b.checked p.has q.checked }

  module _ (a b : Judged) (p : IsSound a) (q : IsSound b) where
    branches : (test : Judged) → IsSound test → AllTypedAs (Branches test a b)
    branches test r scope t c h = shown scope t t c (if_core h.0 h.1 h.2) refl h.6 (λ off.
        let first = or_parts h.0.1 (h.1.1 || h.2.1) off in
        let two = or_parts h.1.1 h.2.1 first.1 in
        IsTyped.choice (r.checked scope BoolTy h.0 h.3 first.0) (p.checked scope t h.1 h.4 two.0) (q.checked scope t h.2 h.5 two.1))

    pub sound_if : (test : Judged) → IsSound test → IsSound (if_typing test a b)
    sound_if test r = record { has = λ scope t c h. branches test r scope t c h.1; checked = branches test r }

    operands : (scope : Scope) (t : Ty) (left right : Cored) → a.checked scope t left → b.checked scope t right → (left.1 || right.1) ≡ false
        → AreTyped core (scope_types scope) (left.0 ∷ right.0 ∷ []) (t ∷ t ∷ [])
    operands scope t left right x y off =
        let flags = or_parts left.1 right.1 off in
        AreTyped.one (p.checked scope t left x flags.0) (AreTyped.one (q.checked scope t right y flags.1) AreTyped.none)

    arithmetic : (operation : Op) → is_arithmetic operation ≡ true → AllTypedAs (Arithmetic operation a b)
    arithmetic operation is scope t c h = shown scope t t c (operation_core operation t h.0 h.1) refl h.5 (λ off.
        IsTyped.arithmetic operation t is h.2 (operands scope t h.0 h.1 h.3 h.4 off))

    sound_arithmetic : (operation : Op) → is_arithmetic operation ≡ true → IsSound (arithmetic_typing operation a b)
    sound_arithmetic operation is = record { has = λ scope t c h. arithmetic operation is scope t c h.1; checked = arithmetic operation is }

    sound_comparison : (operation : Op) → IsSound (comparison_typing operation a b)
    sound_comparison operation = sound_closed _ (λ scope t c h. shown scope t BoolTy c (operation_core operation h.0 h.1 h.2) h.3 h.8 (λ off.
        IsTyped.comparison operation h.0 h.5 (operands scope h.0 h.1 h.2 h.6 h.7 off)))

    sound_or : IsSound (logic_typing or_core a b)
    sound_or = sound_closed _ (λ scope t c h. shown scope t BoolTy c (or_core h.0 h.1) h.2 h.5 (λ off.
        let flags = or_parts h.0.1 (false || h.1.1) off in
        IsTyped.choice (p.checked scope BoolTy h.0 h.3 flags.0) (truth scope true) (q.checked scope BoolTy h.1 h.4 flags.1)))

    sound_and : IsSound (logic_typing and_core a b)
    sound_and = sound_closed _ (λ scope t c h. shown scope t BoolTy c (and_core h.0 h.1) h.2 h.5 (λ off.
        let flags = or_parts h.0.1 (h.1.1 || false) off in
        IsTyped.choice (p.checked scope BoolTy h.0 h.3 flags.0) (q.checked scope BoolTy h.1 h.4 (or_parts h.1.1 false flags.1).0) (truth scope false)))

    sound_index : IsSound (index_typing a b)
    sound_index = sound_closed _ (λ scope t c h. shown scope t t c (index_core (VectorTy h.0 t) h.1 h.2 h.3) refl h.7 (λ off.
        let flags = or_parts h.2.1 h.3.1 off in
        IsTyped.index h.0 h.1 t h.6 (p.has scope (VectorTy h.0 t) h.2 h.4 flags.0) (q.has scope h.1 h.3 h.5 flags.1)))

    pub sound_binary : (sign : BinOp) → IsSound (binary_typing sign a b)
    sound_binary sign.Or = sound_or
    sound_binary sign.And = sound_and
    sound_binary sign.Eq = sound_comparison op.Eq
    sound_binary sign.Ne = sound_comparison op.Ne
    sound_binary sign.Lt = sound_comparison op.Lt
    sound_binary sign.Le = sound_comparison op.Le
    sound_binary sign.Gt = sound_comparison op.Gt
    sound_binary sign.Ge = sound_comparison op.Ge
    sound_binary sign.Add = sound_arithmetic op.Add refl
    sound_binary sign.Sub = sound_arithmetic op.Sub refl
    sound_binary sign.Mul = sound_arithmetic op.Mul refl
    sound_binary sign.Div = sound_arithmetic op.Div refl
    sound_binary sign.Mod = sound_arithmetic op.Mod refl
    sound_binary sign.At = sound_index

    updated : (Vector : Scope → Ty → Cored → Type 0) → AllTypedAs Vector → AllTypedAs (Updated Vector a b)
    updated Vector v scope t c h = shown scope t (VectorTy h.0 h.1) c
        (update_core (VectorTy h.0 h.1) h.2 h.3 h.4 h.5) h.6 (h.11 ∙ ap (λ u. update_core u h.2 h.3 h.4 h.5) h.6) (λ off.
        let first = or_parts h.3.1 (h.4.1 || h.5.1) off in
        let two = or_parts h.4.1 h.5.1 first.1 in
        IsTyped.update h.0 h.2 h.1 h.9
        (subst (IsTyped core (scope_types scope) h.3.0) h.6 (v scope t h.3 h.7 first.0)) (p.has scope h.2 h.4 h.8 two.0) (q.checked scope h.1 h.5 h.10 two.1))

  pub sound_update : (a b d : Judged) → IsSound a → IsSound b → IsSound d → IsSound (update_typing a b d)
  sound_update a b d p q r = record { has = updated b d q r a.has p.has; checked = updated b d q r a.checked p.checked }

  module _ (a : Judged) (p : IsSound a) where
    pub sound_not : IsSound (not_typing a)
    sound_not = sound_closed _ (λ scope t c h. shown scope t BoolTy c (not_core h.0) h.1 h.3 (λ off.
        IsTyped.opposite (AreTyped.one (p.checked scope BoolTy h.0 h.2 off) AreTyped.none)))

    negation : (Part : Scope → Ty → Cored → Type 0) → AllTypedAs Part → AllTypedAs (Negation Part)
    negation Part v scope t c h =
        shown scope t t c (neg_core t h.0) refl h.3 (λ off. IsTyped.negation t h.1 (AreTyped.one (v scope t h.0 h.2 off) AreTyped.none))

    pub sound_neg : IsSound (neg_typing a)
    sound_neg = record { has = negation a.has p.has; checked = negation a.checked p.checked }

    pub sound_cast : (type : TyExp) → IsSound (cast_typing s a type)
    sound_cast type = sound_closed _ (λ scope t c h. shown scope t t c (convert_core h.0 t h.1) refl h.6 (λ off.
        IsTyped.conversion h.0 t h.5 h.3 (p.has scope h.0 h.1 h.4 off)))

  -- an exception stands under its number
  pub exn_stands : (name : List ℕ) (number : ℕ) (exn : ExnDef) → exn_named name s ≡ Some (number, exn) → slice_get core.exns number ≡ Some exn
  exn_stands name number exn h = ap (λ (xs : List ExnDef). slice_get xs number) of.exns
      ∙ first_stands (λ (exn : ExnDef). exn.name) name s.exns number exn h

  pub sound_raise : (name : List ℕ) → IsSound (raise_typing s name)
  sound_raise name = sound_opened _ (λ scope t c h. shown scope t t c (raise_core h.0) refl h.2 (λ off.
      IsTyped.raise_alone h.0 h.1.0 (exn_stands name h.0 h.1.0 h.1.1) h.1.2))

  pub sound_raise_with : (name : List ℕ) (a : Judged) → IsSound a → IsSound (raise_with_typing s name a)
  sound_raise_with name a p = sound_opened _ (λ scope t c h. shown scope t t c (raise_with_core h.0 h.1) refl h.3 (λ off.
      IsTyped.raise_with h.0 h.2.0 h.2.1 (exn_stands name h.0 h.2.0 h.2.2) h.2.3 (p.checked scope h.2.1 h.1 h.2.4 off)))

  -- parts
  abbrev pub AllSound : List Judged → Type 0
  AllSound [] = Unit {0}
  AllSound (j ∷ js) = IsSound j × AllSound js

  all_checked : (js : List Judged) → AllSound js → (scope : Scope) (ts : List Ty) (cs : List Cored) → AllChecked scope js ts cs
      → some_too_wide cs ≡ false
      → AreTyped core (scope_types scope) (cores cs) ts
  all_checked [] g scope [] [] h off = AreTyped.none
  all_checked [] g scope (t ∷ ts) cs h off = absurd h
  all_checked [] g scope [] (c ∷ cs) h off = absurd h
  all_checked (j ∷ js) g scope (t ∷ ts) (c ∷ cs) h off =
      let flags = or_parts c.1 (some_too_wide cs) off in AreTyped.one (g.0.checked scope t c h.0 flags.0) (all_checked js g.1 scope ts cs h.1 flags.1)
  all_checked (j ∷ js) g scope [] cs h off = absurd h
  all_checked (j ∷ js) g scope (t ∷ ts) [] h off = absurd h

  all_have : (js : List Judged) → AllSound js → (scope : Scope) (ts : List Ty) (cs : List Cored) → AllHave scope js ts cs → some_too_wide cs ≡ false
      → AreTyped core (scope_types scope) (cores cs) ts
  all_have [] g scope [] [] h off = AreTyped.none
  all_have [] g scope (t ∷ ts) cs h off = absurd h
  all_have [] g scope [] (c ∷ cs) h off = absurd h
  all_have (j ∷ js) g scope (t ∷ ts) (c ∷ cs) h off =
      let flags = or_parts c.1 (some_too_wide cs) off in AreTyped.one (g.0.has scope t c h.0 flags.0) (all_have js g.1 scope ts cs h.1 flags.1)
  all_have (j ∷ js) g scope [] cs h off = absurd h
  all_have (j ∷ js) g scope (t ∷ ts) [] h off = absurd h

  each_checked : (js : List Judged) → AllSound js → (scope : Scope) (t : Ty) (cs : List Cored) → EachChecked scope js t cs → some_too_wide cs ≡ false
      → AreTyped core (scope_types scope) (cores cs) (replicate {A = Ty} (length js) t)
  each_checked [] g scope t [] h off = AreTyped.none
  each_checked [] g scope t (c ∷ cs) h off = absurd h
  each_checked (j ∷ js) g scope t (c ∷ cs) h off =
      let flags = or_parts c.1 (some_too_wide cs) off in AreTyped.one (g.0.checked scope t c h.0 flags.0) (each_checked js g.1 scope t cs h.1 flags.1)
  each_checked (j ∷ js) g scope t [] h off = absurd h

  pub sound_app : (name : List ℕ) (js : List Judged) → AllSound js → IsSound (app_typing s name js)
  sound_app name [] g =
      sound_closed _ (λ scope t c h. shown scope t t c (variable_core h.0) refl h.2
      (λ off. IsTyped.variable h.0 (variable_stands name scope h.0 t h.1)))
  sound_app name (j ∷ js) g = sound_closed _ (λ scope t c h.
      let f = of.funs h.0 h.1 (first_stands (λ (function : Signature). function.name) name s.funs h.0 h.1 h.3) in
      shown scope t f.function.gives c (call_core h.0 h.2) (h.4 ∙ sym f.is.gives) h.6 (λ off.
      IsTyped.call h.0 f.function f.there
      (subst (AreTyped core (scope_types scope) (cores h.2)) (sym f.is.params) (all_checked (j ∷ js) g scope h.1.params h.2 h.5 off))))

  module _ (js : List Judged) (g : AllSound js) where
    pub sound_con : (name : List ℕ) → IsSound (con_typing s name js)
    sound_con name = sound_closed _ (λ scope t c h.
        let is = con_stands name s.types.sums h.0 h.2 in
        shown scope t _ c (con_core h.0.place h.1) h.3 h.5 (λ off.
        IsTyped.con h.0.sum h.0.place is.sum (ap (λ (types : Types). slice_get types.sums h.0.sum) of.types ∙ is.there) is.within
        (subst (AreTyped core (scope_types scope) (cores h.1)) (sym is.fields) (all_checked js g scope h.0.fields h.1 h.4 off))))

    pub sound_tuple : IsSound (tuple_typing js)
    sound_tuple = record {
      has = λ scope t c h. shown scope t _ c (tuple_core h.1) h.2 h.4 (λ off. IsTyped.tuple (all_have js g scope h.0 h.1 h.3 off));
      checked = λ scope t c h. shown scope t _ c (tuple_core h.1) h.2 h.4 (λ off. IsTyped.tuple (all_checked js g scope h.0 h.1 h.3 off));
    }

    elements : (scope : Scope) (item t : Ty) (c : Cored) → Elements js scope item t c → IsTypedAs scope t c
    elements scope item t c h =
        shown scope t _ c (vector_core h.0) h.1 h.3 (λ off. IsTyped.vector (length js) item (each_checked js g scope item h.0 h.2 off))

    pub sound_vector : IsSound (vector_typing js)
    sound_vector = record { has = λ scope t c h. elements scope h.0 t c h.2; checked = λ scope t c h. elements scope h.0 t c h.1 }

  -- alternatives
  abbrev pub AllArmsSound : List Arm → Type 0
  AllArmsSound [] = Unit {0}
  AllArmsSound (arm ∷ arms) = IsSound arm.body × AllArmsSound arms

  arms_typed : (scope : Scope) (u t : Ty) (arms : List Arm) → AllArmsSound arms → (cs : List CoredArm) → ArmsChecked s scope u arms t cs
      → some_arm_too_wide cs ≡ false
      → ArmsAreTyped core (scope_types scope) u (arm_cores cs) t
  arms_typed scope u t [] g [] h off = ArmsAreTyped.no_arm
  arms_typed scope u t [] g (c ∷ cs) h off = absurd h
  arms_typed scope u t (arm ∷ arms) g (c ∷ cs) h off =
      let flags = or_parts (c.0.1 || c.1.1) (some_arm_too_wide cs) off in
      let two = or_parts c.0.1 c.1.1 flags.0 in
      let p : IsPattern core.types u c.0.0 (scope_types h.0) =
      subst (λ types. IsPattern types u c.0.0 (scope_types h.0)) (sym of.types) (pattern_typed s arm.pat u (h.0, c.0) h.1 two.0) in
      let body = subst (λ vars. IsTyped core vars c.1.0 t) (map-append (λ (v : List ℕ
      × Ty). v.1) scope h.0) (g.0.checked (scope ++ h.0) t c.1 h.2 two.1) in
      ArmsAreTyped.one_arm p body (arms_typed scope u t arms g.1 cs h.3 flags.1)
  arms_typed scope u t (arm ∷ arms) g [] h off = absurd h

  module _ (a : Judged) (p : IsSound a) (arms : List Arm) (g : AllArmsSound arms) where
    alternatives : (scope : Scope) (u t : Ty) (c : Cored) → Alternatives s a arms scope u t c → IsTypedAs scope t c
    alternatives scope u t c h = shown scope t t c (case_core u h.0 h.1) refl h.4 (λ off.
        let flags = or_parts h.0.1 (some_arm_too_wide h.1) off in
        IsTyped.alternatives u (p.has scope u h.0 h.2 flags.0) (arms_typed scope u t arms g h.1 h.3 flags.1))

    pub sound_case : IsSound (case_typing s a arms)
    sound_case = record { has = λ scope t c h. alternatives scope h.0 t c h.2; checked = λ scope t c h. alternatives scope h.0 t c h.1 }
