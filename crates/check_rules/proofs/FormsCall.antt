-- The core of an expression calls only functions below a bound if its parts do: form by form.
use Rattle.std.proofs.Common.{◌≡◌, ℕ, ◌<◌, List, [], ◌∷◌, ◌++◌, map, Some, None, refl, ap, sym, ◌∙◌, Bool, true, false, ◌&&◌}
use Rattle.std.specs.List.{list_all}
use Rattle.std.proofs.lemmas.Bool.Decides.{Decides-ltb}
use Rattle.hume_base.specs.declared.types.Ty.{Ty, Bool as BoolTy, Vector as VectorTy}
use Rattle.hume_ast.specs.declared.tree.BinOp.{BinOp}
use Rattle.hume_ast.specs.declared.tree.BinOp.TheVariants as sign
use Rattle.hume_ast.specs.declared.tree.TyExp.{TyExp}
use Rattle.hume_model.specs.declared.core_tree.Op.{Op}
use Rattle.hume_model.specs.declared.core_tree.Op.TheVariants as op
use Rattle.hume_model.specs.declared.core_tree.PatC.{PatC}
use Rattle.hume_model.specs.declared.core_tree.Expr.{Expr, roll-Expr, map-Expr, fold-roll-Expr}
use Rattle.typed_core.specs.declared.typed_tree.TypedExpr.{TypedExpr, roll-TypedExpr, map-TypedExpr, fold-roll-TypedExpr, Word, Var, Con, Tuple, Vect, Prim, Convert, Index, Update, If, Case, Let, Call, Raise}
use Rattle.typed_core.specs.declared.typed_tree.TypedExpr.TheOpen.{TypedExpr-F}
use Rattle.typed_core.specs.declared.typed_tree.TypedExpr.TheVariants.{rolls-Word, rolls-Var, rolls-Con, rolls-Tuple, rolls-Vect, rolls-Prim, rolls-Convert, rolls-Index, rolls-Update, rolls-If, rolls-Case, rolls-Let, rolls-Call, rolls-Raise}
use Rattle.typed_core.specs.Erasing.{erased, erased_layer}
use Rattle.hume_model.specs.Calls.{all_true, calls_step, calls_below}
use Rattle.check_typing.specs.Signatures.{Scope, fun_named}
use Rattle.check_typing.specs.Patterns.{literal_word, word_of_truth}
use Rattle.check_typing.specs.Cores.{Cored, CoredArm, cores, arm_cores, letter_core, truth_core, literal_core, variable_core, let_core, if_core, and_core, or_core, operation_core, neg_core, not_core, convert_core, index_core, update_core, case_core, raise_core, raise_with_core, call_core, con_core, tuple_core, vector_core}
use Rattle.check_typing.specs.Typing.{Judged, Arm, closed, opened, AllHave, AllChecked, EachChecked, literal_typing, letter_typing, truth_typing, Binding, let_typing, Branches, if_typing, ArmsChecked, Alternatives, case_typing, raise_typing, raise_with_typing, Arithmetic, arithmetic_typing, comparison_typing, logic_typing, not_typing, Negation, neg_typing, index_typing, Updated, update_typing, cast_typing, app_typing, con_typing, tuple_typing, Elements, vector_typing, star_typing, binary_typing}
use Rattle.check_typing.specs.declared.signatures.Signature.{Signature}
use Rattle.check_typing.specs.declared.signatures.Signatures.{Signatures}

both : (a b : Bool) → a ≡ true → b ≡ true → (a && b) ≡ true
both true b p q = q
both false b p q = cc

module _ (s : Signatures) (bound : ℕ) where
  abbrev pub Calls : TypedExpr → Type 0
  Calls e = calls_below bound (erased e) ≡ true

  abbrev pub AllCalls : List TypedExpr → Type 0
  AllCalls es = all_true (map (calls_below bound) (map erased es)) ≡ true

  rolled : (x : TypedExpr-F TypedExpr) (e : TypedExpr) → roll-TypedExpr x ≡ e
      → calls_step bound (map-Expr Expr Bool (calls_below bound) (erased_layer (map-TypedExpr TypedExpr Expr erased x))) ≡ true → Calls e
  rolled x e r h =
      ap (λ e. calls_below bound (erased e)) (sym r) ∙ ap (calls_below bound) (fold-roll-TypedExpr Expr (λ y. roll-Expr (erased_layer y)) x)
      ∙ fold-roll-Expr Bool (calls_step bound) (erased_layer (map-TypedExpr TypedExpr Expr erased x)) ∙ h

  calls_word : (w : ℕ) → Calls (Word w)
  calls_word w = rolled (TypedExpr-F.Word w) (Word w) (rolls-Word w) refl

  calls_var : (n : ℕ) → Calls (Var n)
  calls_var n = rolled (TypedExpr-F.Var n) (Var n) (rolls-Var n) refl

  calls_if : (a b d : TypedExpr) → Calls a → Calls b → Calls d → Calls (If a b d)
  calls_if a b d p q r = rolled (TypedExpr-F.If a b d) (If a b d) (rolls-If a b d) (both _ _ p (both _ _ q r))

  calls_let : (of : Ty) (a b : TypedExpr) → Calls a → Calls b → Calls (Let of a b)
  calls_let of a b p q = rolled (TypedExpr-F.Let of a b) (Let of a b) (rolls-Let of a b) (both _ _ p q)

  calls_prim : (o : Op) (t : Ty) (es : List TypedExpr) → AllCalls es → Calls (Prim o t es)
  calls_prim o t es p = rolled (TypedExpr-F.Prim o t es) (Prim o t es) (rolls-Prim o t es) p

  -- what is said of a core that calls only functions below the bound
  abbrev pub AllCall : (Scope → Ty → Cored → Type 0) → Type 0
  AllCall P = (scope : Scope) (t : Ty) (c : Cored) → P scope t c → Calls c.0

  pub record Goes (j : Judged) : Type 0 where
    pub has : AllCall j.has
    pub checked : AllCall j.checked

  shown : (c d : Cored) → c ≡ d → Calls d.0 → Calls c.0
  shown c d e p = ap (λ (r : Cored). calls_below bound (erased r.0)) e ∙ p

  goes_closed : (P : Scope → Ty → Cored → Type 0) → AllCall P → Goes (closed P)
  goes_closed P p = record { has = p; checked = p }

  goes_opened : (P : Scope → Ty → Cored → Type 0) → AllCall P → Goes (opened P)
  goes_opened P p = record { has = λ scope t c h. p scope t c h.1; checked = p }

  pub goes_literal : (negative : Bool) (amount : ℕ) → Goes (literal_typing negative amount)
  goes_literal negative amount = goes_opened _ (λ scope t c h. shown c (literal_core negative amount t) h.1 (calls_word (literal_word negative amount)))

  pub goes_letter : (byte : ℕ) → Goes (letter_typing byte)
  goes_letter byte = goes_closed _ (λ scope t c h. shown c (letter_core byte) h.1 (calls_word byte))

  pub goes_truth : (b : Bool) → Goes (truth_typing b)
  goes_truth b = goes_closed _ (λ scope t c h. shown c (truth_core b) h.1 (calls_word (word_of_truth b)))

  pub goes_star : Goes star_typing
  goes_star = goes_closed _ (λ scope t c h. absurd h)

  binding : (name : List ℕ) (a : Judged) (Body : Scope → Ty → Cored → Type 0) → AllCall a.has → AllCall Body → AllCall (Binding name a Body)
  binding name a Body p q scope t c h =
      shown c (let_core h.0 h.1 h.2) h.5 (calls_let h.0 h.1.0 h.2.0 (p scope h.0 h.1 h.3) (q (scope ++ (name, h.0) ∷ []) t h.2 h.4))

  pub goes_let : (name : List ℕ) (a b : Judged) → Goes a → Goes b → Goes (let_typing name a b)
  goes_let name a b p q = record { has = binding name a b.has p.has q.has; checked = binding name a b.checked p.has q.checked }

  module _ (a b : Judged) (p : Goes a) (q : Goes b) where
    branches : (test : Judged) → Goes test → AllCall (Branches test a b)
    branches test r scope t c h = shown c (if_core h.0 h.1 h.2) h.6
        (calls_if h.0.0 h.1.0 h.2.0 (r.checked scope BoolTy h.0 h.3) (p.checked scope t h.1 h.4) (q.checked scope t h.2 h.5))

    pub goes_if : (test : Judged) → Goes test → Goes (if_typing test a b)
    goes_if test r = record { has = λ scope t c h. branches test r scope t c h.1; checked = branches test r }

    operation : (o : Op) (of t : Ty) (scope : Scope) (left right : Cored) → a.checked scope t left → b.checked scope t right → Calls (Prim o of (left.0 ∷ right.0 ∷ []))
    operation o of t scope left right x y =
        calls_prim o of (left.0 ∷ right.0 ∷ []) (both _ _ (p.checked scope t left x) (both _ true (q.checked scope t right y) refl))

    arithmetic : (o : Op) → AllCall (Arithmetic o a b)
    arithmetic o scope t c h = shown c (operation_core o t h.0 h.1) h.5 (operation o t t scope h.0 h.1 h.3 h.4)

    goes_arithmetic : (o : Op) → Goes (arithmetic_typing o a b)
    goes_arithmetic o = record { has = λ scope t c h. arithmetic o scope t c h.1; checked = arithmetic o }

    goes_comparison : (o : Op) → Goes (comparison_typing o a b)
    goes_comparison o = goes_closed _ (λ scope t c h. shown c (operation_core o h.0 h.1 h.2) h.8 (operation o h.0 h.0 scope h.1 h.2 h.6 h.7))

    goes_or : Goes (logic_typing or_core a b)
    goes_or = goes_closed _ (λ scope t c h. shown c (or_core h.0 h.1) h.5
        (calls_if h.0.0 (Word 1) h.1.0 (p.checked scope BoolTy h.0 h.3) (calls_word 1) (q.checked scope BoolTy h.1 h.4)))

    goes_and : Goes (logic_typing and_core a b)
    goes_and = goes_closed _ (λ scope t c h. shown c (and_core h.0 h.1) h.5
        (calls_if h.0.0 h.1.0 (Word 0) (p.checked scope BoolTy h.0 h.3) (q.checked scope BoolTy h.1 h.4) (calls_word 0)))

    goes_index : Goes (index_typing a b)
    goes_index = goes_closed _ (λ scope t c h. shown c (index_core (VectorTy h.0 t) h.1 h.2 h.3) h.7
        (rolled (TypedExpr-F.Index (VectorTy h.0 t) h.1 h.2.0 h.3.0) (Index (VectorTy h.0 t) h.1 h.2.0 h.3.0)
        (rolls-Index (VectorTy h.0 t) h.1 h.2.0 h.3.0) (both _ _ (p.has scope (VectorTy h.0 t) h.2 h.4) (q.has scope h.1 h.3 h.5))))

    pub goes_binary : (sign : BinOp) → Goes (binary_typing sign a b)
    goes_binary sign.Or = goes_or
    goes_binary sign.And = goes_and
    goes_binary sign.Eq = goes_comparison op.Eq
    goes_binary sign.Ne = goes_comparison op.Ne
    goes_binary sign.Lt = goes_comparison op.Lt
    goes_binary sign.Le = goes_comparison op.Le
    goes_binary sign.Gt = goes_comparison op.Gt
    goes_binary sign.Ge = goes_comparison op.Ge
    goes_binary sign.Add = goes_arithmetic op.Add
    goes_binary sign.Sub = goes_arithmetic op.Sub
    goes_binary sign.Mul = goes_arithmetic op.Mul
    goes_binary sign.Div = goes_arithmetic op.Div
    goes_binary sign.Mod = goes_arithmetic op.Mod
    goes_binary sign.At = goes_index

    updated : (Vector : Scope → Ty → Cored → Type 0) → AllCall Vector → AllCall (Updated Vector a b)
    updated Vector v scope t c h = shown c (update_core t h.2 h.3 h.4 h.5) h.11
        (rolled (TypedExpr-F.Update t h.2 h.3.0 h.4.0 h.5.0) (Update t h.2 h.3.0 h.4.0 h.5.0) (rolls-Update t h.2 h.3.0 h.4.0 h.5.0)
        (both _ _ (v scope t h.3 h.7) (both _ _ (p.has scope h.2 h.4 h.8) (q.checked scope h.1 h.5 h.10))))

  pub goes_update : (a b d : Judged) → Goes a → Goes b → Goes d → Goes (update_typing a b d)
  goes_update a b d p q r = record { has = updated b d q r a.has p.has; checked = updated b d q r a.checked p.checked }

  module _ (a : Judged) (p : Goes a) where
    pub goes_not : Goes (not_typing a)
    goes_not = goes_closed _ (λ scope t c h. shown c (not_core h.0) h.3 (calls_prim op.Not BoolTy (h.0.0 ∷ []) (both _ true (p.checked scope BoolTy h.0 h.2) refl)))

    negation : (Part : Scope → Ty → Cored → Type 0) → AllCall Part → AllCall (Negation Part)
    negation Part v scope t c h = shown c (neg_core t h.0) h.3 (calls_prim op.Neg t (h.0.0 ∷ []) (both _ true (v scope t h.0 h.2) refl))

    pub goes_neg : Goes (neg_typing a)
    goes_neg = record { has = negation a.has p.has; checked = negation a.checked p.checked }

    pub goes_cast : (type : TyExp) → Goes (cast_typing s a type)
    goes_cast type = goes_closed _ (λ scope t c h. shown c (convert_core h.0 t h.1) h.6
        (rolled (TypedExpr-F.Convert h.0 t h.1.0) (Convert h.0 t h.1.0) (rolls-Convert h.0 t h.1.0) (both _ true (p.has scope h.0 h.1 h.4) refl)))

  pub goes_raise : (name : List ℕ) → Goes (raise_typing s name)
  goes_raise name = goes_opened _ (λ scope t c h. shown c (raise_core h.0) h.2 (rolled (TypedExpr-F.Raise h.0 None) (Raise h.0 None) (rolls-Raise h.0 None) refl))

  pub goes_raise_with : (name : List ℕ) (a : Judged) → Goes a → Goes (raise_with_typing s name a)
  goes_raise_with name a p = goes_opened _ (λ scope t c h. shown c (raise_with_core h.0 h.1) h.3
      (rolled (TypedExpr-F.Raise h.0 (Some h.1.0)) (Raise h.0 (Some h.1.0)) (rolls-Raise h.0 (Some h.1.0)) (p.checked scope h.2.1 h.1 h.2.4)))

  -- parts
  abbrev pub AllGo : List Judged → Type 0
  AllGo [] = Unit {0}
  AllGo (j ∷ js) = Goes j × AllGo js

  all_checked : (js : List Judged) → AllGo js → (scope : Scope) (ts : List Ty) (cs : List Cored) → AllChecked scope js ts cs → AllCalls (cores cs)
  all_checked [] g scope [] [] h = refl
  all_checked [] g scope (t ∷ ts) cs h = absurd h
  all_checked [] g scope [] (c ∷ cs) h = absurd h
  all_checked (j ∷ js) g scope (t ∷ ts) (c ∷ cs) h = both _ _ (g.0.checked scope t c h.0) (all_checked js g.1 scope ts cs h.1)
  all_checked (j ∷ js) g scope [] cs h = absurd h
  all_checked (j ∷ js) g scope (t ∷ ts) [] h = absurd h

  all_have : (js : List Judged) → AllGo js → (scope : Scope) (ts : List Ty) (cs : List Cored) → AllHave scope js ts cs → AllCalls (cores cs)
  all_have [] g scope [] [] h = refl
  all_have [] g scope (t ∷ ts) cs h = absurd h
  all_have [] g scope [] (c ∷ cs) h = absurd h
  all_have (j ∷ js) g scope (t ∷ ts) (c ∷ cs) h = both _ _ (g.0.has scope t c h.0) (all_have js g.1 scope ts cs h.1)
  all_have (j ∷ js) g scope [] cs h = absurd h
  all_have (j ∷ js) g scope (t ∷ ts) [] h = absurd h

  each_checked : (js : List Judged) → AllGo js → (scope : Scope) (t : Ty) (cs : List Cored) → EachChecked scope js t cs → AllCalls (cores cs)
  each_checked [] g scope t [] h = refl
  each_checked [] g scope t (c ∷ cs) h = absurd h
  each_checked (j ∷ js) g scope t (c ∷ cs) h = both _ _ (g.0.checked scope t c h.0) (each_checked js g.1 scope t cs h.1)
  each_checked (j ∷ js) g scope t [] h = absurd h

  pub goes_variable : (name : List ℕ) → Goes (app_typing s name [])
  goes_variable name = goes_closed _ (λ scope t c h. shown c (variable_core h.0) h.2 (calls_var h.0))

  -- the function of the name is below the bound
  abbrev pub IsBelow : List ℕ → Type 0
  IsBelow name = (number : ℕ) (function : Signature) → fun_named name s ≡ Some (number, function) → number < bound

  pub goes_app : (name : List ℕ) → IsBelow name → (j : Judged) (js : List Judged) → AllGo (j ∷ js) → Goes (app_typing s name (j ∷ js))
  goes_app name below j js g = goes_closed _ (λ scope t c h. shown c (call_core h.0 h.2) h.6
      (rolled (TypedExpr-F.Call h.0 (cores h.2)) (Call h.0 (cores h.2)) (rolls-Call h.0 (cores h.2))
      (both _ _ ((Decides-ltb h.0 bound).1 (below h.0 h.1 h.3)) (all_checked (j ∷ js) g scope h.1.params h.2 h.5))))

  module _ (js : List Judged) (g : AllGo js) where
    pub goes_con : (name : List ℕ) → Goes (con_typing s name js)
    goes_con name = goes_closed _ (λ scope t c h. shown c (con_core h.0.place h.1) h.5
        (rolled (TypedExpr-F.Con h.0.place (cores h.1)) (Con h.0.place (cores h.1)) (rolls-Con h.0.place (cores h.1)) (all_checked js g scope h.0.fields h.1 h.4)))

    tuple : (cs : List Cored) → AllCalls (cores cs) → Calls (Tuple (cores cs))
    tuple cs p = rolled (TypedExpr-F.Tuple (cores cs)) (Tuple (cores cs)) (rolls-Tuple (cores cs)) p

    pub goes_tuple : Goes (tuple_typing js)
    goes_tuple = record {
      has = λ scope t c h. shown c (tuple_core h.1) h.4 (tuple h.1 (all_have js g scope h.0 h.1 h.3));
      checked = λ scope t c h. shown c (tuple_core h.1) h.4 (tuple h.1 (all_checked js g scope h.0 h.1 h.3));
    }

    elements : (scope : Scope) (item t : Ty) (c : Cored) → Elements js scope item t c → Calls c.0
    elements scope item t c h = shown c (vector_core h.0) h.3
        (rolled (TypedExpr-F.Vect (cores h.0)) (Vect (cores h.0)) (rolls-Vect (cores h.0)) (each_checked js g scope item h.0 h.2))

    pub goes_vector : Goes (vector_typing js)
    goes_vector = record { has = λ scope t c h. elements scope h.0 t c h.2; checked = λ scope t c h. elements scope h.0 t c h.1 }

  -- alternatives
  abbrev pub AllArmsGo : List Arm → Type 0
  AllArmsGo [] = Unit {0}
  AllArmsGo (arm ∷ arms) = Goes arm.body × AllArmsGo arms

  abbrev answers : List (PatC × TypedExpr) → List (PatC × Bool)
  answers arms = map (λ (arm : PatC × Expr). (arm.0, calls_below bound arm.1)) (map (λ (arm : PatC × TypedExpr). (arm.0, erased arm.1)) arms)

  arms_call : (scope : Scope) (u t : Ty) (arms : List Arm) → AllArmsGo arms → (cs : List CoredArm) → ArmsChecked s scope u arms t cs
      → list_all (λ (arm : PatC × Bool). arm.1) (answers (arm_cores cs)) ≡ true
  arms_call scope u t [] g [] h = refl
  arms_call scope u t [] g (c ∷ cs) h = absurd h
  arms_call scope u t (arm ∷ arms) g (c ∷ cs) h = both _ _ (g.0.checked (scope ++ h.0) t c.1 h.2) (arms_call scope u t arms g.1 cs h.3)
  arms_call scope u t (arm ∷ arms) g [] h = absurd h

  module _ (a : Judged) (p : Goes a) (arms : List Arm) (g : AllArmsGo arms) where
    alternatives : (scope : Scope) (u t : Ty) (c : Cored) → Alternatives s a arms scope u t c → Calls c.0
    alternatives scope u t c h = shown c (case_core u h.0 h.1) h.4
        (rolled (TypedExpr-F.Case u h.0.0 (arm_cores h.1)) (Case u h.0.0 (arm_cores h.1)) (rolls-Case u h.0.0 (arm_cores h.1))
        (both _ _ (p.has scope u h.0 h.2) (arms_call scope u t arms g h.1 h.3)))

    pub goes_case : Goes (case_typing s a arms)
    goes_case = record { has = λ scope t c h. alternatives scope h.0 t c h.2; checked = λ scope t c h. alternatives scope h.0 t c h.1 }
