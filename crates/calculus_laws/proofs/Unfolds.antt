-- What holds of each unfolded call, and wherever it holds of a part, holds of each expression that has such a call.
use Rattle.std.proofs.Common.{◌≡◌, ℕ, ◌+◌, List, [], ◌∷◌, map, Option, Some, None, refl, ap, sym, ◌∙◌, subst}
use Rattle.std.specs.Bool.{⊤}
use Rattle.std.specs.Option.{option_map, option_or}
use Rattle.hume_base.specs.declared.types.Ty.{Ty}
use Rattle.hume_model.specs.declared.core_tree.Forms.{Forms}
use Rattle.hume_model.specs.declared.core_tree.Op.{Op}
use Rattle.hume_model.specs.declared.core_tree.PatC.{PatC}
use Rattle.hume_model.specs.declared.core_tree.Expr.{Expr, roll-Expr, map-Expr, fold-roll-Expr, ind-Expr}
use Rattle.hume_model.specs.declared.core_tree.Expr.TheOpen.{Expr-F}
use Rattle.hume_model.specs.declared.core_tree.Expr.TheVariants as expr
use Rattle.hume_model.specs.declared.core_tree.Core.{Core}
use Rattle.calculus_laws.specs.Unfolding.{Looked, arms_unfolded, call_unfolded, look_step, looked, parts_unfolded, unfold_step, variables_in}

-- it holds of what there is
abbrev pub Becomes : {X : Type 0} → (X → Type 0) → Option X → Type 0
Becomes P None = ⊤
Becomes P (Some x) = P x

pub through : {X Y : Type 0} (P : X → Type 0) (Q : Y → Type 0) (f : X → Y) → ((x : X) → P x → Q (f x)) → (o : Option X) → Becomes P o → Becomes Q (option_map f o)
through P Q f each None holds = tt
through P Q f each (Some x) holds = each x holds

pub first_that : {X : Type 0} (P : X → Type 0) (o other : Option X) → Becomes P o → Becomes P other → Becomes P (option_or o other)
first_that P None other holds others = others
first_that P (Some x) other holds others = holds

-- one element is another, and the others are the same
pub data OneChanged {X : Type 0} (R : X → X → Type 0) : List X → List X → Type 0 where
  here : {x y : X} {xs : List X} → R x y → OneChanged R (x ∷ xs) (y ∷ xs)
  there : {x : X} {xs ys : List X} → OneChanged R xs ys → OneChanged R (x ∷ xs) (x ∷ ys)

-- one alternative has another branch
abbrev pub ArmChanged : {X : Type 0} → (ℕ → X → X → Type 0) → ℕ → PatC × X → PatC × X → Type 0
ArmChanged R scope arm other = (arm.0 ≡ other.0) × R (scope + variables_in arm.0) arm.1 other.1

-- what holds of an unfolded call, and of an expression with a part of which it holds
pub record IsKept (core : Core) (R : ℕ → Expr → Expr → Type 0) : Type 0 where
  pub unfolds : (scope function : ℕ) (args : List Expr) → Becomes (R scope (expr.Call function args)) (call_unfolded core function args scope)
  pub con : (scope place : ℕ) (es ds : List Expr) → OneChanged (R scope) es ds → R scope (expr.Con place es) (expr.Con place ds)
  pub tuple : (scope : ℕ) (es ds : List Expr) → OneChanged (R scope) es ds → R scope (expr.Tuple es) (expr.Tuple ds)
  pub vector : (scope : ℕ) (es ds : List Expr) → OneChanged (R scope) es ds → R scope (expr.Vect es) (expr.Vect ds)
  pub prim : (scope : ℕ) (op : Op) (ty : Ty) (es ds : List Expr) → OneChanged (R scope) es ds → R scope (expr.Prim op ty es) (expr.Prim op ty ds)
  pub call : (scope function : ℕ) (es ds : List Expr) → OneChanged (R scope) es ds → R scope (expr.Call function es) (expr.Call function ds)
  pub index : (scope count : ℕ) (v k v' k' : Expr) → OneChanged (R scope) (v ∷ k ∷ []) (v' ∷ k' ∷ []) → R scope (expr.Index count v k) (expr.Index count v' k')
  pub update : (scope count : ℕ) (v k e v' k' e' : Expr) → OneChanged (R scope) (v ∷ k ∷ e ∷ []) (v' ∷ k' ∷ e' ∷ [])
      → R scope (expr.Update count v k e) (expr.Update count v' k' e')
  pub choice : (scope : ℕ) (t a b t' a' b' : Expr) → OneChanged (R scope) (t ∷ a ∷ b ∷ []) (t' ∷ a' ∷ b' ∷ []) → R scope (expr.If t a b) (expr.If t' a' b')
  pub of_case : (scope : ℕ) (e d : Expr) (forms : Forms) (arms : List (PatC × Expr)) → R scope e d → R scope (expr.Case e forms arms) (expr.Case d forms arms)
  pub arm : (scope : ℕ) (e : Expr) (forms : Forms) (arms others : List (PatC × Expr)) → OneChanged (ArmChanged R scope) arms others
      → R scope (expr.Case e forms arms) (expr.Case e forms others)
  pub of_let : (scope : ℕ) (e d body : Expr) → R scope e d → R scope (expr.Let e body) (expr.Let d body)
  pub body : (scope : ℕ) (e body other : Expr) → R (scope + 1) body other → R scope (expr.Let e body) (expr.Let e other)
  pub raise : (scope exn : ℕ) (e d : Expr) → R scope e d → R scope (expr.Raise exn (Some e)) (expr.Raise exn (Some d))

module _ (core : Core) (R : ℕ → Expr → Expr → Type 0) (kept : IsKept core R) where
  abbrev look : Expr → Looked Expr
  look = looked core

  record Keeps (e : Expr) : Type 0 where
    tree : (look e).tree ≡ e
    becomes : (scope : ℕ) → Becomes (R scope e) ((look e).unfolded scope)

  abbrev Part : Type 0
  Part = (e : Expr) × Keeps e

  abbrev of_part : Part → Expr
  of_part p = p.0

  trees : (ps : List Part) → map (λ (part : Looked Expr). part.tree) (map look (map of_part ps)) ≡ map of_part ps
  trees [] = refl
  trees (p ∷ ps) = λ i. p.1.tree i ∷ trees ps i

  parts_become : (scope : ℕ) (ps : List Part) → Becomes (OneChanged (R scope) (map of_part ps)) (parts_unfolded (map look (map of_part ps)) scope)
  parts_become scope [] = tt
  parts_become scope (p ∷ ps) =
      let es = map of_part ps in
      first_that (OneChanged (R scope) (p.0 ∷ es)) _ _
      (through (R scope p.0) (OneChanged (R scope) (p.0 ∷ es)) _
      (λ d r. subst (λ ts. OneChanged (R scope) (p.0 ∷ es) (d ∷ ts)) (sym (trees ps)) (OneChanged.here r)) ((look p.0).unfolded scope) (p.1.becomes scope))
      (through (OneChanged (R scope) es) (OneChanged (R scope) (p.0 ∷ es)) _
      (λ ds r. subst (λ t. OneChanged (R scope) (p.0 ∷ es) (t ∷ ds)) (sym p.1.tree) (OneChanged.there r)) (parts_unfolded (map look es) scope) (parts_become scope ps))

  abbrev arm_of : PatC × Part → PatC × Expr
  arm_of arm = (arm.0, of_part arm.1)

  abbrev arm_look : PatC × Expr → PatC × Looked Expr
  arm_look arm = (arm.0, look arm.1)

  abbrev arm_tree : PatC × Looked Expr → PatC × Expr
  arm_tree arm = (arm.0, arm.1.tree)

  arm_trees : (arms : List (PatC × Part)) → map arm_tree (map arm_look (map arm_of arms)) ≡ map arm_of arms
  arm_trees [] = refl
  arm_trees (arm ∷ arms) = λ i. (arm.0, arm.1.1.tree i) ∷ arm_trees arms i

  arms_become : (scope : ℕ) (arms : List (PatC × Part)) → Becomes (OneChanged (ArmChanged R scope) (map arm_of arms)) (arms_unfolded (map arm_look (map arm_of arms)) scope)
  arms_become scope [] = tt
  arms_become scope (arm ∷ arms) =
      let others = map arm_of arms in
      let C = OneChanged (ArmChanged R scope) ((arm.0, arm.1.0) ∷ others) in
      first_that C _ _
      (through (R (scope + variables_in arm.0) arm.1.0) C _
      (λ d r. subst (λ ts. C ((arm.0, d) ∷ ts)) (sym (arm_trees arms)) (OneChanged.here (refl, r)))
      ((look arm.1.0).unfolded (scope + variables_in arm.0)) (arm.1.1.becomes (scope + variables_in arm.0)))
      (through (OneChanged (ArmChanged R scope) others) C _
      (λ ds r. subst (λ t. C ((arm.0, t) ∷ ds)) (sym arm.1.1.tree) (OneChanged.there r)) (arms_unfolded (map arm_look others) scope) (arms_become scope arms))

  abbrev layer : Expr-F Part → Expr-F Expr
  layer y = map-Expr Part Expr of_part y

  at : (scope : ℕ) (x : Expr-F Expr) (e : Expr) → roll-Expr x ≡ e → (o : Option Expr) → Becomes (R scope e) o → Becomes (R scope (roll-Expr x)) o
  at scope x e is o holds = subst (λ d. Becomes (R scope d) o) (sym is) holds

  step_becomes : (scope : ℕ) (y : Expr-F Part) → Becomes (R scope (roll-Expr (layer y))) (unfold_step core (map-Expr Expr (Looked Expr) look (layer y)) scope)
  step_becomes scope (Expr-F.Word w) = tt
  step_becomes scope (Expr-F.Var i) = tt
  step_becomes scope (Expr-F.Con c ps) =
      let es = map of_part ps in
      at scope _ _ (expr.rolls-Con c es) _ (through (OneChanged (R scope) es) (R scope (expr.Con c es)) _ (kept.con scope c es) _ (parts_become scope ps))
  step_becomes scope (Expr-F.Tuple ps) =
      let es = map of_part ps in
      at scope _ _ (expr.rolls-Tuple es) _ (through (OneChanged (R scope) es) (R scope (expr.Tuple es)) _ (kept.tuple scope es) _ (parts_become scope ps))
  step_becomes scope (Expr-F.Vect ps) =
      let es = map of_part ps in
      at scope _ _ (expr.rolls-Vect es) _ (through (OneChanged (R scope) es) (R scope (expr.Vect es)) _ (kept.vector scope es) _ (parts_become scope ps))
  step_becomes scope (Expr-F.Prim op ty ps) =
      let es = map of_part ps in
      at scope _ _ (expr.rolls-Prim op ty es) _ (through (OneChanged (R scope) es) (R scope (expr.Prim op ty es)) _ (kept.prim scope op ty es) _ (parts_become scope ps))
  step_becomes scope (Expr-F.Call f ps) =
      let es = map of_part ps in
      at scope _ _ (expr.rolls-Call f es) _
      (first_that (R scope (expr.Call f es)) _ _
      (subst (λ ts. Becomes (R scope (expr.Call f es)) (call_unfolded core f ts scope)) (sym (trees ps)) (kept.unfolds scope f es))
      (through (OneChanged (R scope) es) (R scope (expr.Call f es)) _ (kept.call scope f es) _ (parts_become scope ps)))
  step_becomes scope (Expr-F.Index n v k) =
      let Q = R scope (expr.Index n v.0 k.0) in
      at scope _ _ (expr.rolls-Index n v.0 k.0) _
      (first_that Q _ _
      (through (R scope v.0) Q _ (λ d r. subst (λ t. Q (expr.Index n d t)) (sym k.1.tree) (kept.index scope n v.0 k.0 d k.0 (OneChanged.here r))) _ (v.1.becomes scope))
      (through (R scope k.0) Q _ (λ d r. subst (λ t. Q (expr.Index n t d)) (sym v.1.tree) (kept.index scope n v.0 k.0 v.0 d (OneChanged.there (OneChanged.here r)))) _
      (k.1.becomes scope)))
  step_becomes scope (Expr-F.Update n v k e) =
      let Q = R scope (expr.Update n v.0 k.0 e.0) in
      let one = kept.update scope n v.0 k.0 e.0 in
      at scope _ _ (expr.rolls-Update n v.0 k.0 e.0) _
      (first_that Q _ _
      (through (R scope v.0) Q _ (λ d r. rw (k.1.tree, e.1.tree) (one d k.0 e.0 (OneChanged.here r))) _ (v.1.becomes scope))
      (first_that Q _ _
      (through (R scope k.0) Q _ (λ d r. rw (v.1.tree, e.1.tree) (one v.0 d e.0 (OneChanged.there (OneChanged.here r)))) _ (k.1.becomes scope))
      (through (R scope e.0) Q _ (λ d r. rw (v.1.tree, k.1.tree) (one v.0 k.0 d (OneChanged.there (OneChanged.there (OneChanged.here r))))) _ (e.1.becomes scope))))
  step_becomes scope (Expr-F.If t a b) =
      let Q = R scope (expr.If t.0 a.0 b.0) in
      let one = kept.choice scope t.0 a.0 b.0 in
      at scope _ _ (expr.rolls-If t.0 a.0 b.0) _
      (first_that Q _ _
      (through (R scope t.0) Q _ (λ d r. rw (a.1.tree, b.1.tree) (one d a.0 b.0 (OneChanged.here r))) _ (t.1.becomes scope))
      (first_that Q _ _
      (through (R scope a.0) Q _ (λ d r. rw (t.1.tree, b.1.tree) (one t.0 d b.0 (OneChanged.there (OneChanged.here r)))) _ (a.1.becomes scope))
      (through (R scope b.0) Q _ (λ d r. rw (t.1.tree, a.1.tree) (one t.0 a.0 d (OneChanged.there (OneChanged.there (OneChanged.here r))))) _ (b.1.becomes scope))))
  step_becomes scope (Expr-F.Case of forms arms) =
      let Q = R scope (expr.Case of.0 forms (map arm_of arms)) in
      at scope _ _ (expr.rolls-Case of.0 forms (map arm_of arms)) _
      (first_that Q _ _
      (through (R scope of.0) Q _ (λ d r. rw (arm_trees arms) (kept.of_case scope of.0 d forms (map arm_of arms) r)) _ (of.1.becomes scope))
      (through (OneChanged (ArmChanged R scope) (map arm_of arms)) Q _ (λ ds r. rw of.1.tree (kept.arm scope of.0 forms (map arm_of arms) ds r)) _ (arms_become scope arms)))
  step_becomes scope (Expr-F.Let a b) =
      let Q = R scope (expr.Let a.0 b.0) in
      at scope _ _ (expr.rolls-Let a.0 b.0) _
      (first_that Q _ _
      (through (R scope a.0) Q _ (λ d r. rw b.1.tree (kept.of_let scope a.0 d b.0 r)) _ (a.1.becomes scope))
      (through (R (scope + 1) b.0) Q _ (λ d r. rw a.1.tree (kept.body scope a.0 b.0 d r)) _ (b.1.becomes (scope + 1))))
  step_becomes scope (Expr-F.Raise x None) = tt
  step_becomes scope (Expr-F.Raise x (Some p)) =
      at scope _ _ (expr.rolls-Raise x (Some p.0)) _
      (through (R scope p.0) (R scope (expr.Raise x (Some p.0))) _ (λ d r. kept.raise scope x p.0 d r) _ (p.1.becomes scope))

  layer_trees : (y : Expr-F Part) → map-Expr (Looked Expr) Expr (λ part. part.tree) (map-Expr Expr (Looked Expr) look (layer y)) ≡ layer y
  layer_trees (Expr-F.Word w) = refl
  layer_trees (Expr-F.Var i) = refl
  layer_trees (Expr-F.Con c ps) = ap (Expr-F.Con c) (trees ps)
  layer_trees (Expr-F.Tuple ps) = ap Expr-F.Tuple (trees ps)
  layer_trees (Expr-F.Vect ps) = ap Expr-F.Vect (trees ps)
  layer_trees (Expr-F.Prim op ty ps) = ap (Expr-F.Prim op ty) (trees ps)
  layer_trees (Expr-F.Index n v k) = λ i. Expr-F.Index n (v.1.tree i) (k.1.tree i)
  layer_trees (Expr-F.Update n v k e) = λ i. Expr-F.Update n (v.1.tree i) (k.1.tree i) (e.1.tree i)
  layer_trees (Expr-F.If t a b) = λ i. Expr-F.If (t.1.tree i) (a.1.tree i) (b.1.tree i)
  layer_trees (Expr-F.Case of forms arms) = λ i. Expr-F.Case (of.1.tree i) forms (arm_trees arms i)
  layer_trees (Expr-F.Let a b) = λ i. Expr-F.Let (a.1.tree i) (b.1.tree i)
  layer_trees (Expr-F.Call f ps) = ap (Expr-F.Call f) (trees ps)
  layer_trees (Expr-F.Raise x None) = refl
  layer_trees (Expr-F.Raise x (Some p)) = λ i. Expr-F.Raise x (Some (p.1.tree i))

  layer_keeps : (y : Expr-F Part) → Keeps (roll-Expr (layer y))
  layer_keeps y =
      let is = fold-roll-Expr (Looked Expr) (look_step core) (layer y) in
      record {
        tree = ap (λ (l : Looked Expr). l.tree) is ∙ ap roll-Expr (layer_trees y);
        becomes = λ scope. subst (λ (l : Looked Expr). Becomes (R scope (roll-Expr (layer y))) (l.unfolded scope)) (sym is) (step_becomes scope y);
      }

  keeps : (e : Expr) → Keeps e
  keeps = ind-Expr Keeps (λ x y is. subst (λ z. Keeps (roll-Expr z)) is (layer_keeps y))

  -- it holds of each expression with such a call
  pub holds_of : (e : Expr) (scope : ℕ) → Becomes (R scope e) ((look e).unfolded scope)
  holds_of e = (keeps e).becomes

anything : {X : Type 0} (o : Option X) → Becomes (λ x. ⊤) o
anything None = tt
anything (Some x) = tt

-- a look at an expression keeps the expression
pub looked_tree : (core : Core) (e : Expr) → (looked core e).tree ≡ e
looked_tree core e = (keeps core (λ scope old new. ⊤) each e).tree
  where
    each : IsKept core (λ scope old new. ⊤)
    each = record {
      unfolds = λ scope f args. anything (call_unfolded core f args scope);
      con = λ scope c es ds one. tt;
      tuple = λ scope es ds one. tt;
      vector = λ scope es ds one. tt;
      prim = λ scope op ty es ds one. tt;
      call = λ scope f es ds one. tt;
      index = λ scope n v k v' k' one. tt;
      update = λ scope n v k e v' k' e' one. tt;
      choice = λ scope t a b t' a' b' one. tt;
      of_case = λ scope e d forms arms r. tt;
      arm = λ scope e forms arms others one. tt;
      of_let = λ scope e d body r. tt;
      body = λ scope e body other r. tt;
      raise = λ scope x e d r. tt;
    }
