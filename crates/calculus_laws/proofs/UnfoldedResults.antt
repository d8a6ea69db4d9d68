-- What holds of an expression with an unfolded call, and wherever it holds of a part of a result, holds of the result.
use Rattle.std.proofs.Common.{◌≡◌, ℕ, ◌+◌, List, [], ◌∷◌, map, Option, Some, None, refl, ap, sym, ◌∙◌, subst}
use Rattle.hume_model.specs.declared.core_tree.Forms.{Forms}
use Rattle.hume_model.specs.declared.core_tree.PatC.{PatC}
use Rattle.hume_model.specs.declared.core_tree.Expr.{Expr}
use Rattle.hume_model.specs.declared.core_tree.Res.{Res, roll-Res, map-Res, fold-roll-Res, ind-Res}
use Rattle.hume_model.specs.declared.core_tree.Res.TheOpen.{Res-F}
use Rattle.hume_model.specs.declared.core_tree.Res.TheVariants as res
use Rattle.hume_model.specs.declared.core_tree.Core.{Core}
use Rattle.calculus_laws.specs.Unfolding.{Looked, arms_unfolded, look_result_step, looked, looked_result, outs_unfolded, unfold_result_step, variables_in}
use Rattle.calculus_laws.proofs.Unfolds.{ArmChanged, Becomes, IsKept, OneChanged, first_that, holds_of, through}

-- both are there, and one is the other's expression with an unfolded call
abbrev pub OutChanged : (ℕ → Expr → Expr → Type 0) → ℕ → Option Expr → Option Expr → Type 0
OutChanged R scope None other = ⊥
OutChanged R scope (Some e) None = ⊥
OutChanged R scope (Some e) (Some d) = R scope e d

-- what holds of a result with a part of which it holds
pub record IsResultKept (R : ℕ → Expr → Expr → Type 0) (S : ℕ → Res → Res → Type 0) : Type 0 where
  pub outs : (scope : ℕ) (outs others : List (Option Expr)) → OneChanged (OutChanged R scope) outs others → S scope (res.Outs outs) (res.Outs others)
  pub test : (scope : ℕ) (e d : Expr) (a b : Res) → R scope e d → S scope (res.If e a b) (res.If d a b)
  pub when_true : (scope : ℕ) (e : Expr) (a b other : Res) → S scope a other → S scope (res.If e a b) (res.If e other b)
  pub when_false : (scope : ℕ) (e : Expr) (a b other : Res) → S scope b other → S scope (res.If e a b) (res.If e a other)
  pub of_case : (scope : ℕ) (e d : Expr) (forms : Forms) (arms : List (PatC × Res)) → R scope e d → S scope (res.Case e forms arms) (res.Case d forms arms)
  pub arm : (scope : ℕ) (e : Expr) (forms : Forms) (arms others : List (PatC × Res)) → OneChanged (ArmChanged S scope) arms others
      → S scope (res.Case e forms arms) (res.Case e forms others)
  pub of_let : (scope : ℕ) (e d : Expr) (body : Res) → R scope e d → S scope (res.Let e body) (res.Let d body)
  pub body : (scope : ℕ) (e : Expr) (body other : Res) → S (scope + 1) body other → S scope (res.Let e body) (res.Let e other)
  pub raise : (scope exn : ℕ) (e d : Expr) → R scope e d → S scope (res.Raise exn (Some e)) (res.Raise exn (Some d))

module _ (core : Core) (R : ℕ → Expr → Expr → Type 0) (kept : IsKept core R) (S : ℕ → Res → Res → Type 0) (results : IsResultKept R S) where
  abbrev look : Res → Looked Res
  look = looked_result core

  abbrev at : (e : Expr) (scope : ℕ) → Becomes (R scope e) ((looked core e).unfolded scope)
  at e scope = holds_of core R kept e scope

  record Keeps (r : Res) : Type 0 where
    tree : (look r).tree ≡ r
    becomes : (scope : ℕ) → Becomes (S scope r) ((look r).unfolded scope)

  abbrev Part : Type 0
  Part = (r : Res) × Keeps r

  abbrev of_part : Part → Res
  of_part p = p.0

  outs_become : (scope : ℕ) (outs : List (Option Expr)) → Becomes (OneChanged (OutChanged R scope) outs) (outs_unfolded (looked core) outs scope)
  outs_become scope [] = tt
  outs_become scope (None ∷ outs) =
      through (OneChanged (OutChanged R scope) outs) (OneChanged (OutChanged R scope) (None ∷ outs)) _ (λ ds r. OneChanged.there r)
      (outs_unfolded (looked core) outs scope) (outs_become scope outs)
  outs_become scope (Some e ∷ outs) =
      let C = OneChanged (OutChanged R scope) (Some e ∷ outs) in
      first_that C _ _
      (through (R scope e) C _ (λ d r. OneChanged.here r) ((looked core e).unfolded scope) (at e scope))
      (through (OneChanged (OutChanged R scope) outs) C _ (λ ds r. OneChanged.there r) (outs_unfolded (looked core) outs scope) (outs_become scope outs))

  abbrev arm_of : PatC × Part → PatC × Res
  arm_of arm = (arm.0, of_part arm.1)

  abbrev arm_look : PatC × Res → PatC × Looked Res
  arm_look arm = (arm.0, look arm.1)

  abbrev arm_tree : PatC × Looked Res → PatC × Res
  arm_tree arm = (arm.0, arm.1.tree)

  arm_trees : (arms : List (PatC × Part)) → map arm_tree (map arm_look (map arm_of arms)) ≡ map arm_of arms
  arm_trees [] = refl
  arm_trees (arm ∷ arms) = λ i. (arm.0, arm.1.1.tree i) ∷ arm_trees arms i

  arms_become : (scope : ℕ) (arms : List (PatC × Part)) → Becomes (OneChanged (ArmChanged S scope) (map arm_of arms)) (arms_unfolded (map arm_look (map arm_of arms)) scope)
  arms_become scope [] = tt
  arms_become scope (arm ∷ arms) =
      let others = map arm_of arms in
      let C = OneChanged (ArmChanged S scope) ((arm.0, arm.1.0) ∷ others) in
      first_that C _ _
      (through (S (scope + variables_in arm.0) arm.1.0) C _
      (λ d r. subst (λ ts. C ((arm.0, d) ∷ ts)) (sym (arm_trees arms)) (OneChanged.here (refl, r)))
      ((look arm.1.0).unfolded (scope + variables_in arm.0)) (arm.1.1.becomes (scope + variables_in arm.0)))
      (through (OneChanged (ArmChanged S scope) others) C _
      (λ ds r. subst (λ t. C ((arm.0, t) ∷ ds)) (sym arm.1.1.tree) (OneChanged.there r)) (arms_unfolded (map arm_look others) scope) (arms_become scope arms))

  abbrev layer : Res-F Part → Res-F Res
  layer y = map-Res Part Res of_part y

  of_roll : (scope : ℕ) (x : Res-F Res) (r : Res) → roll-Res x ≡ r → (o : Option Res) → Becomes (S scope r) o → Becomes (S scope (roll-Res x)) o
  of_roll scope x r is o holds = subst (λ d. Becomes (S scope d) o) (sym is) holds

  step_becomes : (scope : ℕ) (y : Res-F Part) → Becomes (S scope (roll-Res (layer y))) (unfold_result_step (looked core) (map-Res Res (Looked Res) look (layer y)) scope)
  step_becomes scope (Res-F.Outs outs) =
      of_roll scope _ _ (res.rolls-Outs outs) _
      (through (OneChanged (OutChanged R scope) outs) (S scope (res.Outs outs)) _ (results.outs scope outs) _ (outs_become scope outs))
  step_becomes scope (Res-F.If t a b) =
      let Q = S scope (res.If t a.0 b.0) in
      of_roll scope _ _ (res.rolls-If t a.0 b.0) _
      (first_that Q _ _
      (through (R scope t) Q _ (λ d r. rw (a.1.tree, b.1.tree) (results.test scope t d a.0 b.0 r)) _ (at t scope))
      (first_that Q _ _
      (through (S scope a.0) Q _ (λ d r. rw b.1.tree (results.when_true scope t a.0 b.0 d r)) _ (a.1.becomes scope))
      (through (S scope b.0) Q _ (λ d r. rw a.1.tree (results.when_false scope t a.0 b.0 d r)) _ (b.1.becomes scope))))
  step_becomes scope (Res-F.Case e forms arms) =
      let Q = S scope (res.Case e forms (map arm_of arms)) in
      of_roll scope _ _ (res.rolls-Case e forms (map arm_of arms)) _
      (first_that Q _ _
      (through (R scope e) Q _ (λ d r. rw (arm_trees arms) (results.of_case scope e d forms (map arm_of arms) r)) _ (at e scope))
      (through (OneChanged (ArmChanged S scope) (map arm_of arms)) Q _ (λ ds r. results.arm scope e forms (map arm_of arms) ds r) _ (arms_become scope arms)))
  step_becomes scope (Res-F.Let e b) =
      let Q = S scope (res.Let e b.0) in
      of_roll scope _ _ (res.rolls-Let e b.0) _
      (first_that Q _ _
      (through (R scope e) Q _ (λ d r. rw b.1.tree (results.of_let scope e d b.0 r)) _ (at e scope))
      (through (S (scope + 1) b.0) Q _ (λ d r. results.body scope e b.0 d r) _ (b.1.becomes (scope + 1))))
  step_becomes scope (Res-F.Raise x None) = tt
  step_becomes scope (Res-F.Raise x (Some e)) =
      of_roll scope _ _ (res.rolls-Raise x (Some e)) _
      (through (R scope e) (S scope (res.Raise x (Some e))) _ (λ d r. results.raise scope x e d r) _ (at e scope))

  layer_trees : (y : Res-F Part) → map-Res (Looked Res) Res (λ part. part.tree) (map-Res Res (Looked Res) look (layer y)) ≡ layer y
  layer_trees (Res-F.Outs outs) = refl
  layer_trees (Res-F.If t a b) = λ i. Res-F.If t (a.1.tree i) (b.1.tree i)
  layer_trees (Res-F.Case e forms arms) = ap (Res-F.Case e forms) (arm_trees arms)
  layer_trees (Res-F.Let e b) = ap (Res-F.Let e) b.1.tree
  layer_trees (Res-F.Raise x o) = refl

  layer_keeps : (y : Res-F Part) → Keeps (roll-Res (layer y))
  layer_keeps y =
      let is = fold-roll-Res (Looked Res) (look_result_step (looked core)) (layer y) in
      record {
        tree = ap (λ (l : Looked Res). l.tree) is ∙ ap roll-Res (layer_trees y);
        becomes = λ scope. subst (λ (l : Looked Res). Becomes (S scope (roll-Res (layer y))) (l.unfolded scope)) (sym is) (step_becomes scope y);
      }

  keeps : (r : Res) → Keeps r
  keeps = ind-Res Keeps (λ x y is. subst (λ z. Keeps (roll-Res z)) is (layer_keeps y))

  -- it holds of each result with such a call
  pub result_holds : (r : Res) (scope : ℕ) → Becomes (S scope r) ((look r).unfolded scope)
  result_holds r = (keeps r).becomes

module _ (core : Core) where
  abbrev IsKeptTree : Res → Type 0
  IsKeptTree r = (looked_result core r).tree ≡ r

  abbrev Kept : Type 0
  Kept = (r : Res) × IsKeptTree r

  abbrev of_kept : Kept → Res
  of_kept p = p.0

  abbrev kept_arm : PatC × Kept → PatC × Res
  kept_arm arm = (arm.0, of_kept arm.1)

  abbrev looked_arm : PatC × Res → PatC × Looked Res
  looked_arm arm = (arm.0, looked_result core arm.1)

  kept_arms : (arms : List (PatC × Kept)) → map (λ (arm : PatC × Looked Res). (arm.0, arm.1.tree)) (map looked_arm (map kept_arm arms)) ≡ map kept_arm arms
  kept_arms [] = refl
  kept_arms (arm ∷ arms) = λ i. (arm.0, arm.1.1 i) ∷ kept_arms arms i

  abbrev kept_layer : Res-F Kept → Res-F Res
  kept_layer y = map-Res Kept Res of_kept y

  kept_trees : (y : Res-F Kept) → map-Res (Looked Res) Res (λ part. part.tree) (map-Res Res (Looked Res) (looked_result core) (kept_layer y)) ≡ kept_layer y
  kept_trees (Res-F.Outs outs) = refl
  kept_trees (Res-F.If t a b) = λ i. Res-F.If t (a.1 i) (b.1 i)
  kept_trees (Res-F.Case e forms arms) = ap (Res-F.Case e forms) (kept_arms arms)
  kept_trees (Res-F.Let e b) = ap (Res-F.Let e) b.1
  kept_trees (Res-F.Raise x o) = refl

  tree_of_layer : (y : Res-F Kept) → IsKeptTree (roll-Res (kept_layer y))
  tree_of_layer y =
      ap (λ (l : Looked Res). l.tree) (fold-roll-Res (Looked Res) (look_result_step (looked core)) (kept_layer y)) ∙ ap roll-Res (kept_trees y)

  -- a look at a result keeps the result
  pub looked_result_tree : (r : Res) → IsKeptTree r
  looked_result_tree = ind-Res IsKeptTree (λ x y is. subst (λ z. IsKeptTree (roll-Res z)) is (tree_of_layer y))
