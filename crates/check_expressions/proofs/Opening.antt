-- Which expressions are open.
use native.Mathlib.Omega.{arith}
use Rattle.std.proofs.Common.{◌≡◌, ◌<◌, ℕ, zero, suc, ◌&&◌, Bool, true, false, length, take, slice_index_or, List, [], ◌∷◌, refl, ap, sym, ◌∙◌}
use Rattle.std.proofs.lemmas.Grind.{common_steps}
use Rattle.hume_ast.specs.declared.tree.Pat.{Pat}
use Rattle.hume_ast.specs.declared.tree.Exp.{Exp, Case, App, fold-roll-Exp, the_lemmas as exp_lemmas}
use Rattle.hume_ast.specs.declared.tree.Exp.TheVariants.{rolls-Case, rolls-App}
use Rattle.hume_ast.specs.declared.tree.Exp.TheOpen.{Exp-F}
use Rattle.hume_ast.specs.declared.tree.BinOp.{BinOp}
use Rattle.hume_ast.specs.declared.tree.BinOp.TheVariants as sign
use Rattle.check_typing.specs.inner.Walk.{Walk, walk, walk_step, case_walk, app_walk, binary_walk, arm_walks_open}
use Rattle.check_typing.specs.declared.signatures.Signatures.{Signatures}
use Rattle.check_tasks.specs.Tasks.{walks, arm_walks, walks_open}
use Rattle.check_expressions.specs.inner.Open.{is_arithmetic_sign}

pub open_binary : (s : BinOp) (a b : Walk) → (binary_walk s a b).is_open ≡ (is_arithmetic_sign s && (a.is_open && b.is_open))
open_binary sign.Or a b = refl
open_binary sign.And a b = refl
open_binary sign.Eq a b = refl
open_binary sign.Ne a b = refl
open_binary sign.Lt a b = refl
open_binary sign.Le a b = refl
open_binary sign.Gt a b = refl
open_binary sign.Ge a b = refl
open_binary sign.Add a b = refl
open_binary sign.Sub a b = refl
open_binary sign.Mul a b = refl
open_binary sign.Div a b = refl
open_binary sign.Mod a b = refl
open_binary sign.At a b = refl

pub open_app : (signatures : Signatures) (name : List ℕ) (parts : List Walk) → (app_walk signatures name parts).is_open ≡ false
open_app signatures name [] = refl
open_app signatures name (part ∷ parts) = refl

-- a `case`, one level down
pub case_level : (signatures : Signatures) (a : Exp) (arms : List (Pat × Exp))
    → walk signatures (Case a arms) ≡ case_walk signatures (walk signatures a) (arm_walks signatures arms)
case_level signatures a arms =
    ap (walk signatures) (sym (rolls-Case a arms)) ∙ fold-roll-Exp Walk (walk_step signatures) (Exp-F.Case a arms)

-- a small name with arguments, one level down
pub app_level : (signatures : Signatures) (name : List ℕ) (parts : List Exp) → walk signatures (App name parts) ≡ app_walk signatures name (walks signatures parts)
app_level signatures name parts =
    ap (walk signatures) (sym (rolls-App name parts)) ∙ fold-roll-Exp Walk (walk_step signatures) (Exp-F.App name parts)

pub ruleset open_steps = (case_level, open_binary, open_app, common_steps, exp_lemmas)

pub ruleset first_steps = (common_steps)

ruleset more_steps = (common_steps)

-- one more that is open
pub one_more_open : (s : Signatures) (parts : List Exp) (place : ℕ) (part : Exp) → place < length parts → slice_index_or parts place part ≡ part
    → walks_open (walks s (take place parts)) ≡ true → (walk s part).is_open ≡ true → walks_open (walks s (take (suc place) parts)) ≡ true
one_more_open s [] place part within is all this = absurd (nothing within)
  where
    nothing : place < 0 → ⊥
    nothing h = omega arith
one_more_open s (first ∷ parts) zero part within is all this = grind (arith, more_steps)
one_more_open s (first ∷ parts) (suc place) part within is all this =
    let behind : place < length parts = omega arith in
    let others : walks_open (walks s (take place parts)) ≡ true = grind (arith, more_steps) in
    let rest = one_more_open s parts place part behind is others this in grind (arith, more_steps)

pub one_more_arm_open : (s : Signatures) (arms : List (Pat × Exp)) (place : ℕ) (arm : Pat × Exp) → place < length arms → slice_index_or arms place arm ≡ arm
    → arm_walks_open (arm_walks s (take place arms)) ≡ true → (walk s arm.1).is_open ≡ true → arm_walks_open (arm_walks s (take (suc place) arms)) ≡ true
one_more_arm_open s [] place arm within is all this = absurd (nothing within)
  where
    nothing : place < 0 → ⊥
    nothing h = omega arith
one_more_arm_open s (first ∷ arms) zero arm within is all this = grind (arith, more_steps)
one_more_arm_open s (first ∷ arms) (suc place) arm within is all this =
    let behind : place < length arms = omega arith in
    let others : arm_walks_open (arm_walks s (take place arms)) ≡ true = grind (arith, more_steps) in
    let rest = one_more_arm_open s arms place arm behind is others this in grind (arith, more_steps)
