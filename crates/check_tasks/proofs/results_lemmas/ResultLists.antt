-- What the tasks of outputs and of alternatives come to.
use native.Mathlib.Omega.{arith}
use denote.Ref.{Bor}
use Rattle.std.proofs.Common.{◌≡◌, ◌≤◌, ◌<◌, ◌-◌, ℕ, zero, suc, ◌+◌, List, [], ◌∷◌, ◌++◌, length, drop, None, refl, ap}
use Rattle.std.proofs.lemmas.List.{length-drop}
use Rattle.hume_base.specs.declared.types.Ty.{Ty, out-Ty}
use Rattle.hume_base.specs.declared.types.Ty.TheOpen.{Ty-F}
use Rattle.hume_ast.specs.declared.tree.Pat.{Pat}
use Rattle.hume_ast.specs.declared.tree.Exp.{Exp}
use Rattle.check_scopes.specs.types.Nodes.{type_at}
use Rattle.check_scopes.specs.types.Contexts.{top, below, part_at}
use Rattle.check_typing.specs.Patterns.{pattern}
use Rattle.check_typing.specs.inner.ResultWalk.{result_walk, all_outputs, arms_result}
use Rattle.check_tasks.specs.declared.task.Task.TheVariants as plain
use Rattle.check_tasks.specs.declared.task.TypeTask.TheVariants as types
use Rattle.check_tasks.proofs.Given.{by_case, form_steps, reverse_more}
use Rattle.check_tasks.specs.declared.results.task.ResultTask.TheVariants as task
use Rattle.check_tasks.specs.declared.results.task.ResultMake.TheVariants as make
use Rattle.check_tasks.specs.results.ResultStates.{ResultState}
use Rattle.check_tasks.specs.results.ResultTasks.{part_types, scope_of, types_of, signatures_of, last_outputs, result_walks, result_arm_walks, result_run, result_step}

-- the type at a place among those of the outputs is that part of the tuple
pub output_type_at : (layer : Ty-F Ty) (place : ℕ) → type_at (part_types layer) place ≡ part_at place layer
output_type_at Ty-F.Bool place = refl
output_type_at Ty-F.Char place = refl
output_type_at (Ty-F.Int bits) place = refl
output_type_at (Ty-F.Nat bits) place = refl
output_type_at (Ty-F.Tuple tys) place = refl
output_type_at (Ty-F.Vector count item) place = refl
output_type_at (Ty-F.Named number) place = refl

pub ruleset list_steps = (form_steps, reverse_more, output_type_at)

pub outputs_none : (st : ResultState) (parts : Bor (List Exp)) (first : ℕ) → length (last_outputs st) ≤ first → parts.now ≡ []
    → result_run [] st ≡ result_step (task.Outputs parts first) st
outputs_none st parts first long h = let none = past (last_outputs st) first long in grind (arith, list_steps)
  where
    past : (tys : List Ty) (n : ℕ) → length tys ≤ n → drop n tys ≡ []
    past [] zero le = refl
    past [] (suc n) le = refl
    past (ty ∷ tys) zero le = grind (arith, list_steps)
    past (ty ∷ tys) (suc n) le = let fewer : length tys ≤ n = omega arith in past tys n fewer

pub outputs_more : (st : ResultState) (parts rest : Bor (List Exp)) (part : Bor Exp) (first : ℕ) → first < length (last_outputs st)
    → parts.now ≡ part.now ∷ rest.now →
    result_run (task.Plain (plain.Types (types.PushPart first)) ∷ task.Output part ∷ task.Plain (plain.Types types.Pop) ∷ task.Outputs rest (first + 1) ∷ []) st
    ≡ result_step (task.Outputs parts first) st
outputs_more st parts rest part first within h =
    let same = output_type_at (out-Ty (top (types_of st))) first in
    by_case ((result_walk (signatures_of st) part.now).output (scope_of st) (type_at (last_outputs st) first)) (λ n. grind (arith, list_steps)) (λ head f.
    by_case (all_outputs (scope_of st) (result_walks (signatures_of st) rest.now) (drop (first + 1) (last_outputs st)))
    (λ n. grind (arith, list_steps)) (λ others g. grind (arith, list_steps)))

pub outputs_past : (st : ResultState) (parts : Bor (List Exp)) (first : ℕ) → length (last_outputs st) ≤ first
    → (part : Exp) (rest : List Exp) → parts.now ≡ part ∷ rest → result_step (task.Outputs parts first) st ≡ None
outputs_past st parts first long part rest h = grind (arith, list_steps)

pub outputs_lacking : (st : ResultState) (parts : Bor (List Exp)) (first : ℕ) → first < length (last_outputs st) → parts.now ≡ []
    → result_step (task.Outputs parts first) st ≡ None
outputs_lacking st parts first within h = by (drop first (last_outputs st)) refl
  where
    by : (rest : List Ty) → drop first (last_outputs st) ≡ rest → result_step (task.Outputs parts first) st ≡ None
    by [] e = let long = length-drop first (last_outputs st) in let none : length (drop first (last_outputs st)) ≡ 0 = ap length e in absurd (lacking long none)
      where
        lacking : length (drop first (last_outputs st)) ≡ length (last_outputs st) - first → length (drop first (last_outputs st)) ≡ 0 → ⊥
        lacking a b = omega arith
    by (ty ∷ rest) e = grind (arith, list_steps)

pub result_arms_none : (st : ResultState) (arms : Bor (List (Pat × Exp))) → arms.now ≡ [] → result_run [] st ≡ result_step (task.Arms arms) st
result_arms_none st arms h = grind (arith, list_steps)

pub result_arms_more : (st : ResultState) (arms rest : Bor (List (Pat × Exp))) (p : Bor Pat) (e : Bor Exp) → arms.now ≡ (p.now, e.now) ∷ rest.now →
    result_run (task.Plain (plain.Types types.RepeatBelow) ∷ task.Plain (plain.Match p) ∷ task.Plain (plain.Types types.Pop) ∷ task.Result e
    ∷ task.Plain (plain.Leave (length (scope_of st))) ∷ task.Make make.Arm ∷ task.Arms rest ∷ []) st
    ≡ result_step (task.Arms arms) st
result_arms_more st arms rest p e h =
    by_case (pattern (signatures_of st) p.now (top (below (types_of st)))) (λ n. grind (arith, list_steps)) (λ bound b.
    by_case ((result_walk (signatures_of st) e.now).result (scope_of st ++ bound.0) (last_outputs st)) (λ n. grind (arith, list_steps)) (λ body f.
    by_case (arms_result (signatures_of st) (scope_of st) (top (below (types_of st))) (result_arm_walks (signatures_of st) rest.now) (last_outputs st))
    (λ n. grind (arith, list_steps)) (λ others g. grind (arith, list_steps))))
