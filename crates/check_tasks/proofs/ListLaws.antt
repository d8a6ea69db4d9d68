-- What the tasks of lists come to.
use native.Mathlib.Omega.{arith}
use denote.Ref.{Bor}
use Rattle.std.proofs.Common.{◌≡◌, ◌≤◌, ◌<◌, ◌-◌, ℕ, zero, suc, ◌+◌, Bool, ◌&&◌, List, [], ◌∷◌, ◌++◌, map, length, take, drop, reverse, slice_get, Option, Some, None, true, false, refl, ap, sym, subst, ◌∙◌}
use Rattle.std.proofs.lemmas.List.{length-drop}
use Rattle.hume_base.specs.declared.types.Ty.{Ty, Bool as BoolTy, Tuple as TupleTy, out-Ty}
use Rattle.hume_ast.specs.declared.tree.Pat.{Pat}
use Rattle.hume_ast.specs.declared.tree.Exp.{Exp}
use Rattle.check_scopes.specs.types.Nodes.{type_at}
use Rattle.check_scopes.specs.types.Contexts.{top, below, part_at}
use Rattle.check_typing.specs.Partial.{given, when}
use Rattle.check_typing.specs.Signatures.{Scope}
use Rattle.check_typing.specs.Patterns.{pattern}
use Rattle.check_typing.specs.Typing.{int32}
use Rattle.check_typing.specs.Cores.{Cored, CoredArm}
use Rattle.check_typing.specs.inner.Walk.{Walk, walk, tuple_parts, all_against, each_against, each_own, all_own, arms_against, arms_own, arm_walks_open}
use Rattle.check_typing.specs.declared.signatures.Signatures.{Signatures}
use Rattle.check_tasks.specs.declared.task.Task.{Task}
use Rattle.check_tasks.specs.declared.task.Task.TheVariants as task
use Rattle.check_tasks.specs.declared.task.TypeTask.TheVariants as types
use Rattle.check_tasks.specs.declared.task.CoreTask.TheVariants as cores
use Rattle.check_tasks.specs.States.{State}
use Rattle.check_tasks.specs.Tasks.{run, step, walks, arm_walks, walks_open}
use Rattle.check_tasks.proofs.Given.{by_case, by_test, form_steps, reverse_more, reverse_joined}

ruleset list_steps = (form_steps, reverse_more)

pub each_none : (st : State) (parts : Bor (List Exp)) → parts.now ≡ [] → run [] st ≡ step (task.Each parts) st
each_none st parts h = grind (arith, list_steps)

pub each_more : (st : State) (parts rest : Bor (List Exp)) (part : Bor Exp) → parts.now ≡ part.now ∷ rest.now →
    run (task.Against part ∷ task.Each rest ∷ []) st ≡ step (task.Each parts) st
each_more st parts rest part h =
    by_case ((walk st.0.2 part.now).against st.0.0 (top st.0.1)) (λ n. grind (arith, list_steps)) (λ first f.
    by_case (each_against st.0.0 (walks st.0.2 rest.now) (top st.0.1)) (λ n. grind (arith, list_steps)) (λ others g. grind (arith, list_steps)))

pub own_parts_none : (st : State) (parts : Bor (List Exp)) → parts.now ≡ [] → run [] st ≡ step (task.OwnParts parts) st
own_parts_none st parts h = grind (arith, list_steps)

pub own_parts_more : (st : State) (parts rest : Bor (List Exp)) (part : Bor Exp) → parts.now ≡ part.now ∷ rest.now →
    run (task.Own part ∷ task.OwnParts rest ∷ []) st ≡ step (task.OwnParts parts) st
own_parts_more st parts rest part h =
    by_case ((walk st.0.2 part.now).own st.0.0) (λ n. grind (arith, list_steps)) (λ first f.
    by_case (all_own st.0.0 (walks st.0.2 rest.now)) (λ n. grind (arith, list_steps)) (λ others g. grind (arith, list_steps)))

pub arms_none : (st : State) (arms : Bor (List (Pat × Exp))) → arms.now ≡ [] → run [] st ≡ step (task.Arms arms) st
arms_none st arms h = grind (arith, list_steps)

pub arms_more : (st : State) (arms rest : Bor (List (Pat × Exp))) (p : Bor Pat) (e : Bor Exp) → arms.now ≡ (p.now, e.now) ∷ rest.now →
    run (task.Types types.RepeatBelow ∷ task.Match p ∷ task.Types types.Pop ∷ task.Against e ∷ task.Leave (length st.0.0) ∷ task.Cores cores.Arm ∷ task.Arms rest ∷ []) st
    ≡ step (task.Arms arms) st
arms_more st arms rest p e h =
    by_case (pattern st.0.2 p.now (top (below st.0.1))) (λ n. grind (arith, list_steps)) (λ bound b.
    by_case ((walk st.0.2 e.now).against (st.0.0 ++ bound.0) (top st.0.1)) (λ n. grind (arith, list_steps)) (λ body f.
    by_case (arms_against st.0.2 st.0.0 (top (below st.0.1)) (arm_walks st.0.2 rest.now) (top st.0.1)) (λ n. grind (arith, list_steps)) (λ others g. grind (arith, list_steps))))

pub parts_none : (st : State) (parts : Bor (List Exp)) (first : ℕ) (tys : List Ty) → tuple_parts (top st.0.1) ≡ Some tys → length tys ≤ first
    → parts.now ≡ [] → run [] st ≡ step (task.Parts parts first) st
parts_none st parts first tys is long h = by (drop first tys) refl
  where
    past : (tys : List Ty) (n : ℕ) → length tys ≤ n → drop n tys ≡ []
    past [] zero le = refl
    past [] (suc n) le = refl
    past (ty ∷ tys) zero le = grind (arith, list_steps)
    past (ty ∷ tys) (suc n) le = let fewer : length tys ≤ n = omega arith in past tys n fewer

    by : (rest : List Ty) → drop first tys ≡ rest → run [] st ≡ step (task.Parts parts first) st
    by rest e = let none = past tys first long in grind (arith, list_steps)

pub parts_more : (st : State) (parts rest : Bor (List Exp)) (part : Bor Exp) (first : ℕ) (tys : List Ty) → tuple_parts (top st.0.1) ≡ Some tys → first < length tys
    → parts.now ≡ part.now ∷ rest.now →
    run (task.Types (types.PushPart first) ∷ task.Against part ∷ task.Types types.Pop ∷ task.Parts rest (first + 1) ∷ []) st ≡ step (task.Parts parts first) st
parts_more st parts rest part first tys is within h =
    by_case ((walk st.0.2 part.now).against st.0.0 (type_at tys first)) (λ n. grind (arith, list_steps)) (λ head f.
    by_case (all_against st.0.0 (walks st.0.2 rest.now) (drop (first + 1) tys)) (λ n. grind (arith, list_steps)) (λ others g. grind (arith, list_steps)))

pub parts_past : (st : State) (parts : Bor (List Exp)) (first : ℕ) (tys : List Ty) → tuple_parts (top st.0.1) ≡ Some tys → length tys ≤ first
    → (part : Exp) (rest : List Exp) → parts.now ≡ part ∷ rest → step (task.Parts parts first) st ≡ None
parts_past st parts first tys is long part rest h = grind (arith, list_steps)

pub parts_lacking : (st : State) (parts : Bor (List Exp)) (first : ℕ) (tys : List Ty) → tuple_parts (top st.0.1) ≡ Some tys → first < length tys
    → parts.now ≡ [] → step (task.Parts parts first) st ≡ None
parts_lacking st parts first tys is within h = by (drop first tys) refl
  where
    by : (rest : List Ty) → drop first tys ≡ rest → step (task.Parts parts first) st ≡ None
    by [] e = let long = length-drop first tys in let none : length (drop first tys) ≡ 0 = ap length e in absurd (lacking long none)
      where
        lacking : length (drop first tys) ≡ length tys - first → length (drop first tys) ≡ 0 → ⊥
        lacking a b = omega arith
    by (ty ∷ rest) e = grind (arith, list_steps)

-- the first part that isn't open
pub each_own_split : (s : Signatures) (scope : Scope) (front behind : List Exp) (part : Exp) → walks_open (walks s front) ≡ true → (walk s part).is_open ≡ false
    → each_own scope (walks s (front ++ part ∷ behind)) ≡ given ((walk s part).own scope) (λ one. given (each_against scope (walks s front) one.0) (λ before.
    given (each_against scope (walks s behind) one.0) (λ after. Some (one.0, before ++ one.1 ∷ after))))
each_own_split s scope [] behind part all closed =
    by_case ((walk s part).own scope) (λ n. grind (arith, list_steps)) (λ one o.
    by_case (each_against scope (walks s behind) one.0) (λ n. grind (arith, list_steps)) (λ after a. grind (arith, list_steps)))
each_own_split s scope (first ∷ front) behind part all closed =
    let is_set : (walk s first).is_open ≡ true = grind (arith, list_steps) in
    let others : walks_open (walks s front) ≡ true = grind (arith, list_steps) in
    let rest = each_own_split s scope front behind part others closed in
    by_case ((walk s part).own scope) (λ n. grind (arith, list_steps)) (λ one o.
    by_case (each_against scope (walks s front) one.0)
    (λ n. by_case ((walk s first).against scope one.0) (λ n. grind (arith, list_steps)) (λ f g. grind (arith, list_steps))) (λ before b.
    by_case (each_against scope (walks s behind) one.0)
    (λ n. by_case ((walk s first).against scope one.0) (λ n. grind (arith, list_steps)) (λ f g. grind (arith, list_steps))) (λ after a.
    by_case ((walk s first).against scope one.0) (λ n. grind (arith, list_steps)) (λ f g. grind (arith, list_steps)))))

pub each_own_open : (s : Signatures) (scope : Scope) (parts : List Exp) → walks_open (walks s parts) ≡ true
    → each_own scope (walks s parts) ≡ given (each_against scope (walks s parts) int32) (λ cs. Some (int32, cs))
each_own_open s scope [] all = refl
each_own_open s scope (first ∷ parts) all =
    let is_set : (walk s first).is_open ≡ true = grind (arith, list_steps) in
    let others : walks_open (walks s parts) ≡ true = grind (arith, list_steps) in
    let rest = each_own_open s scope parts others in
    by_case ((walk s first).against scope int32)
    (λ n. by_case (each_against scope (walks s parts) int32) (λ n. grind (arith, list_steps)) (λ f g. grind (arith, list_steps))) (λ one o.
    by_case (each_against scope (walks s parts) int32) (λ n. grind (arith, list_steps)) (λ f g. grind (arith, list_steps)))

pub arms_own_split : (s : Signatures) (scope : Scope) (of : Ty) (front behind : List (Pat × Exp)) (arm : Pat × Exp)
    → arm_walks_open (arm_walks s front) ≡ true → (walk s arm.1).is_open ≡ false
    → arms_own s scope of (arm_walks s (front ++ arm ∷ behind)) ≡ given (pattern s arm.0 of) (λ bound. given ((walk s arm.1).own (scope ++ bound.0)) (λ one.
    given (arms_against s scope of (arm_walks s front) one.0) (λ before.
    given (arms_against s scope of (arm_walks s behind) one.0) (λ after. Some (one.0, before ++ (bound.1, one.1) ∷ after)))))
arms_own_split s scope of [] behind arm all closed =
    by_case (pattern s arm.0 of) (λ n. grind (arith, list_steps)) (λ bound b.
    by_case ((walk s arm.1).own (scope ++ bound.0)) (λ n. grind (arith, list_steps)) (λ one o.
    by_case (arms_against s scope of (arm_walks s behind) one.0) (λ n. grind (arith, list_steps)) (λ after a. grind (arith, list_steps))))
arms_own_split s scope of (first ∷ front) behind arm all closed =
    let is_set : (walk s first.1).is_open ≡ true = grind (arith, list_steps) in
    let others : arm_walks_open (arm_walks s front) ≡ true = grind (arith, list_steps) in
    let rest = arms_own_split s scope of front behind arm others closed in
    by_case (pattern s arm.0 of) (λ n. grind (arith, list_steps)) (λ bound b.
    by_case ((walk s arm.1).own (scope ++ bound.0)) (λ n. grind (arith, list_steps)) (λ one o. head first front rest is_set bound b one o))
  where
    head : (first : Pat × Exp) (front : List (Pat × Exp))
        → arms_own s scope of (arm_walks s (front ++ arm ∷ behind)) ≡ given (pattern s arm.0 of) (λ bound. given ((walk s arm.1).own (scope ++ bound.0)) (λ one.
        given (arms_against s scope of (arm_walks s front) one.0) (λ before.
        given (arms_against s scope of (arm_walks s behind) one.0) (λ after. Some (one.0, before ++ (bound.1, one.1) ∷ after)))))
        → (walk s first.1).is_open ≡ true → (bound : _) → pattern s arm.0 of ≡ Some bound → (one : _) → (walk s arm.1).own (scope ++ bound.0) ≡ Some one
        → arms_own s scope of (arm_walks s (first ∷ front ++ arm ∷ behind)) ≡ given (pattern s arm.0 of) (λ bound. given ((walk s arm.1).own (scope ++ bound.0)) (λ one.
        given (arms_against s scope of (arm_walks s (first ∷ front)) one.0) (λ before.
        given (arms_against s scope of (arm_walks s behind) one.0) (λ after. Some (one.0, before ++ (bound.1, one.1) ∷ after)))))
    head first front rest is_set bound b one o =
        by_case (pattern s first.0 of)
        (λ n. by_case (arms_against s scope of (arm_walks s front) one.0) (λ n. grind (arith, list_steps)) (λ before b.
        by_case (arms_against s scope of (arm_walks s behind) one.0) (λ n. grind (arith, list_steps)) (λ after a. grind (arith, list_steps)))) (λ vars v.
        by_case ((walk s first.1).against (scope ++ vars.0) one.0)
        (λ n. by_case (arms_against s scope of (arm_walks s front) one.0) (λ n. grind (arith, list_steps)) (λ before b.
        by_case (arms_against s scope of (arm_walks s behind) one.0) (λ n. grind (arith, list_steps)) (λ after a. grind (arith, list_steps)))) (λ body f.
        by_case (arms_against s scope of (arm_walks s front) one.0) (λ n. grind (arith, list_steps)) (λ before b.
        by_case (arms_against s scope of (arm_walks s behind) one.0) (λ n. grind (arith, list_steps)) (λ after a. grind (arith, list_steps)))))

pub arms_own_open : (s : Signatures) (scope : Scope) (of : Ty) (arms : List (Pat × Exp)) → arm_walks_open (arm_walks s arms) ≡ true
    → arms_own s scope of (arm_walks s arms) ≡ given (arms_against s scope of (arm_walks s arms) int32) (λ cs. Some (int32, cs))
arms_own_open s scope of [] all = refl
arms_own_open s scope of (first ∷ arms) all =
    let is_set : (walk s first.1).is_open ≡ true = grind (arith, list_steps) in
    let others : arm_walks_open (arm_walks s arms) ≡ true = grind (arith, list_steps) in
    let rest = arms_own_open s scope of arms others in
    by_case (arms_against s scope of (arm_walks s arms) int32)
    (λ n. by_case (pattern s first.0 of) (λ n. grind (arith, list_steps)) (λ bound b.
    by_case ((walk s first.1).against (scope ++ bound.0) int32) (λ n. grind (arith, list_steps)) (λ body f. grind (arith, list_steps)))) (λ cs g.
    by_case (pattern s first.0 of) (λ n. grind (arith, list_steps)) (λ bound b.
    by_case ((walk s first.1).against (scope ++ bound.0) int32) (λ n. grind (arith, list_steps)) (λ body f. grind (arith, list_steps))))
