-- What the tasks of patterns come to.
use native.Mathlib.Omega.{arith}
use denote.Ref.{Bor}
use Rattle.std.proofs.Common.{◌≡◌, ◌≤◌, ◌<◌, ◌-◌, ℕ, zero, suc, ◌+◌, List, [], ◌∷◌, ◌++◌, map, length, take, drop, reverse, Option, Some, None, true, false, refl, ap, sym, ◌∙◌}
use Rattle.std.proofs.lemmas.List.{length-drop, append_assoc, append-nil}
use Rattle.hume_base.specs.declared.types.Ty.{Ty, Tuple as TupleTy, out-Ty}
use Rattle.hume_base.specs.declared.types.Ty.TheOpen.{Ty-F}
use Rattle.hume_ast.specs.declared.tree.Pat.{Pat}
use Rattle.hume_model.specs.declared.core_tree.PatC.{Con as ConPat, Tuple as TuplePat}
use Rattle.check_scopes.specs.types.Nodes.{type_at}
use Rattle.check_scopes.specs.types.Contexts.{top, below, part_at}
use Rattle.check_typing.specs.Partial.{given, when}
use Rattle.check_typing.specs.Signatures.{Scope, Constructor, con_named}
use Rattle.check_typing.specs.Patterns.{CoredPat, Bound, pattern, patterns, all_bound, tuple_bound, con_bound, is_named, pat_cores, some_pat_too_wide}
use Rattle.check_typing.specs.inner.Walk.{tuple_parts, tuple_layer}
use Rattle.check_typing.specs.declared.signatures.Signatures.{Signatures}
use Rattle.check_tasks.specs.declared.task.Task.TheVariants as task
use Rattle.check_tasks.specs.declared.task.TypeTask.TheVariants as types
use Rattle.check_tasks.specs.declared.task.CoreTask.TheVariants as cores
use Rattle.check_tasks.specs.States.{State, with_types}
use Rattle.check_tasks.specs.Tasks.{run, step, bound_of}
use Rattle.check_tasks.proofs.Given.{by_case, by_test, form_steps, reverse_more, taken_back, left_below}

ruleset pattern_steps = (form_steps, reverse_more, append_assoc)

pub all_bound_length : (pats : List (Ty → Option Bound)) (tys : List Ty) (vars : Scope) (cs : List CoredPat) → all_bound pats tys ≡ Some (vars, cs) → length cs ≡ length pats
all_bound_length [] [] vars cs h = grind (arith, form_steps)
all_bound_length [] (ty ∷ tys) vars cs h = cc
all_bound_length (pat ∷ pats) [] vars cs h = cc
all_bound_length (pat ∷ pats) (ty ∷ tys) vars cs h =
    by_case (pat ty) (λ n. grind (arith, form_steps)) (λ first f.
    by_case (all_bound pats tys) (λ n. grind (arith, form_steps)) (λ others g.
    let e = all_bound_length pats tys others.0 others.1 g in grind (arith, form_steps)))

pub match_none : (st : State) (pats : Bor (List Pat)) (first : ℕ) (tys : List Ty) → tuple_parts (top st.0.1) ≡ Some tys → length tys ≤ first
    → pats.now ≡ [] → run [] st ≡ step (task.MatchParts pats first) st
match_none st pats first tys is long h = by (drop first tys) refl
  where
    by : (rest : List Ty) → drop first tys ≡ rest → run [] st ≡ step (task.MatchParts pats first) st
    by [] e = let nothing : st.0.0 ++ [] ≡ st.0.0 = append-nil st.0.0 in grind (arith, pattern_steps)
    by (ty ∷ rest) e = let short = length-drop first tys in let one = ap length e in absurd (over short one)
      where
        over : length (drop first tys) ≡ length tys - first → length (drop first tys) ≡ suc (length rest) → ⊥
        over a b = omega arith

pub match_more : (st : State) (pats rest : Bor (List Pat)) (pat : Bor Pat) (first : ℕ) (tys : List Ty) → tuple_parts (top st.0.1) ≡ Some tys → first < length tys
    → pats.now ≡ pat.now ∷ rest.now →
    run (task.Types (types.PushPart first) ∷ task.Match pat ∷ task.Types types.Pop ∷ task.MatchParts rest (first + 1) ∷ []) st ≡ step (task.MatchParts pats first) st
match_more st pats rest pat first tys is within h =
    by_case (pattern st.0.2 pat.now (type_at tys first)) (λ n. grind (arith, pattern_steps)) (λ head f.
    by_case (patterns st.0.2 rest.now (drop (first + 1) tys)) (λ n. grind (arith, pattern_steps)) (λ others g. grind (arith, pattern_steps)))

pub match_past : (st : State) (pats : Bor (List Pat)) (first : ℕ) (tys : List Ty) → tuple_parts (top st.0.1) ≡ Some tys → length tys ≤ first
    → (pat : Pat) (rest : List Pat) → pats.now ≡ pat ∷ rest → step (task.MatchParts pats first) st ≡ None
match_past st pats first tys is long pat rest h = grind (arith, pattern_steps)

pub match_lacking : (st : State) (pats : Bor (List Pat)) (first : ℕ) (tys : List Ty) → tuple_parts (top st.0.1) ≡ Some tys → first < length tys
    → pats.now ≡ [] → step (task.MatchParts pats first) st ≡ None
match_lacking st pats first tys is within h = by (drop first tys) refl
  where
    by : (rest : List Ty) → drop first tys ≡ rest → step (task.MatchParts pats first) st ≡ None
    by [] e = let long = length-drop first tys in let none : length (drop first tys) ≡ 0 = ap length e in absurd (lacking long none)
      where
        lacking : length (drop first tys) ≡ length tys - first → length (drop first tys) ≡ 0 → ⊥
        lacking a b = omega arith
    by (ty ∷ rest) e = grind (arith, pattern_steps)

-- a tuple's pattern, by the parts of the type
tuple_bound_is : (pats : List (Ty → Option Bound)) (layer : Ty-F Ty)
    → tuple_bound pats layer ≡ given (tuple_layer layer) (λ tys. given (all_bound pats tys) (λ all. Some (all.0, (TuplePat (pat_cores all.1), some_pat_too_wide all.1))))
tuple_bound_is pats Ty-F.Bool = refl
tuple_bound_is pats Ty-F.Char = refl
tuple_bound_is pats (Ty-F.Int bits) = refl
tuple_bound_is pats (Ty-F.Nat bits) = refl
tuple_bound_is pats (Ty-F.Tuple parts) = refl
tuple_bound_is pats (Ty-F.Vector count item) = refl
tuple_bound_is pats (Ty-F.Named number) = refl

pub tuple_match : (st : State) (pats : Bor (List Pat)) (count : ℕ) → count ≡ length pats.now →
    run (task.MatchParts pats 0 ∷ task.Cores (cores.SameTuple count) ∷ []) st ≡ bound_of (tuple_bound (map (pattern st.0.2) pats.now) (out-Ty (top st.0.1))) st
tuple_match st pats count is =
    let split = tuple_bound_is (map (pattern st.0.2) pats.now) (out-Ty (top st.0.1)) in
    by_case (tuple_parts (top st.0.1)) (λ n. grind (arith, pattern_steps)) (λ tys t.
    by_case (patterns st.0.2 pats.now tys) (λ n. grind (arith, pattern_steps)) (λ all o.
    let long = all_bound_length (map (pattern st.0.2) pats.now) tys all.0 all.1 o in
    let taken = taken_back all.1 st.2 count in
    let left = left_below all.1 st.2 count in grind (arith, form_steps)))

pub con_match : (st : State) (pats : Bor (List Pat)) (count : ℕ) (con : Constructor) → count ≡ length pats.now → is_named con.sum (out-Ty (top st.0.1)) ≡ true →
    run (task.MatchParts pats 0 ∷ task.Types types.Pop ∷ task.Cores (cores.SameConstructor con.place count) ∷ []) (with_types (TupleTy con.fields ∷ st.0.1) st)
    ≡ bound_of (con_bound (Some con) (map (pattern st.0.2) pats.now) (top st.0.1)) st
con_match st pats count con is named =
    by_case (patterns st.0.2 pats.now con.fields) (λ n. grind (arith, pattern_steps)) (λ all o.
    let long = all_bound_length (map (pattern st.0.2) pats.now) con.fields all.0 all.1 o in
    let taken = taken_back all.1 st.2 count in
    let left = left_below all.1 st.2 count in grind (arith, form_steps))
