-- What stands at the positions of a rule.
use native.Mathlib.Omega.{arith}
use denote.Ref.{Bor}
use Rattle.std.proofs.Common.{◌≡◌, ◌<◌, ◌+◌, ◌||◌, ℕ, suc, Bool, true, false, List, [], ◌∷◌, ◌++◌, length, drop, Option, Some, None, refl, ap, sym, ◌∙◌}
use Rattle.std.proofs.lemmas.Grind.{common_steps}
use Rattle.std.proofs.lemmas.List.{append_assoc, append-nil, drop_more}
use Rattle.std.proofs.Math.ListN.{get_or}
use Rattle.hume_base.specs.declared.types.Ty.{Ty, Bool as BoolTy, out-Ty}
use Rattle.hume_base.specs.declared.types.Ty.TheVariants.{outs-Tuple}
use Rattle.hume_base.specs.declared.types.Ty.TheOpen.{Ty-F}
use Rattle.hume_ast.specs.declared.tree.Pat.{Pat, out-Pat, the_lemmas as pat_lemmas}
use Rattle.hume_ast.specs.declared.tree.Pat.TheOpen.{Pat-F}
use Rattle.hume_model.specs.declared.core_tree.InPat.{InPat}
use Rattle.hume_model.specs.declared.core_tree.InPat.TheVariants as in_pat
use Rattle.check_scopes.specs.types.Nodes.{type_at}
use Rattle.check_scopes.specs.types.Contexts.{top, below, shape_of, part_at}
use Rattle.check_scopes.specs.declared.types.shape.Shape.{Shape}
use Rattle.check_scopes.specs.declared.types.shape.Shape.TheVariants as shape
use Rattle.check_typing.specs.Partial.{given}
use Rattle.check_typing.specs.Signatures.{Scope}
use Rattle.check_typing.specs.Patterns.{CoredPosition, Bound, built, pattern, position_step, position, positions}
use Rattle.check_typing.specs.Declarations.{some_so, cores_alone}
use Rattle.check_typing.specs.inner.Walk.{tuple_layer, tuple_parts}
use Rattle.check_typing.specs.declared.signatures.Signatures.{Signatures}
use Rattle.check_typing.proofs.Maybe.{given-inv, some-same, tuple_parts-inv}
use Rattle.check_cores.specs.Stacks.{top_pattern}
use Rattle.check_tasks.specs.declared.task.Task.TheVariants as task
use Rattle.check_tasks.specs.States.{State, with_types, with_bound}
use Rattle.check_tasks.specs.Tasks.{step}
use Rattle.check_tasks.proofs.Given.{by_case, form_steps}
use Rattle.check_declarations.specs.boxes.inner.Rules.{with_variables, bare, found_at, with_position, with_position_of, HasParts, with_others, with_positions}
use Rattle.check_declarations.proofs.boxes_lemmas.Partial.{nothing, or_assoc, or_false}

-- the shape of a tuple
abbrev pub is_tuple_shape : Shape → Bool
is_tuple_shape (shape.Tuple count) = true
is_tuple_shape _ = false

shape_parts : (layer : Ty-F Ty) (count : ℕ) → shape.Tuple count ≡ shape_of layer → given (tuple_layer layer) (λ tys. Some (length tys)) ≡ Some count
shape_parts (Ty-F.Tuple tys) count h = cc
shape_parts _ count h = cc

pub parts_seen : (state : State) (count : ℕ) → shape.Tuple count ≡ shape_of (out-Ty (top state.0.1)) → HasParts count state
parts_seen state count h = shape_parts (out-Ty (top state.0.1)) count h

shape_lacks : (layer : Ty-F Ty) (s : Shape) → s ≡ shape_of layer → is_tuple_shape s ≡ false → tuple_layer layer ≡ None
shape_lacks (Ty-F.Tuple tys) s h other = let e = ap is_tuple_shape h in cc
shape_lacks _ s h other = refl

pub no_parts_seen : (state : State) (s : Shape) → s ≡ shape_of (out-Ty (top state.0.1)) → is_tuple_shape s ≡ false → tuple_parts (top state.0.1) ≡ None
no_parts_seen state s h other = shape_lacks (out-Ty (top state.0.1)) s h other

bare_step : (bound : Option Bound) (layer : Pat-F Pat) (core : InPat) → Some core ≡ bare layer → position_step bound layer ≡ Some ([], (core, false))
bare_step bound Pat-F.Star core h = ap (λ (c : InPat). Some ([], (c, false))) (sym (some-same core in_pat.Star h))
bare_step bound Pat-F.AnyStar core h = ap (λ (c : InPat). Some ([], (c, false))) (sym (some-same core in_pat.AnyStar h))
bare_step bound Pat-F.Any core h = ap (λ (c : InPat). Some ([], (c, false))) (sym (some-same core in_pat.Any h))
bare_step bound _ core h = cc

built_step : (bound : Option Bound) (layer : Pat-F Pat) → None ≡ bare layer → position_step bound layer ≡ built bound
built_step bound Pat-F.Star h = cc
built_step bound Pat-F.AnyStar h = cc
built_step bound Pat-F.Any h = cc
built_step bound _ h = refl

no_more_variables : (state : State) → with_variables [] state ≡ state
no_more_variables state = λ i. ((append-nil state.0.0 i, state.0.1, state.0.2), state.1, state.2, state.3)

pub bare_found : (state : State) (pat : Pat) (core : InPat) → Some core ≡ bare (out-Pat pat) → with_position pat state ≡ Some ((core, false), state)
bare_found state pat core h =
    ap (found_at state) (bare_step (pattern state.0.2 pat (top state.0.1)) (out-Pat pat) core h)
    ∙ ap (λ st. Some ((core, false), st)) (no_more_variables state)

-- without the last pattern
abbrev pub without_pattern : State → State
without_pattern state = (state.0, state.1, drop 1 state.2, state.3)

-- the last pattern at a position
abbrev pub last_position : State → CoredPosition
last_position state = (in_pat.Built (top_pattern state.2).0, (top_pattern state.2).1)

pub pattern_found : (state mid : State) (pat : Bor Pat) → None ≡ bare (out-Pat pat.now) → step (task.Match pat) state ≡ Some mid
    → with_position pat.now state ≡ Some (last_position mid, without_pattern mid)
pattern_found state mid pat h m =
    let k = given-inv (pattern state.0.2 pat.now (top state.0.1)) (λ bound. Some (with_bound bound state)) mid m in
    ap (found_at state) (built_step (pattern state.0.2 pat.now (top state.0.1)) (out-Pat pat.now) h)
    ∙ ap (λ o. found_at state (built o)) k.1
    ∙ ap (λ st. Some (last_position st, without_pattern st)) (some-same (with_bound k.0 state) mid k.2)

pub no_pattern : (state : State) (pat : Bor Pat) → None ≡ bare (out-Pat pat.now) → step (task.Match pat) state ≡ None
    → with_position pat.now state ≡ None
no_pattern state pat h m =
    ap (found_at state) (built_step (pattern state.0.2 pat.now (top state.0.1)) (out-Pat pat.now) h)
    ∙ ap (found_at state) (nothing (pattern state.0.2 pat.now (top state.0.1)) (λ bound. with_bound bound state) (λ b. Some (b.0, (in_pat.Built b.1.0, b.1.1))) m)

-- the part on top of the stack, and off it
abbrev with_part : ℕ → State → State
with_part place state = with_types (part_at place (out-Ty (top state.0.1)) ∷ state.0.1) state

abbrev pub without_last : State → State
without_last state = with_types (below state.0.1) state

pub part_found : (state mid : State) (place : ℕ) (pat : Pat) (found : CoredPosition)
    → with_position pat (with_types (part_at place (out-Ty (top state.0.1)) ∷ state.0.1) state) ≡ Some (found, mid)
    → with_position_of place pat state ≡ Some (found, without_last mid)
part_found state mid place pat found h =
    let o = position state.0.2 pat (part_at place (out-Ty (top state.0.1))) in
    let k = given-inv o (λ p. Some (p.1, with_variables p.0 (with_part place state))) (found, mid) h in
    ap (found_at state) k.1
    ∙ ap (λ (r : CoredPosition × State). Some (r.0, without_last r.1)) (some-same (k.0.1, with_variables k.0.0 (with_part place state)) (found, mid) k.2)

pub no_part : (state : State) (place : ℕ) (pat : Pat)
    → with_position pat (with_types (part_at place (out-Ty (top state.0.1)) ∷ state.0.1) state) ≡ None
    → with_position_of place pat state ≡ None
no_part state place pat h =
    nothing (position state.0.2 pat (part_at place (out-Ty (top state.0.1)))) (λ p. (p.1, with_variables p.0 (with_part place state)))
    (λ p. Some (p.1, with_variables p.0 state)) h

-- with the cores of the positions behind others
abbrev put : List InPat × Bool → State → Scope × List CoredPosition → Option ((List InPat × Bool) × State)
put found state all = Some ((found.0 ++ cores_alone all.1, found.1 || some_so all.1), with_variables all.0 state)

joined : (found : List InPat × Bool) (state : State) (p : Scope × CoredPosition) (o : Option (Scope × List CoredPosition))
    → given (given o (λ others. Some (p.0 ++ others.0, p.1 ∷ others.1))) (put found state)
    ≡ given o (put (found.0 ++ p.1.0 ∷ [], found.1 || p.1.1) (with_variables p.0 state))
joined found state p None = refl
joined found state p (Some others) = λ i. Some (
  (sym (append_assoc found.0 (p.1.0 ∷ []) (cores_alone others.1)) i, sym (or_assoc found.1 p.1.1 (some_so others.1)) i),
  ((sym (append_assoc state.0.0 p.0 others.0) i, state.0.1, state.0.2), state.1, state.2, state.3),
)

part_split : (tys : List Ty) (place : ℕ) → place < length tys → drop place tys ≡ type_at tys place ∷ drop (place + 1) tys
part_split tys place within = drop_more tys place BoolTy within

pub positions_more : (found : List InPat × Bool) (state new : State) (count place : ℕ) (pat : Pat) (rest : List Pat) (core : CoredPosition)
    → HasParts count state → place < count → with_position_of place pat state ≡ Some (core, new)
    → with_others found place (pat ∷ rest) state ≡ with_others (found.0 ++ core.0 ∷ [], found.1 || core.1) (place + 1) rest new
positions_more found state new count place pat rest core has within h =
    let k = given-inv (tuple_parts (top state.0.1)) (λ tys. Some (length tys)) count has in
    let m = given-inv (position state.0.2 pat (part_at place (out-Ty (top state.0.1)))) (λ p. Some (p.1, with_variables p.0 state)) (core, new) h in
    let part = ap (λ ty. part_at place (out-Ty ty)) (tuple_parts-inv (top state.0.1) k.0 k.1) ∙ ap (part_at place) (outs-Tuple k.0) in
    let long = some-same (length k.0) count k.2 in
    ap (λ o. given o (λ tys. given (positions state.0.2 (pat ∷ rest) (drop place tys)) (put found state))) k.1
    ∙ ap (λ tys. given (positions state.0.2 (pat ∷ rest) tys) (put found state)) (part_split k.0 place (rw long within))
    ∙ ap (λ o. given (given o (λ first. given (positions state.0.2 rest (drop (place + 1) k.0)) (λ others. Some (first.0 ++ others.0, first.1 ∷ others.1)))) (put found state))
    (ap (position state.0.2 pat) (sym part) ∙ m.1)
    ∙ joined found state m.0 (positions state.0.2 rest (drop (place + 1) k.0))
    ∙ ap (λ o. given o (λ tys. given (positions state.0.2 rest (drop (place + 1) tys)) (put (found.0 ++ m.0.1.0 ∷ [], found.1 || m.0.1.1) (with_variables m.0.0 state)))) (sym k.1)
    ∙ ap (λ (r : CoredPosition × State). with_others (found.0 ++ r.0.0 ∷ [], found.1 || r.0.1) (place + 1) rest r.1)
    (some-same (m.0.1, with_variables m.0.0 state) (core, new) m.2)

pub position_lacks : (found : List InPat × Bool) (state : State) (count place : ℕ) (pat : Pat) (rest : List Pat)
    → HasParts count state → place < count → with_position_of place pat state ≡ None
    → with_others found place (pat ∷ rest) state ≡ None
position_lacks found state count place pat rest has within h =
    by_case (tuple_parts (top state.0.1)) (λ n. grind (arith, form_steps)) (λ tys t.
    by_case (position state.0.2 pat (type_at tys place)) (λ n. grind (arith, form_steps)) (λ p f. grind (arith, form_steps)))

-- the position's pattern, and those behind it
module _ (found : List InPat × Bool) (state : State) (pats : List Pat) (place : ℕ) (pat : Pat) (has : HasParts (length pats) state) (within : place < length pats)
    (is : pat ≡ get_or pats place pat) where
  split : drop place pats ≡ pat ∷ drop (place + 1) pats
  split = drop_more pats place pat within ∙ ap (λ p. p ∷ drop (place + 1) pats) (sym is)

  pub turn_more : (core : CoredPosition) (new : State) → with_position_of place pat state ≡ Some (core, new)
      → with_others found place (drop place pats) state ≡ with_others (found.0 ++ core.0 ∷ [], found.1 || core.1) (place + 1) (drop (place + 1) pats) new
  turn_more core new h =
      ap (λ ps. with_others found place ps state) split ∙ positions_more found state new (length pats) place pat (drop (place + 1) pats) core has within h

  pub turn_lacks : with_position_of place pat state ≡ None → with_others found place (drop place pats) state ≡ None
  turn_lacks h = ap (λ ps. with_others found place ps state) split ∙ position_lacks found state (length pats) place pat (drop (place + 1) pats) has within h

-- the types stay
pub same_parts : (state new : State) (place count : ℕ) (pat : Pat) (core : CoredPosition) → HasParts count state
    → with_position_of place pat state ≡ Some (core, new) → HasParts count new
same_parts state new place count pat core has h =
    let k = given-inv (position state.0.2 pat (part_at place (out-Ty (top state.0.1)))) (λ p. Some (p.1, with_variables p.0 state)) (core, new) h in
    let e = some-same (k.0.1, with_variables k.0.0 state) (core, new) k.2 in
    ap (λ (r : CoredPosition × State). given (tuple_parts (top r.1.0.1)) (λ tys. Some (length tys))) (sym e) ∙ has

-- behind the last part there is none
nothing_behind : (tys : List Ty) → drop (length tys) tys ≡ []
nothing_behind [] = refl
nothing_behind (ty ∷ tys) = nothing_behind tys

pub positions_end : (found : List InPat × Bool) (state : State) (count : ℕ) → HasParts count state → with_others found count [] state ≡ Some (found, state)
positions_end found state count has =
    let k = given-inv (tuple_parts (top state.0.1)) (λ tys. Some (length tys)) count has in
    ap (λ o. given o (λ tys. rest (drop count tys))) k.1
    ∙ ap (λ n. rest (drop n k.0)) (sym (some-same (length k.0) count k.2))
    ∙ ap rest (nothing_behind k.0)
    ∙ (λ i. Some ((append-nil found.0 i, or_false found.1 i), no_more_variables state i))
  where
    rest : List Ty → Option ((List InPat × Bool) × State)
    rest tys = given (positions state.0.2 [] tys) (λ all. Some ((found.0 ++ cores_alone all.1, found.1 || some_so all.1), with_variables all.0 state))

pub positions_start : (pats : List Pat) (state : State) → with_others ([], false) 0 pats state ≡ with_positions pats state
positions_start pats state = refl

as_many : (s : Signatures) (pats : List Pat) (tys : List Ty) (all : Scope × List CoredPosition) → positions s pats tys ≡ Some all → length tys ≡ length pats
as_many s [] [] all h = refl
as_many s [] (ty ∷ tys) all h = cc
as_many s (pat ∷ pats) [] all h = cc
as_many s (pat ∷ pats) (ty ∷ tys) all h =
    let k = given-inv (position s pat ty) _ all h in
    let l = given-inv (positions s pats tys) _ all k.2 in
    ap suc (as_many s pats tys l.0 l.1)

pub other_count : (pats : List Pat) (state : State) (count : ℕ) → HasParts count state → (count ≡ length pats → ⊥) → with_positions pats state ≡ None
other_count pats state count has differs =
    let k = given-inv (tuple_parts (top state.0.1)) (λ tys. Some (length tys)) count has in
    by_case (positions state.0.2 pats k.0)
    (λ n. ap (λ o. given o found) k.1 ∙ ap (λ o. given o put) n)
    (λ all a. absurd (differs (sym (some-same (length k.0) count k.2) ∙ as_many state.0.2 pats k.0 all a)))
  where
    put : Scope × List CoredPosition → Option ((List InPat × Bool) × State)
    put all = Some ((cores_alone all.1, some_so all.1), with_variables all.0 state)

    found : List Ty → Option ((List InPat × Bool) × State)
    found tys = given (positions state.0.2 pats tys) put

pub no_count : (pats : List Pat) (state : State) → tuple_parts (top state.0.1) ≡ None → with_positions pats state ≡ None
no_count pats state h = ap (λ o. given o (λ tys. given (positions state.0.2 pats tys) (λ all. Some ((cores_alone all.1, some_so all.1), with_variables all.0 state)))) h

pub ruleset count_steps = (common_steps, parts_seen, no_parts_seen)

pub ruleset bare_steps = (common_steps, pat_lemmas)

pub ruleset position_steps = (common_steps, bare_found, pattern_found, no_pattern)

pub ruleset part_steps = (common_steps, part_found, no_part)

pub ruleset positions_steps = (common_steps, positions_end, positions_start, other_count, no_count)
