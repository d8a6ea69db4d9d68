-- What tasks do, one after the other: they find nothing, or go from state to state.
use Rattle.std.specs.Prelude.{ℕ, ◌&&◌, Bool, true, false, List, [], ◌∷◌, ◌++◌, map, take, drop, reverse, length, Option, Some, None}
use Rattle.hume_base.specs.declared.types.Ty.{Ty, Bool as BoolTy, Named as NamedTy, Tuple as TupleTy, Vector as VectorTy, out-Ty}
use Rattle.hume_ast.specs.declared.tree.Pat.{Pat}
use Rattle.hume_ast.specs.declared.tree.Exp.{Exp}
use Rattle.hume_model.specs.declared.core_tree.PatC.{Con as ConPat, Tuple as TuplePat}
use Rattle.hume_model.specs.Typing.{is_number_type, is_comparison}
use Rattle.check_scopes.specs.types.Contexts.{top, below, last_type, part_at, item_of}
use Rattle.check_typing.specs.Partial.{given, when}
use Rattle.check_typing.specs.Patterns.{CoredPat, Bound, pat_cores, some_pat_too_wide, pattern, patterns}
use Rattle.check_typing.specs.Cores.{Cored, CoredArm, let_core, if_core, and_core, or_core, operation_core, neg_core, not_core, convert_core, index_core, update_core, case_core, raise_with_core, call_core, con_core, tuple_core, vector_core}
use Rattle.check_typing.specs.Typing.{int32}
use Rattle.check_typing.specs.inner.SameTypes.{is_same}
use Rattle.check_typing.specs.inner.Walk.{Typed, Walk, walk, vector_parts, tuple_parts, all_against, each_against, all_own, each_own, two_own, arms_against, arms_own, updated}
use Rattle.check_typing.specs.declared.signatures.Signatures.{Signatures}
use Rattle.check_cores.specs.Stacks.{top_core, top_pattern, lifted}
use Rattle.check_tasks.specs.declared.task.Task.{Task}
use Rattle.check_tasks.specs.declared.task.Task.TheVariants as task
use Rattle.check_tasks.specs.declared.task.TypeTask.{TypeTask}
use Rattle.check_tasks.specs.declared.task.TypeTask.TheVariants as types
use Rattle.check_tasks.specs.declared.task.CoreTask.{CoreTask}
use Rattle.check_tasks.specs.declared.task.CoreTask.TheVariants as cores
use Rattle.check_tasks.specs.States.{State, with_types, of_cores, with_typed, with_core, with_cores, with_all_typed, with_arms, with_bound, with_all_bound}

abbrev pub walks : Signatures → List Exp → List Walk
walks signatures parts = map (walk signatures) parts

-- all of them are open
abbrev pub walks_open : List Walk → Bool
walks_open [] = true
walks_open (part ∷ parts) = part.is_open && walks_open parts

abbrev pub arm_walks : Signatures → List (Pat × Exp) → List (Pat × Walk)
arm_walks signatures arms = map (λ arm. (arm.0, walk signatures arm.1)) arms

abbrev pub type_step : TypeTask → State → Option State
type_step types.PushBool state = Some (with_types (BoolTy ∷ state.0.1) state)
type_step types.PushInt32 state = Some (with_types (int32 ∷ state.0.1) state)
type_step (types.PushNamed number) state = Some (with_types (NamedTy number ∷ state.0.1) state)
type_step (types.PushPart at) state = Some (with_types (part_at at (out-Ty (top state.0.1)) ∷ state.0.1) state)
type_step types.PushItem state = Some (with_types (item_of (out-Ty (top state.0.1)) ∷ state.0.1) state)
type_step types.RepeatBelow state = Some (with_types (top (below state.0.1) ∷ state.0.1) state)
type_step types.Pop state = Some (with_types (below state.0.1) state)
type_step types.PopBelow state = Some (with_types (top state.0.1 ∷ below (below state.0.1)) state)
type_step types.IsNumber state = when (is_number_type (top state.0.1)) (Some state)
type_step (types.IsCompared operation) state = when (is_comparison operation (top state.0.1)) (Some state)
type_step types.IsSame state = when (is_same (top state.0.1) (top (below state.0.1))) (Some (with_types (below state.0.1) state))

-- the last core, the one before it, and the one before that
abbrev pub last : State → Cored
last state = top_core state.1

abbrev pub second_last : State → Cored
second_last state = top_core (drop 1 state.1)

abbrev pub third_last : State → Cored
third_last state = top_core (drop 2 state.1)

-- the last cores, in their order
abbrev pub last_ones : ℕ → State → List Cored
last_ones count state = reverse (take count state.1)

abbrev pub core_step : CoreTask → State → State
core_step cores.Binding state = of_cores (let_core (last_type state.0.0) (second_last state) (last state) ∷ drop 2 state.1) state
core_step cores.Branches state = of_cores (if_core (third_last state) (second_last state) (last state) ∷ drop 3 state.1) state
core_step cores.Both state = of_cores (and_core (second_last state) (last state) ∷ drop 2 state.1) state
core_step cores.Either state = of_cores (or_core (second_last state) (last state) ∷ drop 2 state.1) state
core_step (cores.Operation operation) state = of_cores (operation_core operation (top state.0.1) (second_last state) (last state) ∷ drop 2 state.1) state
core_step cores.Negation state = of_cores (neg_core (top state.0.1) (last state) ∷ drop 1 state.1) state
core_step cores.Opposite state = of_cores (not_core (last state) ∷ drop 1 state.1) state
core_step cores.Conversion state = of_cores (convert_core (top state.0.1) (top (below state.0.1)) (last state) ∷ drop 1 state.1) state
core_step cores.Element state =
    of_cores (index_core (top (below state.0.1)) (top state.0.1) (second_last state) (last state) ∷ drop 2 state.1) state
core_step cores.Update state =
    of_cores (update_core (top state.0.1) (top (below state.0.1)) (third_last state) (second_last state) (last state) ∷ drop 3 state.1) state
core_step (cores.RaiseWith exn) state = of_cores (raise_with_core exn (last state) ∷ drop 1 state.1) state
core_step (cores.Call number count) state = of_cores (call_core number (last_ones count state) ∷ drop count state.1) state
core_step (cores.Constructor place count) state = of_cores (con_core place (last_ones count state) ∷ drop count state.1) state
core_step (cores.Tuple count) state = of_cores (tuple_core (last_ones count state) ∷ drop count state.1) state
core_step (cores.Vector count) state = of_cores (vector_core (last_ones count state) ∷ drop count state.1) state
core_step (cores.OwnTuple count) state = (
  (state.0.0, TupleTy (reverse (take count state.0.1)) ∷ drop count state.0.1, state.0.2),
  tuple_core (last_ones count state)
      ∷ drop count state.1,
  state.2,
  state.3,
)
core_step (cores.OwnVector count) state =
    ((state.0.0, VectorTy count (top state.0.1) ∷ below state.0.1, state.0.2), vector_core (last_ones count state) ∷ drop count state.1, state.2, state.3)
core_step cores.Arm state = (state.0, drop 1 state.1, drop 1 state.2, (top_pattern state.2, last state) ∷ state.3)
core_step (cores.Alternatives count) state =
    (state.0, case_core (top state.0.1) (last state) (reverse (take count state.3)) ∷ drop 1 state.1, state.2, drop count state.3)
core_step (cores.SameConstructor place count) state = (
  state.0,
  state.1,
  (ConPat place (pat_cores (reverse (take count state.2))), some_pat_too_wide (reverse (take count state.2)))
      ∷ drop count state.2,
  state.3,
)
core_step (cores.SameTuple count) state =
    (state.0, state.1, (TuplePat (pat_cores (reverse (take count state.2))), some_pat_too_wide (reverse (take count state.2))) ∷ drop count state.2, state.3)
core_step (cores.Lift others) state = of_cores (lifted others state.1) state
core_step (cores.LiftArm others) state = (state.0, state.1, state.2, lifted others state.3)

-- an element of the last core at a place that has a number
abbrev pub index_step : Walk → State → Option State
index_step b state = given (vector_parts (top state.0.1)) (λ parts. given (b.own state.0.0) (λ place. when (is_number_type place.0)
    (Some ((state.0.0, parts.1 ∷ below state.0.1, state.0.2), index_core (top state.0.1) place.0 (last state) place.1 ∷ drop 1 state.1, state.2, state.3))))

-- the last core with another element
abbrev pub update_step : Walk → Walk → State → Option State
update_step b d state = given (updated b d state.0.0 (top state.0.1) (last state)) (λ core. Some (of_cores (core ∷ drop 1 state.1) state))

-- with the type and the core that are found
abbrev pub own_of : Option Typed → State → Option State
own_of found state = given found (λ t. Some (with_typed t.0 t.1 state))

-- with the core that is found
abbrev pub against_of : Option Cored → State → Option State
against_of found state = given found (λ c. Some (with_core c state))

-- with the variables in scope and the core of the pattern that is found
abbrev pub bound_of : Option Bound → State → Option State
bound_of found state = given found (λ bound. Some (with_bound bound state))

-- with the type and the two cores that are found
abbrev pub two_of : Option (Ty × Cored × Cored) → State → Option State
two_of found state = given found (λ two. Some ((state.0.0, two.0 ∷ state.0.1, state.0.2), two.2 ∷ two.1 ∷ state.1, state.2, state.3))

-- with the type and the cores that are found
abbrev pub each_of : Option (Ty × List Cored) → State → Option State
each_of found state = given found (λ all. Some ((state.0.0, all.0 ∷ state.0.1, state.0.2), reverse all.1 ++ state.1, state.2, state.3))

-- with the type and the alternatives that are found
abbrev pub arms_own_of : Option (Ty × List CoredArm) → State → Option State
arms_own_of found state = given found (λ all. Some ((state.0.0, all.0 ∷ state.0.1, state.0.2), state.1, state.2, reverse all.1 ++ state.3))

abbrev pub step : Task → State → Option State
step (task.Own e) state = own_of ((walk state.0.2 e.now).own state.0.0) state
step (task.Against e) state = against_of ((walk state.0.2 e.now).against state.0.0 (top state.0.1)) state
step (task.Two a b) state = two_of (two_own (walk state.0.2 a.now).is_open (walk state.0.2 b.now).is_open (walk state.0.2 a.now)
    (walk state.0.2 b.now) state.0.0) state
step (task.OwnEach parts) state = each_of (each_own state.0.0 (walks state.0.2 parts.now)) state
step (task.OwnArms arms) state = arms_own_of (arms_own state.0.2 state.0.0 (top state.0.1) (arm_walks state.0.2 arms.now)) state
step (task.Match p) state = bound_of (pattern state.0.2 p.now (top state.0.1)) state
step (task.MatchParts pats first) state = given (tuple_parts (top state.0.1)) (λ tys.
    given (patterns state.0.2 pats.now (drop first tys)) (λ all. Some (with_all_bound all.0 all.1 state)))
step (task.Enter name) state = Some ((state.0.0 ++ (name.now, top state.0.1) ∷ [], below state.0.1, state.0.2), state.1, state.2, state.3)
step (task.Leave count) state = Some ((take count state.0.0, state.0.1, state.0.2), state.1, state.2, state.3)
step (task.Parts parts first) state = given (tuple_parts (top state.0.1)) (λ tys.
    given (all_against state.0.0 (walks state.0.2 parts.now) (drop first tys)) (λ cs. Some (with_cores cs state)))
step (task.Each parts) state = given (each_against state.0.0 (walks state.0.2 parts.now) (top state.0.1)) (λ cs. Some (with_cores cs state))
step (task.OwnParts parts) state = given (all_own state.0.0 (walks state.0.2 parts.now)) (λ all. Some (with_all_typed all.0 all.1 state))
step (task.Arms arms) state =
    given (arms_against state.0.2 state.0.0 (top (below state.0.1)) (arm_walks state.0.2 arms.now) (top state.0.1)) (λ cs. Some (with_arms cs state))
step (task.Index b) state = index_step (walk state.0.2 b.now) state
step (task.Update b d) state = update_step (walk state.0.2 b.now) (walk state.0.2 d.now) state
step (task.Types t) state = type_step t state
step (task.Cores c) state = Some (core_step c state)

-- one task after the other
abbrev pub run : List Task → State → Option State
run [] state = Some state
run (t ∷ ts) state = given (step t state) (λ next. run ts next)
