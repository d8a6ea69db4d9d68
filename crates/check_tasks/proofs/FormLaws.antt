-- What the tasks of each form come to: just what the walk says of the form.
use native.Mathlib.Omega.{arith}
use Rattle.std.proofs.Common.{◌≡◌, ℕ, List, [], ◌∷◌, ◌++◌, length, take, Option, Some, None, true, false, refl, ap, sym, ◌∙◌}
use denote.Ref.{Bor}
use Rattle.hume_ast.specs.declared.tree.Exp.{Exp}
use Rattle.hume_base.specs.declared.types.Ty.{Ty, Bool as BoolTy, Named as NamedTy, Tuple as TupleTy, out-Ty}
use Rattle.hume_model.specs.Typing.{is_number_type, is_comparison}
use Rattle.hume_model.specs.declared.core_tree.Op.{Op}
use Rattle.check_scopes.specs.types.Contexts.{top, below}
use Rattle.check_typing.specs.Partial.{given, when}
use Rattle.check_typing.specs.Cores.{and_core, or_core}
use Rattle.check_typing.specs.Typing.{int32}
use Rattle.check_typing.specs.inner.SameTypes.{is_same}
use Rattle.check_typing.specs.inner.Walk.{Walk, Typed, walk, expected, two_own, let_walk, if_walk, arithmetic_walk, comparison_walk, logic_walk, neg_walk, not_walk, index_walk, update_walk, updated, vector_parts}
use Rattle.check_tasks.specs.declared.task.Task.{Task}
use Rattle.check_tasks.specs.declared.task.Task.TheVariants as task
use Rattle.check_tasks.specs.declared.task.TypeTask.TheVariants as types
use Rattle.check_tasks.specs.declared.task.CoreTask.TheVariants as cores
use Rattle.check_tasks.specs.States.{State, with_typed, with_core}
use Rattle.check_tasks.specs.Tasks.{run, step, own_of, against_of, two_of, update_step, index_step}
use Rattle.check_tasks.proofs.Given.{by_case, by_test, form_steps}

pub let_own : (st : State) (a : Bor Exp) (b : Bor Exp) (name : Bor (List ℕ)) →
    run (task.Own a ∷ task.Enter name ∷ task.Own b ∷ task.Cores cores.Binding ∷ task.Leave (length st.0.0) ∷ []) st
    ≡ own_of ((let_walk name.now (walk st.0.2 a.now) (walk st.0.2 b.now)).own st.0.0) st
let_own st a b name =
    by_case ((walk st.0.2 a.now).own st.0.0) (λ n. grind (arith, form_steps)) (λ part h.
    by_case ((walk st.0.2 b.now).own (st.0.0 ++ (name.now, part.0) ∷ [])) (λ n. grind (arith, form_steps)) (λ body g. grind (arith, form_steps)))

pub let_against : (st : State) (a : Bor Exp) (b : Bor Exp) (name : Bor (List ℕ)) →
    run (task.Own a ∷ task.Enter name ∷ task.Against b ∷ task.Cores cores.Binding ∷ task.Leave (length st.0.0) ∷ []) st
    ≡ against_of ((let_walk name.now (walk st.0.2 a.now) (walk st.0.2 b.now)).against st.0.0 (top st.0.1)) st
let_against st a b name =
    by_case ((walk st.0.2 a.now).own st.0.0) (λ n. grind (arith, form_steps)) (λ part h.
    by_case ((walk st.0.2 b.now).against (st.0.0 ++ (name.now, part.0) ∷ []) (top st.0.1)) (λ n. grind (arith, form_steps)) (λ body g. grind (arith, form_steps)))

pub if_own : (st : State) (t : Bor Exp) (a : Bor Exp) (b : Bor Exp) →
    run (task.Types types.PushBool ∷ task.Against t ∷ task.Types types.Pop ∷ task.Two a b ∷ task.Cores cores.Branches ∷ []) st
    ≡ own_of ((if_walk (walk st.0.2 t.now) (walk st.0.2 a.now) (walk st.0.2 b.now)).own st.0.0) st
if_own st t a b =
    by_case ((walk st.0.2 t.now).against st.0.0 BoolTy) (λ n. grind (arith, form_steps)) (λ test h.
    by_case (two_own (walk st.0.2 a.now).is_open (walk st.0.2 b.now).is_open (walk st.0.2 a.now) (walk st.0.2 b.now) st.0.0)
    (λ n. grind (arith, form_steps)) (λ two g. grind (arith, form_steps)))

pub if_against : (st : State) (t : Bor Exp) (a : Bor Exp) (b : Bor Exp) →
    run (task.Types types.PushBool ∷ task.Against t ∷ task.Types types.Pop ∷ task.Against a ∷ task.Against b ∷ task.Cores cores.Branches ∷ []) st
    ≡ against_of ((if_walk (walk st.0.2 t.now) (walk st.0.2 a.now) (walk st.0.2 b.now)).against st.0.0 (top st.0.1)) st
if_against st t a b =
    by_case ((walk st.0.2 t.now).against st.0.0 BoolTy) (λ n. grind (arith, form_steps)) (λ test h.
    by_case ((walk st.0.2 a.now).against st.0.0 (top st.0.1)) (λ n. grind (arith, form_steps)) (λ left f.
    by_case ((walk st.0.2 b.now).against st.0.0 (top st.0.1)) (λ n. grind (arith, form_steps)) (λ right g. grind (arith, form_steps))))

-- two expressions of one type
pub two_left : (st : State) (a : Bor Exp) (b : Bor Exp) → (walk st.0.2 a.now).is_open ≡ false →
    run (task.Own a ∷ task.Against b ∷ []) st ≡ step (task.Two a b) st
two_left st a b closed =
    by_case ((walk st.0.2 a.now).own st.0.0) (λ n. grind (arith, form_steps)) (λ left f.
    by_case ((walk st.0.2 b.now).against st.0.0 left.0) (λ n. grind (arith, form_steps)) (λ right g. grind (arith, form_steps)))

pub two_right : (st : State) (a : Bor Exp) (b : Bor Exp) → (walk st.0.2 a.now).is_open ≡ true → (walk st.0.2 b.now).is_open ≡ false →
    run (task.Own b ∷ task.Against a ∷ task.Cores (cores.Lift 1) ∷ []) st ≡ step (task.Two a b) st
two_right st a b unset closed =
    by_case ((walk st.0.2 b.now).own st.0.0) (λ n. grind (arith, form_steps)) (λ right f.
    by_case ((walk st.0.2 a.now).against st.0.0 right.0) (λ n. grind (arith, form_steps)) (λ left g. grind (arith, form_steps)))

pub two_open : (st : State) (a : Bor Exp) (b : Bor Exp) → (walk st.0.2 a.now).is_open ≡ true → (walk st.0.2 b.now).is_open ≡ true →
    run (task.Types types.PushInt32 ∷ task.Against a ∷ task.Against b ∷ []) st ≡ step (task.Two a b) st
two_open st a b unset unset_too =
    by_case ((walk st.0.2 a.now).against st.0.0 int32) (λ n. grind (arith, form_steps)) (λ left f.
    by_case ((walk st.0.2 b.now).against st.0.0 int32) (λ n. grind (arith, form_steps)) (λ right g. grind (arith, form_steps)))

-- operators
pub arithmetic_own : (operation : Op) (st : State) (a : Bor Exp) (b : Bor Exp) →
    run (task.Two a b ∷ task.Types types.IsNumber ∷ task.Cores (cores.Operation operation) ∷ []) st
    ≡ own_of ((arithmetic_walk operation (walk st.0.2 a.now) (walk st.0.2 b.now)).own st.0.0) st
arithmetic_own operation st a b =
    by_case (two_own (walk st.0.2 a.now).is_open (walk st.0.2 b.now).is_open (walk st.0.2 a.now) (walk st.0.2 b.now) st.0.0)
    (λ n. grind (arith, form_steps)) (λ two g. by_test (is_number_type two.0) (λ t. grind (arith, form_steps)) (λ t. grind (arith, form_steps)))

pub arithmetic_against : (operation : Op) (st : State) (a : Bor Exp) (b : Bor Exp) →
    run (task.Types types.IsNumber ∷ task.Against a ∷ task.Against b ∷ task.Cores (cores.Operation operation) ∷ []) st
    ≡ against_of ((arithmetic_walk operation (walk st.0.2 a.now) (walk st.0.2 b.now)).against st.0.0 (top st.0.1)) st
arithmetic_against operation st a b =
    by_test (is_number_type (top st.0.1)) (λ t. grind (arith, form_steps)) (λ t.
    by_case ((walk st.0.2 a.now).against st.0.0 (top st.0.1)) (λ n. grind (arith, form_steps)) (λ left f.
    by_case ((walk st.0.2 b.now).against st.0.0 (top st.0.1)) (λ n. grind (arith, form_steps)) (λ right g. grind (arith, form_steps))))

pub comparison_own : (operation : Op) (st : State) (a : Bor Exp) (b : Bor Exp) →
    run (task.Two a b ∷ task.Types (types.IsCompared operation) ∷ task.Cores (cores.Operation operation) ∷ task.Types types.Pop ∷ task.Types types.PushBool ∷ []) st
    ≡ own_of ((comparison_walk operation (walk st.0.2 a.now) (walk st.0.2 b.now)).own st.0.0) st
comparison_own operation st a b =
    by_case (two_own (walk st.0.2 a.now).is_open (walk st.0.2 b.now).is_open (walk st.0.2 a.now) (walk st.0.2 b.now) st.0.0)
    (λ n. grind (arith, form_steps)) (λ two g. by_test (is_comparison operation two.0) (λ t. grind (arith, form_steps)) (λ t. grind (arith, form_steps)))

pub and_own : (st : State) (a : Bor Exp) (b : Bor Exp) →
    run (task.Types types.PushBool ∷ task.Against a ∷ task.Against b ∷ task.Cores cores.Both ∷ []) st
    ≡ own_of ((logic_walk and_core (walk st.0.2 a.now) (walk st.0.2 b.now)).own st.0.0) st
and_own st a b =
    by_case ((walk st.0.2 a.now).against st.0.0 BoolTy) (λ n. grind (arith, form_steps)) (λ left f.
    by_case ((walk st.0.2 b.now).against st.0.0 BoolTy) (λ n. grind (arith, form_steps)) (λ right g. grind (arith, form_steps)))

pub or_own : (st : State) (a : Bor Exp) (b : Bor Exp) →
    run (task.Types types.PushBool ∷ task.Against a ∷ task.Against b ∷ task.Cores cores.Either ∷ []) st
    ≡ own_of ((logic_walk or_core (walk st.0.2 a.now) (walk st.0.2 b.now)).own st.0.0) st
or_own st a b =
    by_case ((walk st.0.2 a.now).against st.0.0 BoolTy) (λ n. grind (arith, form_steps)) (λ left f.
    by_case ((walk st.0.2 b.now).against st.0.0 BoolTy) (λ n. grind (arith, form_steps)) (λ right g. grind (arith, form_steps)))

pub neg_own : (st : State) (a : Bor Exp) →
    run (task.Own a ∷ task.Types types.IsNumber ∷ task.Cores cores.Negation ∷ []) st ≡ own_of ((neg_walk (walk st.0.2 a.now)).own st.0.0) st
neg_own st a =
    by_case ((walk st.0.2 a.now).own st.0.0) (λ n. grind (arith, form_steps)) (λ part f.
    by_test (is_number_type part.0) (λ t. grind (arith, form_steps)) (λ t. grind (arith, form_steps)))

pub neg_against : (st : State) (a : Bor Exp) →
    run (task.Types types.IsNumber ∷ task.Against a ∷ task.Cores cores.Negation ∷ []) st ≡ against_of ((neg_walk (walk st.0.2 a.now)).against st.0.0 (top st.0.1)) st
neg_against st a =
    by_test (is_number_type (top st.0.1)) (λ t. grind (arith, form_steps)) (λ t.
    by_case ((walk st.0.2 a.now).against st.0.0 (top st.0.1)) (λ n. grind (arith, form_steps)) (λ part f. grind (arith, form_steps)))

pub not_own : (st : State) (a : Bor Exp) →
    run (task.Types types.PushBool ∷ task.Against a ∷ task.Cores cores.Opposite ∷ []) st ≡ own_of ((not_walk (walk st.0.2 a.now)).own st.0.0) st
not_own st a =
    by_case ((walk st.0.2 a.now).against st.0.0 BoolTy) (λ n. grind (arith, form_steps)) (λ part f. grind (arith, form_steps))

-- vectors
pub index_own : (st : State) (a : Bor Exp) (b : Bor Exp) →
    run (task.Own a ∷ task.Index b ∷ []) st ≡ own_of ((index_walk (walk st.0.2 a.now) (walk st.0.2 b.now)).own st.0.0) st
index_own st a b =
    by_case ((walk st.0.2 a.now).own st.0.0) (λ n. grind (arith, form_steps)) (λ vector f.
    by_case (vector_parts vector.0) (λ n. grind (arith, form_steps)) (λ parts v.
    by_case ((walk st.0.2 b.now).own st.0.0) (λ n. grind (arith, form_steps)) (λ place g.
    by_test (is_number_type place.0) (λ t. grind (arith, form_steps)) (λ t. grind (arith, form_steps)))))

pub update_own : (st : State) (a : Bor Exp) (b : Bor Exp) (d : Bor Exp) →
    run (task.Own a ∷ task.Update b d ∷ []) st ≡ own_of ((update_walk (walk st.0.2 a.now) (walk st.0.2 b.now) (walk st.0.2 d.now)).own st.0.0) st
update_own st a b d =
    by_case ((walk st.0.2 a.now).own st.0.0) (λ n. grind (arith, form_steps)) (λ vector f.
    by_case (updated (walk st.0.2 b.now) (walk st.0.2 d.now) st.0.0 vector.0 vector.1) (λ n. grind (arith, form_steps)) (λ core g. grind (arith, form_steps)))

pub update_against : (st : State) (a : Bor Exp) (b : Bor Exp) (d : Bor Exp) →
    run (task.Against a ∷ task.Update b d ∷ []) st
    ≡ against_of ((update_walk (walk st.0.2 a.now) (walk st.0.2 b.now) (walk st.0.2 d.now)).against st.0.0 (top st.0.1)) st
update_against st a b d =
    by_case ((walk st.0.2 a.now).against st.0.0 (top st.0.1)) (λ n. grind (arith, form_steps)) (λ vector f.
    by_case (updated (walk st.0.2 b.now) (walk st.0.2 d.now) st.0.0 (top st.0.1) vector) (λ n. grind (arith, form_steps)) (λ core g. grind (arith, form_steps)))

-- what has a type by itself, against the same type
pub closed_against : (st : State) (e : Bor Exp) →
    run (task.Own e ∷ task.Types types.IsSame ∷ []) st ≡ against_of (expected ((walk st.0.2 e.now).own st.0.0) (top st.0.1)) st
closed_against st e =
    by_case ((walk st.0.2 e.now).own st.0.0) (λ n. grind (arith, form_steps)) (λ part f.
    by_test (is_same part.0 (top st.0.1)) (λ t. grind (arith, form_steps)) (λ t. grind (arith, form_steps)))
