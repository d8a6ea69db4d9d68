-- What the tasks of forms with lists come to.
use native.Mathlib.Omega.{arith}
use denote.Ref.{Bor}
use Rattle.std.proofs.Common.{◌≡◌, ◌≤◌, ◌<◌, ℕ, suc, ◌+◌, ◌==◌, Bool, List, [], ◌∷◌, ◌++◌, map, length, take, drop, reverse, Option, Some, None, true, false, refl, ap, sym, subst, ◌∙◌}
use Rattle.hume_base.specs.declared.types.Ty.{Ty, Bool as BoolTy, Named as NamedTy, Tuple as TupleTy, out-Ty}
use Rattle.hume_ast.specs.declared.tree.Pat.{Pat}
use Rattle.hume_ast.specs.declared.tree.Exp.{Exp}
use Rattle.hume_ast.specs.declared.tree.TyExp.{TyExp}
use Rattle.hume_model.specs.declared.core_tree.ExnDef.{ExnDef}
use Rattle.hume_model.specs.Typing.{is_number_type}
use Rattle.check_scopes.specs.types.Contexts.{top, below, part_at, item_of}
use Rattle.check_typing.specs.Partial.{given, when}
use Rattle.check_typing.specs.Signatures.{Constructor, fun_named, con_named, exn_named}
use Rattle.check_typing.specs.Patterns.{pattern}
use Rattle.check_typing.specs.WrittenTypes.{written}
use Rattle.check_typing.specs.Typing.{int32}
use Rattle.check_typing.specs.Cores.{Cored, raise_with_core}
use Rattle.check_typing.specs.inner.Walk.{Walk, walk, vector_parts, tuple_parts, of_type, all_against, each_against, each_own, all_own, arms_against, arms_own, arm_walks_open, case_walk, app_walk, con_walk, tuple_walk, vector_walk, cast_walk, carries_none, raised_alone, raised_with}
use Rattle.check_typing.specs.declared.signatures.Signature.{Signature}
use Rattle.check_typing.specs.declared.signatures.Signatures.{Signatures}
use Rattle.check_tasks.specs.declared.task.Task.{Task}
use Rattle.check_tasks.specs.declared.task.Task.TheVariants as task
use Rattle.check_tasks.specs.declared.task.TypeTask.TheVariants as types
use Rattle.check_tasks.specs.declared.task.CoreTask.TheVariants as cores
use Rattle.check_tasks.specs.States.{State, with_types}
use Rattle.check_tasks.specs.Tasks.{run, step, walks, arm_walks, walks_open, own_of, against_of}
use Rattle.check_tasks.proofs.Given.{by_case, by_test, form_steps, reverse_more, reverse_joined, taken_back, left_below, lifted_out}
use Rattle.check_tasks.proofs.Lengths.{all_against_length, each_against_length, each_own_length, all_own_lengths, arms_against_length, arms_own_length}
use Rattle.check_tasks.proofs.ListLaws.{each_own_split, each_own_open, arms_own_split, arms_own_open}

ruleset whole_steps = (form_steps, reverse_more, reverse_joined)

ruleset split_steps = (form_steps)

pub own_each_split : (st : State) (parts front behind : Bor (List Exp)) (part : Bor Exp) (count : ℕ) → parts.now ≡ front.now ++ part.now ∷ behind.now
    → length front.now ≡ count → walks_open (walks st.0.2 front.now) ≡ true → (walk st.0.2 part.now).is_open ≡ false →
    run (task.Own part ∷ task.Each front ∷ task.Cores (cores.Lift count) ∷ task.Each behind ∷ []) st ≡ step (task.OwnEach parts) st
own_each_split st parts front behind part count is long all closed =
    let split = each_own_split st.0.2 st.0.0 front.now behind.now part.now all closed in
    by_case ((walk st.0.2 part.now).own st.0.0) (λ n. grind (arith, whole_steps)) (λ one o.
    by_case (each_against st.0.0 (walks st.0.2 front.now) one.0) (λ n. grind (arith, whole_steps)) (λ before b.
    let same = each_against_length st.0.0 (walks st.0.2 front.now) one.0 before b in
    by_case (each_against st.0.0 (walks st.0.2 behind.now) one.0) (λ n. grind (arith, whole_steps)) (λ after a.
    let out = lifted_out before after st.1 one.1 count in grind (arith, split_steps))))

pub own_each_open : (st : State) (parts : Bor (List Exp)) → walks_open (walks st.0.2 parts.now) ≡ true →
    run (task.Types types.PushInt32 ∷ task.Each parts ∷ []) st ≡ step (task.OwnEach parts) st
own_each_open st parts all =
    let whole = each_own_open st.0.2 st.0.0 parts.now all in
    by_case (each_against st.0.0 (walks st.0.2 parts.now) int32) (λ n. grind (arith, whole_steps)) (λ cs c. grind (arith, whole_steps))

pub own_arms_open : (st : State) (arms : Bor (List (Pat × Exp))) → arm_walks_open (arm_walks st.0.2 arms.now) ≡ true →
    run (task.Types types.PushInt32 ∷ task.Arms arms ∷ []) st ≡ step (task.OwnArms arms) st
own_arms_open st arms all =
    let whole = arms_own_open st.0.2 st.0.0 (top st.0.1) arms.now all in
    by_case (arms_against st.0.2 st.0.0 (top st.0.1) (arm_walks st.0.2 arms.now) int32) (λ n. grind (arith, whole_steps)) (λ cs c. grind (arith, whole_steps))

pub case_own : (st : State) (a : Bor Exp) (arms : Bor (List (Pat × Exp))) (count : ℕ) → count ≡ length arms.now →
    run (task.Own a ∷ task.OwnArms arms ∷ task.Types types.RepeatBelow ∷ task.Cores (cores.Alternatives count) ∷ task.Types types.Pop ∷ task.Types types.PopBelow ∷ []) st
    ≡ own_of ((case_walk st.0.2 (walk st.0.2 a.now) (arm_walks st.0.2 arms.now)).own st.0.0) st
case_own st a arms count is =
    by_case ((walk st.0.2 a.now).own st.0.0) (λ n. grind (arith, whole_steps)) (λ part p.
    by_case (arms_own st.0.2 st.0.0 part.0 (arm_walks st.0.2 arms.now)) (λ n. grind (arith, whole_steps)) (λ all o.
    let long = arms_own_length st.0.2 st.0.0 part.0 (arm_walks st.0.2 arms.now) all.0 all.1 o in
    let taken = taken_back all.1 st.3 count in
    let left = left_below all.1 st.3 count in grind (arith, whole_steps)))

pub case_against : (st : State) (a : Bor Exp) (arms : Bor (List (Pat × Exp))) (count : ℕ) → count ≡ length arms.now →
    run (task.Own a ∷ task.Types types.RepeatBelow ∷ task.Arms arms ∷ task.Types types.Pop ∷ task.Cores (cores.Alternatives count) ∷ task.Types types.Pop ∷ []) st
    ≡ against_of ((case_walk st.0.2 (walk st.0.2 a.now) (arm_walks st.0.2 arms.now)).against st.0.0 (top st.0.1)) st
case_against st a arms count is =
    by_case ((walk st.0.2 a.now).own st.0.0) (λ n. grind (arith, whole_steps)) (λ part p.
    by_case (arms_against st.0.2 st.0.0 part.0 (arm_walks st.0.2 arms.now) (top st.0.1)) (λ n. grind (arith, whole_steps)) (λ all o.
    let long = arms_against_length st.0.2 st.0.0 part.0 (arm_walks st.0.2 arms.now) (top st.0.1) all o in
    let taken = taken_back all st.3 count in
    let left = left_below all st.3 count in grind (arith, whole_steps)))

pub tuple_own : (st : State) (parts : Bor (List Exp)) (count : ℕ) → count ≡ length parts.now →
    run (task.OwnParts parts ∷ task.Cores (cores.OwnTuple count) ∷ []) st ≡ own_of ((tuple_walk (walks st.0.2 parts.now)).own st.0.0) st
tuple_own st parts count is =
    by_case (all_own st.0.0 (walks st.0.2 parts.now)) (λ n. grind (arith, whole_steps)) (λ all o.
    let long = all_own_lengths st.0.0 (walks st.0.2 parts.now) all.0 all.1 o in
    let taken = taken_back all.0 st.0.1 count in
    let left = left_below all.0 st.0.1 count in
    let cores_taken = taken_back all.1 st.1 count in
    let cores_left = left_below all.1 st.1 count in grind (arith, whole_steps))

pub tuple_against : (st : State) (parts : Bor (List Exp)) (count : ℕ) → count ≡ length parts.now →
    run (task.Parts parts 0 ∷ task.Cores (cores.Tuple count) ∷ []) st ≡ against_of ((tuple_walk (walks st.0.2 parts.now)).against st.0.0 (top st.0.1)) st
tuple_against st parts count is =
    by_case (tuple_parts (top st.0.1)) (λ n. grind (arith, whole_steps)) (λ tys t.
    by_case (all_against st.0.0 (walks st.0.2 parts.now) tys) (λ n. grind (arith, whole_steps)) (λ cs o.
    let long = all_against_length st.0.0 (walks st.0.2 parts.now) tys cs o in
    let taken = taken_back cs st.1 count in
    let left = left_below cs st.1 count in grind (arith, whole_steps)))

pub vector_own : (st : State) (parts : Bor (List Exp)) (count : ℕ) → count ≡ length parts.now →
    run (task.OwnEach parts ∷ task.Cores (cores.OwnVector count) ∷ []) st ≡ own_of ((vector_walk (walks st.0.2 parts.now)).own st.0.0) st
vector_own st parts count is =
    by_case (each_own st.0.0 (walks st.0.2 parts.now)) (λ n. grind (arith, whole_steps)) (λ all o.
    let long = each_own_length st.0.0 (walks st.0.2 parts.now) all.0 all.1 o in
    let taken = taken_back all.1 st.1 count in
    let left = left_below all.1 st.1 count in grind (arith, whole_steps))

pub vector_against : (st : State) (parts : Bor (List Exp)) (count : ℕ) → count ≡ length parts.now
    → vector_parts (top st.0.1) ≡ Some (count, item_of (out-Ty (top st.0.1))) →
    run (task.Types types.PushItem ∷ task.Each parts ∷ task.Types types.Pop ∷ task.Cores (cores.Vector count) ∷ []) st
    ≡ against_of ((vector_walk (walks st.0.2 parts.now)).against st.0.0 (top st.0.1)) st
vector_against st parts count is of =
    by_case (each_against st.0.0 (walks st.0.2 parts.now) (item_of (out-Ty (top st.0.1)))) (λ n. grind (arith, whole_steps)) (λ cs o.
    let long = each_against_length st.0.0 (walks st.0.2 parts.now) (item_of (out-Ty (top st.0.1))) cs o in
    let taken = taken_back cs st.1 count in
    let left = left_below cs st.1 count in grind (arith, whole_steps))

pub call_own : (st : State) (name : List ℕ) (parts : Bor (List Exp)) (count number : ℕ) (signature : Signature) (part : Exp) (rest : List Exp) → count ≡ length parts.now
    → parts.now ≡ part ∷ rest → fun_named name st.0.2 ≡ Some (number, signature) →
    run (task.Types (types.PushPart 0) ∷ task.Parts parts 0 ∷ task.Types types.Pop ∷ task.Types (types.PushPart 1) ∷ task.Types types.PopBelow ∷ task.Cores (cores.Call number count) ∷ [])
    (with_types (TupleTy (TupleTy signature.params ∷ signature.gives ∷ []) ∷ st.0.1) st)
    ≡ own_of ((app_walk st.0.2 name (walks st.0.2 parts.now)).own st.0.0) st
call_own st name parts count number signature part rest is more named =
    by_case (all_against st.0.0 (walks st.0.2 parts.now) signature.params) (λ n. grind (arith, whole_steps)) (λ cs o.
    let long = all_against_length st.0.0 (walks st.0.2 parts.now) signature.params cs o in
    let taken = taken_back cs st.1 count in
    let left = left_below cs st.1 count in grind (arith, whole_steps))

pub con_own : (st : State) (name : List ℕ) (parts : Bor (List Exp)) (count : ℕ) (con : Constructor) → count ≡ length parts.now
    → con_named name st.0.2 ≡ Some con →
    run (task.Parts parts 0 ∷ task.Types types.Pop ∷ task.Types (types.PushNamed con.sum) ∷ task.Cores (cores.Constructor con.place count) ∷ [])
    (with_types (TupleTy con.fields ∷ st.0.1) st)
    ≡ own_of ((con_walk st.0.2 name (walks st.0.2 parts.now)).own st.0.0) st
con_own st name parts count con is named =
    by_case (all_against st.0.0 (walks st.0.2 parts.now) con.fields) (λ n. grind (arith, whole_steps)) (λ cs o.
    let long = all_against_length st.0.0 (walks st.0.2 parts.now) con.fields cs o in
    let taken = taken_back cs st.1 count in
    let left = left_below cs st.1 count in grind (arith, whole_steps))

pub raise_with : (st : State) (a : Bor Exp) (number : ℕ) (exn : ExnDef) (carried : Ty) → exn.carries ≡ Some carried →
    run (task.Against a ∷ task.Types types.Pop ∷ task.Cores (cores.RaiseWith number) ∷ []) (with_types (carried ∷ st.0.1) st)
    ≡ against_of (given (raised_with (Some (number, exn)) (walk st.0.2 a.now) st.0.0) (λ raised. Some (raise_with_core raised.0 raised.1))) st
raise_with st a number exn carried carries =
    by_case ((walk st.0.2 a.now).against st.0.0 carried) (λ n. grind (arith, whole_steps)) (λ part o. grind (arith, whole_steps))

-- what is open has `int 32` by itself
pub opened_own : (st : State) (found : Option Cored) → against_of found (with_types (int32 ∷ st.0.1) st) ≡ own_of (of_type int32 found) st
opened_own st None = refl
opened_own st (Some core) = refl

pub cast_own : (st : State) (a : Bor Exp) (type : TyExp) (ty : Ty) → written st.0.2.types type ≡ Some ty → is_number_type ty ≡ true →
    run (task.Own a ∷ task.Types types.IsNumber ∷ task.Cores cores.Conversion ∷ task.Types types.Pop ∷ []) (with_types (ty ∷ st.0.1) st)
    ≡ own_of ((cast_walk st.0.2 (walk st.0.2 a.now) type).own st.0.0) st
cast_own st a type ty is number =
    by_case ((walk st.0.2 a.now).own st.0.0) (λ n. grind (arith, whole_steps)) (λ part f.
    by_test (is_number_type part.0) (λ t. grind (arith, whole_steps)) (λ t. grind (arith, whole_steps)))

pub index_more : (st : State) (b : Bor Exp) (count : ℕ) → vector_parts (top st.0.1) ≡ Some (count, item_of (out-Ty (top st.0.1))) →
    run (task.Own b ∷ task.Types types.IsNumber ∷ task.Cores cores.Element ∷ task.Types types.Pop ∷ task.Types types.PushItem
    ∷ task.Types types.PopBelow ∷ []) st
    ≡ step (task.Index b) st
index_more st b count is =
    by_case ((walk st.0.2 b.now).own st.0.0) (λ n. grind (arith, whole_steps)) (λ place f.
    by_test (is_number_type place.0) (λ t. grind (arith, whole_steps)) (λ t. grind (arith, whole_steps)))

pub update_more : (st : State) (b d : Bor Exp) (count : ℕ) → vector_parts (top st.0.1) ≡ Some (count, item_of (out-Ty (top st.0.1))) →
    run (task.Own b ∷ task.Types types.IsNumber ∷ task.Types types.RepeatBelow ∷ task.Types types.PushItem ∷ task.Against d ∷ task.Types types.Pop
    ∷ task.Cores cores.Update ∷ task.Types types.Pop ∷ task.Types types.Pop ∷ []) st
    ≡ step (task.Update b d) st
update_more st b d count is =
    by_case ((walk st.0.2 b.now).own st.0.0) (λ n. grind (arith, whole_steps)) (λ place f.
    by_test (is_number_type place.0) (λ t. grind (arith, whole_steps)) (λ t.
    by_case ((walk st.0.2 d.now).against st.0.0 (item_of (out-Ty (top st.0.1)))) (λ n. grind (arith, whole_steps)) (λ item g. grind (arith, whole_steps))))

pub own_arms_split : (st : State) (arms front behind : Bor (List (Pat × Exp))) (p : Bor Pat) (e : Bor Exp) (count : ℕ) → arms.now ≡ front.now ++ (p.now, e.now) ∷ behind.now
    → length front.now ≡ count → arm_walks_open (arm_walks st.0.2 front.now) ≡ true → (walk st.0.2 e.now).is_open ≡ false →
    run (task.Match p ∷ task.Own e ∷ task.Leave (length st.0.0) ∷ task.Cores cores.Arm ∷ task.Arms front ∷ task.Cores (cores.LiftArm count) ∷ task.Arms behind ∷ []) st
    ≡ step (task.OwnArms arms) st
own_arms_split st arms front behind p e count is long all closed =
    let split = arms_own_split st.0.2 st.0.0 (top st.0.1) front.now behind.now (p.now, e.now) all closed in
    by_case (pattern st.0.2 p.now (top st.0.1)) (λ n. grind (arith, whole_steps)) (λ bound b.
    by_case ((walk st.0.2 e.now).own (st.0.0 ++ bound.0)) (λ n. grind (arith, whole_steps)) (λ one o.
    by_case (arms_against st.0.2 st.0.0 (top st.0.1) (arm_walks st.0.2 front.now) one.0) (λ n. grind (arith, whole_steps)) (λ before f.
    let same = arms_against_length st.0.2 st.0.0 (top st.0.1) (arm_walks st.0.2 front.now) one.0 before f in
    by_case (arms_against st.0.2 st.0.0 (top st.0.1) (arm_walks st.0.2 behind.now) one.0) (λ n. grind (arith, whole_steps)) (λ after g.
    let out = lifted_out before after st.3 (bound.1, one.1) count in grind (arith, split_steps)))))
