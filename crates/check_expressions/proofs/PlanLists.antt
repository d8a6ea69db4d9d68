-- The lists of tasks of some forms.
use denote.Ref.{Bor}
use Rattle.std.proofs.Common.{ℕ, ◌+◌, List, [], ◌∷◌, length}
use Rattle.hume_ast.specs.declared.tree.Pat.{Pat}
use Rattle.hume_ast.specs.declared.tree.Exp.{Exp}
use Rattle.check_tasks.specs.declared.task.Task.{Task}
use Rattle.check_tasks.specs.declared.task.Task.TheVariants as task
use Rattle.check_tasks.specs.declared.task.TypeTask.TheVariants as types
use Rattle.check_tasks.specs.declared.task.CoreTask.TheVariants as cores

abbrev pub let_own_plan : Bor Exp → Bor (List ℕ) → Bor Exp → ℕ → List Task
let_own_plan a name b count = task.Own a ∷ task.Enter name ∷ task.Own b ∷ task.Cores cores.Binding ∷ task.Leave count ∷ []

abbrev pub let_against_plan : Bor Exp → Bor (List ℕ) → Bor Exp → ℕ → List Task
let_against_plan a name b count = task.Own a ∷ task.Enter name ∷ task.Against b ∷ task.Cores cores.Binding ∷ task.Leave count ∷ []

abbrev pub case_own_plan : Bor Exp → Bor (List (Pat × Exp)) → List Task
case_own_plan a arms = task.Own a ∷ task.OwnArms arms ∷ task.Types types.RepeatBelow ∷ task.Cores (cores.Alternatives (length arms.now))
    ∷ task.Types types.Pop ∷ task.Types types.PopBelow ∷ []

abbrev pub case_against_plan : Bor Exp → Bor (List (Pat × Exp)) → List Task
case_against_plan a arms = task.Own a ∷ task.Types types.RepeatBelow ∷ task.Arms arms ∷ task.Types types.Pop
    ∷ task.Cores (cores.Alternatives (length arms.now)) ∷ task.Types types.Pop ∷ []

abbrev pub tuple_own_plan : Bor (List Exp) → List Task
tuple_own_plan parts = task.OwnParts parts ∷ task.Cores (cores.OwnTuple (length parts.now)) ∷ []

abbrev pub vector_own_plan : Bor (List Exp) → List Task
vector_own_plan parts = task.OwnEach parts ∷ task.Cores (cores.OwnVector (length parts.now)) ∷ []

abbrev pub index_plan : Bor Exp → List Task
index_plan b = task.Own b ∷ task.Types types.IsNumber ∷ task.Cores cores.Element ∷ task.Types types.Pop ∷ task.Types types.PushItem
    ∷ task.Types types.PopBelow ∷ []

abbrev pub call_plan : Bor (List Exp) → ℕ → List Task
call_plan parts number = task.Types (types.PushPart 0) ∷ task.Parts parts 0 ∷ task.Types types.Pop ∷ task.Types (types.PushPart 1)
    ∷ task.Types types.PopBelow ∷ task.Cores (cores.Call number (length parts.now)) ∷ []

abbrev pub con_plan : Bor (List Exp) → ℕ → ℕ → List Task
con_plan parts sum place = task.Parts parts 0 ∷ task.Types types.Pop ∷ task.Types (types.PushNamed sum)
    ∷ task.Cores (cores.Constructor place (length parts.now)) ∷ []

abbrev pub con_match_plan : Bor (List Pat) → ℕ → List Task
con_match_plan parts place = task.MatchParts parts 0 ∷ task.Types types.Pop ∷ task.Cores (cores.SameConstructor place (length parts.now)) ∷ []

abbrev pub match_plan : Bor Pat → Bor (List Pat) → ℕ → List Task
match_plan part rest place = task.Types (types.PushPart place) ∷ task.Match part ∷ task.Types types.Pop ∷ task.MatchParts rest (place + 1) ∷ []

abbrev pub cast_plan : Bor Exp → List Task
cast_plan a = task.Own a ∷ task.Types types.IsNumber ∷ task.Cores cores.Conversion ∷ task.Types types.Pop ∷ []

abbrev pub each_open_plan : Bor (List Exp) → List Task
each_open_plan parts = task.Types types.PushInt32 ∷ task.Each parts ∷ []

abbrev pub each_split_plan : Bor Exp → Bor (List Exp) → ℕ → Bor (List Exp) → List Task
each_split_plan part front place behind = task.Own part ∷ task.Each front ∷ task.Cores (cores.Lift place) ∷ task.Each behind ∷ []

abbrev pub arms_split_plan : Bor Pat → Bor Exp → ℕ → Bor (List (Pat × Exp)) → ℕ → Bor (List (Pat × Exp)) → List Task
arms_split_plan p e count front place behind = task.Match p ∷ task.Own e ∷ task.Leave count ∷ task.Cores cores.Arm ∷ task.Arms front
    ∷ task.Cores (cores.LiftArm place) ∷ task.Arms behind ∷ []
