-- Which code stands for which expression, result and function. Words on the stack have their places counted from the bottom of
-- a frame, and the code of an expression leaves one word more on it.
use Rattle.std.specs.Prelude.{◌≡◌, ℕ, zero, suc, nat_lt, if◌then◌else◌, ◌+◌, ◌-◌, ◌*◌, ◌<◌, true, false, List, [], ◌∷◌, ◌++◌, length, Option, Some, None, slice_get}
use Rattle.hume_base.specs.declared.types.Ty.{Ty}
use Rattle.hume_model.specs.declared.core_tree.Forms.{Forms}
use Rattle.hume_model.specs.declared.core_tree.Op.{Op}
use Rattle.hume_model.specs.declared.core_tree.Op.TheVariants as op
use Rattle.hume_model.specs.declared.core_tree.Expr.{Expr}
use Rattle.hume_model.specs.declared.core_tree.Expr.TheVariants as expr
use Rattle.hume_model.specs.declared.core_tree.Res.{Res}
use Rattle.hume_model.specs.declared.core_tree.Res.TheVariants as res
use Rattle.hume_model.specs.declared.core_tree.FunC.{FunC}
use Rattle.hume_model.specs.declared.core_tree.EqC.{EqC}
use Rattle.hume_model.specs.declared.core_tree.PatC.{PatC}
use Rattle.hume_model.specs.declared.core_tree.RuleC.{RuleC}
use Rattle.hume_model.specs.declared.core_tree.HandC.{HandC}
use Rattle.hume_model.specs.declared.core_tree.Core.{Core}
use Rattle.hume_model.specs.declared.exceptions.TheConstants.{NO_CASE}
use Rattle.box_costs.specs.Bounds.{given_outs, built_patterns}
use Rattle.box_code.specs.declared.instr.Path.{Path}
use Rattle.box_code.specs.declared.instr.Scalar.{Scalar}
use Rattle.box_code.specs.declared.instr.Comparison.TheVariants as comparison
use Rattle.box_code.specs.declared.instr.Instr.{Instr}
use Rattle.box_code.specs.declared.instr.Instr.TheVariants.{Push, Load, Make, Add, Sub, Mul, Div, Mod, Neg, Not, Convert, Compare, Index, Update, Jump, JumpFalse, MatchWord, MatchTag, Field, Slide, Call, Return, Raise, Finish}
use Rattle.box_code.specs.Words.{StandsAt, fields_in}
use Rattle.box_code.specs.Paths.{Spot, root, Test, WordIs, TagIs, tests_at, spots_at, tests_from, spots_from}
use Rattle.box_code.specs.Machine.{type_of}

-- the depth of the word at a place under so many words
abbrev pub depth_of : ℕ → ℕ → ℕ
depth_of high place = high - (1 + place)

-- the instruction for an operation at a type
abbrev pub instr_of_op : Op → Scalar → Instr
instr_of_op op.Add ty = Add ty
instr_of_op op.Sub ty = Sub ty
instr_of_op op.Mul ty = Mul ty
instr_of_op op.Div ty = Div ty
instr_of_op op.Mod ty = Mod ty
instr_of_op op.Neg ty = Neg ty
instr_of_op op.Not ty = Not
instr_of_op op.Convert ty = Convert ty
instr_of_op op.Eq ty = Compare comparison.Eq ty
instr_of_op op.Ne ty = Compare comparison.Ne ty
instr_of_op op.Lt ty = Compare comparison.Lt ty
instr_of_op op.Le ty = Compare comparison.Le ty
instr_of_op op.Gt ty = Compare comparison.Gt ty
instr_of_op op.Ge ty = Compare comparison.Ge ty

-- where the word of a test is found
abbrev pub spot_of : Test → Spot
spot_of (WordIs spot word) = spot
spot_of (TagIs spot tag) = spot

-- the instruction for a test, which jumps if it fails
abbrev pub instr_of_test : ℕ → ℕ → Path → Test → Instr
instr_of_test high to path (WordIs spot word) = MatchWord (depth_of high spot.place) path word to
instr_of_test high to path (TagIs spot tag) = MatchTag (depth_of high spot.place) path tag to

-- the path that stands in the code is that of the spot, which is on a stack of so many words
pub record PathIs (code : List ℕ) (high : ℕ) (path : Path) (spot : Spot) : Type 0 where
  pub low : spot.place < high
  pub same : fields_in code path ≡ spot.path

-- the tests stand there, each of which jumps to a place if it fails
pub data TestsStand (code : List ℕ) (high other : ℕ) : ℕ → ℕ → List Test → Type 0 where
  none : {from : ℕ} → TestsStand code high other from from []
  more : {from to : ℕ} (mid : ℕ) (path : Path) {test : Test} {tests : List Test} → PathIs code high path (spot_of test)
      → StandsAt code from (instr_of_test high other path test) mid → TestsStand code high other mid to tests
      → TestsStand code high other from to (test ∷ tests)

-- the words at the spots are pushed, one after another
pub data FieldsStand (code : List ℕ) : ℕ → ℕ → ℕ → List Spot → Type 0 where
  none : {high from : ℕ} → FieldsStand code high from from []
  more : {high from to : ℕ} (mid : ℕ) (path : Path) {spot : Spot} {spots : List Spot} → PathIs code high path spot
      → StandsAt code from (Field (depth_of high spot.place) path) mid → FieldsStand code (high + 1) mid to spots → FieldsStand code high from to (spot ∷ spots)

-- so many places from one on
abbrev pub counted : ℕ → ℕ → List ℕ
counted start zero = []
counted start (suc count) = start ∷ counted (start + 1) count

mutual
  -- Between two places stands the code of the expression, where its variables have these places on the stack, which is so high.
  -- `entry` has the places of functions.
  pub data Represents (code : List ℕ) (entry : ℕ → Option ℕ) : List ℕ → ℕ → ℕ → ℕ → Expr → Type 0 where
    word : {places : List ℕ} {high from to : ℕ} (word : ℕ) → StandsAt code from (Push word) to → Represents code entry places high from to (expr.Word word)
    variable : {places : List ℕ} {high from to : ℕ} (number place : ℕ) → slice_get places number ≡ Some place → place < high
        → StandsAt code from (Load (depth_of high place)) to → Represents code entry places high from to (expr.Var number)
    con : {places : List ℕ} {high from to : ℕ} (tag mid : ℕ) {parts : List Expr} → AllRepresent code entry places high from mid parts
        → StandsAt code mid (Make tag (length parts)) to → Represents code entry places high from to (expr.Con tag parts)
    tuple : {places : List ℕ} {high from to : ℕ} (mid : ℕ) {parts : List Expr} → AllRepresent code entry places high from mid parts
        → StandsAt code mid (Make 0 (length parts)) to → Represents code entry places high from to (expr.Tuple parts)
    vector : {places : List ℕ} {high from to : ℕ} (mid : ℕ) {parts : List Expr} → AllRepresent code entry places high from mid parts
        → StandsAt code mid (Make 0 (length parts)) to → Represents code entry places high from to (expr.Vect parts)
    operation : {places : List ℕ} {high from to : ℕ} (op : Op) (ty : Ty) (scalar : Scalar) (mid : ℕ) {parts : List Expr}
        → ty ≡ type_of scalar → AllRepresent code entry places high from mid parts
        → StandsAt code mid (instr_of_op op scalar) to → Represents code entry places high from to (expr.Prim op ty parts)
    index : {places : List ℕ} {high from to : ℕ} (count mid : ℕ) {vector place : Expr} → AllRepresent code entry places high from mid (vector ∷ place ∷ [])
        → StandsAt code mid (Index count) to → Represents code entry places high from to (expr.Index count vector place)
    update : {places : List ℕ} {high from to : ℕ} (count mid : ℕ) {vector place item : Expr}
        → AllRepresent code entry places high from mid (vector ∷ place ∷ item ∷ []) → StandsAt code mid (Update count) to
        → Represents code entry places high from to (expr.Update count vector place item)
    choice : {places : List ℕ} {high from to : ℕ} (tested first done second : ℕ) {test when_true when_false : Expr}
        → Represents code entry places high from tested test → StandsAt code tested (JumpFalse second) first
        → Represents code entry places high first done when_true → StandsAt code done (Jump to) second
        → Represents code entry places high second to when_false → Represents code entry places high from to (expr.If test when_true when_false)
    alternatives : {places : List ℕ} {high from to : ℕ} (forms : Forms) (mid : ℕ) {part : Expr} {arms : List (PatC × Expr)}
        → Represents code entry places high from mid part → ArmsStand code entry places high mid to arms
        → Represents code entry places high from to (expr.Case part forms arms)
    binding : {places : List ℕ} {high from to : ℕ} (mid done : ℕ) {part body : Expr} → Represents code entry places high from mid part
        → Represents code entry (places ++ high ∷ []) (high + 1) mid done body → StandsAt code done (Slide 1) to
        → Represents code entry places high from to (expr.Let part body)
    call : {places : List ℕ} {high from to : ℕ} (number mid place : ℕ) {parts : List Expr} → AllRepresent code entry places high from mid parts
        → entry number ≡ Some place → StandsAt code mid (Call place (length parts)) to → Represents code entry places high from to (expr.Call number parts)
    raise_alone : {places : List ℕ} {high from to : ℕ} (exn mid : ℕ) → StandsAt code from (Push 0) mid → StandsAt code mid (Raise exn false) to
        → Represents code entry places high from to (expr.Raise exn None)
    raise_with : {places : List ℕ} {high from to : ℕ} (exn mid : ℕ) {part : Expr} → Represents code entry places high from mid part
        → StandsAt code mid (Raise exn true) to → Represents code entry places high from to (expr.Raise exn (Some part))

  -- the parts stand one after another, each above the words of those before it
  pub data AllRepresent (code : List ℕ) (entry : ℕ → Option ℕ) : List ℕ → ℕ → ℕ → ℕ → List Expr → Type 0 where
    none : {places : List ℕ} {high from : ℕ} → AllRepresent code entry places high from from []
    more : {places : List ℕ} {high from to : ℕ} (mid : ℕ) {e : Expr} {es : List Expr} → Represents code entry places high from mid e
        → AllRepresent code entry places (high + 1) mid to es → AllRepresent code entry places high from to (e ∷ es)

  -- The alternatives for the word that stands above so many others: the variables of each pattern stand above it, and each
  -- ends at the same place. At the end stands what raises where none matches.
  pub data ArmsStand (code : List ℕ) (entry : ℕ → Option ℕ) : List ℕ → ℕ → ℕ → ℕ → List (PatC × Expr) → Type 0 where
    no_arm : {places : List ℕ} {high from to : ℕ} → StandsAt code from (Raise NO_CASE false) to → ArmsStand code entry places high from to []
    one_arm : {places : List ℕ} {high from to : ℕ} (tested bound done slid other : ℕ) {p : PatC} {e : Expr} {arms : List (PatC × Expr)}
        → TestsStand code (high + 1) other from tested (tests_at p (root high))
        → FieldsStand code (high + 1) tested bound (spots_at p (root high))
        → Represents code entry (places ++ counted (high + 1) (length (spots_at p (root high)))) (high + 1 + length (spots_at p (root high))) bound done e
        → StandsAt code done (Slide (1 + length (spots_at p (root high)))) slid → StandsAt code slid (Jump to) other
        → ArmsStand code entry places high other to arms → ArmsStand code entry places high from to ((p, e) ∷ arms)

-- The equations of a function: so many arguments stand at the bottom of the frame, above them two words, and then the
-- variables of the patterns.
pub data EquationsStand (code : List ℕ) (entry : ℕ → Option ℕ) (count : ℕ) : ℕ → List EqC → Type 0 where
  none : {from : ℕ} (next : ℕ) → StandsAt code from (Raise NO_CASE false) next → EquationsStand code entry count from []
  more : {from : ℕ} (tested bound done other : ℕ) {equation : EqC} {equations : List EqC}
      → TestsStand code (count + 2) other from tested (tests_from equation.pats 0)
      → FieldsStand code (count + 2) tested bound (spots_from equation.pats 0)
      → Represents code entry (counted (count + 2) (length (spots_from equation.pats 0))) (count + 2 + length (spots_from equation.pats 0)) bound done
      equation.body
      → StandsAt code done (Return count (length (spots_from equation.pats 0))) other
      → EquationsStand code entry count other equations → EquationsStand code entry count from (equation ∷ equations)

-- the entries of functions of numbers below the bound
abbrev pub below : ℕ → (ℕ → Option ℕ) → ℕ → Option ℕ
below bound entry function = if nat_lt function bound then entry function else None

-- each function that has an entry stands there, and calls only functions of smaller numbers
abbrev pub FunctionsStand : List ℕ → (ℕ → Option ℕ) → Core → Type 0
FunctionsStand code entry core = (number place : ℕ) (function : FunC) → slice_get core.funs number ≡ Some function → entry number ≡ Some place
    → EquationsStand code (below number entry) (length function.params) place function.equations

-- bit 0 is that of the first output
abbrev pub mask_of : {X : Type 0} → List (Option X) → ℕ
mask_of [] = 0
mask_of (None ∷ outs) = 2 * mask_of outs
mask_of (Some out ∷ outs) = 1 + 2 * mask_of outs

mutual
  -- between two places stands the code of the result, each way through which ends or raises
  pub data ResultStands (code : List ℕ) (entry : ℕ → Option ℕ) : List ℕ → ℕ → ℕ → ℕ → Res → Type 0 where
    outputs : {places : List ℕ} {high from to : ℕ} (mid : ℕ) {outs : List (Option Expr)} → AllRepresent code entry places high from mid (given_outs outs)
        → StandsAt code mid (Finish (mask_of outs)) to → ResultStands code entry places high from to (res.Outs outs)
    choice : {places : List ℕ} {high from to : ℕ} (tested first second : ℕ) {test : Expr} {when_true when_false : Res}
        → Represents code entry places high from tested test → StandsAt code tested (JumpFalse second) first
        → ResultStands code entry places high first second when_true → ResultStands code entry places high second to when_false
        → ResultStands code entry places high from to (res.If test when_true when_false)
    alternatives : {places : List ℕ} {high from to : ℕ} (forms : Forms) (mid : ℕ) {part : Expr} {arms : List (PatC × Res)}
        → Represents code entry places high from mid part → ResultArmsStand code entry places high mid to arms
        → ResultStands code entry places high from to (res.Case part forms arms)
    binding : {places : List ℕ} {high from to : ℕ} (mid : ℕ) {part : Expr} {body : Res} → Represents code entry places high from mid part
        → ResultStands code entry (places ++ high ∷ []) (high + 1) mid to body → ResultStands code entry places high from to (res.Let part body)
    raise_alone : {places : List ℕ} {high from to : ℕ} (exn mid : ℕ) → StandsAt code from (Push 0) mid → StandsAt code mid (Raise exn false) to
        → ResultStands code entry places high from to (res.Raise exn None)
    raise_with : {places : List ℕ} {high from to : ℕ} (exn mid : ℕ) {part : Expr} → Represents code entry places high from mid part
        → StandsAt code mid (Raise exn true) to → ResultStands code entry places high from to (res.Raise exn (Some part))

  -- the same for alternatives
  pub data ResultArmsStand (code : List ℕ) (entry : ℕ → Option ℕ) : List ℕ → ℕ → ℕ → ℕ → List (PatC × Res) → Type 0 where
    no_arm : {places : List ℕ} {high from to : ℕ} → StandsAt code from (Raise NO_CASE false) to → ResultArmsStand code entry places high from to []
    one_arm : {places : List ℕ} {high from to : ℕ} (tested bound other : ℕ) {p : PatC} {result : Res} {arms : List (PatC × Res)}
        → TestsStand code (high + 1) other from tested (tests_at p (root high))
        → FieldsStand code (high + 1) tested bound (spots_at p (root high))
        → ResultStands code entry (places ++ counted (high + 1) (length (spots_at p (root high)))) (high + 1 + length (spots_at p (root high)))
        bound other result
        → ResultArmsStand code entry places high other to arms → ResultArmsStand code entry places high from to ((p, result) ∷ arms)

-- variables are found at spots on a stack of so many words, and then comes the result
pub record BoundResultStands (code : List ℕ) (entry : ℕ → Option ℕ) (high : ℕ) (spots : List Spot) (result : Res) (from : ℕ) : Type 0 where
  pub bound : ℕ
  pub to : ℕ
  pub fields : FieldsStand code high from bound spots
  pub result_stands : ResultStands code entry (counted high (length spots)) (high + length spots) bound to result

-- a rule begins with a word for each input that is built
abbrev pub RuleStands : List ℕ → (ℕ → Option ℕ) → RuleC → ℕ → Type 0
RuleStands code entry rule from =
    BoundResultStands code entry (length (built_patterns rule.pats)) (spots_from (built_patterns rule.pats) 0) rule.result from

-- where a handler's variable is found, if it has one
abbrev pub handler_spots : HandC → List Spot
handler_spots handler = if handler.bound then root 0 ∷ [] else []

-- a handler begins with what the exception carries as the only word
abbrev pub HandlerStands : List ℕ → (ℕ → Option ℕ) → HandC → ℕ → Type 0
HandlerStands code entry handler from = BoundResultStands code entry 1 (handler_spots handler) handler.result from
