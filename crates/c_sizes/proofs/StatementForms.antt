-- The frame of a statement, form by form.
use Rattle.std.proofs.Common.{◌≡◌, ℕ, List, map, ap, sym, ◌∙◌}
use Rattle.std.specs.Prelude.{Option}
use Rattle.std.proofs.lemmas.Grind.{common_steps}
use Rattle.c_tree.specs.declared.tree.CExp.{CExp}
use Rattle.c_tree.specs.declared.tree.CVariable.{CVariable}
use Rattle.c_tree.specs.declared.tree.CCount.{CCount}
use Rattle.c_tree.specs.declared.tree.CStm.{CStm, roll-CStm, map-CStm, fold-roll-CStm}
use Rattle.c_tree.specs.declared.tree.CStm.TheOpen.{CStm-F}
use Rattle.c_tree.specs.declared.tree.CStm.TheVariants as stm
use Rattle.c_sizes.specs.declared.frame.Frame.{Frame}
use Rattle.c_sizes.specs.Layout.{Types}
use Rattle.c_sizes.specs.Frames.{Functions, no_frame, variable, calling, value_of, also, arm_of, arms_of, for_of, return_of, call_of}
use Rattle.c_sizes.specs.Frames.{expression_calls, frame_within, statement_frame}
use Rattle.c_sizes.specs.inner.Arms.{framed_arm}

frame_form : (types : Types) (functions : Functions) (s : CStm) (x : CStm-F CStm) → roll-CStm x ≡ s
    → statement_frame types functions s ≡ frame_within types functions (map-CStm CStm Frame (statement_frame types functions) x)
frame_form types functions s x is = ap (statement_frame types functions) (sym is) ∙ fold-roll-CStm Frame (frame_within types functions) x

pub frame_of_comment : (types : Types) (functions : Functions) (text : List ℕ)
    → statement_frame types functions (stm.Comment text) ≡ no_frame
frame_of_comment types functions text = frame_form types functions _ (CStm-F.Comment text) (stm.rolls-Comment text)

pub frame_of_declare : (types : Types) (functions : Functions) (declared : CVariable)
    → statement_frame types functions (stm.Declare declared) ≡ variable types declared.ty
frame_of_declare types functions declared = frame_form types functions _ (CStm-F.Declare declared) (stm.rolls-Declare declared)

pub frame_of_define : (types : Types) (functions : Functions) (declared : CVariable) (value : CExp)
    → statement_frame types functions (stm.Define declared value) ≡ also (variable types declared.ty) (value_of functions value)
frame_of_define types functions declared value = frame_form types functions _ (CStm-F.Define declared value) (stm.rolls-Define declared value)

pub frame_of_assign : (types : Types) (functions : Functions) (object value : CExp)
    → statement_frame types functions (stm.Assign object value) ≡ also (value_of functions object) (value_of functions value)
frame_of_assign types functions object value = frame_form types functions _ (CStm-F.Assign object value) (stm.rolls-Assign object value)

pub frame_of_increment : (types : Types) (functions : Functions) (object : CExp)
    → statement_frame types functions (stm.Increment object) ≡ value_of functions object
frame_of_increment types functions object = frame_form types functions _ (CStm-F.Increment object) (stm.rolls-Increment object)

pub frame_of_decrement : (types : Types) (functions : Functions) (object : CExp)
    → statement_frame types functions (stm.Decrement object) ≡ value_of functions object
frame_of_decrement types functions object = frame_form types functions _ (CStm-F.Decrement object) (stm.rolls-Decrement object)

pub frame_of_call : (types : Types) (functions : Functions) (name : List ℕ) (arguments : List CExp)
    → statement_frame types functions (stm.Call name arguments) ≡ calling (call_of functions name (map (expression_calls functions) arguments))
frame_of_call types functions name arguments = frame_form types functions _ (CStm-F.Call name arguments) (stm.rolls-Call name arguments)

pub frame_of_if : (types : Types) (functions : Functions) (test : CExp) (body : List CStm) (others : List (CExp × List CStm)) (otherwise : List CStm)
    → statement_frame types functions (stm.If test body others otherwise)
    ≡ also (arm_of functions (test, map (statement_frame types functions) body))
    (arms_of functions (map (framed_arm types functions) others) (map (statement_frame types functions) otherwise))
frame_of_if types functions test body others otherwise =
    frame_form types functions _ (CStm-F.If test body others otherwise) (stm.rolls-If test body others otherwise)

pub frame_of_switch : (types : Types) (functions : Functions) (subject : CExp) (cases : List (CExp × List CStm)) (otherwise : List CStm)
    → statement_frame types functions (stm.Switch subject cases otherwise)
    ≡ also (value_of functions subject)
    (arms_of functions (map (framed_arm types functions) cases) (map (statement_frame types functions) otherwise))
frame_of_switch types functions subject cases otherwise =
    frame_form types functions _ (CStm-F.Switch subject cases otherwise) (stm.rolls-Switch subject cases otherwise)

pub frame_of_for : (types : Types) (functions : Functions) (count : CCount) (body : List CStm)
    → statement_frame types functions (stm.For count body) ≡ for_of types functions count (map (statement_frame types functions) body)
frame_of_for types functions count body = frame_form types functions _ (CStm-F.For count body) (stm.rolls-For count body)

pub frame_of_break : (types : Types) (functions : Functions)
    → statement_frame types functions stm.Break ≡ no_frame
frame_of_break types functions = frame_form types functions _ CStm-F.Break stm.rolls-Break

pub frame_of_return : (types : Types) (functions : Functions) (value : Option CExp)
    → statement_frame types functions (stm.Return value) ≡ return_of functions value
frame_of_return types functions value = frame_form types functions _ (CStm-F.Return value) (stm.rolls-Return value)

-- the same of an expression and of lists that are those of the statement
pub if_of_parts : (types : Types) (functions : Functions) (test : CExp) (body : List CStm) (others : List (CExp × List CStm)) (otherwise : List CStm)
    (e : CExp) (b : List CStm) (o : List (CExp × List CStm)) (w : List CStm) → e ≡ test → b ≡ body → o ≡ others → w ≡ otherwise
    → also (arm_of functions (e, map (statement_frame types functions) b))
    (arms_of functions (map (framed_arm types functions) o) (map (statement_frame types functions) w))
    ≡ statement_frame types functions (stm.If test body others otherwise)
if_of_parts types functions test body others otherwise e b o w is p q r =
    (λ i. also (arm_of functions (is i, map (statement_frame types functions) (p i)))
    (arms_of functions (map (framed_arm types functions) (q i)) (map (statement_frame types functions) (r i))))
    ∙ sym (frame_of_if types functions test body others otherwise)

pub switch_of_parts : (types : Types) (functions : Functions) (subject : CExp) (cases : List (CExp × List CStm)) (otherwise : List CStm)
    (e : CExp) (o : List (CExp × List CStm)) (w : List CStm) → e ≡ subject → o ≡ cases → w ≡ otherwise
    → also (value_of functions e) (arms_of functions (map (framed_arm types functions) o) (map (statement_frame types functions) w))
    ≡ statement_frame types functions (stm.Switch subject cases otherwise)
switch_of_parts types functions subject cases otherwise e o w is q r =
    (λ i. also (value_of functions (is i))
    (arms_of functions (map (framed_arm types functions) (q i)) (map (statement_frame types functions) (r i))))
    ∙ sym (frame_of_switch types functions subject cases otherwise)

pub arm_of_parts : (types : Types) (functions : Functions) (arm : CExp × List CStm) (b : List CStm) → b ≡ arm.1
    → arm_of functions (arm.0, map (statement_frame types functions) b) ≡ arm_of functions (framed_arm types functions arm)
arm_of_parts types functions arm b p = ap (λ body. arm_of functions (arm.0, map (statement_frame types functions) body)) p

pub ruleset frame_forms = (
  common_steps,
  frame_of_comment,
  frame_of_declare,
  frame_of_define,
  frame_of_assign,
  frame_of_increment,
  frame_of_decrement,
  frame_of_call,
  frame_of_if,
  frame_of_switch,
  frame_of_for,
  frame_of_break,
  frame_of_return,
)
