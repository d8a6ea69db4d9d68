-- Which results of rules and handlers have which typed core, by the types of the outputs.
use Rattle.std.specs.Prelude.{◌≡◌, ℕ, ◌||◌, Bool, false, List, [], ◌∷◌, ◌++◌, map, Option, Some, None}
use Rattle.std.specs.List.{list_any}
use Rattle.hume_base.specs.declared.types.Ty.{Ty, Bool as BoolTy}
use Rattle.hume_ast.specs.declared.tree.Pat.{Pat}
use Rattle.hume_ast.specs.declared.tree.Exp.{Exp, rec-Exp}
use Rattle.hume_ast.specs.declared.tree.Exp.TheOpen.{Exp-F}
use Rattle.hume_model.specs.declared.core_tree.PatC.{PatC}
use Rattle.typed_core.specs.declared.typed_tree.TypedExpr.{TypedExpr}
use Rattle.typed_core.specs.declared.typed_tree.TypedResult.{TypedResult, Outs, If, Case, Let, Raise}
use Rattle.check_typing.specs.Signatures.{Scope}
use Rattle.check_typing.specs.Patterns.{CoredPat, pattern}
use Rattle.check_typing.specs.Cores.{Cored}
use Rattle.check_typing.specs.Typing.{Judged, RaisedAlone, RaisedWith, typing, typing_step}
use Rattle.check_typing.specs.declared.signatures.Signatures.{Signatures}

-- the typed core of a result, and whether a literal in it is out of the range of its type
abbrev pub CoredRes : Type 0
CoredRes = TypedResult × Bool

-- the same of one output: none where `*` stands
abbrev pub CoredOut : Type 0
CoredOut = Option TypedExpr × Bool

-- the same of an alternative of a `case`
abbrev pub CoredResArm : Type 0
CoredResArm = CoredPat × CoredRes

-- `*`
abbrev pub absent_out : CoredOut
absent_out = (None, false)

-- an output that is there
abbrev pub value_out : Cored → CoredOut
value_out c = (Some c.0, c.1)

-- the outputs of a leaf
abbrev pub outs_core : List CoredOut → CoredRes
outs_core outs = (Outs (map (λ out. out.0) outs), list_any (λ out. out.1) outs)

-- `let`, with the type of what is bound
abbrev pub let_result_core : Ty → Cored → CoredRes → CoredRes
let_result_core of part body = (Let of part.0 body.0, part.1 || body.1)

-- `if`
abbrev pub if_result_core : Cored → CoredRes → CoredRes → CoredRes
if_result_core test when_true when_false = (If test.0 when_true.0 when_false.0, test.1 || (when_true.1 || when_false.1))

-- the alternatives alone
abbrev pub result_arm_cores : List CoredResArm → List (PatC × TypedResult)
result_arm_cores arms = map (λ arm. (arm.0.0, arm.1.0)) arms

-- `case`, with the type of the values that are matched
abbrev pub case_result_core : Ty → Cored → List CoredResArm → CoredRes
case_result_core of part arms = (Case of part.0 (result_arm_cores arms), part.1 || list_any (λ arm. arm.0.1 || arm.1.1) arms)

-- an exception by its number
abbrev pub raise_result_core : ℕ → CoredRes
raise_result_core exn = (Raise exn None, false)

-- an exception with what it carries
abbrev pub raise_with_result_core : ℕ → Cored → CoredRes
raise_with_result_core exn part = (Raise exn (Some part.0), part.1)

-- What is said of an expression where a result stands: that it is a result for outputs of the types; that it is one output of
-- the type; and that its parts are outputs of the types.
pub record AsResult : Type 1 where
  pub result : Scope → List Ty → CoredRes → Type 0
  pub output : Scope → Ty → CoredOut → Type 0
  pub outputs : Scope → List Ty → List CoredOut → Type 0

-- an alternative of a `case`
pub record ResultArm : Type 1 where
  pub pat : Pat
  pub body : AsResult

-- the parts are outputs of the types in their places
abbrev pub AllOutputs : Scope → List AsResult → List Ty → List CoredOut → Type 0
AllOutputs scope [] [] [] = Unit {0}
AllOutputs scope (part ∷ parts) (ty ∷ tys) (out ∷ outs) = part.output scope ty out × AllOutputs scope parts tys outs
AllOutputs scope _ _ _ = ⊥

-- of one output it is the output itself, of more its parts are the outputs
abbrev pub OutputsOf : (Scope → Ty → CoredOut → Type 0) → (Scope → List Ty → List CoredOut → Type 0) → Scope → List Ty → List CoredOut → Type 0
OutputsOf Output Outputs scope (ty ∷ []) outs = (out : CoredOut) × Output scope ty out × (outs ≡ out ∷ [])
OutputsOf Output Outputs scope tys outs = Outputs scope tys outs

-- an expression at which a result ends
abbrev pub leaf : (Scope → Ty → CoredOut → Type 0) → (Scope → List Ty → List CoredOut → Type 0) → AsResult
leaf Output Outputs = record {
  result = λ scope tys c. (outs : List CoredOut) × OutputsOf Output Outputs scope tys outs × (c ≡ outs_core outs);
  output = Output;
  outputs = Outputs;
}

-- an output that is there is checked against its type
abbrev pub Valued : Judged → Scope → Ty → CoredOut → Type 0
Valued j scope ty out = (c : Cored) × j.checked scope ty c × (out ≡ value_out c)

-- an expression without parts that are outputs
abbrev pub NoOutputs : Scope → List Ty → List CoredOut → Type 0
NoOutputs scope tys outs = ⊥

-- `*` is an output of any type
abbrev pub star_result : AsResult
star_result = leaf (λ scope ty out. out ≡ absent_out) NoOutputs

-- a tuple is one output, or its parts are the outputs
abbrev pub tuple_result : Judged → List AsResult → AsResult
tuple_result j parts = leaf (Valued j) (λ scope tys outs. AllOutputs scope parts tys outs)

-- any other leaf is one output
abbrev pub plain_result : Judged → AsResult
plain_result j = leaf (Valued j) NoOutputs

-- an expression through which results are followed
abbrev pub followed : Judged → (Scope → List Ty → CoredRes → Type 0) → AsResult
followed j result = record { result = result; output = Valued j; outputs = NoOutputs }

-- a `raise` is a result for any outputs
abbrev pub raise_result : Signatures → List ℕ → Judged → AsResult
raise_result signatures name j = followed j (λ scope tys c. (number : ℕ) × RaisedAlone signatures name number × (c ≡ raise_result_core number))

-- so is one with what the exception carries
abbrev pub raise_with_result : Signatures → List ℕ → Judged → Judged → AsResult
raise_with_result signatures name j a = followed j (λ scope tys c.
    (number : ℕ) × (part : Cored) × RaisedWith signatures name a scope number part × (c ≡ raise_with_result_core number part))

-- `let name = a in b`, of which b is the result
abbrev pub let_result : Judged → List ℕ → Judged → AsResult → AsResult
let_result j name a b = followed j (λ scope tys c.
    (of : Ty) × (part : Cored) × (body : CoredRes) × a.has scope of part × b.result (scope ++ (name, of) ∷ []) tys body
    × (c ≡ let_result_core of part body))

-- `if`, of which both branches are results
abbrev pub if_result : Judged → Judged → AsResult → AsResult → AsResult
if_result j test a b = followed j (λ scope tys c.
    (t : Cored) × (when_true : CoredRes) × (when_false : CoredRes) × test.checked scope BoolTy t × a.result scope tys when_true
    × b.result scope tys when_false × (c ≡ if_result_core t when_true when_false))

-- the alternatives' patterns are checked against the type of what they match, and their bodies are results
abbrev pub ArmsResult : Signatures → Scope → Ty → List ResultArm → List Ty → List CoredResArm → Type 0
ArmsResult signatures scope of [] tys [] = Unit {0}
ArmsResult signatures scope of (arm ∷ arms) tys (c ∷ cs) =
    (vars : Scope) × (pattern signatures arm.pat of ≡ Some (vars, c.0)) × arm.body.result (scope ++ vars) tys c.1
    × ArmsResult signatures scope of arms tys cs
ArmsResult signatures scope of _ tys _ = ⊥

-- `case`, of which the bodies of all alternatives are results
abbrev pub case_result : Signatures → Judged → Judged → List ResultArm → AsResult
case_result signatures j a arms = followed j (λ scope tys c.
    (of : Ty) × (part : Cored) × (cs : List CoredResArm) × a.has scope of part × ArmsResult signatures scope of arms tys cs
    × (c ≡ case_result_core of part cs))

-- an alternative, by what is said of its body
abbrev pub result_arm_with : (X : Type 0) → (X → AsResult) → Pat × X → ResultArm
result_arm_with X k arm = record { pat = arm.0; body = k arm.1 }

-- one level of an expression of which j is said, with what is said of its parts
abbrev pub result_step : Signatures → (X : Type 0) → (X → Exp) → (X → AsResult) → Judged → Exp-F X → AsResult
result_step signatures X v k j (Exp-F.Let name a b) = let_result j name (typing signatures (v a)) (k b)
result_step signatures X v k j (Exp-F.If test a b) = if_result j (typing signatures (v test)) (k a) (k b)
result_step signatures X v k j (Exp-F.Case a arms) = case_result signatures j (typing signatures (v a)) (map (result_arm_with X k) arms)
result_step signatures X v k j (Exp-F.Raise name None) = raise_result signatures name j
result_step signatures X v k j (Exp-F.Raise name (Some a)) = raise_with_result signatures name j (typing signatures (v a))
result_step signatures X v k j (Exp-F.Paren a) = k a
result_step signatures X v k j (Exp-F.Tuple parts) = tuple_result j (map k parts)
result_step signatures X v k j Exp-F.Star = star_result
result_step signatures X v k j _ = plain_result j

-- one level of an expression
abbrev pub result_level : Signatures → (X : Type 0) → (X → Exp) → (X → AsResult) → Exp-F X → AsResult
result_level signatures X v k x = result_step signatures X v k (typing_step signatures X (λ part. typing signatures (v part)) x) x

-- what is said of an expression where a result stands
abbrev pub as_result : Signatures → Exp → AsResult
as_result signatures = rec-Exp AsResult (result_level signatures)

-- the expression is a result for outputs of the types, with this core
abbrev pub IsResult : Signatures → Scope → Exp → List Ty → CoredRes → Type 0
IsResult signatures scope e tys c = (as_result signatures e).result scope tys c
