-- A walk over a result that finds its core. Like the other walk it serves only code that does as it does.
use Rattle.std.specs.Prelude.{ℕ, List, [], ◌∷◌, ◌++◌, Option, Some, None}
use Rattle.hume_base.specs.declared.types.Ty.{Ty, Bool as BoolTy}
use Rattle.hume_ast.specs.declared.tree.Pat.{Pat}
use Rattle.hume_ast.specs.declared.tree.Exp.{Exp, fold-Exp, map-Exp}
use Rattle.hume_ast.specs.declared.tree.Exp.TheOpen.{Exp-F}
use Rattle.check_typing.specs.Partial.{given}
use Rattle.check_typing.specs.Signatures.{Scope, exn_named}
use Rattle.check_typing.specs.Patterns.{pattern}
use Rattle.check_typing.specs.Results.{CoredRes, CoredOut, CoredResArm, absent_out, value_out, outs_core, let_result_core, if_result_core, case_result_core, raise_result_core, raise_with_result_core}
use Rattle.check_typing.specs.inner.Walk.{Walk, walk_step, raised_alone, raised_with}
use Rattle.check_typing.specs.declared.signatures.Signatures.{Signatures}

-- What the walk finds where a result stands: the core of the result, of one output, and of the outputs that are its parts; and
-- what the other walk finds of the expression.
pub record ResultWalk : Type 0 where
  pub walk : Walk
  pub result : Scope → List Ty → Option CoredRes
  pub output : Scope → Ty → Option CoredOut
  pub outputs : Scope → List Ty → Option (List CoredOut)

abbrev pub outputs_of : (Scope → Ty → Option CoredOut) → (Scope → List Ty → Option (List CoredOut)) → Scope → List Ty → Option (List CoredOut)
outputs_of output outputs scope (ty ∷ []) = given (output scope ty) (λ out. Some (out ∷ []))
outputs_of output outputs scope tys = outputs scope tys

abbrev pub leaf_walk : Walk → (Scope → Ty → Option CoredOut) → (Scope → List Ty → Option (List CoredOut)) → ResultWalk
leaf_walk w output outputs = record {
  walk = w;
  result = λ scope tys. given (outputs_of output outputs scope tys) (λ outs. Some (outs_core outs));
  output = output;
  outputs = outputs;
}

abbrev pub valued : Walk → Scope → Ty → Option CoredOut
valued w scope ty = given (w.against scope ty) (λ c. Some (value_out c))

abbrev pub no_outputs : Scope → List Ty → Option (List CoredOut)
no_outputs scope tys = None

-- parts that are outputs of the types in their places
abbrev pub all_outputs : Scope → List ResultWalk → List Ty → Option (List CoredOut)
all_outputs scope [] [] = Some []
all_outputs scope [] (ty ∷ tys) = None
all_outputs scope (part ∷ parts) [] = None
all_outputs scope (part ∷ parts) (ty ∷ tys) =
    given (part.output scope ty) (λ first. given (all_outputs scope parts tys) (λ others. Some (first ∷ others)))

abbrev pub followed_walk : Walk → (Scope → List Ty → Option CoredRes) → ResultWalk
followed_walk w result = record { walk = w; result = result; output = valued w; outputs = no_outputs }

abbrev pub star_result_walk : Walk → ResultWalk
star_result_walk w = leaf_walk w (λ scope ty. Some absent_out) no_outputs

abbrev pub tuple_result_walk : Walk → List ResultWalk → ResultWalk
tuple_result_walk w parts = leaf_walk w (valued w) (λ scope tys. all_outputs scope parts tys)

abbrev pub plain_result_walk : Walk → ResultWalk
plain_result_walk w = leaf_walk w (valued w) no_outputs

abbrev pub paren_result_walk : Walk → ResultWalk → ResultWalk
paren_result_walk w a = record { walk = w; result = a.result; output = a.output; outputs = a.outputs }

abbrev pub raise_result_walk : Signatures → List ℕ → Walk → ResultWalk
raise_result_walk signatures name w = followed_walk w (λ scope tys.
    given (raised_alone (exn_named name signatures)) (λ number. Some (raise_result_core number)))

abbrev pub raise_with_result_walk : Signatures → List ℕ → Walk → Walk → ResultWalk
raise_with_result_walk signatures name w a = followed_walk w (λ scope tys.
    given (raised_with (exn_named name signatures) a scope) (λ raised. Some (raise_with_result_core raised.0 raised.1)))

abbrev pub let_result_walk : Walk → List ℕ → Walk → ResultWalk → ResultWalk
let_result_walk w name a b = followed_walk w (λ scope tys.
    given (a.own scope) (λ part. given (b.result (scope ++ (name, part.0) ∷ []) tys) (λ body. Some (let_result_core part.0 part.1 body))))

abbrev pub if_result_walk : Walk → Walk → ResultWalk → ResultWalk → ResultWalk
if_result_walk w test a b = followed_walk w (λ scope tys.
    given (test.against scope BoolTy) (λ t. given (a.result scope tys) (λ when_true. given (b.result scope tys) (λ when_false.
    Some (if_result_core t when_true when_false)))))

-- the alternatives of a `case`
abbrev pub arms_result : Signatures → Scope → Ty → List (Pat × ResultWalk) → List Ty → Option (List CoredResArm)
arms_result signatures scope of [] tys = Some []
arms_result signatures scope of (arm ∷ arms) tys =
    given (pattern signatures arm.0 of) (λ bound. given (arm.1.result (scope ++ bound.0) tys) (λ body.
    given (arms_result signatures scope of arms tys) (λ others. Some ((bound.1, body) ∷ others))))

abbrev pub case_result_walk : Signatures → Walk → Walk → List (Pat × ResultWalk) → ResultWalk
case_result_walk signatures w a arms = followed_walk w (λ scope tys.
    given (a.own scope) (λ part. given (arms_result signatures scope part.0 arms tys) (λ all. Some (case_result_core part.0 part.1 all))))

-- one level of an expression of which the other walk finds w
abbrev pub result_walk_form : Signatures → Walk → Exp-F ResultWalk → ResultWalk
result_walk_form signatures w (Exp-F.Let name a b) = let_result_walk w name a.walk b
result_walk_form signatures w (Exp-F.If test a b) = if_result_walk w test.walk a b
result_walk_form signatures w (Exp-F.Case a arms) = case_result_walk signatures w a.walk arms
result_walk_form signatures w (Exp-F.Raise name None) = raise_result_walk signatures name w
result_walk_form signatures w (Exp-F.Raise name (Some a)) = raise_with_result_walk signatures name w a.walk
result_walk_form signatures w (Exp-F.Paren a) = paren_result_walk w a
result_walk_form signatures w (Exp-F.Tuple parts) = tuple_result_walk w parts
result_walk_form signatures w Exp-F.Star = star_result_walk w
result_walk_form signatures w _ = plain_result_walk w

abbrev pub result_walk_step : Signatures → Exp-F ResultWalk → ResultWalk
result_walk_step signatures x = result_walk_form signatures (walk_step signatures (map-Exp ResultWalk Walk (λ part. part.walk) x)) x

-- what the walk finds of a result
abbrev pub result_walk : Signatures → Exp → ResultWalk
result_walk signatures = fold-Exp ResultWalk (result_walk_step signatures)
