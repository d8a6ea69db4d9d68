-- A walk over an expression that finds its type and its core, each part once. It is proved to give what `Typing.antt` says, and
-- serves only code that does as it does: nobody needs to believe it.
use Rattle.std.specs.Prelude.{ℕ, ◌&&◌, ◌==◌, Bool, true, false, List, [], ◌∷◌, ◌++◌, length, Option, Some, None, if◌then◌else◌}
use Rattle.hume_base.specs.declared.types.Ty.{Ty, out-Ty, Bool as BoolTy, Char as CharTy, Tuple as TupleTy, Vector as VectorTy, Named as NamedTy}
use Rattle.hume_base.specs.declared.types.Ty.TheOpen.{Ty-F}
use Rattle.hume_ast.specs.declared.tree.BinOp.{BinOp}
use Rattle.hume_ast.specs.declared.tree.BinOp.TheVariants as sign
use Rattle.hume_ast.specs.declared.tree.Pat.{Pat}
use Rattle.hume_ast.specs.declared.tree.TyExp.{TyExp}
use Rattle.hume_ast.specs.declared.tree.Exp.{Exp, fold-Exp}
use Rattle.hume_ast.specs.declared.tree.Exp.TheOpen.{Exp-F}
use Rattle.hume_model.specs.declared.core_tree.Op.{Op}
use Rattle.hume_model.specs.declared.core_tree.Op.TheVariants as op
use Rattle.hume_model.specs.declared.core_tree.ExnDef.{ExnDef}
use Rattle.hume_model.specs.Typing.{is_number_type, is_comparison}
use Rattle.check_typing.specs.Partial.{given, when}
use Rattle.check_typing.specs.Signatures.{Scope, Constructor, exn_named, fun_named, con_named, variable_named}
use Rattle.check_typing.specs.WrittenTypes.{written}
use Rattle.check_typing.specs.Patterns.{pattern}
use Rattle.check_typing.specs.Cores.{Cored, CoredArm, letter_core, truth_core, literal_core, variable_core, let_core, if_core, and_core, or_core, operation_core, neg_core, not_core, convert_core, index_core, update_core, case_core, raise_core, raise_with_core, call_core, con_core, tuple_core, vector_core}
use Rattle.check_typing.specs.Typing.{int32}
use Rattle.check_typing.specs.inner.SameTypes.{is_same}
use Rattle.check_typing.specs.declared.signatures.Signature.{Signature}
use Rattle.check_typing.specs.declared.signatures.Signatures.{Signatures}

-- a type with a core
abbrev pub Typed : Type 0
Typed = Ty × Cored

-- what the walk finds: whether the expression is open, its type and core by itself, and its core against a type
pub record Walk : Type 0 where
  pub is_open : Bool
  pub own : Scope → Option Typed
  pub against : Scope → Ty → Option Cored

-- the core, if the type is the one that is expected
abbrev pub expected : Option Typed → Ty → Option Cored
expected typed ty = given typed (λ t. when (is_same t.0 ty) (Some t.1))

abbrev pub closed_walk : (Scope → Option Typed) → Walk
closed_walk own = record { is_open = false; own = own; against = λ scope ty. expected (own scope) ty }

abbrev pub of_type : Ty → Option Cored → Option Typed
of_type ty core = given core (λ c. Some (ty, c))

abbrev pub opened_walk : (Scope → Ty → Option Cored) → Walk
opened_walk against = record { is_open = true; own = λ scope. of_type int32 (against scope int32); against = against }

-- the parts of a tuple's type
abbrev pub tuple_layer : Ty-F Ty → Option (List Ty)
tuple_layer (Ty-F.Tuple tys) = Some tys
tuple_layer _ = None

abbrev pub tuple_parts : Ty → Option (List Ty)
tuple_parts ty = tuple_layer (out-Ty ty)

-- the length and the element of a vector's type
abbrev pub vector_layer : Ty-F Ty → Option (ℕ × Ty)
vector_layer (Ty-F.Vector count item) = Some (count, item)
vector_layer _ = None

abbrev pub vector_parts : Ty → Option (ℕ × Ty)
vector_parts ty = vector_layer (out-Ty ty)

abbrev pub literal_walk : Bool → ℕ → Walk
literal_walk negative amount = opened_walk (λ scope ty. when (is_number_type ty) (Some (literal_core negative amount ty)))

abbrev pub letter_walk : ℕ → Walk
letter_walk byte = closed_walk (λ scope. Some (CharTy, letter_core byte))

abbrev pub truth_walk : Bool → Walk
truth_walk truth = closed_walk (λ scope. Some (BoolTy, truth_core truth))

abbrev pub let_walk : List ℕ → Walk → Walk → Walk
let_walk name a b = record {
  is_open = b.is_open;
  own = λ scope. given (a.own scope) (λ part. given (b.own (scope ++ (name, part.0) ∷ [])) (λ body. Some (body.0, let_core part.0 part.1 body.1)));
  against = λ scope ty. given (a.own scope) (λ part. given (b.against (scope ++ (name, part.0) ∷ []) ty) (λ body. Some (let_core part.0 part.1 body)));
}

-- two parts against a type
abbrev pub two_against : Walk → Walk → Scope → Ty → Option (Cored × Cored)
two_against a b scope ty = given (a.against scope ty) (λ left. given (b.against scope ty) (λ right. Some (left, right)))

-- two parts by themselves: the type of the first that isn't open, against which the other one is checked
abbrev pub two_own : Bool → Bool → Walk → Walk → Scope → Option (Ty × Cored × Cored)
two_own false b_open a b scope = given (a.own scope) (λ left. given (b.against scope left.0) (λ right. Some (left.0, left.1, right)))
two_own true false a b scope = given (b.own scope) (λ right. given (a.against scope right.0) (λ left. Some (right.0, left, right.1)))
two_own true true a b scope = given (a.against scope int32) (λ left. given (b.against scope int32) (λ right. Some (int32, left, right)))

abbrev pub if_walk : Walk → Walk → Walk → Walk
if_walk test a b = record {
  is_open = a.is_open && b.is_open;
  own = λ scope. given (test.against scope BoolTy) (λ t. given (two_own a.is_open b.is_open a b scope) (λ two. Some (two.0, if_core t two.1 two.2)));
  against = λ scope ty. given (test.against scope BoolTy) (λ t. given (two_against a b scope ty) (λ two. Some (if_core t two.0 two.1)));
}

-- the alternatives of a `case`, their bodies against a type
abbrev pub arms_against : Signatures → Scope → Ty → List (Pat × Walk) → Ty → Option (List CoredArm)
arms_against signatures scope of [] ty = Some []
arms_against signatures scope of (arm ∷ arms) ty =
    given (pattern signatures arm.0 of) (λ bound. given (arm.1.against (scope ++ bound.0) ty) (λ body.
    given (arms_against signatures scope of arms ty) (λ others. Some ((bound.1, body) ∷ others))))

-- the alternatives by themselves: the type of the first body that isn't open, against which the others are checked
abbrev pub arms_own : Signatures → Scope → Ty → List (Pat × Walk) → Option (Ty × List CoredArm)
arms_own signatures scope of [] = Some (int32, [])
arms_own signatures scope of (arm ∷ arms) =
    if arm.1.is_open
    then given (arms_own signatures scope of arms) (λ others. given (pattern signatures arm.0 of) (λ bound.
    given (arm.1.against (scope ++ bound.0) others.0) (λ body. Some (others.0, (bound.1, body) ∷ others.1))))
    else given (pattern signatures arm.0 of) (λ bound. given (arm.1.own (scope ++ bound.0)) (λ body.
    given (arms_against signatures scope of arms body.0) (λ others. Some (body.0, (bound.1, body.1) ∷ others))))

abbrev pub arm_walks_open : List (Pat × Walk) → Bool
arm_walks_open [] = true
arm_walks_open (arm ∷ arms) = arm.1.is_open && arm_walks_open arms

abbrev pub case_walk : Signatures → Walk → List (Pat × Walk) → Walk
case_walk signatures a arms = record {
  is_open = arm_walks_open arms;
  own = λ scope. given (a.own scope) (λ part. given (arms_own signatures scope part.0 arms) (λ all. Some (all.0, case_core part.0 part.1 all.1)));
  against = λ scope ty. given (a.own scope) (λ part.
      given (arms_against signatures scope part.0 arms ty) (λ all. Some (case_core part.0 part.1 all)));
}

abbrev pub carries_none : ℕ → Option Ty → Option ℕ
carries_none number None = Some number
carries_none number (Some carried) = None

-- an exception that carries nothing
abbrev pub raised_alone : Option (ℕ × ExnDef) → Option ℕ
raised_alone exn = given exn (λ found. carries_none found.0 found.1.carries)

abbrev pub raise_walk : Signatures → List ℕ → Walk
raise_walk signatures name = opened_walk (λ scope ty. given (raised_alone (exn_named name signatures)) (λ number. Some (raise_core number)))

-- an exception with what it carries
abbrev pub raised_with : Option (ℕ × ExnDef) → Walk → Scope → Option (ℕ × Cored)
raised_with exn a scope = given exn (λ found. given found.1.carries (λ carried. given (a.against scope carried) (λ part. Some (found.0, part))))

abbrev pub raise_with_walk : Signatures → List ℕ → Walk → Walk
raise_with_walk signatures name a =
    opened_walk (λ scope ty. given (raised_with (exn_named name signatures) a scope) (λ raised. Some (raise_with_core raised.0 raised.1)))

abbrev pub arithmetic_walk : Op → Walk → Walk → Walk
arithmetic_walk operation a b = record {
  is_open = a.is_open && b.is_open;
  own = λ scope. given (two_own a.is_open b.is_open a b scope) (λ two.
      when (is_number_type two.0) (Some (two.0, operation_core operation two.0 two.1 two.2)));
  against = λ scope ty. when (is_number_type ty) (given (two_against a b scope ty) (λ two. Some (operation_core operation ty two.0 two.1)));
}

abbrev pub comparison_walk : Op → Walk → Walk → Walk
comparison_walk operation a b = closed_walk (λ scope. given (two_own a.is_open b.is_open a b scope) (λ two.
    when (is_comparison operation two.0) (Some (BoolTy, operation_core operation two.0 two.1 two.2))))

abbrev pub logic_walk : (Cored → Cored → Cored) → Walk → Walk → Walk
logic_walk core a b = closed_walk (λ scope. given (two_against a b scope BoolTy) (λ two. Some (BoolTy, core two.0 two.1)))

abbrev pub not_walk : Walk → Walk
not_walk a = closed_walk (λ scope. given (a.against scope BoolTy) (λ part. Some (BoolTy, not_core part)))

abbrev pub neg_walk : Walk → Walk
neg_walk a = record {
  is_open = a.is_open;
  own = λ scope. given (a.own scope) (λ part. when (is_number_type part.0) (Some (part.0, neg_core part.0 part.1)));
  against = λ scope ty. when (is_number_type ty) (given (a.against scope ty) (λ part. Some (neg_core ty part)));
}

abbrev pub index_walk : Walk → Walk → Walk
index_walk a b = closed_walk (λ scope. given (a.own scope) (λ vector. given (vector_parts vector.0) (λ parts. given (b.own scope) (λ place.
    when (is_number_type place.0) (Some (parts.1, index_core vector.0 place.0 vector.1 place.1))))))

-- an update of a vector of the type
abbrev pub updated : Walk → Walk → Scope → Ty → Cored → Option Cored
updated b d scope ty vector = given (vector_parts ty) (λ parts. given (b.own scope) (λ place. when (is_number_type place.0)
    (given (d.against scope parts.1) (λ new_item. Some (update_core ty place.0 vector place.1 new_item)))))

abbrev pub update_walk : Walk → Walk → Walk → Walk
update_walk a b d = record {
  is_open = false;
  own = λ scope. given (a.own scope) (λ vector. of_type vector.0 (updated b d scope vector.0 vector.1));
  against = λ scope ty. given (a.against scope ty) (λ vector. updated b d scope ty vector);
}

abbrev pub cast_walk : Signatures → Walk → TyExp → Walk
cast_walk signatures a type = closed_walk (λ scope. given (written signatures.types type) (λ ty. when (is_number_type ty)
    (given (a.own scope) (λ part. when (is_number_type part.0) (Some (ty, convert_core part.0 ty part.1))))))

-- parts against the types in their places
abbrev pub all_against : Scope → List Walk → List Ty → Option (List Cored)
all_against scope [] [] = Some []
all_against scope [] (ty ∷ tys) = None
all_against scope (part ∷ parts) [] = None
all_against scope (part ∷ parts) (ty ∷ tys) =
    given (part.against scope ty) (λ first. given (all_against scope parts tys) (λ others. Some (first ∷ others)))

-- parts by themselves
abbrev pub all_own : Scope → List Walk → Option (List Ty × List Cored)
all_own scope [] = Some ([], [])
all_own scope (part ∷ parts) = given (part.own scope) (λ first. given (all_own scope parts) (λ others. Some (first.0 ∷ others.0, first.1 ∷ others.1)))

abbrev pub app_walk : Signatures → List ℕ → List Walk → Walk
app_walk signatures name [] = closed_walk (λ scope. given (variable_named name scope) (λ found. Some (found.1, variable_core found.0)))
app_walk signatures name (part ∷ parts) = closed_walk (λ scope. given (fun_named name signatures) (λ (found : ℕ × Signature).
    given (all_against scope (part ∷ parts) found.1.params) (λ cs. Some (found.1.gives, call_core found.0 cs))))

abbrev pub con_walk : Signatures → List ℕ → List Walk → Walk
con_walk signatures name parts = closed_walk (λ scope. given (con_named name signatures) (λ (con : Constructor).
    given (all_against scope parts con.fields) (λ cs. Some (NamedTy con.sum, con_core con.place cs))))

abbrev pub tuple_walk : List Walk → Walk
tuple_walk parts = record {
  is_open = false;
  own = λ scope. given (all_own scope parts) (λ all. Some (TupleTy all.0, tuple_core all.1));
  against = λ scope ty. given (tuple_parts ty) (λ tys. given (all_against scope parts tys) (λ cs. Some (tuple_core cs)));
}

-- parts against one type
abbrev pub each_against : Scope → List Walk → Ty → Option (List Cored)
each_against scope [] ty = Some []
each_against scope (part ∷ parts) ty = given (part.against scope ty) (λ first. given (each_against scope parts ty) (λ others. Some (first ∷ others)))

-- parts by themselves: the type of the first that isn't open, against which the others are checked
abbrev pub each_own : Scope → List Walk → Option (Ty × List Cored)
each_own scope [] = Some (int32, [])
each_own scope (part ∷ parts) =
    if part.is_open
    then given (each_own scope parts) (λ others. given (part.against scope others.0) (λ first. Some (others.0, first ∷ others.1)))
    else given (part.own scope) (λ first. given (each_against scope parts first.0) (λ others. Some (first.0, first.1 ∷ others)))

abbrev pub vector_walk : List Walk → Walk
vector_walk parts = record {
  is_open = false;
  own = λ scope. given (each_own scope parts) (λ all. Some (VectorTy (length parts) all.0, vector_core all.1));
  against = λ scope ty. given (vector_parts ty) (λ of.
      when (length parts == of.0) (given (each_against scope parts of.1) (λ cs. Some (vector_core cs))));
}

abbrev pub star_walk : Walk
star_walk = closed_walk (λ scope. None)

abbrev pub binary_walk : BinOp → Walk → Walk → Walk
binary_walk sign.Or a b = logic_walk or_core a b
binary_walk sign.And a b = logic_walk and_core a b
binary_walk sign.Eq a b = comparison_walk op.Eq a b
binary_walk sign.Ne a b = comparison_walk op.Ne a b
binary_walk sign.Lt a b = comparison_walk op.Lt a b
binary_walk sign.Le a b = comparison_walk op.Le a b
binary_walk sign.Gt a b = comparison_walk op.Gt a b
binary_walk sign.Ge a b = comparison_walk op.Ge a b
binary_walk sign.Add a b = arithmetic_walk op.Add a b
binary_walk sign.Sub a b = arithmetic_walk op.Sub a b
binary_walk sign.Mul a b = arithmetic_walk op.Mul a b
binary_walk sign.Div a b = arithmetic_walk op.Div a b
binary_walk sign.Mod a b = arithmetic_walk op.Mod a b
binary_walk sign.At a b = index_walk a b

-- one level, with what is found of the parts
abbrev pub walk_step : Signatures → Exp-F Walk → Walk
walk_step signatures (Exp-F.Let name a b) = let_walk name a b
walk_step signatures (Exp-F.If test a b) = if_walk test a b
walk_step signatures (Exp-F.Case a arms) = case_walk signatures a arms
walk_step signatures (Exp-F.Raise name None) = raise_walk signatures name
walk_step signatures (Exp-F.Raise name (Some a)) = raise_with_walk signatures name a
walk_step signatures (Exp-F.Binary sign a b) = binary_walk sign a b
walk_step signatures (Exp-F.Neg a) = neg_walk a
walk_step signatures (Exp-F.Not a) = not_walk a
walk_step signatures (Exp-F.App name parts) = app_walk signatures name parts
walk_step signatures (Exp-F.Con name parts) = con_walk signatures name parts
walk_step signatures (Exp-F.Update a b d) = update_walk a b d
walk_step signatures (Exp-F.Num negative amount) = literal_walk negative amount
walk_step signatures (Exp-F.Letter byte) = letter_walk byte
walk_step signatures (Exp-F.Truth truth) = truth_walk truth
walk_step signatures (Exp-F.Paren a) = a
walk_step signatures (Exp-F.Tuple parts) = tuple_walk parts
walk_step signatures (Exp-F.Cast a type) = cast_walk signatures a type
walk_step signatures (Exp-F.Vect parts) = vector_walk parts
walk_step signatures Exp-F.Star = star_walk

-- what the walk finds of an expression
abbrev pub walk : Signatures → Exp → Walk
walk signatures = fold-Exp Walk (walk_step signatures)
