-- Which types an expression has, and with which typed core: a row for each form.
use Rattle.std.specs.Prelude.{◌≡◌, ℕ, ◌&&◌, Bool, true, false, List, [], ◌∷◌, ◌++◌, length, map, Some, None}
use Rattle.hume_base.specs.declared.types.Ty.{Ty, Bool as BoolTy, Char as CharTy, Int, Tuple as TupleTy, Vector as VectorTy, Named as NamedTy}
use Rattle.hume_ast.specs.declared.tree.BinOp.{BinOp}
use Rattle.hume_ast.specs.declared.tree.BinOp.TheVariants as sign
use Rattle.hume_ast.specs.declared.tree.Pat.{Pat}
use Rattle.hume_ast.specs.declared.tree.TyExp.{TyExp}
use Rattle.hume_ast.specs.declared.tree.Exp.{Exp, rec-Exp}
use Rattle.hume_ast.specs.declared.tree.Exp.TheOpen.{Exp-F}
use Rattle.hume_model.specs.declared.core_tree.Op.{Op}
use Rattle.hume_model.specs.declared.core_tree.Op.TheVariants as op
use Rattle.hume_model.specs.declared.core_tree.ExnDef.{ExnDef}
use Rattle.hume_model.specs.Typing.{is_number_type, is_comparison}
use Rattle.check_typing.specs.Signatures.{Scope, Constructor, exn_named, fun_named, con_named, variable_named}
use Rattle.check_typing.specs.WrittenTypes.{written}
use Rattle.check_typing.specs.Patterns.{CoredPat, pattern}
use Rattle.check_typing.specs.Cores.{Cored, CoredArm, letter_core, truth_core, literal_core, variable_core, let_core, if_core, and_core, or_core, operation_core, neg_core, not_core, convert_core, index_core, update_core, case_core, raise_core, raise_with_core, call_core, con_core, tuple_core, vector_core}
use Rattle.check_typing.specs.declared.signatures.Signature.{Signature}
use Rattle.check_typing.specs.declared.signatures.Signatures.{Signatures}

-- What is said of an expression: whether it is open, so has no type of its own; that it has a type by itself; and that it is
-- checked against a type. The last two are said with the core that belongs to it.
pub record Judged : Type 1 where
  pub is_open : Bool
  pub has : Scope → Ty → Cored → Type 0
  pub checked : Scope → Ty → Cored → Type 0

-- an alternative of a `case`
pub record Arm : Type 1 where
  pub pat : Pat
  pub body : Judged

-- the type of an open expression where no type is expected
abbrev pub int32 : Ty
int32 = Int 32

-- an expression with a type of its own: what it is checked against must be that type
abbrev pub closed : (Scope → Ty → Cored → Type 0) → Judged
closed has = record { is_open = false; has = has; checked = has }

-- an open one: where no type is expected it is checked against int 32
abbrev pub opened : (Scope → Ty → Cored → Type 0) → Judged
opened checked = record { is_open = true; has = λ scope ty c. (ty ≡ int32) × checked scope ty c; checked = checked }

-- the parts have the types in their places by themselves
abbrev pub AllHave : Scope → List Judged → List Ty → List Cored → Type 0
AllHave scope [] [] [] = Unit {0}
AllHave scope (part ∷ parts) (ty ∷ tys) (c ∷ cs) = part.has scope ty c × AllHave scope parts tys cs
AllHave scope _ _ _ = ⊥

-- the parts are checked against the types in their places
abbrev pub AllChecked : Scope → List Judged → List Ty → List Cored → Type 0
AllChecked scope [] [] [] = Unit {0}
AllChecked scope (part ∷ parts) (ty ∷ tys) (c ∷ cs) = part.checked scope ty c × AllChecked scope parts tys cs
AllChecked scope _ _ _ = ⊥

-- the parts are checked against one type
abbrev pub EachChecked : Scope → List Judged → Ty → List Cored → Type 0
EachChecked scope [] ty [] = Unit {0}
EachChecked scope (part ∷ parts) ty (c ∷ cs) = part.checked scope ty c × EachChecked scope parts ty cs
EachChecked scope _ ty _ = ⊥

-- the first statement or the second one
abbrev pub either_type : Bool → Type 0 → Type 0 → Type 0
either_type true A B = A
either_type false A B = B

-- the type of the first part that isn't open, or int 32
abbrev pub FirstType : List Judged → Scope → Ty → Type 0
FirstType [] scope ty = ty ≡ int32
FirstType (part ∷ parts) scope ty = either_type part.is_open (FirstType parts scope ty) ((c : Cored) × part.has scope ty c)

-- a number literal is of any `int` or `nat`
abbrev pub literal_typing : Bool → ℕ → Judged
literal_typing negative amount = opened (λ scope ty c. (is_number_type ty ≡ true) × (c ≡ literal_core negative amount ty))

-- a letter is a `char`
abbrev pub letter_typing : ℕ → Judged
letter_typing byte = closed (λ scope ty c. (ty ≡ CharTy) × (c ≡ letter_core byte))

-- `true` and `false` are `bool`
abbrev pub truth_typing : Bool → Judged
truth_typing truth = closed (λ scope ty c. (ty ≡ BoolTy) × (c ≡ truth_core truth))

-- the first part has a type by itself, and the body is said of it
abbrev pub Binding : List ℕ → Judged → (Scope → Ty → Cored → Type 0) → Scope → Ty → Cored → Type 0
Binding name a Body scope ty c =
    (of : Ty) × (part : Cored) × (body : Cored) × a.has scope of part × Body (scope ++ (name, of) ∷ []) ty body × (c ≡ let_core of part body)

-- `let name = a in b`: the variable has the type that a has by itself
abbrev pub let_typing : List ℕ → Judged → Judged → Judged
let_typing name a b = record { is_open = b.is_open; has = Binding name a b.has; checked = Binding name a b.checked }

-- the test is checked against `bool`, and both branches against the type
abbrev pub Branches : Judged → Judged → Judged → Scope → Ty → Cored → Type 0
Branches test a b scope ty c =
    (t : Cored) × (when_true : Cored) × (when_false : Cored) × test.checked scope BoolTy t × a.checked scope ty when_true
    × b.checked scope ty when_false × (c ≡ if_core t when_true when_false)

-- `if test then a else b`
abbrev pub if_typing : Judged → Judged → Judged → Judged
if_typing test a b = record {
  is_open = a.is_open && b.is_open;
  has = λ scope ty c. FirstType (a ∷ b ∷ []) scope ty × Branches test a b scope ty c;
  checked = Branches test a b;
}

-- the alternatives' patterns are checked against the type of what they match, and their bodies against the other type
abbrev pub ArmsChecked : Signatures → Scope → Ty → List Arm → Ty → List CoredArm → Type 0
ArmsChecked signatures scope of [] ty [] = Unit {0}
ArmsChecked signatures scope of (arm ∷ arms) ty (c ∷ cs) =
    (vars : Scope) × (pattern signatures arm.pat of ≡ Some (vars, c.0)) × arm.body.checked (scope ++ vars) ty c.1
    × ArmsChecked signatures scope of arms ty cs
ArmsChecked signatures scope of _ ty _ = ⊥

-- the body of the alternative has the type by itself
abbrev pub ArmHas : Signatures → Scope → Ty → Arm → Ty → Type 0
ArmHas signatures scope of arm ty =
    (vars : Scope) × (p : CoredPat) × (c : Cored) × (pattern signatures arm.pat of ≡ Some (vars, p)) × arm.body.has (scope ++ vars) ty c

-- the type of the first body that isn't open, or int 32
abbrev pub FirstArmType : Signatures → Scope → Ty → List Arm → Ty → Type 0
FirstArmType signatures scope of [] ty = ty ≡ int32
FirstArmType signatures scope of (arm ∷ arms) ty =
    either_type arm.body.is_open (FirstArmType signatures scope of arms ty) (ArmHas signatures scope of arm ty)

-- the bodies of all alternatives are open
abbrev pub all_arms_open : List Arm → Bool
all_arms_open [] = true
all_arms_open (arm ∷ arms) = arm.body.is_open && all_arms_open arms

-- what is matched has its type by itself, and the alternatives are checked against both types
abbrev pub Alternatives : Signatures → Judged → List Arm → Scope → Ty → Ty → Cored → Type 0
Alternatives signatures a arms scope of ty c =
    (part : Cored) × (cs : List CoredArm) × a.has scope of part × ArmsChecked signatures scope of arms ty cs × (c ≡ case_core of part cs)

-- `case`: what is matched has its type by itself
abbrev pub case_typing : Signatures → Judged → List Arm → Judged
case_typing signatures a arms = record {
  is_open = all_arms_open arms;
  has = λ scope ty c. (of : Ty) × FirstArmType signatures scope of arms ty × Alternatives signatures a arms scope of ty c;
  checked = λ scope ty c. (of : Ty) × Alternatives signatures a arms scope of ty c;
}

-- an exception that carries nothing
abbrev pub RaisedAlone : Signatures → List ℕ → ℕ → Type 0
RaisedAlone signatures name number = (exn : ExnDef) × (exn_named name signatures ≡ Some (number, exn)) × (exn.carries ≡ None)

-- `raise name`
abbrev pub raise_typing : Signatures → List ℕ → Judged
raise_typing signatures name = opened (λ scope ty c. (number : ℕ) × RaisedAlone signatures name number × (c ≡ raise_core number))

-- an exception with what it carries, which is checked against what it may carry
abbrev pub RaisedWith : Signatures → List ℕ → Judged → Scope → ℕ → Cored → Type 0
RaisedWith signatures name a scope number part =
    (exn : ExnDef) × (carried : Ty) × (exn_named name signatures ≡ Some (number, exn)) × (exn.carries ≡ Some carried) × a.checked scope carried part

-- `raise name a`
abbrev pub raise_with_typing : Signatures → List ℕ → Judged → Judged
raise_with_typing signatures name a =
    opened (λ scope ty c. (number : ℕ) × (part : Cored) × RaisedWith signatures name a scope number part × (c ≡ raise_with_core number part))

-- both operands are checked against the type, which is one of numbers
abbrev pub Arithmetic : Op → Judged → Judged → Scope → Ty → Cored → Type 0
Arithmetic operation a b scope ty c =
    (left : Cored) × (right : Cored) × (is_number_type ty ≡ true) × a.checked scope ty left × b.checked scope ty right
    × (c ≡ operation_core operation ty left right)

-- `+`, `-`, `*`, `div` and `mod`
abbrev pub arithmetic_typing : Op → Judged → Judged → Judged
arithmetic_typing operation a b = record {
  is_open = a.is_open && b.is_open;
  has = λ scope ty c. FirstType (a ∷ b ∷ []) scope ty × Arithmetic operation a b scope ty c;
  checked = Arithmetic operation a b;
}

-- the operands are checked against the type of the first one that isn't open
abbrev pub comparison_typing : Op → Judged → Judged → Judged
comparison_typing operation a b = closed (λ scope ty c.
    (of : Ty) × (left : Cored) × (right : Cored) × (ty ≡ BoolTy) × FirstType (a ∷ b ∷ []) scope of × (is_comparison operation of ≡ true)
    × a.checked scope of left × b.checked scope of right × (c ≡ operation_core operation of left right))

-- `and` and `or`
abbrev pub logic_typing : (Cored → Cored → Cored) → Judged → Judged → Judged
logic_typing core a b = closed (λ scope ty c.
    (left : Cored) × (right : Cored) × (ty ≡ BoolTy) × a.checked scope BoolTy left × b.checked scope BoolTy right × (c ≡ core left right))

-- `not a`
abbrev pub not_typing : Judged → Judged
not_typing a = closed (λ scope ty c. (part : Cored) × (ty ≡ BoolTy) × a.checked scope BoolTy part × (c ≡ not_core part))

-- the operand is of the type, which is one of numbers
abbrev pub Negation : (Scope → Ty → Cored → Type 0) → Scope → Ty → Cored → Type 0
Negation Part scope ty c = (part : Cored) × (is_number_type ty ≡ true) × Part scope ty part × (c ≡ neg_core ty part)

-- `- a`
abbrev pub neg_typing : Judged → Judged
neg_typing a = record { is_open = a.is_open; has = Negation a.has; checked = Negation a.checked }

-- `a @ b`
abbrev pub index_typing : Judged → Judged → Judged
index_typing a b = closed (λ scope ty c.
    (count : ℕ) × (of : Ty) × (vector : Cored) × (place : Cored) × a.has scope (VectorTy count ty) vector × b.has scope of place
    × (is_number_type of ≡ true) × (c ≡ index_core (VectorTy count ty) of vector place))

-- the vector is of the type, the place is a number, and the new element is checked against the type of the elements
abbrev pub Updated : (Scope → Ty → Cored → Type 0) → Judged → Judged → Scope → Ty → Cored → Type 0
Updated Vector b d scope ty c =
    (count : ℕ) × (item : Ty) × (of : Ty) × (vector : Cored) × (place : Cored) × (new_item : Cored) × (ty ≡ VectorTy count item)
    × Vector scope ty vector × b.has scope of place × (is_number_type of ≡ true) × d.checked scope item new_item
    × (c ≡ update_core ty of vector place new_item)

-- `update a b d`
abbrev pub update_typing : Judged → Judged → Judged → Judged
update_typing a b d = record { is_open = false; has = Updated a.has b d; checked = Updated a.checked b d }

-- `(a as type)`
abbrev pub cast_typing : Signatures → Judged → TyExp → Judged
cast_typing signatures a type = closed (λ scope ty c.
    (of : Ty) × (part : Cored) × (written signatures.types type ≡ Some ty) × (is_number_type ty ≡ true) × a.has scope of part
    × (is_number_type of ≡ true) × (c ≡ convert_core of ty part))

-- a small name: a variable where it stands alone, else a function
abbrev pub app_typing : Signatures → List ℕ → List Judged → Judged
app_typing signatures name [] = closed (λ scope ty c. (number : ℕ) × (variable_named name scope ≡ Some (number, ty)) × (c ≡ variable_core number))
app_typing signatures name (part ∷ parts) = closed (λ scope ty c.
    (number : ℕ) × (function : Signature) × (cs : List Cored) × (fun_named name signatures ≡ Some (number, function)) × (ty ≡ function.gives)
    × AllChecked scope (part ∷ parts) function.params cs × (c ≡ call_core number cs))

-- a constructor, of which the fields are checked against their types
abbrev pub con_typing : Signatures → List ℕ → List Judged → Judged
con_typing signatures name parts = closed (λ scope ty c.
    (con : Constructor) × (cs : List Cored) × (con_named name signatures ≡ Some con) × (ty ≡ NamedTy con.sum) × AllChecked scope parts con.fields cs
    × (c ≡ con_core con.place cs))

-- a tuple: its parts by themselves, or against the parts of the type
abbrev pub tuple_typing : List Judged → Judged
tuple_typing parts = record {
  is_open = false;
  has = λ scope ty c. (tys : List Ty) × (cs : List Cored) × (ty ≡ TupleTy tys) × AllHave scope parts tys cs × (c ≡ tuple_core cs);
  checked = λ scope ty c. (tys : List Ty) × (cs : List Cored) × (ty ≡ TupleTy tys) × AllChecked scope parts tys cs × (c ≡ tuple_core cs);
}

-- the elements are checked against one type, and there are as many as the type says
abbrev pub Elements : List Judged → Scope → Ty → Ty → Cored → Type 0
Elements parts scope item ty c = (cs : List Cored) × (ty ≡ VectorTy (length parts) item) × EachChecked scope parts item cs × (c ≡ vector_core cs)

-- a vector
abbrev pub vector_typing : List Judged → Judged
vector_typing parts = record {
  is_open = false;
  has = λ scope ty c. (item : Ty) × FirstType parts scope item × Elements parts scope item ty c;
  checked = λ scope ty c. (item : Ty) × Elements parts scope item ty c;
}

-- `*` is an output, and no expression of any type
abbrev pub star_typing : Judged
star_typing = closed (λ scope ty c. ⊥)

-- the operators between two parts
abbrev pub binary_typing : BinOp → Judged → Judged → Judged
binary_typing sign.Or a b = logic_typing or_core a b
binary_typing sign.And a b = logic_typing and_core a b
binary_typing sign.Eq a b = comparison_typing op.Eq a b
binary_typing sign.Ne a b = comparison_typing op.Ne a b
binary_typing sign.Lt a b = comparison_typing op.Lt a b
binary_typing sign.Le a b = comparison_typing op.Le a b
binary_typing sign.Gt a b = comparison_typing op.Gt a b
binary_typing sign.Ge a b = comparison_typing op.Ge a b
binary_typing sign.Add a b = arithmetic_typing op.Add a b
binary_typing sign.Sub a b = arithmetic_typing op.Sub a b
binary_typing sign.Mul a b = arithmetic_typing op.Mul a b
binary_typing sign.Div a b = arithmetic_typing op.Div a b
binary_typing sign.Mod a b = arithmetic_typing op.Mod a b
binary_typing sign.At a b = index_typing a b

-- an alternative, by what is said of its body
abbrev pub arm_with : (X : Type 0) → (X → Judged) → Pat × X → Arm
arm_with X k arm = record { pat = arm.0; body = k arm.1 }

-- one level of an expression, with what is said of its parts
abbrev pub typing_step : Signatures → (X : Type 0) → (X → Judged) → Exp-F X → Judged
typing_step signatures X k (Exp-F.Let name a b) = let_typing name (k a) (k b)
typing_step signatures X k (Exp-F.If test a b) = if_typing (k test) (k a) (k b)
typing_step signatures X k (Exp-F.Case a arms) = case_typing signatures (k a) (map (arm_with X k) arms)
typing_step signatures X k (Exp-F.Raise name None) = raise_typing signatures name
typing_step signatures X k (Exp-F.Raise name (Some a)) = raise_with_typing signatures name (k a)
typing_step signatures X k (Exp-F.Binary sign a b) = binary_typing sign (k a) (k b)
typing_step signatures X k (Exp-F.Neg a) = neg_typing (k a)
typing_step signatures X k (Exp-F.Not a) = not_typing (k a)
typing_step signatures X k (Exp-F.App name parts) = app_typing signatures name (map k parts)
typing_step signatures X k (Exp-F.Con name parts) = con_typing signatures name (map k parts)
typing_step signatures X k (Exp-F.Update a b d) = update_typing (k a) (k b) (k d)
typing_step signatures X k (Exp-F.Num negative amount) = literal_typing negative amount
typing_step signatures X k (Exp-F.Letter byte) = letter_typing byte
typing_step signatures X k (Exp-F.Truth truth) = truth_typing truth
typing_step signatures X k (Exp-F.Paren a) = k a
typing_step signatures X k (Exp-F.Tuple parts) = tuple_typing (map k parts)
typing_step signatures X k (Exp-F.Cast a type) = cast_typing signatures (k a) type
typing_step signatures X k (Exp-F.Vect parts) = vector_typing (map k parts)
typing_step signatures X k Exp-F.Star = star_typing

-- what is said of an expression
abbrev pub typing : Signatures → Exp → Judged
typing signatures = rec-Exp Judged (λ X part. typing_step signatures X)

-- the expression has the type by itself, with this core
abbrev pub HasByItself : Signatures → Scope → Exp → Ty → Cored → Type 0
HasByItself signatures scope e ty c = (typing signatures e).has scope ty c

-- the expression is checked against the type, with this core
abbrev pub IsCheckedAgainst : Signatures → Scope → Exp → Ty → Cored → Type 0
IsCheckedAgainst signatures scope e ty c = (typing signatures e).checked scope ty c

-- the expression has no type of its own
abbrev pub is_open : Signatures → Exp → Bool
is_open signatures e = (typing signatures e).is_open
