-- What names stand for. Where several have one name the first is meant, and of variables the last.
use Rattle.std.specs.Prelude.{ℕ, ◌+◌, List, [], ◌∷◌, Option, Some, None, if◌then◌else◌, bytes_eq}
use Rattle.hume_base.specs.declared.types.Ty.{Ty}
use Rattle.hume_base.specs.declared.types.ConDef.{ConDef}
use Rattle.hume_base.specs.declared.types.SumDef.{SumDef}
use Rattle.hume_base.specs.declared.types.Types.{Types}
use Rattle.hume_model.specs.declared.core_tree.ExnDef.{ExnDef}
use Rattle.check_typing.specs.declared.signatures.Signature.{Signature}
use Rattle.check_typing.specs.declared.signatures.Signatures.{Signatures}

-- one place further back
abbrev pub one_further : {A : Type 0} → Option (ℕ × A) → Option (ℕ × A)
one_further None = None
one_further (Some found) = Some (found.0 + 1, found.1)

-- the first of a name, with its place
abbrev pub first_named : {A : Type 0} → (A → List ℕ) → List ℕ → List A → Option (ℕ × A)
first_named name_of name [] = None
first_named name_of name (x ∷ xs) = if bytes_eq (name_of x) name then Some (0, x) else one_further (first_named name_of name xs)

-- a data type with its number
abbrev pub sum_named : List ℕ → Types → Option (ℕ × SumDef)
sum_named name types = first_named (λ (sum : SumDef). sum.name) name types.sums

-- an exception with its number
abbrev pub exn_named : List ℕ → Signatures → Option (ℕ × ExnDef)
exn_named name signatures = first_named (λ (exn : ExnDef). exn.name) name signatures.exns

-- a function with its number
abbrev pub fun_named : List ℕ → Signatures → Option (ℕ × Signature)
fun_named name signatures = first_named (λ (function : Signature). function.name) name signatures.funs

-- a constructor: the number of its data type, its place in it, and the types of its fields
pub record Constructor : Type 0 where
  pub sum : ℕ
  pub place : ℕ
  pub fields : List Ty

-- the constructor at a place of the first data type, or one of a data type further back
abbrev pub first_or_further : Option (ℕ × ConDef) → Option Constructor → Option Constructor
first_or_further (Some found) further = Some (record { sum = 0; place = found.0; fields = found.1.fields })
first_or_further None None = None
first_or_further None (Some con) = Some (record { sum = con.sum + 1; place = con.place; fields = con.fields })

-- the constructor of the first data type that has one of the name
abbrev pub con_among : List ℕ → List SumDef → Option Constructor
con_among name [] = None
con_among name (sum ∷ sums) = first_or_further (first_named (λ (con : ConDef). con.name) name sum.cons) (con_among name sums)

-- a constructor of any data type
abbrev pub con_named : List ℕ → Signatures → Option Constructor
con_named name signatures = con_among name signatures.types.sums

-- the variables that an expression may use, with their types, outermost first
abbrev pub Scope : Type 0
Scope = List (List ℕ × Ty)

-- a variable further inside, or this one if it has the name
abbrev pub inner_or_this : {A : Type 0} → List ℕ → List ℕ × A → Option (ℕ × A) → Option (ℕ × A)
inner_or_this name variable (Some found) = Some (found.0 + 1, found.1)
inner_or_this name variable None = if bytes_eq variable.0 name then Some (0, variable.1) else None

-- the innermost variable of a name: its number, and its type or whatever else stands beside it
abbrev pub variable_named : {A : Type 0} → List ℕ → List (List ℕ × A) → Option (ℕ × A)
variable_named name [] = None
variable_named name (variable ∷ variables) = inner_or_this name variable (variable_named name variables)
