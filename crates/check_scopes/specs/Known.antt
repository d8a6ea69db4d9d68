-- What is known where an expression stands.
use Rattle.std.specs.Prelude.{ℕ, List, [], ◌∷◌, Bool, true, false, Option, Some, None}
use Rattle.hume_base.specs.declared.types.Ty.{Ty, Tuple as TupleTy}
use Rattle.hume_model.specs.declared.core_tree.ExnDef.{ExnDef}
use Rattle.check_typing.specs.Signatures.{Scope, Constructor}
use Rattle.check_typing.specs.declared.signatures.Signature.{Signature}
use Rattle.check_typing.specs.declared.signatures.Signatures.{Signatures}

-- the variables in scope, a stack of types with its last one first, and the signatures
abbrev pub Known : Type 0
Known = Scope × List Ty × Signatures

-- with one type more on the stack
abbrev pub with_type : Ty → Known → Known
with_type ty known = (known.0, ty ∷ known.1, known.2)

-- the variable's number, and its type on the stack
abbrev pub with_variable : Option (ℕ × Ty) → Known → Option ℕ × Known
with_variable None known = (None, known)
with_variable (Some found) known = (Some found.0, with_type found.1 known)

-- the types of a function's parameters and of what it gives, as one
abbrev pub signature_type : Signature → Ty
signature_type signature = TupleTy (TupleTy signature.params ∷ signature.gives ∷ [])

-- the function's number, and its types on the stack
abbrev pub with_function : Option (ℕ × Signature) → Known → Option ℕ × Known
with_function None known = (None, known)
with_function (Some found) known = (Some found.0, with_type (signature_type found.1) known)

-- the number of the constructor's data type and its place in it, and the types of its fields on the stack
abbrev pub with_constructor : Option Constructor → Known → Option (ℕ × ℕ) × Known
with_constructor None known = (None, known)
with_constructor (Some con) known = (Some (con.sum, con.place), with_type (TupleTy con.fields) known)

-- the exception's number and whether it carries something, and the type of that on the stack
abbrev pub with_carried : ℕ → Option Ty → Known → Option (ℕ × Bool) × Known
with_carried number None known = (Some (number, false), known)
with_carried number (Some carried) known = (Some (number, true), with_type carried known)

abbrev pub with_exception : Option (ℕ × ExnDef) → Known → Option (ℕ × Bool) × Known
with_exception None known = (None, known)
with_exception (Some found) known = with_carried found.0 found.1.carries known
