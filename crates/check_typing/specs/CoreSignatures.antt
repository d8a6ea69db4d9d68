-- When a core is one of signatures.
use Rattle.std.specs.Prelude.{◌≡◌, ℕ, List, map, Some, slice_get}
use Rattle.hume_base.specs.declared.types.Ty.{Ty}
use Rattle.hume_model.specs.declared.core_tree.FunC.{FunC}
use Rattle.hume_model.specs.declared.core_tree.Core.{Core}
use Rattle.check_typing.specs.Signatures.{Scope}
use Rattle.check_typing.specs.declared.signatures.Signature.{Signature}
use Rattle.check_typing.specs.declared.signatures.Signatures.{Signatures}

-- the types of variables
abbrev pub scope_types : Scope → List Ty
scope_types scope = map (λ (variable : List ℕ × Ty). variable.1) scope

-- the function takes and gives what the signature says
pub record IsOfSignature (signature : Signature) (function : FunC) : Type 0 where
  pub params : function.params ≡ signature.params
  pub gives : function.gives ≡ signature.gives

-- the core has a function of the signature under the number
pub record HasFunction (core : Core) (number : ℕ) (signature : Signature) : Type 0 where
  pub function : FunC
  pub there : slice_get core.funs number ≡ Some function
  pub is : IsOfSignature signature function

-- the core has the data types, the exceptions and the functions, each under its number
pub record HasSignatures (signatures : Signatures) (core : Core) : Type 0 where
  pub types : core.types ≡ signatures.types
  pub exns : core.exns ≡ signatures.exns
  pub funs : (number : ℕ) (signature : Signature) → slice_get signatures.funs number ≡ Some signature → HasFunction core number signature
