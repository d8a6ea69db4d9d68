-- When a declaration has no type, a literal out of range, or a first value that is none.
use Rattle.std.specs.Prelude.{◌≡◌, ℕ, false, List, [], Option, Some, None, slice_get}
use Rattle.hume_base.specs.declared.types.Ty.{Ty}
use Rattle.hume_base.specs.declared.types.Types.{Types}
use Rattle.hume_ast.specs.declared.tree.TyExp.{TyExp}
use Rattle.hume_ast.specs.declared.tree.Exp.{Exp}
use Rattle.hume_ast.specs.declared.tree.Decl.{Decl}
use Rattle.hume_ast.specs.declared.tree.Decl.TheVariants.{BoxD, Stream}
use Rattle.check_typing.specs.Partial.{given}
use Rattle.check_typing.specs.Signatures.{first_named}
use Rattle.check_typing.specs.WrittenTypes.{written}
use Rattle.check_typing.specs.Declarations.{HasNoType, HasWideLiteral}
use Rattle.check_typing.specs.declared.signatures.Signatures.{Signatures}
use Rattle.check_rules.specs.Declared.{Decls, Numbered, nodes_in, WireDecl, wires_in}
use Rattle.check_rules.specs.SignaturesOf.{AreSignatures}
use Rattle.check_rules.specs.Constants.{is_built, constant}

-- by the program's signatures something that the declaration says has no type
pub record IsUntyped (decls : Decls) (number : ℕ) : Type 0 where
  pub signatures : Signatures
  pub are : AreSignatures decls signatures
  pub decl : ℕ × Decl
  pub there : slice_get decls number ≡ Some decl
  pub none : HasNoType signatures decl.1

-- all of it has types, and a literal in it is out of the range of its type
pub record HasLiteralOutOfRange (decls : Decls) (number : ℕ) : Type 0 where
  pub signatures : Signatures
  pub are : AreSignatures decls signatures
  pub decl : ℕ × Decl
  pub there : slice_get decls number ≡ Some decl
  pub wide : HasWideLiteral signatures decl.1

-- the name of a box or a stream
abbrev pub declared_name : Decl → List ℕ
declared_name (BoxD name ins outs fair rules handlers) = name
declared_name (Stream name from port) = name
declared_name _ = []

-- the box or stream of a name
abbrev pub node_named : List ℕ → Decls → Option Decl
node_named name decls = given (first_named (λ (d : Numbered). declared_name d.decl) name (nodes_in decls)) (λ found. Some found.1.decl)

-- the type that is written at the input or output of that name
abbrev pub type_named : Types → Option (List ℕ) → List (List ℕ × TyExp) → Option Ty
type_named types None places = None
type_named types (Some name) places = given (first_named (λ (place : List ℕ × TyExp). place.0) name places) (λ found. written types found.1.1)

-- the type of an output or an input of a box; a stream has none of its own
abbrev pub output_of : Types → Option (List ℕ) → Decl → Option Ty
output_of types port (BoxD name ins outs fair rules handlers) = type_named types port outs
output_of types port _ = None

-- the type of an input of a box; a stream has none of its own
abbrev pub input_of : Types → Option (List ℕ) → Decl → Option Ty
input_of types port (BoxD name ins outs fair rules handlers) = type_named types port ins
input_of types port _ = None

-- the first one, if it is there, and else the second
abbrev pub or_else : {A : Type 0} → Option A → Option A → Option A
or_else (Some x) other = Some x
or_else None other = other

-- the type of a wire: that of its first end or, if that is a stream, of its second; between two streams it has none
abbrev pub wire_type : Types → Decls → WireDecl → Option Ty
wire_type types decls w = or_else (given (node_named w.from.0 decls) (output_of types w.from.1)) (given (node_named w.to.0 decls) (input_of types w.to.1))

-- the first value isn't built as values are, or is none of the wire's type
pub data IsNoValue (signatures : Signatures) (type : Option Ty) (e : Exp) : Type 0 where
  unbuilt : is_built e ≡ false → IsNoValue signatures type e
  unfit : (ty : Ty) → type ≡ Some ty → constant signatures e ty ≡ None → IsNoValue signatures type e

-- the wire of the declaration has such a first value
pub record HasNoInitial (decls : Decls) (number : ℕ) : Type 0 where
  pub signatures : Signatures
  pub are : AreSignatures decls signatures
  pub at : ℕ
  pub wire : WireDecl
  pub there : slice_get (wires_in decls) at ≡ Some wire
  pub declared : wire.number ≡ number
  pub value : Exp
  pub written_value : wire.initial ≡ Some value
  pub none : IsNoValue signatures (wire_type signatures.types decls wire) value
