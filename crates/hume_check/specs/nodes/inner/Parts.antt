-- The parts of declarations, and what is made of them.
use Rattle.std.specs.Prelude.{◌≡◌, ℕ, Bool, true, false, List, map, Option, Some, None}
use Rattle.hume_base.specs.Places.{line_at}
use Rattle.hume_base.specs.declared.types.Ty.{Ty}
use Rattle.hume_base.specs.declared.types.Types.{Types}
use Rattle.hume_ast.specs.declared.tree.TyExp.{TyExp}
use Rattle.hume_ast.specs.declared.tree.Decl.{Decl}
use Rattle.hume_model.specs.declared.core_tree.FunC.{FunC}
use Rattle.hume_model.specs.declared.core_tree.BoxC.{BoxC}
use Rattle.hume_model.specs.declared.core_tree.StreamC.{StreamC}
use Rattle.hume_model.specs.declared.core_tree.NodeC.{NodeC}
use Rattle.hume_model.specs.declared.core_tree.NodeC.TheVariants.{From, To}
use Rattle.typed_core.specs.declared.typed_tree.TypedRule.{TypedRule}
use Rattle.typed_core.specs.declared.typed_tree.TypedHandler.{TypedHandler}
use Rattle.typed_core.specs.declared.typed_tree.TypedDeclaration.{TypedDeclaration}
use Rattle.typed_core.specs.declared.typed_tree.TypedDeclaration.TheVariants.{Rules}
use Rattle.typed_core.specs.Erasing.{erased_equation, erased_handler, erased_rule}
use Rattle.check_typing.specs.WrittenTypes.{written}
use Rattle.check_typing.specs.Declarations.{InPlaces, CoredEquation, cores_alone, IsFunction, signature_written, ports_written}
use Rattle.check_typing.specs.declared.signatures.Signature.{Signature}
use Rattle.check_typing.specs.declared.signatures.Signatures.{Signatures}
use Rattle.check_rules.specs.Declared.{FunctionDecl, Numbered, if_node}
use Rattle.check_rules.specs.CoreOf.{IsPort, IsNodeOf}
use Rattle.hume_check.specs.declared.nodes.declared.FunctionParts.{FunctionParts}
use Rattle.hume_check.specs.declared.nodes.declared.BoxParts.{BoxParts}

-- the signature is the one that is written for the function
abbrev pub IsSignature : Types → FunctionDecl → Signature → Type 0
IsSignature types f signature = signature_written types f.name f.types ≡ Some signature

-- the signatures are those of the functions, in their order
abbrev pub AreSigned : Types → List FunctionDecl → List Signature → Type 0
AreSigned types functions signatures = InPlaces (IsSignature types) functions signatures

-- the parts have the place of the function and the trees of its equations
pub record HasParts (signatures : Signatures) (f : FunctionDecl) (parts : FunctionParts) : Type 0 where
  pub place : parts.place ≡ f.place
  pub cores : List CoredEquation
  pub typed : IsFunction signatures f.name f.types f.equations cores
  pub equations : parts.equations.now ≡ cores_alone cores

-- there are parts just where there is a function
abbrev pub HasPartsIfOne : Signatures → Option FunctionDecl → Option FunctionParts → Type 0
HasPartsIfOne signatures None None = Unit {0}
HasPartsIfOne signatures (Some f) (Some parts) = HasParts signatures f parts
HasPartsIfOne signatures _ _ = ⊥

-- a function of these parts and this signature
abbrev pub function_from : List ℕ → FunctionParts → Signature → FunC
function_from text parts signature = record {
  name = signature.name;
  line = line_at text parts.place;
  params = signature.params;
  gives = signature.gives;
  equations = map erased_equation parts.equations.now;
}

abbrev pub numbered : ℕ → ℕ × Decl → Numbered
numbered n d = record { number = n; place = d.0; decl = d.1 }

-- each input or output has a type
abbrev pub HaveTypes : Types → List (List ℕ × TyExp) → Type 0
HaveTypes types places = (tys : List Ty) × (ports_written types places ≡ Some tys)

-- the input or output has a type
abbrev pub HasType : Types → List ℕ × TyExp → Type 0
HasType types place = (ty : Ty) × (written types place.1 ≡ Some ty)

-- the trees are those of a box
abbrev pub AreOfBox : TypedDeclaration → Type 0
AreOfBox trees = (rules : List TypedRule) × (handlers : List TypedHandler) × (trees ≡ Rules rules handlers)

-- the box is of these parts
pub record IsBoxFrom (text : List ℕ) (types : Types) (number place : ℕ) (parts : BoxParts) (b : BoxC) : Type 0 where
  pub name : b.name ≡ parts.name.now
  pub line : b.line ≡ line_at text place
  pub declaration : b.declaration ≡ number
  pub ins : InPlaces (IsPort types) parts.inputs.now b.ins
  pub outs : InPlaces (IsPort types) parts.outputs.now b.outs
  pub fair : b.fair ≡ parts.is_fair
  pub rules : b.rules ≡ map erased_rule parts.rules.now
  pub handlers : b.handlers ≡ map erased_handler parts.handlers.now

-- a stream comes in or goes out
abbrev pub way : Bool → StreamC → NodeC
way true stream = From stream
way false stream = To stream

-- the node of a declaration, if it is of one
abbrev pub IsNodeIfOne : List ℕ → Signatures → Numbered → Option NodeC → Type 0
IsNodeIfOne text signatures d None = if_node d d.decl ≡ None
IsNodeIfOne text signatures d (Some node) = (if_node d d.decl ≡ Some d) × IsNodeOf text signatures d d.decl node
