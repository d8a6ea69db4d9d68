-- When a type or the wires of a program are too large.
use Rattle.std.specs.Prelude.{◌≡◌, ℕ, ◌+◌, ◌*◌, ◌≤◌, ◌<◌, List, [], ◌∷◌, ◌++◌, map, sum, take, Option, Some, None, Contains, slice_get}
use Rattle.std.specs.List.{flat_map}
use Rattle.hume_base.specs.declared.limits.TheConstants.{MAX_TYPE_WORDS, MAX_WIRE_WORDS}
use Rattle.hume_base.specs.declared.types.Ty.{Ty, Named}
use Rattle.hume_base.specs.declared.types.Types.{Types}
use Rattle.hume_base.specs.Sizes.{size_of}
use Rattle.hume_ast.specs.declared.tree.TyExp.{TyExp}
use Rattle.hume_ast.specs.declared.tree.Pat.{Pat}
use Rattle.hume_ast.specs.declared.tree.Exp.{Exp, fold-Exp}
use Rattle.hume_ast.specs.declared.tree.Exp.TheOpen.{Exp-F}
use Rattle.hume_ast.specs.declared.tree.Decl.{Decl}
use Rattle.hume_ast.specs.declared.tree.Decl.TheVariants.{Sum, Exn, Fun, BoxD, Stream, Wire}
use Rattle.check_typing.specs.Partial.{given}
use Rattle.check_typing.specs.Signatures.{sum_named}
use Rattle.check_typing.specs.WrittenTypes.{written}
use Rattle.check_typing.specs.Declarations.{WrittenEquation, WrittenRule, WrittenHandler}
use Rattle.check_typing.specs.declared.signatures.Signatures.{Signatures}
use Rattle.check_rules.specs.Declared.{Decls, WireDecl, wires_in}
use Rattle.check_rules.specs.SignaturesOf.{AreSignatures}
use Rattle.check_rules.specs.TypeRules.{wire_type}
use Rattle.check_rules.specs.CoreOf.{depth_or_one}

-- all lists, one after another
abbrev pub all_of : List (List TyExp) → List TyExp
all_of [] = []
all_of (part ∷ parts) = part ++ all_of parts

-- the types of a part, if there is one
abbrev pub if_there : Option (List TyExp) → List TyExp
if_there None = []
if_there (Some part) = part

-- one level of an expression, with the types that are written in its parts
abbrev pub written_in_step : Exp-F (List TyExp) → List TyExp
written_in_step (Exp-F.Let name part body) = part ++ body
written_in_step (Exp-F.If test when_true when_false) = test ++ (when_true ++ when_false)
written_in_step (Exp-F.Case part arms) = part ++ all_of (map (λ (arm : Pat × List TyExp). arm.1) arms)
written_in_step (Exp-F.Raise name part) = if_there part
written_in_step (Exp-F.Binary sign left right) = left ++ right
written_in_step (Exp-F.Neg part) = part
written_in_step (Exp-F.Not part) = part
written_in_step (Exp-F.App name parts) = all_of parts
written_in_step (Exp-F.Con name parts) = all_of parts
written_in_step (Exp-F.Update vector place item) = vector ++ (place ++ item)
written_in_step (Exp-F.Num negative amount) = []
written_in_step (Exp-F.Letter byte) = []
written_in_step (Exp-F.Truth truth) = []
written_in_step (Exp-F.Paren part) = part
written_in_step (Exp-F.Tuple parts) = all_of parts
written_in_step (Exp-F.Cast part type) = part ++ type ∷ []
written_in_step (Exp-F.Vect parts) = all_of parts
written_in_step Exp-F.Star = []

-- the types that are written in an expression
abbrev pub written_in : Exp → List TyExp
written_in = fold-Exp (List TyExp) written_in_step

-- the type of what an exception carries, if it carries something
abbrev pub carried_type : Option TyExp → List TyExp
carried_type None = []
carried_type (Some ty) = ty ∷ []

-- the types that are written in a first value, if there is one
abbrev pub initial_types : Option Exp → List TyExp
initial_types None = []
initial_types (Some e) = written_in e

-- the types that are written in a declaration
abbrev pub types_in : Decl → List TyExp
types_in (Sum name cons) = flat_map (λ (con : List ℕ × List TyExp). con.1) cons
types_in (Exn name ty) = carried_type ty
types_in (Fun name tys equations) = tys ++ flat_map (λ (equation : WrittenEquation). written_in equation.2) equations
types_in (BoxD name ins outs fair rules handlers) =
    map (λ (input : List ℕ × TyExp). input.1) ins ++ (map (λ (output : List ℕ × TyExp). output.1) outs
    ++ (flat_map (λ (rule : WrittenRule). written_in rule.1) rules ++ flat_map (λ (handler : WrittenHandler). written_in handler.2) handlers))
types_in (Stream name from port) = []
types_in (Wire source target depth initial) = initial_types initial

-- the data type that a declaration declares, as a type
abbrev pub own_type : Types → Decl → Option Ty
own_type types (Sum name cons) = given (sum_named name types) (λ found. Some (Named found.0))
own_type types _ = None

-- a type of the declaration: one that is written in it, or the data type that it declares
pub data IsTypeOf (types : Types) (decl : Decl) (ty : Ty) : Type 0 where
  one_written : (e : TyExp) → Contains (types_in decl) e → written types e ≡ Some ty → IsTypeOf types decl ty
  its_own : own_type types decl ≡ Some ty → IsTypeOf types decl ty

-- a type of the declaration has more words than a type may have
pub record HasLargeType (decls : Decls) (number : ℕ) : Type 0 where
  pub signatures : Signatures
  pub are : AreSignatures decls signatures
  pub decl : ℕ × Decl
  pub there : slice_get decls number ≡ Some decl
  pub ty : Ty
  pub of : IsTypeOf signatures.types decl.1 ty
  pub large : MAX_TYPE_WORDS < size_of signatures.types ty

-- the words of so many values of a type; none where there is no type
abbrev pub words_of : Types → Option Ty → ℕ → ℕ
words_of types None depth = 0
words_of types (Some ty) depth = size_of types ty * depth

-- the words of the values that a wire holds at most; between two streams none
abbrev pub words_on : Types → Decls → WireDecl → ℕ
words_on types decls w = words_of types (wire_type types decls w) (depth_or_one w.depth)

-- with the words of this wire all wires have more words than they may have, and without them not yet
pub record PassesWords (decls : Decls) (number : ℕ) : Type 0 where
  pub signatures : Signatures
  pub are : AreSignatures decls signatures
  pub at : ℕ
  pub wire : WireDecl
  pub there : slice_get (wires_in decls) at ≡ Some wire
  pub declared : wire.number ≡ number
  pub before : sum (map (words_on signatures.types decls) (take at (wires_in decls))) ≤ MAX_WIRE_WORDS
  pub passed : MAX_WIRE_WORDS < sum (map (words_on signatures.types decls) (take at (wires_in decls))) + words_on signatures.types decls wire
