-- The declarations of a program, sorted by what they declare.
use Rattle.std.specs.Prelude.{ℕ, suc, List, [], ◌∷◌, Option, Some, None, slice_get}
use Rattle.std.specs.List.{filter_map}
use Rattle.hume_ast.specs.declared.tree.TyExp.{TyExp}
use Rattle.hume_ast.specs.declared.tree.Exp.{Exp}
use Rattle.hume_ast.specs.declared.tree.Decl.{Decl}
use Rattle.hume_ast.specs.declared.tree.Decl.TheVariants.{Sum, Exn, Fun, BoxD, Stream, Wire}
use Rattle.check_typing.specs.Partial.{given}
use Rattle.check_typing.specs.Declarations.{WrittenEquation}

-- the declarations, each with the place of its first token
abbrev pub Decls : Type 0
Decls = List (ℕ × Decl)

-- a data type: its name, and its constructors with the types of their fields
abbrev pub DataDecl : Type 0
DataDecl = List ℕ × List (List ℕ × List TyExp)

-- the data type that a declaration declares, if it does
abbrev pub data_of : ℕ × Decl → Option DataDecl
data_of (place, Sum name cons) = Some (name, cons)
data_of (place, _) = None

-- an exception: its name, and the type of what it carries
abbrev pub ExceptionDecl : Type 0
ExceptionDecl = List ℕ × Option TyExp

-- the exception that a declaration declares, if it does
abbrev pub exception_of : ℕ × Decl → Option ExceptionDecl
exception_of (place, Exn name ty) = Some (name, ty)
exception_of (place, _) = None

-- a function: the place of its first token, its name, its types and its equations
pub record FunctionDecl : Type 0 where
  pub place : ℕ
  pub name : List ℕ
  pub types : List TyExp
  pub equations : List WrittenEquation

-- the function that a declaration declares, if it does
abbrev pub function_of : ℕ × Decl → Option FunctionDecl
function_of (p, Fun n tys eqs) = Some (record { place = p; name = n; types = tys; equations = eqs })
function_of (p, _) = None

-- what the declarations of these numbers declare, in this order
abbrev pub in_order : {A : Type 0} → (ℕ × Decl → Option A) → List ℕ → Decls → List A
in_order of order decls = filter_map (λ number. given (slice_get decls number) of) order

-- a declaration with its number and the place of its first token
pub record Numbered : Type 0 where
  pub number : ℕ
  pub place : ℕ
  pub decl : Decl

-- the declarations with their numbers, of which the first is n
abbrev pub numbered_from : ℕ → Decls → List Numbered
numbered_from n [] = []
numbered_from n (d ∷ decls) = record { number = n; place = d.0; decl = d.1 } ∷ numbered_from (suc n) decls

-- the declaration, if it is that of a box or a stream
abbrev pub if_node : Numbered → Decl → Option Numbered
if_node d (BoxD name ins outs fair rules handlers) = Some d
if_node d (Stream name from port) = Some d
if_node d _ = None

-- the boxes and streams, in the order of their declarations
abbrev pub nodes_in : Decls → List Numbered
nodes_in decls = filter_map (λ (d : Numbered). if_node d d.decl) (numbered_from 0 decls)

-- a wire: its two ends, how many values it holds, and its first value
pub record WireDecl : Type 0 where
  pub number : ℕ
  pub place : ℕ
  pub from : List ℕ × Option (List ℕ)
  pub to : List ℕ × Option (List ℕ)
  pub depth : Option ℕ
  pub initial : Option Exp

-- the wire that a declaration declares, if it does
abbrev pub wire_of : Numbered → Decl → Option WireDecl
wire_of d (Wire source target count value) =
    Some (record { number = d.number; place = d.place; from = source; to = target; depth = count; initial = value })
wire_of d _ = None

-- the wires, in the order of their declarations
abbrev pub wires_in : Decls → List WireDecl
wires_in decls = filter_map (λ (d : Numbered). wire_of d d.decl) (numbered_from 0 decls)
