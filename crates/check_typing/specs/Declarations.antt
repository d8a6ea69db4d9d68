-- Which equations, rules and handlers have which trees, and which declarations have types.
use Rattle.std.specs.Prelude.{◌≡◌, ℕ, ◌||◌, Bool, true, false, List, [], ◌∷◌, map, Option, Some, None}
use Rattle.std.specs.List.{list_any}
use Rattle.hume_base.specs.declared.types.Ty.{Ty}
use Rattle.hume_base.specs.declared.types.Types.{Types}
use Rattle.hume_ast.specs.declared.tree.TyExp.{TyExp}
use Rattle.hume_ast.specs.declared.tree.Pat.{Pat, out-Pat}
use Rattle.hume_ast.specs.declared.tree.Pat.TheOpen.{Pat-F}
use Rattle.hume_ast.specs.declared.tree.Exp.{Exp}
use Rattle.hume_ast.specs.declared.tree.Decl.{Decl}
use Rattle.hume_ast.specs.declared.tree.Decl.TheVariants.{Sum, Exn, Fun, BoxD, Stream, Wire}
use Rattle.hume_model.specs.declared.core_tree.ExnDef.{ExnDef}
use Rattle.typed_core.specs.declared.typed_tree.TypedEquation.{TypedEquation}
use Rattle.typed_core.specs.declared.typed_tree.TypedRule.{TypedRule}
use Rattle.typed_core.specs.declared.typed_tree.TypedHandler.{TypedHandler}
use Rattle.typed_core.specs.declared.typed_tree.TypedDeclaration.{TypedDeclaration}
use Rattle.typed_core.specs.declared.typed_tree.TypedDeclaration.TheVariants.{Equations, Rules, NoTrees}
use Rattle.check_typing.specs.Partial.{given}
use Rattle.check_typing.specs.Signatures.{Scope, exn_named}
use Rattle.check_typing.specs.WrittenTypes.{all_there, written, all_written}
use Rattle.check_typing.specs.Patterns.{CoredPat, CoredPosition, pat_cores, some_pat_too_wide, patterns, positions}
use Rattle.check_typing.specs.Cores.{Cored}
use Rattle.check_typing.specs.Typing.{IsCheckedAgainst}
use Rattle.check_typing.specs.Results.{CoredRes, IsResult}
use Rattle.check_typing.specs.declared.signatures.Signature.{Signature}
use Rattle.check_typing.specs.declared.signatures.Signatures.{Signatures}

-- as many on both sides, and the ones in the same place belong together
abbrev pub InPlaces : {A B : Type 0} → (A → B → Type 0) → List A → List B → Type 0
InPlaces Belongs [] [] = Unit {0}
InPlaces Belongs (x ∷ xs) (y ∷ ys) = Belongs x y × InPlaces Belongs xs ys
InPlaces Belongs _ _ = ⊥

-- the tree of an equation, and whether a literal in it is out of the range of its type
abbrev pub CoredEquation : Type 0
CoredEquation = TypedEquation × Bool

-- the same of a rule
abbrev pub CoredRule : Type 0
CoredRule = TypedRule × Bool

-- the same of a handler
abbrev pub CoredHandler : Type 0
CoredHandler = TypedHandler × Bool

-- one of several is so
abbrev pub some_so : {A : Type 0} → List (A × Bool) → Bool
some_so cs = list_any (λ c. c.1) cs

-- the trees alone
abbrev pub cores_alone : {A : Type 0} → List (A × Bool) → List A
cores_alone cs = map (λ c. c.0) cs

-- an equation as it is written: its name, its patterns and its body
abbrev pub WrittenEquation : Type 0
WrittenEquation = List ℕ × List Pat × Exp

-- the tree of an equation
abbrev pub equation_core : List CoredPat → Cored → CoredEquation
equation_core pats body = (record { pats = pat_cores pats; body = body.0 }, some_pat_too_wide pats || body.1)

-- the equation has patterns for the parameters, and its body is checked against what the function gives
pub record IsEquation (signatures : Signatures) (signature : Signature) (equation : WrittenEquation) (c : CoredEquation) : Type 0 where
  pub vars : Scope
  pub pats : List CoredPat
  pub body : Cored
  pub binds : patterns signatures equation.1 signature.params ≡ Some (vars, pats)
  pub typed : IsCheckedAgainst signatures vars equation.2 signature.gives body
  pub is : c ≡ equation_core pats body

-- a rule as it is written: what stands at its positions, and its result
abbrev pub WrittenRule : Type 0
WrittenRule = List Pat × Exp

-- the tree of a rule
abbrev pub rule_core : List CoredPosition → CoredRes → CoredRule
rule_core pats result = (record { pats = cores_alone pats; result = result.0 }, some_so pats || result.1)

-- the rule has positions for the inputs, and its result is one for the outputs
pub record IsRule (signatures : Signatures) (ins outs : List Ty) (rule : WrittenRule) (c : CoredRule) : Type 0 where
  pub vars : Scope
  pub pats : List CoredPosition
  pub result : CoredRes
  pub binds : positions signatures rule.0 ins ≡ Some (vars, pats)
  pub gives : IsResult signatures vars rule.1 outs result
  pub is : c ≡ rule_core pats result

-- a handler as it is written: its exception, what it says of what the exception carries, and its result
abbrev pub WrittenHandler : Type 0
WrittenHandler = List ℕ × Option Pat × Exp

-- a name binds what is carried, and `_` doesn't
abbrev pub carried_layer : Ty → Pat-F Pat → Option (Scope × Bool)
carried_layer carried (Pat-F.Name name) = Some ((name, carried) ∷ [], true)
carried_layer carried Pat-F.Any = Some ([], false)
carried_layer carried _ = None

-- the variables of a handler, and whether it binds: it says something of what is carried just where something is
abbrev pub carried_vars : Option Ty → Option Pat → Option (Scope × Bool)
carried_vars None None = Some ([], false)
carried_vars None (Some pat) = None
carried_vars (Some carried) None = None
carried_vars (Some carried) (Some pat) = carried_layer carried (out-Pat pat)

-- the tree of a handler for the exception of the number
abbrev pub handler_core : ℕ → Bool → CoredRes → CoredHandler
handler_core number bound result = (record { exn = number; bound = bound; result = result.0 }, result.1)

-- the handler is for an exception that there is, and its result is one for the outputs
pub record IsHandler (signatures : Signatures) (outs : List Ty) (handler : WrittenHandler) (c : CoredHandler) : Type 0 where
  pub number : ℕ
  pub exn : ExnDef
  pub vars : Scope
  pub bound : Bool
  pub result : CoredRes
  pub known : exn_named handler.0 signatures ≡ Some (number, exn)
  pub binds : carried_vars exn.carries handler.1 ≡ Some (vars, bound)
  pub gives : IsResult signatures vars handler.2 outs result
  pub is : c ≡ handler_core number bound result

-- the types of the parameters, and the last one, which is what the function gives
abbrev pub parted : List Ty → Option (List Ty × Ty)
parted [] = None
parted (ty ∷ []) = Some ([], ty)
parted (ty ∷ next ∷ tys) = given (parted (next ∷ tys)) (λ others. Some (ty ∷ others.0, others.1))

-- the signature that is written
abbrev pub signature_written : Types → List ℕ → List TyExp → Option Signature
signature_written types name tys =
    given (all_written types tys) (λ all. given (parted all) (λ p. Some (record { name = name; params = p.0; gives = p.1 })))

-- the types of inputs or outputs that are written
abbrev pub ports_written : Types → List (List ℕ × TyExp) → Option (List Ty)
ports_written types ports = all_there (map (λ (port : List ℕ × TyExp). written types port.1) ports)

-- the function has the trees in the places of its equations
pub record IsFunction (signatures : Signatures) (name : List ℕ) (tys : List TyExp) (equations : List WrittenEquation)
    (cs : List CoredEquation) : Type 0 where
  pub signature : Signature
  pub is_written : signature_written signatures.types name tys ≡ Some signature
  pub have : InPlaces (IsEquation signatures signature) equations cs

-- the box has the trees in the places of its rules and of its handlers
pub record IsBox (signatures : Signatures) (inputs outputs : List (List ℕ × TyExp)) (rules : List WrittenRule) (handlers : List WrittenHandler)
    (rs : List CoredRule) (hs : List CoredHandler) : Type 0 where
  pub ins : List Ty
  pub outs : List Ty
  pub inputs_are : ports_written signatures.types inputs ≡ Some ins
  pub outputs_are : ports_written signatures.types outputs ≡ Some outs
  pub rules_have : InPlaces (IsRule signatures ins outs) rules rs
  pub handlers_have : InPlaces (IsHandler signatures outs) handlers hs

-- the trees of a declaration, and whether a literal in it is out of the range of its type
abbrev pub CoredDeclaration : Type 0
CoredDeclaration = TypedDeclaration × Bool

-- those of a function
abbrev pub function_core : List CoredEquation → CoredDeclaration
function_core cs = (Equations (cores_alone cs), some_so cs)

-- those of a box
abbrev pub box_core : List CoredRule → List CoredHandler → CoredDeclaration
box_core rs hs = (Rules (cores_alone rs) (cores_alone hs), some_so rs || some_so hs)

-- those of any other declaration
abbrev pub no_core : CoredDeclaration
no_core = (NoTrees, false)

-- all that the declaration says has types, and it has these trees
abbrev pub IsTyped : Signatures → Decl → CoredDeclaration → Type 0
IsTyped signatures (Fun name tys equations) c =
    (cs : List CoredEquation) × IsFunction signatures name tys equations cs × (c ≡ function_core cs)
IsTyped signatures (BoxD name inputs outputs fair rules handlers) c =
    (rs : List CoredRule) × (hs : List CoredHandler) × IsBox signatures inputs outputs rules handlers rs hs × (c ≡ box_core rs hs)
IsTyped signatures (Sum name constructors) c = c ≡ no_core
IsTyped signatures (Exn name carries) c = c ≡ no_core
IsTyped signatures (Stream name from port) c = c ≡ no_core
IsTyped signatures (Wire source target depth initial) c = c ≡ no_core

-- something that the declaration says has no type
abbrev pub HasNoType : Signatures → Decl → Type 0
HasNoType signatures decl = (c : CoredDeclaration) → IsTyped signatures decl c → ⊥

-- all of it has types, and a literal is out of the range of its type
abbrev pub HasWideLiteral : Signatures → Decl → Type 0
HasWideLiteral signatures decl = (trees : TypedDeclaration) × IsTyped signatures decl (trees, true)

-- all of it has types, no literal is out of the range of its type, and these are its trees
abbrev pub HasTrees : Signatures → Decl → TypedDeclaration → Type 0
HasTrees signatures decl trees = IsTyped signatures decl (trees, false)
