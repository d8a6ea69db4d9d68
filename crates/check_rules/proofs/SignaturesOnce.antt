-- A program has one list of data types, exceptions and functions.
use Rattle.std.proofs.Common.{◌≡◌, List, ◌++◌, Option, Some, None, ap, sym, subst, ◌∙◌}
use Rattle.hume_base.specs.declared.types.Ty.{Ty}
use Rattle.hume_base.specs.declared.types.Types.{Types}
use Rattle.hume_ast.specs.declared.tree.TyExp.{TyExp}
use Rattle.hume_model.specs.declared.core_tree.ExnDef.{ExnDef}
use Rattle.hume_model.specs.OwnExceptions.{own_exceptions}
use Rattle.check_tables.proofs.graph_lemmas.Orders.{same_order}
use Rattle.check_names.specs.declared.mention_list.NameKind.TheVariants.{DataType, Function}
use Rattle.check_names.specs.Leading.{graph_of}
use Rattle.check_typing.specs.Declarations.{InPlaces, signature_written}
use Rattle.check_typing.specs.declared.signatures.Signature.{Signature}
use Rattle.check_typing.specs.declared.signatures.Signatures.{Signatures}
use Rattle.check_rules.specs.Declared.{Decls, data_of, ExceptionDecl, FunctionDecl, function_of, in_order}
use Rattle.check_rules.specs.SignaturesOf.{IsDataType, IsException, Carries, AreTypes, AreExceptions, AreFunctions, AreSignatures}
use Rattle.check_rules.proofs.InPlace.{in_place_once}
use Rattle.check_rules.proofs.TypesOnce.{types_once}

pub the_types : (decls : Decls) (t u : Types) → AreTypes decls t → AreTypes decls u → t ≡ u
the_types decls t u p q =
    let order : q.order ≡ p.order = same_order (graph_of DataType decls) q.order p.order q.numbered p.numbered in
    types_once (in_order data_of p.order decls) t u p.each (subst (λ o. InPlaces (IsDataType u) (in_order data_of o decls) u.sums) order q.each) p.sizes q.sizes

carries_once : (t : Types) (e : Option TyExp) (a b : Option Ty) → Carries t e a → Carries t e b → a ≡ b
carries_once t None a b p q = p ∙ sym q
carries_once t (Some e) a b p q = let same : p.0 ≡ q.0 = let w = sym p.1 ∙ q.1 in cc in p.2 ∙ ap Some same ∙ sym q.2

exception_once : (t : Types) (d : ExceptionDecl) (a b : ExnDef) → IsException t d a → IsException t d b → a ≡ b
exception_once t d a b p q =
    let name = p.name ∙ sym q.name in
    let carries = carries_once t d.1 a.carries b.carries p.carries q.carries in
    λ i. record { name = name i; carries = carries i }

pub the_exceptions : (decls : Decls) (t : Types) (a b : List ExnDef) → AreExceptions decls t a → AreExceptions decls t b → a ≡ b
the_exceptions decls t a b p q = p.all ∙ ap (λ ds. own_exceptions ++ ds) (in_place_once (IsException t) (exception_once t) _ p.declared q.declared p.each q.each) ∙ sym q.all

pub the_functions : (decls : Decls) (t : Types) (a b : List Signature) → AreFunctions decls t a → AreFunctions decls t b → a ≡ b
the_functions decls t a b p q =
    let order : q.order ≡ p.order = same_order (graph_of Function decls) q.order p.order q.numbered p.numbered in
    in_place_once (λ (f : FunctionDecl) (s : Signature). signature_written t f.name f.types ≡ Some s) (λ f s r m n. let w = sym m ∙ n in cc)
    (in_order function_of p.order decls) a b p.each
    (subst (λ o. InPlaces (λ (f : FunctionDecl) (s : Signature). signature_written t f.name f.types ≡ Some s) (in_order function_of o decls) b) order q.each)

pub the_signatures : (decls : Decls) (s t : Signatures) → AreSignatures decls s → AreSignatures decls t → s ≡ t
the_signatures decls s t p q =
    let types : t.types ≡ s.types = the_types decls t.types s.types q.types p.types in
    let exns = the_exceptions decls s.types s.exns t.exns p.exns (subst (λ (u : Types). AreExceptions decls u t.exns) types q.exns) in
    let funs = the_functions decls s.types s.funs t.funs p.funs (subst (λ (u : Types). AreFunctions decls u t.funs) types q.funs) in
    λ i. record { types = sym types i; exns = exns i; funs = funs i }
