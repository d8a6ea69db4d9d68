-- A source stands for one core.
use Rattle.std.proofs.Common.{◌≡◌, ℕ, ◌&&◌, List, map, Option, Some, None, Bool, true, false, ap, sym, subst, ◌∙◌}
use Rattle.hume_base.specs.declared.types.Ty.{Ty}
use Rattle.hume_base.specs.declared.types.Types.{Types}
use Rattle.hume_base.specs.declared.types.Value.{Value}
use Rattle.hume_ast.specs.declared.tree.TyExp.{TyExp}
use Rattle.hume_ast.specs.declared.tree.Exp.{Exp}
use Rattle.hume_ast.specs.declared.tree.Decl.{Decl}
use Rattle.hume_ast.specs.declared.tree.Decl.TheVariants.{BoxD, Stream}
use Rattle.hume_ast.specs.declared.tree.Program.{Program}
use Rattle.check_tables.proofs.graph_lemmas.Orders.{same_order}
use Rattle.check_names.specs.declared.mention_list.NameKind.TheVariants.{Function}
use Rattle.check_names.specs.Leading.{graph_of}
use Rattle.hume_model.specs.declared.core_tree.PortC.{PortC}
use Rattle.hume_model.specs.declared.core_tree.BoxC.{BoxC}
use Rattle.hume_model.specs.declared.core_tree.NodeC.{NodeC}
use Rattle.hume_model.specs.declared.core_tree.NodeC.TheVariants.{Rules}
use Rattle.hume_model.specs.declared.core_tree.WireC.{WireC}
use Rattle.hume_model.specs.declared.core_tree.FunC.{FunC}
use Rattle.hume_model.specs.declared.core_tree.Core.{Core}
use Rattle.hume_model.specs.WireEnds.{is_stream, output_type, input_type, type_of_ends}
use Rattle.typed_core.specs.Erasing.{erased_equation, erased_rule, erased_handler}
use Rattle.check_typing.specs.Declarations.{InPlaces, CoredEquation, CoredRule, CoredHandler, cores_alone, WrittenRule, WrittenHandler, IsFunction}
use Rattle.check_typing.specs.inner.DeclarationWalk.{function_walk}
use Rattle.check_typing.specs.declared.signatures.Signature.{Signature}
use Rattle.check_typing.specs.declared.signatures.Signatures.{Signatures}
use Rattle.check_typing.proofs.Maybe.{some-same}
use Rattle.check_typing.proofs.DeclarationsAgree.{only_one, finds_function, box_to}
use Rattle.check_rules.specs.Declared.{FunctionDecl, function_of, in_order, Numbered, nodes_in, WireDecl, wires_in}
use Rattle.check_rules.specs.CoreOf.{IsFunctionOf, IsPort, IsBoxOf, IsNodeOf, IsEnd, output_place, input_place, Initial, InitialBetween, IsWireOf, IsCoreOf}
use Rattle.check_rules.proofs.InPlace.{in_place_once}
use Rattle.check_rules.proofs.SignaturesOnce.{the_signatures}

function_once : (text : List ℕ) (s : Signatures) (f : FunctionDecl) (a b : FunC) → IsFunctionOf text s f a → IsFunctionOf text s f b → a ≡ b
function_once text s f a b p q =
    let name = p.name ∙ sym q.name in
    let line = p.line ∙ sym q.line in
    let signature = some-same _ _ (sym p.signature ∙ q.signature) in
    let params = ap (λ (g : Signature). g.params) signature in
    let gives = ap (λ (g : Signature). g.gives) signature in
    let cores = only_one (IsFunction s f.name f.types) (function_walk s f.name f.types) (finds_function s f.name f.types) f.equations p.cores q.cores p.typed q.typed in
    let equations = p.equations ∙ ap (λ (cs : List CoredEquation). map erased_equation (cores_alone cs)) cores ∙ sym q.equations in
    λ i. record { name = name i; line = line i; params = params i; gives = gives i; equations = equations i }

port_once : (types : Types) (place : List ℕ × TyExp) (a b : PortC) → IsPort types place a → IsPort types place b → a ≡ b
port_once types place a b p q =
    let name = p.name ∙ sym q.name in
    let ty = some-same _ _ (sym p.ty ∙ q.ty) in
    λ i. record { name = name i; ty = ty i }

box_once : (text : List ℕ) (s : Signatures) (d : Numbered) (title : List ℕ) (inputs outputs : List (List ℕ × TyExp)) (is_fair : Bool) (rs : List WrittenRule)
    (hs : List WrittenHandler) (a b : BoxC) → IsBoxOf text s d title inputs outputs is_fair rs hs a → IsBoxOf text s d title inputs outputs is_fair rs hs b → a ≡ b
box_once text s d title inputs outputs is_fair rs hs a b p q =
    let name = p.name ∙ sym q.name in
    let line = p.line ∙ sym q.line in
    let declaration = p.declaration ∙ sym q.declaration in
    let ins = in_place_once (IsPort s.types) (port_once s.types) inputs a.ins b.ins p.ins q.ins in
    let outs = in_place_once (IsPort s.types) (port_once s.types) outputs a.outs b.outs p.outs q.outs in
    let fair = p.fair ∙ sym q.fair in
    let cores = some-same _ _ (sym (box_to s inputs outputs rs hs p.rule_cores p.handler_cores p.typed) ∙ box_to s inputs outputs rs hs q.rule_cores q.handler_cores q.typed) in
    let rules = p.rules_are ∙ ap (λ (r : List CoredRule × List CoredHandler). map erased_rule (cores_alone r.0)) cores ∙ sym q.rules_are in
    let handlers = p.handlers_are ∙ ap (λ (r : List CoredRule × List CoredHandler). map erased_handler (cores_alone r.1)) cores ∙ sym q.handlers_are in
    λ i. record { name = name i; line = line i; declaration = declaration i; ins = ins i; outs = outs i; fair = fair i; rules = rules i; handlers = handlers i }

node_once : (text : List ℕ) (s : Signatures) (d : Numbered) (decl : Decl) (a b : NodeC) → IsNodeOf text s d decl a → IsNodeOf text s d decl b → a ≡ b
node_once text s d (BoxD name ins outs fair rules handlers) a b p q =
    p.1 ∙ ap Rules (box_once text s d name ins outs fair rules handlers p.0 q.0 p.2 q.2) ∙ sym q.1
node_once text s d (Stream name true port) a b p q = p ∙ sym q
node_once text s d (Stream name false port) a b p q = p ∙ sym q
node_once text s d _ a b p q = absurd p

module _ (place_in : Option (List ℕ) → NodeC → Option ℕ) (nodes : List NodeC) (e : List ℕ × Option (List ℕ)) (m n x y : ℕ)
    (p : IsEnd place_in nodes e m x) (q : IsEnd place_in nodes e n y) where
  both : ◌≡◌ {A = ℕ × NodeC} (m, p.node) (n, q.node)
  both = some-same _ _ (sym p.found ∙ q.found)

  same_number : m ≡ n
  same_number = ap (λ f. f.0) both

  same_node : p.node ≡ q.node
  same_node = ap (λ f. f.1) both

  same_place : x ≡ y
  same_place = some-same _ _ (sym p.at ∙ ap (place_in e.1) same_node ∙ q.at)

initial_once : (s : Signatures) (ty : Ty) (e : Option Exp) (a b : Option Value) → Initial s ty e a → Initial s ty e b → a ≡ b
initial_once s ty None a b p q = p ∙ sym q
initial_once s ty (Some e) a b p q = p.2 ∙ (sym p.1 ∙ q.1) ∙ sym q.2

between_once : (both : Bool) (s : Signatures) (ty : Ty) (e : Option Exp) (a b : Option Value) → InitialBetween both s ty e a → InitialBetween both s ty e b → a ≡ b
between_once true s ty e a b p q = p ∙ sym q
between_once false s ty e a b p q = initial_once s ty e a b p q

wire_once : (text : List ℕ) (s : Signatures) (nodes : List NodeC) (w : WireDecl) (a b : WireC) → IsWireOf text s nodes w a → IsWireOf text s nodes w b → a ≡ b
wire_once text s nodes w a b p q =
    let line = p.line ∙ sym q.line in
    let declaration = p.declaration ∙ sym q.declaration in
    let from = same_number output_place nodes w.from _ _ _ _ p.from q.from in
    let from_port = same_place output_place nodes w.from _ _ _ _ p.from q.from in
    let from_node = same_node output_place nodes w.from _ _ _ _ p.from q.from in
    let to = same_number input_place nodes w.to _ _ _ _ p.to q.to in
    let to_port = same_place input_place nodes w.to _ _ _ _ p.to q.to in
    let to_node = same_node input_place nodes w.to _ _ _ _ p.to q.to in
    let ty : a.ty ≡ b.ty = p.ty ∙ (λ i. type_of_ends (output_type (from_node i) (from_port i)) (input_type (to_node i) (to_port i))) ∙ sym q.ty in
    let depth = p.depth ∙ sym q.depth in
    let theirs = subst (λ (n : NodeC). InitialBetween (is_stream n && is_stream p.to.node) s b.ty w.initial b.initial) (sym from_node)
    (subst (λ (n : NodeC). InitialBetween (is_stream q.from.node && is_stream n) s b.ty w.initial b.initial) (sym to_node) q.initial) in
    let initial = between_once _ s a.ty w.initial a.initial b.initial p.initial
    (subst (λ t. InitialBetween (is_stream p.from.node && is_stream p.to.node) s t w.initial b.initial) (sym ty) theirs) in
    λ i. record {
      line = line i;
      declaration = declaration i;
      from = from i;
      from_port = from_port i;
      to = to i;
      to_port = to_port i;
      ty = ty i;
      depth = depth i;
      initial = initial i;
    }

module _ (text : List ℕ) (program : Program) (a b : Core) (p : IsCoreOf text program a) (q : IsCoreOf text program b) where
  signatures : q.signatures ≡ p.signatures
  signatures = the_signatures program.decls q.signatures p.signatures q.are p.are

  order : q.are.funs.order ≡ p.are.funs.order
  order = same_order (graph_of Function program.decls) _ _ q.are.funs.numbered p.are.funs.numbered

  funs : a.funs ≡ b.funs
  funs = in_place_once (IsFunctionOf text p.signatures) (function_once text p.signatures) (in_order function_of p.are.funs.order program.decls) a.funs b.funs p.funs
      (subst (λ o. InPlaces (IsFunctionOf text p.signatures) (in_order function_of o program.decls) b.funs) order
      (subst (λ (s : Signatures). InPlaces (IsFunctionOf text s) (in_order function_of q.are.funs.order program.decls) b.funs) signatures q.funs))

  nodes : a.nodes ≡ b.nodes
  nodes = in_place_once (λ (d : Numbered) node. IsNodeOf text p.signatures d d.decl node) (λ d x y m n. node_once text p.signatures d d.decl x y m n)
      (nodes_in program.decls) a.nodes b.nodes p.nodes
      (subst (λ (s : Signatures). InPlaces (λ (d : Numbered) node. IsNodeOf text s d d.decl node) (nodes_in program.decls) b.nodes) signatures q.nodes)

  wires : a.wires ≡ b.wires
  wires = in_place_once (IsWireOf text p.signatures a.nodes) (wire_once text p.signatures a.nodes) (wires_in program.decls) a.wires b.wires p.wires
      (subst (λ ns. InPlaces (IsWireOf text p.signatures ns) (wires_in program.decls) b.wires) (sym nodes)
      (subst (λ (s : Signatures). InPlaces (IsWireOf text s b.nodes) (wires_in program.decls) b.wires) signatures q.wires))

  pub the_core : a ≡ b
  the_core =
      let types = p.types ∙ ap (λ (s : Signatures). s.types) (sym signatures) ∙ sym q.types in
      let exns = p.exns ∙ ap (λ (s : Signatures). s.exns) (sym signatures) ∙ sym q.exns in
      λ i. record { types = types i; exns = exns i; funs = funs i; nodes = nodes i; wires = wires i }
