-- A program that breaks no rule has a core.
use Rattle.std.proofs.Common.{◌≡◌, ℕ, List, [], ◌∷◌, map, Option, Some, None, slice_get, refl, ap, subst, ◌∙◌, true, false}
use Rattle.hume_base.specs.Places.{line_at}
use Rattle.hume_base.specs.declared.limits.TheConstants.{MAX_DEPTH}
use Rattle.hume_base.specs.declared.rule.Rule.TheVariants.{C40}
use Rattle.hume_base.specs.declared.types.Ty.{Ty}
use Rattle.hume_base.specs.declared.types.Types.{Types}
use Rattle.hume_ast.specs.declared.tree.TyExp.{TyExp}
use Rattle.hume_ast.specs.declared.tree.Decl.{Decl}
use Rattle.hume_ast.specs.declared.tree.Decl.TheVariants.{Fun, BoxD, Stream}
use Rattle.hume_ast.specs.declared.tree.Program.{Program}
use Rattle.hume_ast.specs.Fits.{IsFit}
use Rattle.hume_model.specs.declared.core_tree.PortC.{PortC}
use Rattle.hume_model.specs.declared.core_tree.BoxC.{BoxC}
use Rattle.hume_model.specs.declared.core_tree.NodeC.{NodeC}
use Rattle.hume_model.specs.declared.core_tree.NodeC.TheVariants.{Rules, From, To}
use Rattle.hume_model.specs.declared.core_tree.FunC.{FunC}
use Rattle.hume_model.specs.declared.core_tree.Core.{Core}
use Rattle.typed_core.specs.Erasing.{erased_equation, erased_handler, erased_rule}
use Rattle.check_typing.specs.Partial.{given}
use Rattle.check_typing.specs.WrittenTypes.{written}
use Rattle.check_typing.specs.Declarations.{InPlaces, CoredDeclaration, cores_alone, IsTyped, ports_written}
use Rattle.check_typing.specs.inner.DeclarationWalk.{declaration_walk}
use Rattle.check_typing.specs.declared.signatures.Signatures.{Signatures}
use Rattle.check_typing.proofs.Maybe.{given-inv}
use Rattle.check_typing.proofs.DeclarationsAgree.{finds_declaration, finds_none}
use Rattle.check_rules.specs.Declared.{FunctionDecl, function_of, in_order, Numbered, if_node, nodes_in, wires_in}
use Rattle.check_rules.specs.SignaturesOf.{AreSignatures}
use Rattle.check_rules.specs.CheckRules.{IsFine, BreaksCheck, BreaksTypes}
use Rattle.check_rules.specs.CoreOf.{IsFunctionOf, IsPort, stream_core, IsNodeOf, IsWireOf, IsCoreOf}
use Rattle.check_rules.proofs.Stands.{declared, function_is, node_stands}
use Rattle.hume_check.proofs.nodes_lemmas.FunctionLaws.{signature_name}
use Rattle.hume_check.proofs.fine_lemmas.Places.{all_have, is_node}
use Rattle.hume_check.proofs.fine_lemmas.Signatures.{some_signatures}
use Rattle.hume_check.proofs.fine_lemmas.Wires.{wire_in_place}

-- inputs or outputs whose types are types
some_ports : (types : Types) (places : List (List ℕ × TyExp)) (tys : List Ty) → ports_written types places ≡ Some tys
    → (ports : List PortC) × InPlaces (IsPort types) places ports
some_ports types [] tys h = ([], tt)
some_ports types (place ∷ places) tys h =
    let first = given-inv (written types place.1) (λ first. given (ports_written types places) (λ others. Some (first ∷ others))) tys h in
    let rest = given-inv (ports_written types places) (λ others. Some (first.0 ∷ others)) tys first.2 in
    let others = some_ports types places rest.0 rest.1 in
    (record { name = place.0; ty = first.0 } ∷ others.0, (record { name = refl; ty = first.1 }, others.1))

module _ (text : List ℕ) (s : Signatures) where
  -- a function that has types has a core
  function_core : (f : FunctionDecl) (c : CoredDeclaration) → IsTyped s (Fun f.name f.types f.equations) c → (function : FunC) × IsFunctionOf text s f function
  function_core f c t =
      let signature = t.1.signature in
      let name = signature_name s.types f.name f.types signature t.1.is_written in (
        record {
          name = f.name;
          line = line_at text f.place;
          params = signature.params;
          gives = signature.gives;
          equations = map erased_equation (cores_alone t.0);
        },
        record {
          name = refl;
          line = refl;
          signature = t.1.is_written ∙ ap (λ title. Some (record { name = title; params = signature.params; gives = signature.gives })) name;
          cores = t.0;
          typed = t.1;
          equations = refl;
        },
      )

  -- so has a node
  node_core : (d e : Numbered) (decl : Decl) (c : CoredDeclaration) → IsTyped s decl c → if_node d decl ≡ Some e → (node : NodeC) × IsNodeOf text s d decl node
  node_core d e (BoxD title inputs outputs is_fair rules handlers) c t is =
      let ins = some_ports s.types inputs t.2.ins t.2.inputs_are in
      let outs = some_ports s.types outputs t.2.outs t.2.outputs_are in
      let b : BoxC = record {
        name = title;
        line = line_at text d.place;
        declaration = d.number;
        ins = ins.0;
        outs = outs.0;
        fair = is_fair;
        rules = map erased_rule (cores_alone t.0);
        handlers = map erased_handler (cores_alone t.1);
      } in (
        Rules b,
        (
          b,
          refl,
          record {
            name = refl;
            line = refl;
            declaration = refl;
            ins = ins.1;
            outs = outs.1;
            fair = refl;
            rule_cores = t.0;
            handler_cores = t.1;
            typed = t.2;
            rules_are = refl;
            handlers_are = refl;
          },
        ),
      )
  node_core d e (Stream title true port) c t is = (From (stream_core text d title port), refl)
  node_core d e (Stream title false port) c t is = (To (stream_core text d title port), refl)
  node_core d e _ c t is = cc

module _ (text : List ℕ) (program : Program) (fit : IsFit program) (fine : IsFine program.decls) where
  has_signatures : (signatures : Signatures) × AreSignatures program.decls signatures
  has_signatures = some_signatures program.decls MAX_DEPTH fit (λ f broken. fine f (BreaksCheck.names broken)) (λ f broken. fine f (BreaksCheck.counts broken))

  module _ (s : Signatures) (are : AreSignatures program.decls s) where
    -- each declaration has types
    typed : (number : ℕ) (d : ℕ × Decl) → slice_get program.decls number ≡ Some d → (c : CoredDeclaration) × IsTyped s d.1 c
    typed number d there = by (declaration_walk s d.1) refl
      where
        by : (o : Option CoredDeclaration) → declaration_walk s d.1 ≡ o → (c : CoredDeclaration) × IsTyped s d.1 c
        by None e = absurd (fine (record { rule = C40; declaration = number }) (BreaksCheck.types (BreaksTypes.untyped (
          refl,
          record { signatures = s; are = are; decl = d; there = there; none = (finds_none s d.1).1 e },
        ))))
        by (Some c) e = (c, (finds_declaration s d.1 c).1 e)

    functions : (funs : List FunC) × InPlaces (IsFunctionOf text s) (in_order function_of are.funs.order program.decls) funs
    functions = all_have (IsFunctionOf text s) (in_order function_of are.funs.order program.decls) (λ n f e.
        let d = declared function_of are.funs.order program.decls n f e in
        let t = typed d.0 d.1 d.2 in
        function_core text s f t.0 (subst (λ decl. IsTyped s decl t.0) (function_is d.1 f d.3) t.1))

    nodes : (nodes : List NodeC) × InPlaces (λ (d : Numbered) node. IsNodeOf text s d d.decl node) (nodes_in program.decls) nodes
    nodes = all_have (λ (d : Numbered) node. IsNodeOf text s d d.decl node) (nodes_in program.decls) (λ n d e.
        let t = typed d.number (d.place, d.decl) (node_stands program.decls n d e) in
        node_core text s d d d.decl t.0 t.1 (is_node program.decls n d e))

    core_of_signatures : (core : Core) × IsCoreOf text program core
    core_of_signatures =
        let ns = nodes in
        let fs = functions in
        let ws = all_have (IsWireOf text s ns.0) (wires_in program.decls) (wire_in_place program.decls fine text s are ns.0 ns.1) in (
          record { types = s.types; exns = s.exns; funs = fs.0; nodes = ns.0; wires = ws.0 },
          record { signatures = s; are = are; types = refl; exns = refl; funs = fs.1; nodes = ns.1; wires = ws.1 },
        )

  -- the program has a core
  pub some_core : (core : Core) × IsCoreOf text program core
  some_core = let h = has_signatures in core_of_signatures h.0 h.1
