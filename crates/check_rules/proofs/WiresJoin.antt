-- Wires of a core join its nodes.
use Rattle.std.proofs.Common.{◌≡◌, ℕ, ◌<◌, ◌≤◌, List, length, Option, Some, None, slice_get, refl, ap, sym, subst, ◌∙◌, arith, Bool, ◌&&◌, ◌||◌, nat_le, true, false}
use Rattle.std.proofs.lemmas.Bool.{and_parts, leb-true}
use Rattle.std.proofs.lemmas.Option.{slice_get_within}
use Rattle.hume_base.specs.declared.limits.TheConstants.{MAX_WIRE_DEPTH}
use Rattle.hume_base.specs.declared.types.Ty.{Ty}
use Rattle.hume_base.specs.declared.types.Value.{Value}
use Rattle.hume_base.specs.declared.rule.Rule.TheVariants.{C42}
use Rattle.hume_ast.specs.declared.tree.Exp.{Exp}
use Rattle.hume_ast.specs.declared.tree.Decl.{Decl}
use Rattle.hume_ast.specs.declared.tree.Decl.TheVariants.{Wire}
use Rattle.hume_ast.specs.declared.tree.Program.{Program}
use Rattle.check_counts.specs.Counted.{counted}
use Rattle.check_counts.specs.CountRules.{depth_is_outside, initial_miscounts}
use Rattle.hume_model.specs.declared.core_tree.PortC.{PortC}
use Rattle.hume_model.specs.declared.core_tree.NodeC.{NodeC}
use Rattle.hume_model.specs.declared.core_tree.NodeC.TheVariants.{Rules, From, To}
use Rattle.hume_model.specs.declared.core_tree.WireC.{WireC}
use Rattle.hume_model.specs.declared.core_tree.Core.{Core}
use Rattle.hume_model.specs.Wiring.{inputs_of, outputs_of}
use Rattle.hume_model.specs.WireEnds.{is_stream, output_type, input_type, type_of_ends}
use Rattle.check_typing.specs.Signatures.{first_named}
use Rattle.check_typing.specs.declared.signatures.Signatures.{Signatures}
use Rattle.check_typing.proofs.Maybe.{some-same, given-inv}
use Rattle.check_typing.proofs.NamesFound.{first_stands}
use Rattle.check_typing.proofs.LiteralTypes.{unnegated}
use Rattle.check_rules.specs.Declared.{Decls, Numbered, numbered_from, WireDecl, wire_of, wires_in}
use Rattle.check_rules.specs.CheckRules.{IsFine, BreaksCheck, BreaksCounts}
use Rattle.check_rules.specs.CoreOf.{node_name, port_place, output_place, input_place, depth_or_one, InitialBetween, IsWireOf, IsCoreOf}
use Rattle.check_rules.proofs.Stands.{source, from_right, numbered_at}
use Rattle.check_rules.proofs.CoreTyped.{not_so}

-- The wire comes from an output of a node and leads to an input of one, and has its type from them. It holds at least one
-- value, and no more than a wire may; between two streams none from the start.
pub record JoinsNodes (core : Core) (wire : WireC) : Type 0 where
  pub producer : NodeC
  pub consumer : NodeC
  pub from : slice_get core.nodes wire.from ≡ Some producer
  pub from_port : wire.from_port < outputs_of producer
  pub to : slice_get core.nodes wire.to ≡ Some consumer
  pub to_port : wire.to_port < inputs_of consumer
  pub ty : wire.ty ≡ type_of_ends (output_type producer wire.from_port) (input_type consumer wire.to_port)
  pub some_depth : 1 ≤ wire.depth
  pub depth : wire.depth ≤ MAX_WIRE_DEPTH
  pub no_initial : is_stream producer ≡ true → is_stream consumer ≡ true → wire.initial ≡ None

abbrev port_name : PortC → List ℕ
port_name port = port.name

port_within : (name : List ℕ) (ports : List PortC) (n : ℕ) → port_place name ports ≡ Some n → n < length ports
port_within name ports n h =
    let k = given-inv (first_named port_name name ports) (λ found. Some found.0) n h in
    subst (λ n. n < length ports) (some-same _ _ k.2) (slice_get_within ports k.0.0 k.0.1 (first_stands port_name name ports k.0.0 k.0.1 k.1))

output_within : (port : Option (List ℕ)) (node : NodeC) (n : ℕ) → output_place port node ≡ Some n → n < outputs_of node
output_within (Some name) (Rules b) n h = port_within name b.outs n h
output_within (Some name) (From stream) n h = cc
output_within (Some name) (To stream) n h = cc
output_within None (Rules b) n h = cc
output_within None (From stream) n h = let e : 0 ≡ n = some-same _ _ h in omega arith
output_within None (To stream) n h = cc

input_within : (port : Option (List ℕ)) (node : NodeC) (n : ℕ) → input_place port node ≡ Some n → n < inputs_of node
input_within (Some name) (Rules b) n h = port_within name b.ins n h
input_within (Some name) (From stream) n h = cc
input_within (Some name) (To stream) n h = cc
input_within None (Rules b) n h = cc
input_within None (To stream) n h = let e : 0 ≡ n = some-same _ _ h in omega arith
input_within None (From stream) n h = cc

wire_here : (d : Numbered) (decl : Decl) (w : WireDecl) → wire_of d decl ≡ Some w
    → (d.number ≡ w.number) × (d.place ≡ w.place) × (decl ≡ Wire w.from w.to w.depth w.initial)
wire_here d (Wire source target count value) w h =
    let e : record { number = d.number; place = d.place; from = source; to = target; depth = count; initial = value } ≡ w = some-same _ _ h in
    (ap (λ (w : WireDecl). w.number) e, ap (λ (w : WireDecl). w.place) e, ap (λ (w : WireDecl). Wire w.from w.to w.depth w.initial) e)
wire_here d _ w h = cc

-- a wire stands among the declarations under its number
pub wire_stands : (decls : Decls) (n : ℕ) (w : WireDecl) → slice_get (wires_in decls) n ≡ Some w
    → slice_get decls w.number ≡ Some (w.place, Wire w.from w.to w.depth w.initial)
wire_stands decls n w e =
    let r = source (λ (d : Numbered). wire_of d d.decl) (numbered_from 0 decls) n w e in
    let at = numbered_at 0 decls r.0 r.1 r.2 in
    let is = wire_here r.1 r.1.decl w r.3 in
    let place : w.number ≡ r.0 = let a = at.0 in let b = is.0 in omega arith in
    let both : ◌≡◌ {A = ℕ × Decl} (r.1.place, r.1.decl) (w.place, Wire w.from w.to w.depth w.initial) = λ i. (is.1 i, is.2 i) in
    ap (slice_get decls) place ∙ at.1 ∙ ap Some both

or_first : (a b : Bool) → a ≡ true → (a || b) ≡ true
or_first true b h = refl
or_first false b h = cc

depth_within : (depth : Option ℕ) → depth_is_outside depth ≡ false → (1 ≤ depth_or_one depth) × (depth_or_one depth ≤ MAX_WIRE_DEPTH)
depth_within None h = (omega arith, omega arith)
depth_within (Some n) h =
    let inside = and_parts (nat_le 1 n) (nat_le n MAX_WIRE_DEPTH) (unnegated _ h) in (leb-true 1 n inside.0, leb-true n MAX_WIRE_DEPTH inside.1)

none_between : (a b : Bool) (s : Signatures) (ty : Ty) (e : Option Exp) (value : Option Value) → InitialBetween (a && b) s ty e value → a ≡ true → b ≡ true → value ≡ None
none_between true true s ty e value h p q = h
none_between true false s ty e value h p q = cc
none_between false b s ty e value h p q = cc

module _ (text : List ℕ) (program : Program) (core : Core) (fine : IsFine program.decls) (p : IsCoreOf text program core) where
  depth_inside : (n : ℕ) (w : WireDecl) → slice_get (wires_in program.decls) n ≡ Some w → depth_is_outside w.depth ≡ false
  depth_inside n w there = not_so _ (λ outside.
      fine (record { rule = C42; declaration = w.number })
      (BreaksCheck.counts (BreaksCounts.miscounts (
        refl,
        record {
          decl = (w.place, Wire w.from w.to w.depth w.initial);
          at = wire_stands program.decls n w there;
          holds = or_first (depth_is_outside w.depth) (initial_miscounts (counted program.decls) w.initial) (sym outside);
        },
      ))))

  pub joins : (n : ℕ) (wire : WireC) → slice_get core.wires n ≡ Some wire → JoinsNodes core wire
  joins n wire there =
      let c = from_right (IsWireOf text p.signatures core.nodes) _ _ p.wires n wire there in
      let is = c.2 in
      let within = depth_within c.0.depth (depth_inside n c.0 c.1) in
      record {
        producer = is.from.node;
        consumer = is.to.node;
        from = first_stands node_name c.0.from.0 core.nodes wire.from is.from.node is.from.found;
        from_port = output_within c.0.from.1 is.from.node wire.from_port is.from.at;
        to = first_stands node_name c.0.to.0 core.nodes wire.to is.to.node is.to.found;
        to_port = input_within c.0.to.1 is.to.node wire.to_port is.to.at;
        ty = is.ty;
        some_depth = subst (λ d. 1 ≤ d) (sym is.depth) within.0;
        depth = subst (λ d. d ≤ MAX_WIRE_DEPTH) (sym is.depth) within.1;
        no_initial = none_between _ _ p.signatures wire.ty c.0.initial wire.initial is.initial;
      }
