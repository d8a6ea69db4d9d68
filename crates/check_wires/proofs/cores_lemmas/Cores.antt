-- The wires that are found are those of the core, and where one is missing it has no core.
use Rattle.std.proofs.Common.{◌≡◌, ℕ, ◌&&◌, List, [], ◌∷◌, Option, Some, None, IfSome, refl, ap, sym, subst, ◌∙◌, Bool, true, false, arith}
use Rattle.std.specs.List.{Contains}
use Rattle.std.proofs.lemmas.List.Elements.{Contains-append_right}
use Rattle.hume_base.specs.Places.{line_at}
use Rattle.hume_base.specs.declared.types.Ty.{Ty}
use Rattle.hume_base.specs.declared.types.Value.{Value}
use Rattle.hume_ast.specs.declared.tree.Exp.{Exp}
use Rattle.hume_model.specs.declared.core_tree.NodeC.{NodeC}
use Rattle.hume_model.specs.declared.core_tree.WireC.{WireC}
use Rattle.hume_model.specs.WireEnds.{is_stream}
use Rattle.check_typing.specs.Partial.{given}
use Rattle.check_typing.specs.Signatures.{first_named}
use Rattle.check_typing.specs.Declarations.{InPlaces}
use Rattle.check_typing.specs.inner.DeclarationWalk.{found_of_all}
use Rattle.check_typing.specs.declared.signatures.Signatures.{Signatures}
use Rattle.check_typing.proofs.Maybe.{given-at, given-inv, some-same, not_some}
use Rattle.check_typing.proofs.DeclarationsAgree.{Finds, finds_all}
use Rattle.check_rules.specs.Constants.{constant}
use Rattle.check_rules.specs.Declared.{Decls, WireDecl, wires_in}
use Rattle.check_rules.specs.CoreOf.{node_name, output_place, input_place, IsEnd, InitialBetween, IsWireOf, depth_or_one}
use Rattle.check_wires.specs.cores.Missing.{HasWireWithoutCore}
use Rattle.check_wires.specs.cores.inner.FoundEnds.{FoundEnd, end_of}
use Rattle.check_wires.specs.cores.inner.FoundWires.{type_between, first_value, core_of, cores_of}

module _ (place_in : Option (List ℕ) → NodeC → Option ℕ) (nodes : List NodeC) (e : List ℕ × Option (List ℕ)) where
  abbrev at_place : ℕ × NodeC → ℕ → Option FoundEnd
  at_place found at = Some (record { node = found.1; number = found.0; place = at })

  abbrev is_end : (end : FoundEnd) → end_of place_in nodes e ≡ Some end → IsEnd place_in nodes e end.number end.place
  is_end end h =
      let a = given-inv (first_named node_name e.0 nodes) (λ found. given (place_in e.1 found.1) (at_place found)) end h in
      let b = given-inv (place_in e.1 a.0.1) (at_place a.0) end a.2 in
      let same : ◌≡◌ {A = FoundEnd} (record { node = a.0.1; number = a.0.0; place = b.0 }) end = some-same _ _ b.2 in
      record {
        node = end.node;
        found = a.1 ∙ ap (λ (end : FoundEnd). Some (end.number, end.node)) same;
        at = ap (λ (end : FoundEnd). place_in e.1 end.node) (sym same) ∙ b.1 ∙ ap (λ (end : FoundEnd). Some end.place) same;
      }

  end_is : (n p : ℕ) (is : IsEnd place_in nodes e n p) → end_of place_in nodes e ≡ Some (record { node = is.node; number = n; place = p })
  end_is n p is =
      given-at (first_named node_name e.0 nodes) (λ found. given (place_in e.1 found.1) (at_place found)) (n, is.node) is.found
      ∙ given-at (place_in e.1 is.node) (at_place (n, is.node)) p is.at

is_first : (between : Bool) (s : Signatures) (ty : Ty) (e : Option Exp) (v : Option Value) → first_value between s ty e ≡ Some v → InitialBetween between s ty e v
is_first true s ty e v h = sym (some-same _ _ h)
is_first false s ty None v h = sym (some-same _ _ h)
is_first false s ty (Some e) v h = let k = given-inv (constant s e ty) (λ v. Some (Some v)) v h in (k.0, k.1, sym (some-same _ _ k.2))

first_is : (between : Bool) (s : Signatures) (ty : Ty) (e : Option Exp) (v : Option Value) → InitialBetween between s ty e v → first_value between s ty e ≡ Some v
first_is true s ty e v h = ap Some (sym h)
first_is false s ty None v h = ap Some (sym h)
first_is false s ty (Some e) v h = given-at (constant s e ty) (λ v. Some (Some v)) h.0 h.1 ∙ ap Some (sym h.2)

module _ (text : List ℕ) (s : Signatures) (nodes : List NodeC) where
  module _ (w : WireDecl) where
    abbrev with_value : FoundEnd → FoundEnd → Option Value → Option WireC
    with_value source target first = Some (record {
      line = line_at text w.place;
      declaration = w.number;
      from = source.number;
      from_port = source.place;
      to = target.number;
      to_port = target.place;
      ty = type_between source target;
      depth = depth_or_one w.depth;
      initial = first;
    })

    abbrev to_target : FoundEnd → FoundEnd → Option WireC
    to_target source target =
        given (first_value (is_stream source.node && is_stream target.node) s (type_between source target) w.initial) (with_value source target)

    abbrev from_source : FoundEnd → Option WireC
    from_source source = given (end_of input_place nodes w.to) (to_target source)

    found_is_wire : (wire : WireC) → core_of text s nodes w ≡ Some wire → IsWireOf text s nodes w wire
    found_is_wire wire h =
        let source = given-inv (end_of output_place nodes w.from) from_source wire h in
        let target = given-inv (end_of input_place nodes w.to) (to_target source.0) wire source.2 in
        let first = given-inv _ (with_value source.0 target.0) wire target.2 in
        subst (IsWireOf text s nodes w) (some-same _ _ first.2) (record {
          line = refl;
          declaration = refl;
          from = is_end output_place nodes w.from source.0 source.1;
          to = is_end input_place nodes w.to target.0 target.1;
          ty = refl;
          depth = refl;
          initial = is_first (is_stream source.0.node && is_stream target.0.node) s (type_between source.0 target.0) w.initial first.0 first.1;
        })

    wire_is_found : (wire : WireC) → IsWireOf text s nodes w wire → core_of text s nodes w ≡ Some wire
    wire_is_found wire is =
        let source : FoundEnd = record { node = is.from.node; number = wire.from; place = wire.from_port } in
        let target : FoundEnd = record { node = is.to.node; number = wire.to; place = wire.to_port } in
        let between = is_stream source.node && is_stream target.node in
        let first : first_value between s (type_between source target) w.initial ≡ Some wire.initial =
        ap (λ ty. first_value between s ty w.initial) (sym is.ty) ∙ first_is between s wire.ty w.initial wire.initial is.initial in
        given-at (end_of output_place nodes w.from) from_source source (end_is output_place nodes w.from wire.from wire.from_port is.from)
        ∙ given-at (end_of input_place nodes w.to) (to_target source) target (end_is input_place nodes w.to wire.to wire.to_port is.to)
        ∙ given-at _ (with_value source target) wire.initial first
        ∙ λ i. Some (record {
          line = sym is.line i;
          declaration = sym is.declaration i;
          from = wire.from;
          from_port = wire.from_port;
          to = wire.to;
          to_port = wire.to_port;
          ty = sym is.ty i;
          depth = sym is.depth i;
          initial = wire.initial;
        })

  finds_wire : Finds (IsWireOf text s nodes) (core_of text s nodes)
  finds_wire w wire = (wire_is_found w wire, found_is_wire w wire)

  abbrev IsMissing : List WireDecl → Type 0
  IsMissing ws = (w : WireDecl) × Contains ws w × (core_of text s nodes w ≡ None)

  one_missing : (ws : List WireDecl) → found_of_all (core_of text s nodes) ws ≡ None → IsMissing ws
  one_missing [] h = cc
  one_missing (w ∷ ws) h = by (core_of text s nodes w) (found_of_all (core_of text s nodes) ws) refl (one_missing ws) h
    where
      by : (first : Option WireC) (others : Option (List WireC)) → core_of text s nodes w ≡ first → (others ≡ None → IsMissing ws)
          → given first (λ wire. given others (λ wires. Some (wire ∷ wires))) ≡ None → IsMissing (w ∷ ws)
      by None others p further h = (w, (0, omega arith, refl), p)
      by (Some wire) None p further h = let r = further refl in (r.0, Contains-append_right (w ∷ []) ws r.0 r.1, r.2)
      by (Some wire) (Some wires) p further h = cc

  module _ (decls : Decls) (found : Option (List WireC)) (is : found ≡ cores_of text s nodes decls) where
    pub found_are_wires : IfSome found (InPlaces (IsWireOf text s nodes) (wires_in decls))
    found_are_wires = by found is
      where
        by : (found : Option (List WireC)) → found ≡ cores_of text s nodes decls → IfSome found (InPlaces (IsWireOf text s nodes) (wires_in decls))
        by None h = tt
        by (Some wires) h = (finds_all (IsWireOf text s nodes) (core_of text s nodes) finds_wire (wires_in decls) wires).1 (sym h)

    pub one_has_none : found ≡ None → HasWireWithoutCore text s nodes decls
    one_has_none h =
        let r = one_missing (wires_in decls) (sym is ∙ h) in
        record { declared = r.0; among = r.1; none = λ wire is. not_some wire (sym r.2 ∙ wire_is_found r.0 wire is) }
