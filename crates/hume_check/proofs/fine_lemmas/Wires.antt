-- Each wire of a program that breaks no rule has a core.
use Rattle.std.proofs.Common.{◌≡◌, ℕ, List, [], ◌∷◌, take, Contains, Option, Some, None, slice_get, refl, ap, sym, ◌∙◌, Bool, true, false, ◌||◌, ◌&&◌, not}
use Rattle.std.specs.List.{flat_map}
use Rattle.std.proofs.lemmas.Bool.{or_parts}
use Rattle.std.proofs.lemmas.Option.{slice_get_read}
use Rattle.hume_base.specs.Places.{line_at}
use Rattle.hume_base.specs.declared.rule.Rule.TheVariants.{C30, C31, C45}
use Rattle.hume_base.specs.declared.types.Ty.{Ty}
use Rattle.hume_base.specs.declared.types.Value.{Value}
use Rattle.hume_ast.specs.declared.tree.Exp.{Exp}
use Rattle.hume_ast.specs.declared.tree.Decl.{Decl}
use Rattle.hume_ast.specs.declared.tree.Decl.TheVariants.{Wire}
use Rattle.check_tables.specs.names.Names.{among}
use Rattle.check_names.specs.Names.{repeats}
use Rattle.check_names.specs.DeclaredNames.{types_of, functions_of, nodes_of}
use Rattle.check_names.specs.Repeated.{capitals_of, spaces_in, repeats_shared, repeats_own}
use Rattle.check_names.specs.Mentions.{mentions_of}
use Rattle.check_names.specs.Misnamed.{BreaksNames}
use Rattle.check_names.specs.Unknown.{known_in, mentions_unknown, names_otherwise, misses_end, is_end, sources_of, targets_of}
use Rattle.hume_model.specs.declared.core_tree.NodeC.{NodeC}
use Rattle.hume_model.specs.declared.core_tree.WireC.{WireC}
use Rattle.hume_model.specs.WireEnds.{is_stream, output_type, input_type, type_of_ends}
use Rattle.check_typing.specs.Declarations.{InPlaces}
use Rattle.check_typing.specs.declared.signatures.Signatures.{Signatures}
use Rattle.check_rules.specs.Declared.{Decls, Numbered, nodes_in, WireDecl, wires_in}
use Rattle.check_rules.specs.SignaturesOf.{AreSignatures}
use Rattle.check_rules.specs.Constants.{constant}
use Rattle.check_rules.specs.TypeRules.{or_else, wire_type, IsNoValue}
use Rattle.check_rules.specs.CheckRules.{IsFine, BreaksCheck, BreaksTypes}
use Rattle.check_rules.specs.CoreOf.{IsNodeOf, depth_or_one, Initial, InitialBetween, IsWireOf}
use Rattle.check_rules.proofs.CoreTyped.{not_so}
use Rattle.check_rules.proofs.WiresJoin.{wire_stands}
use Rattle.hume_check.proofs.fine_lemmas.Ends.{is_none, end_declared, source_found, target_found}

not_false : (b : Bool) → not b ≡ false → b ≡ true
not_false true h = refl
not_false false h = cc

-- the first of two types that there may be
some_type : (a b : Option Ty) → (is_none a && is_none b) ≡ false → or_else a b ≡ Some (type_of_ends a b)
some_type (Some ty) b h = refl
some_type None (Some ty) h = refl
some_type None None h = cc

module _ (decls : Decls) (fine : IsFine decls) where
  -- no two boxes or streams have one name
  alone : (k : ℕ) (d : ℕ × Decl) (name : List ℕ) → slice_get decls k ≡ Some d → nodes_of d.1 ≡ name ∷ []
      → among name (flat_map (λ (d : ℕ × Decl). nodes_of d.1) (take k decls)) ≡ false
  alone k d name e is =
      let spaces = spaces_in (take k decls) in
      let off : (repeats_shared spaces d.1 || repeats_own d.1) ≡ false = not_so _ (λ h.
      fine (record { rule = C30; declaration = k }) (BreaksCheck.names (BreaksNames.repeats (record { rule = C30; declaration = k })
      (refl, record { decl = d; at = e; holds = sym h })))) in
      let shared = (or_parts (repeats_shared spaces d.1) (repeats_own d.1) off).0 in
      let capitals = (or_parts (repeats spaces.types (types_of d.1)) _ shared).1 in
      let functions = (or_parts (repeats spaces.capitals (capitals_of d.1)) _ capitals).1 in
      let nodes = (or_parts (repeats spaces.functions (functions_of d.1)) (repeats spaces.nodes (nodes_of d.1)) functions).1 in
      (or_parts (among name spaces.nodes) (repeats (spaces.nodes) []) (ap (repeats spaces.nodes) (sym is) ∙ nodes)).0

  -- both ends of a wire are declared
  ends_declared : (w : WireDecl) → slice_get decls w.number ≡ Some (w.place, Wire w.from w.to w.depth w.initial)
      → (is_end w.from (flat_map (λ (d : ℕ × Decl). sources_of d.1) decls) ≡ true) × (is_end w.to (flat_map (λ (d : ℕ × Decl). targets_of d.1) decls) ≡ true)
  ends_declared w e =
      let decl = Wire w.from w.to w.depth w.initial in
      let off : (mentions_unknown (known_in decls) (mentions_of decl) || (names_otherwise decl || misses_end decls decl)) ≡ false = not_so _ (λ h.
      fine (record { rule = C31; declaration = w.number }) (BreaksCheck.names (BreaksNames.unknown (record { rule = C31; declaration = w.number })
      (refl, record { decl = (w.place, decl); at = e; holds = sym h })))) in
      let names = (or_parts (mentions_unknown (known_in decls) (mentions_of decl)) (names_otherwise decl || misses_end decls decl) off).1 in
      let missing = (or_parts (names_otherwise decl) (misses_end decls decl) names).1 in
      let sources = flat_map (λ (d : ℕ × Decl). sources_of d.1) decls in
      let targets = flat_map (λ (d : ℕ × Decl). targets_of d.1) decls in
      let both = or_parts (not (is_end w.from sources)) (not (is_end w.to targets)) missing in
      (not_false _ both.0, not_false _ both.1)

  module _ (text : List ℕ) (s : Signatures) (are : AreSignatures decls s) (nodes : List NodeC)
      (each : InPlaces (λ (d : Numbered) node. IsNodeOf text s d d.decl node) (nodes_in decls) nodes) where
    -- what is written down as a first value is one of the wire's type
    first_value : (at : ℕ) (w : WireDecl) → slice_get (wires_in decls) at ≡ Some w → (ty : Ty) → wire_type s.types decls w ≡ Some ty
        → (e : Option Exp) → w.initial ≡ e → (value : Option Value) × Initial s ty e value
    first_value at w there ty type None e = (None, refl)
    first_value at w there ty type (Some exp) e = by (constant s exp ty) refl
      where
        by : (o : Option Value) → constant s exp ty ≡ o → (value : Option Value) × Initial s ty (Some exp) value
        by None q = absurd (fine (record { rule = C45; declaration = w.number }) (BreaksCheck.types (BreaksTypes.no_initial (
          refl,
          record {
            signatures = s;
            are = are;
            at = at;
            wire = w;
            there = there;
            declared = refl;
            value = exp;
            written_value = e;
            none = IsNoValue.unfit ty type q;
          },
        ))))
        by (Some v) q = (Some v, (v, q, refl))

    between : (at : ℕ) (w : WireDecl) → slice_get (wires_in decls) at ≡ Some w → (a b : Option Ty) → wire_type s.types decls w ≡ or_else a b
        → (streams : Bool) → (is_none a && is_none b) ≡ streams → (value : Option Value) × InitialBetween streams s (type_of_ends a b) w.initial value
    between at w there a b type true none = (None, refl)
    between at w there a b type false none = first_value at w there (type_of_ends a b) (type ∙ some_type a b none) w.initial refl

    wire_at : (at : ℕ) (w : WireDecl) → slice_get (wires_in decls) at ≡ Some w → (wire : WireC) × IsWireOf text s nodes w wire
    wire_at at w there =
        let ends = ends_declared w (wire_stands decls at w there) in
        let from_decl = end_declared (λ (d : ℕ × Decl). sources_of d.1) w.from decls ends.0 in
        let to_decl = end_declared (λ (d : ℕ × Decl). targets_of d.1) w.to decls ends.1 in
        let source = source_found text s decls nodes each alone from_decl.0 from_decl.1 w.from from_decl.2 from_decl.3 in
        let target = target_found text s decls nodes each alone to_decl.0 to_decl.1 w.to to_decl.2 to_decl.3 in
        let a = output_type source.is.node source.place in
        let b = input_type target.is.node target.place in
        let type : wire_type s.types decls w ≡ or_else a b = λ i. or_else (source.same i) (target.same i) in
        let streams : (is_none a && is_none b) ≡ (is_stream source.is.node && is_stream target.is.node) =
        λ i. (ap is_none (sym source.same) ∙ sym source.missing) i && (ap is_none (sym target.same) ∙ sym target.missing) i in
        let first = between at w there a b type (is_stream source.is.node && is_stream target.is.node) streams in (
          record {
            line = line_at text w.place;
            declaration = w.number;
            from = source.number;
            from_port = source.place;
            to = target.number;
            to_port = target.place;
            ty = type_of_ends a b;
            depth = depth_or_one w.depth;
            initial = first.0;
          },
          record { line = refl; declaration = refl; from = source.is; to = target.is; ty = refl; depth = refl; initial = first.1 },
        )

    pub wire_core : (w : WireDecl) → Contains (wires_in decls) w → (wire : WireC) × IsWireOf text s nodes w wire
    wire_core w c = wire_at c.0 w (slice_get_read (wires_in decls) _ c.0 w refl c.1 (sym c.2))

    pub wire_in_place : (at : ℕ) (w : WireDecl) → slice_get (wires_in decls) at ≡ Some w → (wire : WireC) × IsWireOf text s nodes w wire
    wire_in_place at w there = wire_at at w there
