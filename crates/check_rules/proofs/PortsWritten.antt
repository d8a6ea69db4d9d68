-- Types of inputs, outputs and wires are ones that a source may write.
use Rattle.std.proofs.Common.{true, ◌≡◌, ℕ, zero, suc, ◌≤◌, inl, inr, List, [], ◌∷◌, map, length, Contains, Option, Some, None, slice_get, refl, ap, sym, subst, ◌∙◌, arith, Bool, ◌||◌, false}
use Rattle.std.specs.List.{list_any}
use Rattle.std.specs.Option.{option_map}
use Rattle.std.proofs.lemmas.Bool.{or_parts, cases_lt}
use Rattle.std.proofs.lemmas.List.Elements.{Contains-append_left, Contains-append_right}
use Rattle.std.proofs.lemmas.Option.{slice_get_within, slice_get-map, get_or_from_slice_get}
use Rattle.hume_base.specs.declared.limits.TheConstants.{MAX_DEPTH, MAX_TYPE_WORDS}
use Rattle.hume_base.specs.declared.types.Ty.{Ty, fold-roll-Ty, Bool as BoolTy}
use Rattle.hume_base.specs.declared.types.Ty.TheOpen.{Ty-F}
use Rattle.hume_base.specs.declared.types.Ty.TheVariants.{rolls-Bool}
use Rattle.hume_base.specs.declared.types.Types.{Types}
use Rattle.hume_base.specs.declared.rule.Rule.TheVariants.{C42, C73}
use Rattle.hume_base.specs.declared.types.Value.{Value}
use Rattle.hume_base.specs.Values.{is_value}
use Rattle.hume_base.specs.Sizes.{named_size, size_step, size_of}
use Rattle.hume_ast.specs.declared.tree.TyExp.{TyExp}
use Rattle.hume_ast.specs.declared.tree.Decl.{Decl}
use Rattle.hume_ast.specs.declared.tree.Decl.TheVariants.{BoxD}
use Rattle.hume_ast.specs.declared.tree.Program.{Program}
use Rattle.hume_ast.specs.Fits.{Each, TypeFits, TypedNameFits, DeclFits, IsFit}
use Rattle.check_counts.specs.Counted.{counted}
use Rattle.check_counts.specs.Miscounts.{type_miscounts}
use Rattle.check_counts.specs.CountRules.{declaration_miscounts, places_miscount}
use Rattle.hume_model.specs.declared.core_tree.PortC.{PortC}
use Rattle.hume_model.specs.declared.core_tree.BoxC.{BoxC}
use Rattle.hume_model.specs.declared.core_tree.NodeC.{NodeC}
use Rattle.hume_model.specs.declared.core_tree.NodeC.TheVariants.{Rules, From, To}
use Rattle.hume_model.specs.declared.core_tree.WireC.{WireC}
use Rattle.hume_model.specs.declared.core_tree.Core.{Core}
use Rattle.hume_model.specs.TypeLimits.{type_step, depth_step, IsWrittenType}
use Rattle.hume_model.specs.WireEnds.{HasEnds, output_type, input_type, type_of_ends}
use Rattle.check_typing.specs.WrittenTypes.{written}
use Rattle.check_typing.proofs.Maybe.{some-same}
use Rattle.check_rules.specs.CheckRules.{IsFine, BreaksCheck, BreaksCounts, BreaksLimits}
use Rattle.check_rules.specs.SizeRules.{types_in, IsTypeOf}
use Rattle.check_rules.specs.CoreOf.{IsPort, IsCoreOf}
use Rattle.check_rules.proofs.Stands.{from_right}
use Rattle.check_rules.proofs.CoreTyped.{not_so, box_declared}
use Rattle.check_rules.proofs.TypesWritten.{written_shallow}
use Rattle.check_rules.proofs.WiresJoin.{joins}

pub each_at : {A : Type 0} (P : A → Type 0) (xs : List A) → Each P xs → (n : ℕ) (x : A) → slice_get xs n ≡ Some x → P x
each_at P [] h n x e = cc
each_at P (y ∷ ys) h zero x e = subst P (some-same _ _ e) h.0
each_at P (y ∷ ys) h (suc n) x e = each_at P ys h.1 n x e

pub any_at : {A : Type 0} (test : A → Bool) (xs : List A) → list_any test xs ≡ false → (n : ℕ) (x : A) → slice_get xs n ≡ Some x → test x ≡ false
any_at test [] h n x e = cc
any_at test (y ∷ ys) h zero x e = ap test (sym (some-same _ _ e)) ∙ (or_parts (test y) (list_any test ys) h).0
any_at test (y ∷ ys) h (suc n) x e = any_at test ys (or_parts (test y) (list_any test ys) h).1 n x e

abbrev place_type : List ℕ × TyExp → TyExp
place_type place = place.1

type_there : (places : List (List ℕ × TyExp)) (n : ℕ) (place : List ℕ × TyExp) → slice_get places n ≡ Some place → Contains (map place_type places) place.1
type_there places n place e =
    let there : slice_get (map place_type places) n ≡ Some place.1 = slice_get-map place_type places n ∙ ap (option_map place_type) e in
    (n, slice_get_within (map place_type places) n place.1 there, get_or_from_slice_get (map place_type places) n place.1 place.1 there)

bool_written : (types : Types) → IsWrittenType types BoolTy
bool_written types = subst (IsWrittenType types) rolls-Bool (record {
  parts = fold-roll-Ty Bool (type_step (length types.sums)) Ty-F.Bool;
  depth = subst (λ n. n ≤ MAX_DEPTH) (sym (fold-roll-Ty ℕ depth_step Ty-F.Bool)) (omega arith);
  words = subst (λ n. n ≤ MAX_TYPE_WORDS) (sym (fold-roll-Ty ℕ (size_step (named_size types (length types.sums))) Ty-F.Bool)) (omega arith);
})

module _ (text : List ℕ) (program : Program) (core : Core) (fine : IsFine program.decls) (fit : IsFit program) (p : IsCoreOf text program core) where
  abbrev types : Types
  types = p.signatures.types

  small : (n : ℕ) (d : ℕ × Decl) → slice_get program.decls n ≡ Some d → (e : TyExp) → Contains (types_in d.1) e → (ty : Ty) → written types e ≡ Some ty → size_of types ty ≤ MAX_TYPE_WORDS
  small n d there e has ty is = elim (cases_lt MAX_TYPE_WORDS (size_of types ty)) [
    | inl lt ↦ absurd (fine (record { rule = C73; declaration = n }) (BreaksCheck.limits (BreaksLimits.large_type (
      refl,
      record { signatures = p.signatures; are = p.are; decl = d; there = there; ty = ty; of = IsTypeOf.one_written e has is; large = lt },
    ))))
    | inr le ↦ le
  ]

  -- a type that is written in a declaration
  pub type_written : (n : ℕ) (d : ℕ × Decl) → slice_get program.decls n ≡ Some d → (e : TyExp) → Contains (types_in d.1) e → TypeFits MAX_DEPTH e → type_miscounts e ≡ false
      → (ty : Ty) → written types e ≡ Some ty → IsWrittenType types ty
  type_written n d there e has fits off ty is =
      let s = written_shallow types e ty is MAX_DEPTH fits off in
      record { parts = s.parts; depth = s.depth; words = small n d there e has ty is }

  pub counts : (n : ℕ) (d : ℕ × Decl) → slice_get program.decls n ≡ Some d → declaration_miscounts (counted program.decls) d.1 ≡ false
  counts n d there = not_so _ (λ wrong. fine (record { rule = C42; declaration = n })
      (BreaksCheck.counts (BreaksCounts.miscounts (refl, record { decl = d; at = there; holds = sym wrong }))))

  -- types of the inputs and outputs of a box
  pub record HasWrittenPorts (b : BoxC) : Type 0 where
    pub ins : (i : ℕ) (port : PortC) → slice_get b.ins i ≡ Some port → IsWrittenType types port.ty
    pub outs : (i : ℕ) (port : PortC) → slice_get b.outs i ≡ Some port → IsWrittenType types port.ty

  pub box_ports : (n : ℕ) (b : BoxC) → slice_get core.nodes n ≡ Some (Rules b) → HasWrittenPorts b
  box_ports n b there =
      let c = box_declared text program core fine p n b there in
      let box = c.2 in
      let decl = BoxD box.name box.ins box.outs box.is_fair box.rules box.handlers in
      let at : slice_get program.decls c.0.number ≡ Some (c.0.place, decl) = c.1 ∙ ap (λ d. Some (c.0.place, d)) box.decl in
      let fits : DeclFits MAX_DEPTH decl = each_at (λ (d : ℕ × Decl). DeclFits MAX_DEPTH d.1) program.decls fit c.0.number (c.0.place, decl) at in
      let flags = or_parts (places_miscount box.ins) (places_miscount box.outs) (or_parts (places_miscount box.ins || places_miscount box.outs) _ (counts c.0.number (c.0.place, decl) at)).0 in
      record {
        ins = λ i port e.
            let w = from_right (IsPort types) box.ins b.ins box.is.ins i port e in
            type_written c.0.number (c.0.place, decl) at w.0.1 (Contains-append_left (map place_type box.ins) _ w.0.1 (type_there box.ins i w.0 w.1))
            (each_at (TypedNameFits MAX_DEPTH) box.ins fits.0.1 i w.0 w.1) (any_at (λ (place : List ℕ × TyExp). type_miscounts place.1) box.ins flags.0 i w.0 w.1) port.ty w.2.ty;
        outs = λ i port e.
            let w = from_right (IsPort types) box.outs b.outs box.is.outs i port e in
            type_written c.0.number (c.0.place, decl) at w.0.1
            (Contains-append_right (map place_type box.ins) _ w.0.1 (Contains-append_left (map place_type box.outs) _ w.0.1 (type_there box.outs i w.0 w.1)))
            (each_at (TypedNameFits MAX_DEPTH) box.outs fits.1.1 i w.0 w.1) (any_at (λ (place : List ℕ × TyExp). type_miscounts place.1) box.outs flags.1 i w.0 w.1) port.ty w.2.ty;
      }

  port_written : (ports : List PortC) → ((i : ℕ) (port : PortC) → slice_get ports i ≡ Some port → IsWrittenType types port.ty)
      → (i : ℕ) (ty : Ty) → option_map (λ (port : PortC). port.ty) (slice_get ports i) ≡ Some ty → IsWrittenType types ty
  port_written ports all i ty h = by (slice_get ports i) refl h
    where
      by : (o : Option PortC) → slice_get ports i ≡ o → option_map (λ (port : PortC). port.ty) o ≡ Some ty → IsWrittenType types ty
      by None q h = cc
      by (Some port) q h = subst (IsWrittenType types) (some-same _ _ h) (all i port q)

  output_written : (n : ℕ) (node : NodeC) → slice_get core.nodes n ≡ Some node → (place : ℕ) (ty : Ty) → output_type node place ≡ Some ty → IsWrittenType types ty
  output_written n (Rules b) there place ty h = port_written b.outs (box_ports n b there).outs place ty h
  output_written n (From stream) there place ty h = cc
  output_written n (To stream) there place ty h = cc

  input_written : (n : ℕ) (node : NodeC) → slice_get core.nodes n ≡ Some node → (place : ℕ) (ty : Ty) → input_type node place ≡ Some ty → IsWrittenType types ty
  input_written n (Rules b) there place ty h = port_written b.ins (box_ports n b there).ins place ty h
  input_written n (From stream) there place ty h = cc
  input_written n (To stream) there place ty h = cc

  ends_written : (a b : Option Ty) → ((ty : Ty) → a ≡ Some ty → IsWrittenType types ty) → ((ty : Ty) → b ≡ Some ty → IsWrittenType types ty) → IsWrittenType types (type_of_ends a b)
  ends_written (Some ty) b p q = p ty refl
  ends_written None (Some ty) p q = q ty refl
  ends_written None None p q = bool_written types

  pub wire_written : (n : ℕ) (wire : WireC) → slice_get core.wires n ≡ Some wire → IsWrittenType core.types wire.ty
  wire_written n wire there =
      let j = joins text program core fine p n wire there in
      subst (λ t. IsWrittenType t wire.ty) (sym p.types)
      (subst (IsWrittenType types) (sym j.ty)
      (ends_written _ _ (output_written wire.from j.producer j.from wire.from_port) (input_written wire.to j.consumer j.to wire.to_port)))

  -- a wire has its ends, if its first value is one of its type
  pub ends : (n : ℕ) (wire : WireC) → slice_get core.wires n ≡ Some wire → ((v : Value) → wire.initial ≡ Some v → is_value core.types wire.ty v ≡ true) → HasEnds core wire
  ends n wire there first =
      let j = joins text program core fine p n wire there in
      record {
        producer = j.producer;
        consumer = j.consumer;
        from = j.from;
        from_port = j.from_port;
        to = j.to;
        to_port = j.to_port;
        ty = j.ty;
        some_depth = j.some_depth;
        depth = j.depth;
        initial = first;
        no_initial = j.no_initial;
        written = wire_written n wire there;
      }
