-- The ends of the wires of a program that breaks no rule.
use Rattle.std.proofs.Common.{◌≡◌, ℕ, zero, suc, ◌+◌, List, [], ◌∷◌, ◌++◌, map, take, Option, Some, None, option_map, slice_get, refl, ap, sym, subst, ◌∙◌, Bool, true, false, ◌||◌, if◌then◌else◌, bytes_eq}
use Rattle.std.specs.List.{filter_map, cons_option, flat_map}
use Rattle.std.proofs.lemmas.Bool.{or_parts, and_parts}
use Rattle.std.proofs.lemmas.List.Folds.{list_any-append}
use Rattle.std.proofs.lemmas.Slice.Eq.{bytes_eq-Decides}
use Rattle.hume_base.specs.declared.types.Ty.{Ty}
use Rattle.hume_base.specs.declared.types.Types.{Types}
use Rattle.hume_ast.specs.declared.tree.TyExp.{TyExp}
use Rattle.hume_ast.specs.declared.tree.Decl.{Decl}
use Rattle.hume_ast.specs.declared.tree.Decl.TheVariants.{BoxD, Stream}
use Rattle.check_tables.specs.names.Names.{among}
use Rattle.check_names.specs.DeclaredNames.{nodes_of}
use Rattle.check_names.specs.Unknown.{End, same_port, same_end, is_end, sources_of, targets_of}
use Rattle.hume_model.specs.declared.core_tree.PortC.{PortC}
use Rattle.hume_model.specs.declared.core_tree.NodeC.{NodeC}
use Rattle.hume_model.specs.WireEnds.{is_stream, output_type, input_type}
use Rattle.check_typing.specs.Partial.{given}
use Rattle.check_typing.specs.Signatures.{one_further, first_named}
use Rattle.check_typing.specs.WrittenTypes.{written}
use Rattle.check_typing.specs.Declarations.{InPlaces}
use Rattle.check_typing.specs.declared.signatures.Signatures.{Signatures}
use Rattle.check_typing.proofs.Maybe.{given-at}
use Rattle.check_typing.proofs.NamesFound.{first_stands}
use Rattle.check_rules.specs.Declared.{Decls, Numbered, numbered_from, if_node, nodes_in}
use Rattle.check_rules.specs.TypeRules.{declared_name, node_named, type_named, output_of, input_of}
use Rattle.check_rules.specs.CoreOf.{IsPort, IsNodeOf, node_name, port_place, output_place, input_place, IsEnd}
use Rattle.hume_check.proofs.fine_lemmas.Places.{first_belongs}

-- names are compared in either order
same_bytes : (a b : List ℕ) → bytes_eq a b ≡ true → a ≡ b
same_bytes a b h = (bytes_eq-Decides a b).0 h

equal_bytes : (a b : List ℕ) → a ≡ b → bytes_eq a b ≡ true
equal_bytes a b h = (bytes_eq-Decides a b).1 h

other_order : (a b : List ℕ) → bytes_eq a b ≡ false → bytes_eq b a ≡ false
other_order a b h = by (bytes_eq b a) refl
  where
    by : (c : Bool) → bytes_eq b a ≡ c → c ≡ false
    by true q = let yes : bytes_eq a b ≡ true = equal_bytes a b (sym (same_bytes b a q)) in cc
    by false q = refl

abbrev title : Numbered → List ℕ
title d = declared_name d.decl

abbrev nodes_from : ℕ → Decls → List Numbered
nodes_from m decls = filter_map (λ (d : Numbered). if_node d d.decl) (numbered_from m decls)

abbrev node_names : Decls → List (List ℕ)
node_names decls = flat_map (λ (d : ℕ × Decl). nodes_of d.1) decls

-- the first box or stream of a name
record IsFirstNode (name : List ℕ) (nodes : List Numbered) (decl : Decl) : Type 0 where
  number : ℕ
  node : Numbered
  found : first_named title name nodes ≡ Some (number, node)
  is : node.decl ≡ decl

-- a box or a stream whose name no earlier declaration has is the first one of it
first_node : (m : ℕ) (decls : Decls) (k : ℕ) (d : ℕ × Decl) (name : List ℕ) → slice_get decls k ≡ Some d → nodes_of d.1 ≡ name ∷ []
    → among name (node_names (take k decls)) ≡ false → IsFirstNode name (nodes_from m decls) d.1
first_node m [] k d name e is none = cc
first_node m (x ∷ decls) zero d name e is none =
    let same : x ≡ d = cc in
    subst (λ (d : ℕ × Decl). IsFirstNode name (nodes_from m (x ∷ decls)) d.1) same
    (here x.1 (subst (λ (d : ℕ × Decl). nodes_of d.1 ≡ name ∷ []) (sym same) is))
  where
    one : Decl → Numbered
    one decl = record { number = m; place = x.0; decl = decl }

    at_once : (decl : Decl) → declared_name decl ∷ [] ≡ name ∷ [] → (others : List Numbered) → IsFirstNode name (one decl ∷ others) decl
    at_once decl is others =
        let same : declared_name decl ≡ name = cc in
        record {
          number = 0;
          node = one decl;
          found = ap (λ b. if b then Some (0, one decl) else one_further (first_named title name others)) (equal_bytes (declared_name decl) name same);
          is = refl;
        }

    here : (decl : Decl) → nodes_of decl ≡ name ∷ [] → IsFirstNode name (cons_option (if_node (one decl) decl) (nodes_from (suc m) decls)) decl
    here (BoxD own ins outs fair rules handlers) is = at_once (BoxD own ins outs fair rules handlers) is (nodes_from (suc m) decls)
    here (Stream own from port) is = at_once (Stream own from port) is (nodes_from (suc m) decls)
    here _ is = cc
first_node m (x ∷ decls) (suc k) d name e is none = by x.1 none (λ h. first_node (suc m) decls k d name e is h)
  where
    one : Decl → Numbered
    one decl = record { number = m; place = x.0; decl = decl }

    further : (decl : Decl) → bytes_eq (declared_name decl) name ≡ false → IsFirstNode name (nodes_from (suc m) decls) d.1
        → IsFirstNode name (one decl ∷ nodes_from (suc m) decls) d.1
    further decl other r = record {
      number = r.number + 1;
      node = r.node;
      found = ap (λ b. if b then Some (0, one decl) else one_further (first_named title name (nodes_from (suc m) decls))) other ∙ ap one_further r.found;
      is = r.is;
    }

    by : (decl : Decl) → among name (nodes_of decl ++ node_names (take k decls)) ≡ false
        → (among name (node_names (take k decls)) ≡ false → IsFirstNode name (nodes_from (suc m) decls) d.1)
        → IsFirstNode name (cons_option (if_node (one decl) decl) (nodes_from (suc m) decls)) d.1
    by (BoxD own ins outs fair rules handlers) none later =
        let parts = or_parts (bytes_eq name own) (among name (node_names (take k decls))) none in
        further (BoxD own ins outs fair rules handlers) (other_order name own parts.0) (later parts.1)
    by (Stream own from port) none later =
        let parts = or_parts (bytes_eq name own) (among name (node_names (take k decls))) none in
        further (Stream own from port) (other_order name own parts.0) (later parts.1)
    by _ none later = later none

-- the declaration that has an end
pub end_declared : (ends : ℕ × Decl → List End) (e : End) (decls : Decls) → is_end e (flat_map ends decls) ≡ true
    → (k : ℕ) × (d : ℕ × Decl) × (slice_get decls k ≡ Some d) × (is_end e (ends d) ≡ true)
end_declared ends e [] h = cc
end_declared ends e (x ∷ decls) h =
    by (is_end e (ends x)) refl (end_declared ends e decls) (sym (list_any-append (same_end e) (ends x) (flat_map ends decls)) ∙ h)
  where
    Declared : Decls → Type 0
    Declared ds = (k : ℕ) × (d : ℕ × Decl) × (slice_get ds k ≡ Some d) × (is_end e (ends d) ≡ true)

    by : (b : Bool) → is_end e (ends x) ≡ b → (is_end e (flat_map ends decls) ≡ true → Declared decls) → (b || is_end e (flat_map ends decls)) ≡ true
        → Declared (x ∷ decls)
    by true q rest h = (0, x, refl, q)
    by false q rest h = let r = rest h in (suc r.0, r.1, r.2, r.3)

abbrev place_name : List ℕ × TyExp → List ℕ
place_name place = place.0

abbrev port_name : PortC → List ℕ
port_name port = port.name

-- the end is at an input or an output of a box
record IsAtPlace (own : List ℕ) (places : List (List ℕ × TyExp)) (e : End) : Type 0 where
  name : e.0 ≡ own
  port : List ℕ
  is : e.1 ≡ Some port
  at : ℕ
  place : List ℕ × TyExp
  first : first_named place_name port places ≡ Some (at, place)

at_place : (own : List ℕ) (places : List (List ℕ × TyExp)) (e : End) → is_end e (map (λ (place : List ℕ × TyExp). (own, Some place.0)) places) ≡ true
    → IsAtPlace own places e
at_place own [] e h = cc
at_place own (p ∷ places) e h = by (same_end e (own, Some p.0)) refl (at_place own places e) h
  where
    port_of : (port : Option (List ℕ)) → same_port port (Some p.0) ≡ true → (name : List ℕ) × (port ≡ Some name) × (bytes_eq p.0 name ≡ true)
    port_of None h = cc
    port_of (Some name) h = (name, refl, equal_bytes p.0 name (sym (same_bytes name p.0 h)))

    or_this : (port : List ℕ) (b : Bool) → bytes_eq p.0 port ≡ b → (at : ℕ) (place : List ℕ × TyExp) → first_named place_name port places ≡ Some (at, place)
        → (n : ℕ) × (z : List ℕ × TyExp) × (first_named place_name port (p ∷ places) ≡ Some (n, z))
    or_this port true q at place e = (0, p, ap (λ b. if b then Some (0, p) else one_further (first_named place_name port places)) q)
    or_this port false q at place e =
        (at + 1, place, ap (λ b. if b then Some (0, p) else one_further (first_named place_name port places)) q ∙ ap one_further e)

    by : (b : Bool) → same_end e (own, Some p.0) ≡ b
        → (is_end e (map (λ (place : List ℕ × TyExp). (own, Some place.0)) places) ≡ true → IsAtPlace own places e)
        → (b || is_end e (map (λ (place : List ℕ × TyExp). (own, Some place.0)) places)) ≡ true → IsAtPlace own (p ∷ places) e
    by true q rest h =
        let parts = and_parts (bytes_eq e.0 own) (same_port e.1 (Some p.0)) q in
        let port = port_of e.1 parts.1 in
        record {
          name = same_bytes e.0 own parts.0;
          port = port.0;
          is = port.1;
          at = 0;
          place = p;
          first = ap (λ b. if b then Some (0, p) else one_further (first_named place_name port.0 places)) port.2;
        }
    by false q rest h =
        let r = rest h in
        let first = or_this r.port (bytes_eq p.0 r.port) refl r.at r.place r.first in
        record { name = r.name; port = r.port; is = r.is; at = first.0; place = first.1; first = first.2 }

-- the end is a stream
at_stream : (own : List ℕ) (e : End) → is_end e ((own, None) ∷ []) ≡ true → (e.0 ≡ own) × (e.1 ≡ None)
at_stream own e h = by (same_end e (own, None)) refl h
  where
    no_port : (port : Option (List ℕ)) → same_port port None ≡ true → port ≡ None
    no_port None h = refl
    no_port (Some name) h = cc

    by : (b : Bool) → same_end e (own, None) ≡ b → (b || false) ≡ true → (e.0 ≡ own) × (e.1 ≡ None)
    by true q h = let parts = and_parts (bytes_eq e.0 own) (same_port e.1 None) q in (same_bytes e.0 own parts.0, no_port e.1 parts.1)
    by false q h = cc

abbrev pub is_none : Option Ty → Bool
is_none None = true
is_none (Some ty) = false

-- an end of a wire of the core, whose type is the declared one, which only a stream lacks
pub record HasEnd (place_in : Option (List ℕ) → NodeC → Option ℕ) (type_in : NodeC → ℕ → Option Ty) (nodes : List NodeC) (e : End)
    (declared : Option Ty) : Type 0 where
  pub number : ℕ
  pub place : ℕ
  pub is : IsEnd place_in nodes e number place
  pub same : declared ≡ type_in is.node place
  pub missing : is_stream is.node ≡ is_none declared

-- the place and the type of an input or an output
record IsThere (types : Types) (places : List (List ℕ × TyExp)) (ports : List PortC) (port : List ℕ) (at : ℕ) : Type 0 where
  ty : Ty
  place : port_place port ports ≡ Some at
  declared : type_named types (Some port) places ≡ Some ty
  has : option_map (λ (port : PortC). port.ty) (slice_get ports at) ≡ Some ty

there : (types : Types) (places : List (List ℕ × TyExp)) (ports : List PortC) → InPlaces (IsPort types) places ports → (port : List ℕ) (at : ℕ)
    (place : List ℕ × TyExp) → first_named place_name port places ≡ Some (at, place) → IsThere types places ports port at
there types places ports h port at place e =
    let r = first_belongs (IsPort types) place_name port_name (λ x y is. is.name) port places ports h at place e in
    record {
      ty = r.0.ty;
      place = given-at (first_named port_name port ports) (λ found. Some found.0) (at, r.0) r.1;
      declared = given-at (first_named place_name port places) (λ found. written types found.1.1) (at, place) e ∙ r.2.ty;
      has = ap (option_map (λ (port : PortC). port.ty)) (first_stands port_name port ports at r.0 r.1);
    }

node_titled : (text : List ℕ) (s : Signatures) (d : Numbered) (decl : Decl) (node : NodeC) → IsNodeOf text s d decl node → node_name node ≡ declared_name decl
node_titled text s d (BoxD name ins outs fair rules handlers) node h = ap node_name h.1 ∙ h.2.name
node_titled text s d (Stream name true outside) node h = ap node_name h
node_titled text s d (Stream name false outside) node h = ap node_name h
node_titled text s d _ node h = absurd h

module _ (text : List ℕ) (s : Signatures) (decls : Decls) (nodes : List NodeC)
    (each : InPlaces (λ (d : Numbered) node. IsNodeOf text s d d.decl node) (nodes_in decls) nodes) where
  -- the node that a name stands for
  record NodeIs (name : List ℕ) (decl : Decl) : Type 0 where
    number : ℕ
    of : Numbered
    node : NodeC
    found : first_named node_name name nodes ≡ Some (number, node)
    is : IsNodeOf text s of decl node
    named : node_named name decls ≡ Some decl

  node_is : (k : ℕ) (d : ℕ × Decl) (name : List ℕ) → slice_get decls k ≡ Some d → nodes_of d.1 ≡ name ∷ []
      → among name (node_names (take k decls)) ≡ false → NodeIs name d.1
  node_is k d name e is none =
      let f = first_node 0 decls k d name e is none in
      let r = first_belongs (λ (d : Numbered) node. IsNodeOf text s d d.decl node) title node_name (λ d node h. node_titled text s d d.decl node h)
      name (nodes_in decls) nodes each f.number f.node f.found in
      record {
        number = f.number;
        of = f.node;
        node = r.0;
        found = r.1;
        is = subst (λ decl. IsNodeOf text s f.node decl r.0) f.is r.2;
        named = given-at (first_named title name (nodes_in decls)) (λ found. Some found.1.decl) (f.number, f.node) f.found ∙ ap Some f.is;
      }

  module _ (alone : (k : ℕ) (d : ℕ × Decl) (name : List ℕ) → slice_get decls k ≡ Some d → nodes_of d.1 ≡ name ∷ []
      → among name (node_names (take k decls)) ≡ false) where
    own_node : (k : ℕ) (place : ℕ) (decl : Decl) (own : List ℕ) (e : End) → slice_get decls k ≡ Some (place, decl) → nodes_of decl ≡ own ∷ [] → e.0 ≡ own
        → NodeIs e.0 decl
    own_node k place decl own e at is named =
        let one = is ∙ ap (λ name. name ∷ []) (sym named) in
        node_is k (place, decl) e.0 at one (alone k (place, decl) e.0 at one)

    -- where a wire begins
    pub source_found : (k : ℕ) (d : ℕ × Decl) (e : End) → slice_get decls k ≡ Some d → is_end e (sources_of d.1) ≡ true
        → HasEnd output_place output_type nodes e (given (node_named e.0 decls) (output_of s.types e.1))
    source_found k (place, BoxD own ins outs fair rules handlers) e at h =
        let p = at_place own outs e h in
        let n = own_node k place (BoxD own ins outs fair rules handlers) own e at refl p.name in
        let b = n.is.0 in
        let t = there s.types outs b.outs n.is.2.outs p.port p.at p.place p.first in
        let declared : given (node_named e.0 decls) (output_of s.types e.1) ≡ Some t.ty =
        given-at (node_named e.0 decls) (output_of s.types e.1) (BoxD own ins outs fair rules handlers) n.named
        ∙ ap (λ port. type_named s.types port outs) p.is ∙ t.declared in
        record {
          number = n.number;
          place = p.at;
          is = record { node = n.node; found = n.found; at = (λ i. output_place (p.is i) (n.is.1 i)) ∙ t.place };
          same = declared ∙ sym (ap (λ node. output_type node p.at) n.is.1 ∙ t.has);
          missing = ap is_stream n.is.1 ∙ sym (ap is_none declared);
        }
    source_found k (place, Stream own true port) e at h =
        let p = at_stream own e h in
        let n = own_node k place (Stream own true port) own e at refl p.0 in
        let declared : given (node_named e.0 decls) (output_of s.types e.1) ≡ None =
        given-at (node_named e.0 decls) (output_of s.types e.1) (Stream own true port) n.named in
        record {
          number = n.number;
          place = 0;
          is = record { node = n.node; found = n.found; at = λ i. output_place (p.1 i) (n.is i) };
          same = declared ∙ sym (ap (λ node. output_type node 0) n.is);
          missing = ap is_stream n.is ∙ sym (ap is_none declared);
        }
    source_found k (place, Stream own false port) e at h = cc
    source_found k (place, _) e at h = cc

    -- where a wire ends
    pub target_found : (k : ℕ) (d : ℕ × Decl) (e : End) → slice_get decls k ≡ Some d → is_end e (targets_of d.1) ≡ true
        → HasEnd input_place input_type nodes e (given (node_named e.0 decls) (input_of s.types e.1))
    target_found k (place, BoxD own ins outs fair rules handlers) e at h =
        let p = at_place own ins e h in
        let n = own_node k place (BoxD own ins outs fair rules handlers) own e at refl p.name in
        let b = n.is.0 in
        let t = there s.types ins b.ins n.is.2.ins p.port p.at p.place p.first in
        let declared : given (node_named e.0 decls) (input_of s.types e.1) ≡ Some t.ty =
        given-at (node_named e.0 decls) (input_of s.types e.1) (BoxD own ins outs fair rules handlers) n.named
        ∙ ap (λ port. type_named s.types port ins) p.is ∙ t.declared in
        record {
          number = n.number;
          place = p.at;
          is = record { node = n.node; found = n.found; at = (λ i. input_place (p.is i) (n.is.1 i)) ∙ t.place };
          same = declared ∙ sym (ap (λ node. input_type node p.at) n.is.1 ∙ t.has);
          missing = ap is_stream n.is.1 ∙ sym (ap is_none declared);
        }
    target_found k (place, Stream own false port) e at h =
        let p = at_stream own e h in
        let n = own_node k place (Stream own false port) own e at refl p.0 in
        let declared : given (node_named e.0 decls) (input_of s.types e.1) ≡ None =
        given-at (node_named e.0 decls) (input_of s.types e.1) (Stream own false port) n.named in
        record {
          number = n.number;
          place = 0;
          is = record { node = n.node; found = n.found; at = λ i. input_place (p.1 i) (n.is i) };
          same = declared ∙ sym (ap (λ node. input_type node 0) n.is);
          missing = ap is_stream n.is ∙ sym (ap is_none declared);
        }
    target_found k (place, Stream own true port) e at h = cc
    target_found k (place, _) e at h = cc
