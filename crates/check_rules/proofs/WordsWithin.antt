-- Wires of a core have no more words than are allowed.
use Rattle.std.proofs.Common.{◌≡◌, ℕ, suc, ◌+◌, ◌*◌, ◌<◌, ◌≤◌, inl, inr, List, [], ◌∷◌, map, sum, take, Option, Some, None, slice_get, refl, ap, sym, subst, ◌∙◌, arith, Bool, ◌&&◌, true, false, if◌then◌else◌, bytes_eq}
use Rattle.std.specs.Option.{option_map}
use Rattle.std.proofs.lemmas.Bool.{cases_lt}
use Rattle.std.proofs.lemmas.List.Sums.{sum-map, sum_by-cons}
use Rattle.hume_base.specs.declared.limits.TheConstants.{MAX_WIRE_WORDS}
use Rattle.hume_base.specs.declared.types.Ty.{Ty}
use Rattle.hume_base.specs.declared.types.Types.{Types}
use Rattle.hume_base.specs.declared.rule.Rule.TheVariants.{C74}
use Rattle.hume_base.specs.Sizes.{size_of}
use Rattle.hume_ast.specs.declared.tree.TyExp.{TyExp}
use Rattle.hume_ast.specs.declared.tree.Decl.{Decl}
use Rattle.hume_ast.specs.declared.tree.Decl.TheVariants.{BoxD, Stream}
use Rattle.hume_ast.specs.declared.tree.Program.{Program}
use Rattle.hume_model.specs.declared.core_tree.PortC.{PortC}
use Rattle.hume_model.specs.declared.core_tree.BoxC.{BoxC}
use Rattle.hume_model.specs.declared.core_tree.NodeC.{NodeC}
use Rattle.hume_model.specs.declared.core_tree.NodeC.TheVariants.{Rules}
use Rattle.hume_model.specs.declared.core_tree.WireC.{WireC}
use Rattle.hume_model.specs.declared.core_tree.Core.{Core}
use Rattle.hume_model.specs.WireEnds.{is_stream, output_type, input_type, type_of_ends}
use Rattle.hume_model.specs.Limits.{is_stream_there, wire_words}
use Rattle.check_typing.specs.Partial.{given}
use Rattle.check_typing.specs.Signatures.{one_further, first_named}
use Rattle.check_typing.specs.WrittenTypes.{written}
use Rattle.check_typing.specs.Declarations.{InPlaces}
use Rattle.check_typing.specs.declared.signatures.Signatures.{Signatures}
use Rattle.check_typing.proofs.Maybe.{some-same, given-inv, given-at}
use Rattle.check_typing.proofs.NamesFound.{first_stands}
use Rattle.check_rules.specs.Declared.{Numbered, nodes_in, WireDecl, wires_in}
use Rattle.check_rules.specs.CheckRules.{IsFine, BreaksCheck, BreaksLimits}
use Rattle.check_rules.specs.TypeRules.{declared_name, node_named, type_named, output_of, input_of, or_else, wire_type}
use Rattle.check_rules.specs.SizeRules.{words_of, words_on}
use Rattle.check_rules.specs.CoreOf.{IsPort, IsNodeOf, node_name, port_place, output_place, input_place, depth_or_one, IsWireOf, IsCoreOf}

-- what is first of its name on the one side belongs to what is first of it on the other
first_in_places : {A B : Type 0} (R : A → B → Type 0) (name_of : A → List ℕ) (title : B → List ℕ)
    → ((x : A) (y : B) → R x y → title y ≡ name_of x) → (name : List ℕ)
    → (xs : List A) (ys : List B) → InPlaces R xs ys → (n : ℕ) (y : B) → first_named title name ys ≡ Some (n, y)
    → (x : A) × (first_named name_of name xs ≡ Some (n, x)) × R x y
first_in_places R name_of title same name [] [] h n y e = cc
first_in_places R name_of title same name [] (z ∷ ys) h n y e = absurd h
first_in_places R name_of title same name (x ∷ xs) [] h n y e = absurd h
first_in_places {A} {B} R name_of title same name (x ∷ xs) (z ∷ ys) h n y e =
    by (bytes_eq (title z) name) (bytes_eq (name_of x) name) (ap (λ t. bytes_eq t name) (same x z h.0)) (first_named title name ys)
    (λ m w q. first_in_places R name_of title same name xs ys h.1 m w q) e
  where
    Found : Bool → ℕ → B → Type 0
    Found b n y = (w : A) × ((if b then Some (0, x) else one_further (first_named name_of name xs)) ≡ Some (n, w)) × R w y

    by : (a b : Bool) → a ≡ b → (o : Option (ℕ × B))
        → ((m : ℕ) (w : B) → o ≡ Some (m, w) → (v : A) × (first_named name_of name xs ≡ Some (m, v)) × R v w)
        → (if a then Some (0, z) else one_further o) ≡ Some (n, y) → Found b n y
    by true true q o later e =
        let both : (0, z) ≡ (n, y) = some-same _ _ e in
        subst (λ (r : ℕ × B). Found true r.0 r.1) both (x, refl, h.0)
    by true false q o later e = cc
    by false true q o later e = cc
    by false false q None later e = cc
    by false false q (Some found) later e =
        let both : (found.0 + 1, found.1) ≡ (n, y) = some-same _ _ e in
        let r = later found.0 found.1 refl in
        subst (λ (r : ℕ × B). Found false r.0 r.1) both (r.0, ap one_further r.1, r.2)

abbrev port_type : PortC → Ty
port_type port = port.ty

abbrev is_none : Option Ty → Bool
is_none None = true
is_none (Some ty) = false

-- the type at a place of a list of ports is the one that is written
port_agrees : (types : Types) (name : List ℕ) (places : List (List ℕ × TyExp)) (ports : List PortC) → InPlaces (IsPort types) places ports
    → (n : ℕ) → port_place name ports ≡ Some n
    → (ty : Ty) × (type_named types (Some name) places ≡ Some ty) × (option_map port_type (slice_get ports n) ≡ Some ty)
port_agrees types name places ports h n e =
    let k = given-inv (first_named (λ (port : PortC). port.name) name ports) (λ found. Some found.0) n e in
    let number : k.0.0 ≡ n = some-same _ _ k.2 in
    let r = first_in_places (IsPort types) (λ (place : List ℕ × TyExp). place.0) (λ (port : PortC). port.name) (λ x y is. is.name) name places ports h k.0.0 k.0.1 k.1 in
    let there : slice_get ports n ≡ Some k.0.1 = subst (λ n. slice_get ports n ≡ Some k.0.1) number (first_stands (λ (port : PortC). port.name) name ports k.0.0 k.0.1 k.1) in
    (k.0.1.ty, given-at (first_named (λ (place : List ℕ × TyExp). place.0) name places) (λ found. written types found.1.1) (k.0.0, r.0) r.1 ∙ r.2.ty, ap (option_map port_type) there)

-- the type at an end of a wire, which is missing at a stream alone
record EndAgrees (declared : Option Ty) (node : NodeC) (found : Option Ty) : Type 0 where
  same : declared ≡ found
  missing : is_stream node ≡ is_none found

no_stream : (declared found : Option Ty) (b : BoxC) (ty : Ty) → declared ≡ Some ty → found ≡ Some ty → EndAgrees declared (Rules b) found
no_stream declared found b ty p q = record { same = p ∙ sym q; missing = sym (ap is_none q) }

module _ (text : List ℕ) (s : Signatures) where
  output_agrees : (d : Numbered) (decl : Decl) (node : NodeC) → IsNodeOf text s d decl node → (port : Option (List ℕ)) (place : ℕ)
      → output_place port node ≡ Some place
      → EndAgrees (output_of s.types port decl) node (output_type node place)
  output_agrees d (BoxD name ins outs fair rules handlers) node h (Some port) place e =
      let r = port_agrees s.types port outs h.0.outs h.2.outs place (ap (output_place (Some port)) (sym h.1) ∙ e) in
      subst (λ node. EndAgrees (type_named s.types (Some port) outs) node (output_type node place)) (sym h.1) (no_stream _ _ h.0 r.0 r.1 r.2)
  output_agrees d (BoxD name ins outs fair rules handlers) node h None place e = absurd (let none = ap (output_place None) (sym h.1) ∙ e in cc)
  output_agrees d (Stream name true outside) node h port place e =
      subst (λ node. EndAgrees None node (output_type node place)) (sym h) (record { same = refl; missing = refl })
  output_agrees d (Stream name false outside) node h port place e =
      subst (λ node. EndAgrees None node (output_type node place)) (sym h) (record { same = refl; missing = refl })
  output_agrees d _ node h port place e = absurd h

  input_agrees : (d : Numbered) (decl : Decl) (node : NodeC) → IsNodeOf text s d decl node → (port : Option (List ℕ)) (place : ℕ)
      → input_place port node ≡ Some place
      → EndAgrees (input_of s.types port decl) node (input_type node place)
  input_agrees d (BoxD name ins outs fair rules handlers) node h (Some port) place e =
      let r = port_agrees s.types port ins h.0.ins h.2.ins place (ap (input_place (Some port)) (sym h.1) ∙ e) in
      subst (λ node. EndAgrees (type_named s.types (Some port) ins) node (input_type node place)) (sym h.1) (no_stream _ _ h.0 r.0 r.1 r.2)
  input_agrees d (BoxD name ins outs fair rules handlers) node h None place e = absurd (let none = ap (input_place None) (sym h.1) ∙ e in cc)
  input_agrees d (Stream name true outside) node h port place e =
      subst (λ node. EndAgrees None node (input_type node place)) (sym h) (record { same = refl; missing = refl })
  input_agrees d (Stream name false outside) node h port place e =
      subst (λ node. EndAgrees None node (input_type node place)) (sym h) (record { same = refl; missing = refl })
  input_agrees d _ node h port place e = absurd h

  node_titled : (d : Numbered) (decl : Decl) (node : NodeC) → IsNodeOf text s d decl node → node_name node ≡ declared_name decl
  node_titled d (BoxD name ins outs fair rules handlers) node h = ap node_name h.1 ∙ h.2.name
  node_titled d (Stream name true outside) node h = ap node_name h
  node_titled d (Stream name false outside) node h = ap node_name h
  node_titled d _ node h = absurd h

words_agree : (types : Types) (a b : Option Ty) (depth : ℕ)
    → words_of types (or_else a b) depth ≡ (if is_none a && is_none b then 0 else size_of types (type_of_ends a b) * depth)
words_agree types (Some ty) b depth = refl
words_agree types None (Some ty) depth = refl
words_agree types None None depth = refl

sum_more : {A : Type 0} (f : A → ℕ) (x : A) (xs : List A) → sum (map f (x ∷ xs)) ≡ f x + sum (map f xs)
sum_more f x xs = sum-map f (x ∷ xs) ∙ sum_by-cons f x xs ∙ ap (λ n. f x + n) (sym (sum-map f xs))

-- a sum that isn't passed at any place isn't passed
sum_within : {A : Type 0} (f : A → ℕ) (most : ℕ) (xs : List A) (so_far : ℕ) → so_far ≤ most
    → ((n : ℕ) (x : A) → slice_get xs n ≡ Some x → so_far + sum (map f (take n xs)) ≤ most → most < so_far + sum (map f (take n xs)) + f x → ⊥)
    → so_far + sum (map f xs) ≤ most
sum_within f most [] so_far le never = omega arith
sum_within f most (x ∷ xs) so_far le never = elim (cases_lt most (so_far + f x)) [
  | inl lt ↦ absurd (never 0 x refl (omega arith) (omega arith))
  | inr less ↦ (
      let r : (so_far + f x) + sum (map f xs) ≤ most = sum_within f most xs (so_far + f x) less (λ n y e before passed.
      let more = sum_more f x (take n xs) in never (suc n) y e (omega arith) (omega arith)) in
      let all = sum_more f x xs in
      omega arith
      )
]

module _ (text : List ℕ) (program : Program) (core : Core) (fine : IsFine program.decls) (p : IsCoreOf text program core) where
  abbrev types : Types
  types = p.signatures.types

  abbrev is_node : Numbered → NodeC → Type 0
  is_node d node = IsNodeOf text p.signatures d d.decl node

  abbrev title : Numbered → List ℕ
  title d = declared_name d.decl

  node_found : (name : List ℕ) (number : ℕ) (node : NodeC) → first_named node_name name core.nodes ≡ Some (number, node)
      → (d : Numbered) × (node_named name program.decls ≡ Some d.decl) × is_node d node
  node_found name number node e =
      let r = first_in_places is_node title node_name (λ d node h. node_titled text p.signatures d d.decl node h) name (nodes_in program.decls) core.nodes p.nodes number node e in
      (r.0, given-at (first_named title name (nodes_in program.decls)) (λ found. Some found.1.decl) (number, r.0) r.1, r.2)

  wire_agrees : (w : WireDecl) (wire : WireC) → IsWireOf text p.signatures core.nodes w wire → wire_words core wire ≡ words_on types program.decls w
  wire_agrees w wire is =
      let from = node_found w.from.0 wire.from is.from.node is.from.found in
      let to = node_found w.to.0 wire.to is.to.node is.to.found in
      let out = output_agrees text p.signatures from.0 from.0.decl is.from.node from.2 w.from.1 wire.from_port is.from.at in
      let into = input_agrees text p.signatures to.0 to.0.decl is.to.node to.2 w.to.1 wire.to_port is.to.at in
      let a = output_type is.from.node wire.from_port in
      let b = input_type is.to.node wire.to_port in
      let first : given (node_named w.from.0 program.decls) (output_of types w.from.1) ≡ a =
      given-at (node_named w.from.0 program.decls) (output_of types w.from.1) from.0.decl from.1 ∙ out.same in
      let second : given (node_named w.to.0 program.decls) (input_of types w.to.1) ≡ b =
      given-at (node_named w.to.0 program.decls) (input_of types w.to.1) to.0.decl to.1 ∙ into.same in
      let type : wire_type types program.decls w ≡ or_else a b = λ i. or_else (first i) (second i) in
      let starts : is_stream_there (slice_get core.nodes wire.from) ≡ is_none a =
      ap is_stream_there (first_stands node_name w.from.0 core.nodes wire.from is.from.node is.from.found) ∙ out.missing in
      let ends : is_stream_there (slice_get core.nodes wire.to) ≡ is_none b =
      ap is_stream_there (first_stands node_name w.to.0 core.nodes wire.to is.to.node is.to.found) ∙ into.missing in
      let same : wire_words core wire ≡ (if is_none a && is_none b then 0 else size_of types (type_of_ends a b) * depth_or_one w.depth) =
      λ i. if starts i && ends i then 0 else size_of (p.types i) (is.ty i) * is.depth i in
      same ∙ sym (words_agree types a b (depth_or_one w.depth)) ∙ ap (λ ty. words_of types ty (depth_or_one w.depth)) (sym type)

  wires_agree : (ws : List WireDecl) (wires : List WireC) → InPlaces (IsWireOf text p.signatures core.nodes) ws wires
      → map (wire_words core) wires ≡ map (words_on types program.decls) ws
  wires_agree [] [] h = refl
  wires_agree [] (wire ∷ wires) h = absurd h
  wires_agree (w ∷ ws) [] h = absurd h
  wires_agree (w ∷ ws) (wire ∷ wires) h = λ i. wire_agrees w wire h.0 i ∷ wires_agree ws wires h.1 i

  pub words_within : sum (map (wire_words core) core.wires) ≤ MAX_WIRE_WORDS
  words_within =
      let all : 0 + sum (map (words_on types program.decls) (wires_in program.decls)) ≤ MAX_WIRE_WORDS =
      sum_within (words_on types program.decls) MAX_WIRE_WORDS (wires_in program.decls) 0 (omega arith) (λ n w there before passed.
      fine (record { rule = C74; declaration = w.number }) (BreaksCheck.limits (BreaksLimits.passes_words (
        refl,
        record { signatures = p.signatures; are = p.are; at = n; wire = w; there = there; declared = refl; before = omega arith; passed = omega arith },
      )))) in
      subst (λ n. n ≤ MAX_WIRE_WORDS) (ap sum (sym (wires_agree (wires_in program.decls) core.wires p.wires))) (omega arith)
