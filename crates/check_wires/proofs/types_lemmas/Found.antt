-- What is found for a name is what the declarations say of it.
use Rattle.std.proofs.Common.{◌≡◌, ℕ, zero, suc, List, [], ◌∷◌, ◌++◌, map, length, Option, Some, None, option_map, slice_get, refl, ap, sym, ◌∙◌, arith}
use Rattle.std.specs.List.{filter_map, cons_option}
use Rattle.std.proofs.lemmas.List.{length-append}
use Rattle.hume_base.specs.declared.types.Ty.{Ty}
use Rattle.hume_base.specs.declared.types.Types.{Types}
use Rattle.hume_ast.specs.declared.tree.TyExp.{TyExp}
use Rattle.hume_ast.specs.declared.tree.Decl.{Decl}
use Rattle.hume_ast.specs.declared.tree.Decl.TheVariants.{BoxD, Stream}
use Rattle.check_tables.specs.names.Names.{number_of, with_name, with_names}
use Rattle.check_typing.specs.Partial.{given}
use Rattle.check_typing.specs.Signatures.{first_named}
use Rattle.check_typing.specs.WrittenTypes.{written}
use Rattle.check_typing.proofs.NamesFound.{first_stands}
use Rattle.check_scopes.specs.signatures.inner.Tables.{numbered_from, table_of}
use Rattle.check_scopes.proofs.signatures_lemmas.Lookup.{found_number}
use Rattle.check_rules.specs.Declared.{Decls, Numbered, if_node, nodes_in, WireDecl}
use Rattle.check_rules.specs.Declared as declared
use Rattle.check_rules.specs.TypeRules.{node_named, type_named, output_of, input_of, or_else, wire_type}
use Rattle.check_wires.specs.declared.types.wires.NodeTypes.{NodeTypes}
use Rattle.check_wires.specs.declared.types.wires.WireTypes.{WireTypes}
use Rattle.check_wires.specs.types.NodeTypes.{place_name, place_type, ports_in, no_ports, node_of, node_title, node_types, type_at, node_at, type_between}
use Rattle.check_wires.specs.types.inner.Adding.{none_yet, with_node, with_declaration, with_all}

-- the boxes and streams, the first declaration having number n
abbrev nodes_from : ℕ → Decls → List Numbered
nodes_from n decls = filter_map (λ (d : Numbered). if_node d d.decl) (declared.numbered_from n decls)

module _ (types : Types) where
  abbrev node_at_number : Numbered → NodeTypes
  node_at_number d = node_of types d.decl

  -- a table with more nodes
  abbrev with_nodes : WireTypes → List Numbered → WireTypes
  with_nodes found nodes = record {
    names = with_names found.names (numbered_from node_title (length found.nodes) nodes);
    nodes = found.nodes ++ map node_at_number nodes;
  }

  append_none : {A : Type 0} (xs : List A) → xs ≡ xs ++ []
  append_none [] = refl
  append_none (x ∷ xs) = ap (λ l. x ∷ l) (append_none xs)

  append_one : {A : Type 0} (xs : List A) (y : A) (ys : List A) → (xs ++ y ∷ []) ++ ys ≡ xs ++ y ∷ ys
  append_one [] y ys = refl
  append_one (x ∷ xs) y ys = ap (λ l. x ∷ l) (append_one xs y ys)

  more : (found : WireTypes) (d : Numbered) (nodes : List Numbered)
      → with_nodes (with_node found (node_title d) (node_at_number d)) nodes ≡ with_nodes found (d ∷ nodes)
  more found d nodes =
      let long : length (found.nodes ++ node_at_number d ∷ []) ≡ suc (length found.nodes) = length-append found.nodes (node_at_number d ∷ []) ∙ omega arith in
      λ i. record {
        names = with_names (with_name found.names (node_title d) (length found.nodes)) (numbered_from node_title (long i) nodes);
        nodes = append_one found.nodes (node_at_number d) (map node_at_number nodes) i;
      }

  added : (found : WireTypes) (n : ℕ) (decls : Decls) → with_all types found decls ≡ with_nodes found (nodes_from n decls)
  added found n [] = λ i. record { names = found.names; nodes = append_none found.nodes i }
  added found n (d ∷ decls) = by d.1 (λ next. added next (suc n) decls)
    where
      one : Decl → Numbered
      one decl = record { number = n; place = d.0; decl = decl }

      by : (decl : Decl) → ((next : WireTypes) → with_all types next decls ≡ with_nodes next (nodes_from (suc n) decls))
          → with_all types (with_declaration types found decl) decls ≡ with_nodes found (cons_option (if_node (one decl) decl) (nodes_from (suc n) decls))
      by (BoxD name ins outs fair rules handlers) rest =
          rest (with_declaration types found (BoxD name ins outs fair rules handlers))
          ∙ more found (one (BoxD name ins outs fair rules handlers)) (nodes_from (suc n) decls)
      by (Stream name from port) rest =
          rest (with_declaration types found (Stream name from port)) ∙ more found (one (Stream name from port)) (nodes_from (suc n) decls)
      by _ rest = rest found

  pub all_added : (decls : Decls) → with_all types none_yet decls ≡ node_types types decls
  all_added decls = added none_yet 0 decls

  get_map : {A B : Type 0} (f : A → B) (xs : List A) (n : ℕ) → slice_get (map f xs) n ≡ option_map f (slice_get xs n)
  get_map f [] n = refl
  get_map f (x ∷ xs) zero = refl
  get_map f (x ∷ xs) (suc n) = get_map f xs n

  -- what stands at the number of a name
  at_name : {A B : Type 0} (title : A → List ℕ) (f : A → B) (xs : List A) (name : List ℕ)
      → given (number_of name (table_of title xs)) (λ n. slice_get (map f xs) n) ≡ given (first_named title name xs) (λ found. Some (f found.1))
  at_name {A} {B} title f xs name =
      ap (λ o. given o (λ n. slice_get (map f xs) n)) (found_number title name xs)
      ∙ by (first_named title name xs) (first_stands title name xs)
    where
      by : (o : Option (ℕ × A)) → ((i : ℕ) (x : A) → o ≡ Some (i, x) → slice_get xs i ≡ Some x)
          → given (option_map (λ (f : ℕ × A). f.0) o) (λ n. slice_get (map f xs) n) ≡ given o (λ found. Some (f found.1))
      by None stands = refl
      by (Some found) stands = get_map f xs found.0 ∙ ap (option_map f) (stands found.0 found.1 refl)

  given_twice : {A B C : Type 0} (o : Option A) (f : A → Option B) (g : B → Option C) → given o (λ x. given (f x) g) ≡ given (given o f) g
  given_twice None f g = refl
  given_twice (Some x) f g = refl

  given_one : {A B C : Type 0} (o : Option A) (f : A → B) (g : B → Option C) → given (given o (λ x. Some (f x))) g ≡ given o (λ x. g (f x))
  given_one None f g = refl
  given_one (Some x) f g = refl

  port_type : (places : List (List ℕ × TyExp)) (port : Option (List ℕ)) → type_at (ports_in types places) port ≡ type_named types port places
  port_type places None = refl
  port_type places (Some name) =
      given_twice (number_of name (table_of place_name places)) (λ n. slice_get (map (place_type types) places) n) (λ ty. ty)
      ∙ ap (λ o. given o (λ ty. ty)) (at_name place_name (place_type types) places name)
      ∙ given_one (first_named place_name name places) (λ found. written types found.1.1) (λ ty. ty)

  no_port : (port : Option (List ℕ)) → type_at no_ports port ≡ None
  no_port None = refl
  no_port (Some name) = refl

  output_type : (port : Option (List ℕ)) (decl : Decl) → type_at (node_of types decl).outputs port ≡ output_of types port decl
  output_type port (BoxD name ins outs fair rules handlers) = port_type outs port
  output_type port _ = no_port port

  input_type : (port : Option (List ℕ)) (decl : Decl) → type_at (node_of types decl).inputs port ≡ input_of types port decl
  input_type port (BoxD name ins outs fair rules handlers) = port_type ins port
  input_type port _ = no_port port

  module _ (decls : Decls) where
    the_node : (name : List ℕ) → node_at (node_types types decls) name ≡ given (node_named name decls) (λ decl. Some (node_of types decl))
    the_node name =
        at_name node_title node_at_number (nodes_in decls) name
        ∙ sym (given_one (first_named node_title name (nodes_in decls)) (λ found. found.1.decl) (λ decl. Some (node_of types decl)))

    at_end : (type : NodeTypes → Option Ty) (of : Decl → Option Ty) → ((decl : Decl) → type (node_of types decl) ≡ of decl) → (name : List ℕ)
        → given (node_at (node_types types decls) name) type ≡ given (node_named name decls) of
    at_end type of same name =
        ap (λ o. given o type) (the_node name) ∙ given_one (node_named name decls) (node_of types) type
        ∙ ap (given (node_named name decls)) (λ i decl. same decl i)

    pub found_between : (w : WireDecl) → type_between (node_types types decls) w.from w.to ≡ wire_type types decls w
    found_between w =
        let from = at_end (λ (node : NodeTypes). type_at node.outputs w.from.1) (output_of types w.from.1) (output_type w.from.1) w.from.0 in
        let to = at_end (λ (node : NodeTypes). type_at node.inputs w.to.1) (input_of types w.to.1) (input_type w.to.1) w.to.0 in
        λ i. or_else (from i) (to i)
