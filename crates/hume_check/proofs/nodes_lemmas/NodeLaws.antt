-- The node of each declaration that is of one.
use Rattle.std.proofs.Common.{◌≡◌, ℕ, ◌+◌, ◌<◌, ◌≤◌, Bool, true, false, List, [], ◌∷◌, ◌++◌, length, drop, get_or, Option, Some, None, refl, ap, sym, subst, ◌∙◌, add-one}
use Rattle.std.specs.List.{filter_map, cons_option}
use Rattle.std.proofs.lemmas.Grind.{common_steps}
use Rattle.std.proofs.lemmas.List.{drop_all}
use Rattle.hume_ast.specs.declared.tree.Decl.{Decl}
use Rattle.hume_ast.specs.declared.tree.Decl.TheVariants.{Stream}
use Rattle.hume_model.specs.declared.core_tree.NodeC.{NodeC}
use Rattle.hume_model.specs.declared.core_tree.NodeC.TheVariants.{From, To}
use Rattle.hume_model.specs.declared.core_tree.StreamC.{StreamC}
use Rattle.check_typing.specs.Declarations.{InPlaces}
use Rattle.check_typing.specs.declared.signatures.Signatures.{Signatures}
use Rattle.check_rules.specs.Declared.{Decls, Numbered, if_node, numbered_from, nodes_in}
use Rattle.check_rules.specs.CoreOf.{IsNodeOf, stream_core}
use Rattle.hume_check.specs.nodes.inner.Parts.{numbered, way, IsNodeIfOne}
use Rattle.hume_check.proofs.nodes_lemmas.Gathered.{split_at, GoesOn, nothing_yet, one_more, nothing_left}

module _ (text : List ℕ) (s : Signatures) (number : ℕ) (d : ℕ × Decl) where
  -- the declaration, if it is the other one
  abbrev IsOf : NodeC → Decl → Type 0
  IsOf node decl = IsNodeIfOne text s (numbered number (d.0, decl)) (Some node)

  pub stream_node : (name port : List ℕ) (comes_in : Bool) (core : StreamC) → d.1 ≡ Stream name comes_in port
      → core ≡ stream_core text (numbered number (d.0, Stream name comes_in port)) name port → IsNodeIfOne text s (numbered number d) (Some (way comes_in core))
  stream_node name port comes_in core is h = subst (IsOf (way comes_in core)) (sym is) (by comes_in h)
    where
      by : (comes_in : Bool) → core ≡ stream_core text (numbered number (d.0, Stream name comes_in port)) name port
          → IsOf (way comes_in core) (Stream name comes_in port)
      by true h = (refl, ap From h)
      by false h = (refl, ap To h)

-- the boxes and streams among declarations that are numbered from one number
abbrev pub nodes_from : ℕ → Decls → List Numbered
nodes_from number decls = filter_map (λ (d : Numbered). if_node d d.decl) (numbered_from number decls)

module _ (text : List ℕ) (s : Signatures) (decls : Decls) where
  -- the node is that of the declaration
  abbrev pub IsNode : Numbered → NodeC → Type 0
  IsNode d node = IsNodeOf text s d d.decl node

  -- the nodes of the declarations before a place are made
  pub record AreMade (place : ℕ) (found : List NodeC) : Type 0 where
    pub goes : GoesOn IsNode (nodes_in decls) (nodes_from place (drop place decls)) found

  pub none_made : AreMade 0 []
  none_made = record { goes = nothing_yet IsNode (nodes_in decls) }

  pub all_made : (place : ℕ) (found : List NodeC) → length decls ≤ place → AreMade place found → InPlaces IsNode (nodes_in decls) found
  all_made place found h are = nothing_left IsNode (nodes_in decls) found
      (subst (λ (left : Decls). GoesOn IsNode (nodes_in decls) (nodes_from place left) found) (drop_all place decls h) are.goes)

  module _ (place : ℕ) (d : ℕ × Decl) (within : place < length decls) (at : d ≡ get_or decls place d) where
    abbrev left : List Numbered
    left = nodes_from (place + 1) (drop (place + 1) decls)

    left_at : (o : Option Numbered) → if_node (numbered place d) d.1 ≡ o → nodes_from place (drop place decls) ≡ cons_option o left
    left_at o is =
        ap (nodes_from place) (split_at decls place d d within at)
        ∙ (λ i. cons_option (is i) (nodes_from (sym (add-one place) i) (drop (place + 1) decls)))

    module _ (found : List NodeC) (are : AreMade place found) where
      pub other_passed : IsNodeIfOne text s (numbered place d) None → AreMade (place + 1) found
      other_passed h = record { goes = subst (λ nodes. GoesOn IsNode (nodes_in decls) nodes found) (left_at None h) are.goes }

      pub node_added : (node : NodeC) (new : List NodeC) → IsNodeIfOne text s (numbered place d) (Some node) → new ≡ found ++ node ∷ []
          → AreMade (place + 1) new
      node_added node new h e = record {
        goes = subst (GoesOn IsNode (nodes_in decls) left) (sym e)
            (one_more IsNode (nodes_in decls) left found (numbered place d) node
            (subst (λ nodes. GoesOn IsNode (nodes_in decls) nodes found) (left_at (Some (numbered place d)) h.0) are.goes) h.1);
      }

pub ruleset nodes_steps = (common_steps, none_made)
