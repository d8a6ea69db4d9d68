-- The line that is found for a declaration is that of a node or a wire of it, where there is one.
use Rattle.std.proofs.Common.{◌≡◌, ℕ, zero, suc, ◌==◌, Bool, true, false, List, [], ◌∷◌, Option, Some, None, slice_get, refl, ap, sym, subst, ◌∙◌, inl, inr}
use Rattle.std.proofs.lemmas.Bool.{eqb-true, eq-eqb}
use Rattle.std.specs.List.{find}
use Rattle.std.specs.Option.{option_map}
use Rattle.hume_base.proofs.Tables.{chosen}
use Rattle.hume_model.specs.declared.core_tree.NodeC.{NodeC}
use Rattle.hume_model.specs.declared.core_tree.WireC.{WireC}
use Rattle.hume_model.specs.declared.core_tree.Core.{Core}
use Rattle.hume_model.specs.Declarations.{declaration_of, line_of, StandsAt}
use Rattle.hume_model.proofs.FiringTypes.{found_in}

abbrev pub of_node : ℕ → NodeC → Bool
of_node declaration node = declaration_of node == declaration

abbrev pub of_wire : ℕ → WireC → Bool
of_wire declaration wire = wire.declaration == declaration

-- what is there is found
miss : {X : Type 0} (test : X → Bool) (xs : List X) (i : ℕ) (x : X) → slice_get xs i ≡ Some x → test x ≡ true → find test xs ≡ None → ⊥
miss test [] i x at is none = cc
miss test (y ∷ ys) zero x at is none = elim (chosen (test y) (Some y) (find test ys) None none) [
  | inl first ↦ (let h = first.1 in cc)
  | inr later ↦ (let same : y ≡ x = cc in let h : false ≡ true = sym later.0 ∙ ap test same ∙ is in cc)
]
miss test (y ∷ ys) (suc i) x at is none = elim (chosen (test y) (Some y) (find test ys) None none) [
  | inl first ↦ (let h = first.1 in cc)
  | inr later ↦ miss test ys i x at is later.1
]

module _ (core : Core) (declaration : ℕ) where
  pub node_stands : (o : Option NodeC) → find (of_node declaration) core.nodes ≡ o → (line : ℕ) → option_map line_of o ≡ Some line → StandsAt core declaration line
  node_stands None found line is = cc
  node_stands (Some node) found line is =
      let at = found_in (of_node declaration) core.nodes node found in
      let same : line_of node ≡ line = cc in
      subst (λ l. StandsAt core declaration l) same (subst (λ d. StandsAt core d (line_of node)) (eqb-true _ _ at.2) (StandsAt.node at.0 node at.1))

  pub wire_stands : (o : Option WireC) → find (of_wire declaration) core.wires ≡ o → (line : ℕ) → option_map (λ (wire : WireC). wire.line) o ≡ Some line → StandsAt core declaration line
  wire_stands None found line is = cc
  wire_stands (Some wire) found line is =
      let at = found_in (of_wire declaration) core.wires wire found in
      let same : wire.line ≡ line = cc in
      subst (λ l. StandsAt core declaration l) same (subst (λ d. StandsAt core d wire.line) (eqb-true _ _ at.2) (StandsAt.wire at.0 wire at.1))

  none_of : {X : Type 0} (f : X → ℕ) (o : Option X) → option_map f o ≡ None → o ≡ None
  none_of f None h = refl
  none_of f (Some x) h = cc

  none_stands : option_map line_of (find (of_node declaration) core.nodes) ≡ None → option_map (λ (wire : WireC). wire.line) (find (of_wire declaration) core.wires) ≡ None
      → (d line : ℕ) → d ≡ declaration → StandsAt core d line → ⊥
  none_stands no_node no_wire d line is (StandsAt.node n node at) =
      miss (of_node declaration) core.nodes n node at (eq-eqb _ _ is) (none_of line_of _ no_node)
  none_stands no_node no_wire d line is (StandsAt.wire w wire at) =
      miss (of_wire declaration) core.wires w wire at (eq-eqb _ _ is) (none_of (λ (wire : WireC). wire.line) _ no_wire)

  pub neither : option_map line_of (find (of_node declaration) core.nodes) ≡ None → option_map (λ (wire : WireC). wire.line) (find (of_wire declaration) core.wires) ≡ None
      → (line : ℕ) → StandsAt core declaration line → ⊥
  neither no_node no_wire line at = none_stands no_node no_wire declaration line refl at
