-- A core in which one box is another.
use Rattle.std.proofs.Common.{◌≡◌, ◌⊎◌, inl, inr, All, ℕ, zero, suc, List, [], ◌∷◌, length, Option, Some, None, slice_get, slice_set, refl, ap, subst}
use Rattle.std.proofs.lemmas.Option.{get_or_from_slice_get, slice_get_within}
use Rattle.std.specs.Bool.{⊤}
use Rattle.std.specs.Option.{option_and_then}
use Rattle.hume_model.specs.declared.core_tree.BoxC.{BoxC}
use Rattle.hume_model.specs.declared.core_tree.NodeC.{NodeC}
use Rattle.hume_model.specs.declared.core_tree.NodeC.TheVariants.{Rules, From, To}
use Rattle.hume_model.specs.declared.core_tree.Core.{Core}
use Rattle.calculus_laws.specs.Boxes.{as_box, box_at}

-- nothing at both places, or two that are related
abbrev pub BothAt : {X : Type 0} → (X → X → Type 0) → Option X → Option X → Type 0
BothAt R None None = ⊤
BothAt R None (Some y) = ⊥
BothAt R (Some x) None = ⊥
BothAt R (Some x) (Some y) = R x y

-- the box at a place stands there among the nodes
pub box_there : (core : Core) (n : ℕ) (b : BoxC) → box_at core n ≡ Some b → slice_get core.nodes n ≡ Some (Rules b)
box_there core n b at = by (slice_get core.nodes n) at
  where
    by : (o : Option NodeC) → option_and_then as_box o ≡ Some b → o ≡ Some (Rules b)
    by None at = cc
    by (Some (Rules c)) at = (let same : c ≡ b = cc in ap (λ d. Some (Rules d)) same)
    by (Some (From stream)) at = cc
    by (Some (To stream)) at = cc

pub length-set_node : {X : Type 0} (nodes : List X) (n : ℕ) (node : X) → length (slice_set nodes n node) ≡ length nodes
length-set_node [] n node = refl
length-set_node (x ∷ nodes) zero node = refl
length-set_node (x ∷ nodes) (suc n) node = ap suc (length-set_node nodes n node)

pub self_at : {X : Type 0} (R : X → X → Type 0) (o : Option X) → ((x : X) → o ≡ Some x → R x x) → BothAt R o o
self_at R None self = tt
self_at R (Some x) self = self x refl

-- a relation that holds of each element and itself, and of the old one at a place and the new one, holds at each place
pub related_at : {X : Type 0} (R : X → X → Type 0) (xs : List X) → ((m : ℕ) (x : X) → slice_get xs m ≡ Some x → R x x) → (n : ℕ) (old new : X)
    → slice_get xs n ≡ Some old → R old new → (m : ℕ) → BothAt R (slice_get xs m) (slice_get (slice_set xs n new) m)
related_at R [] self n old new at related m = tt
related_at R (x ∷ xs) self zero old new at related zero = (let same : old ≡ x = cc in subst (λ y. R y new) same related)
related_at R (x ∷ xs) self zero old new at related (suc m) = self_at R (slice_get xs m) (λ y is. self (suc m) y is)
related_at R (x ∷ xs) self (suc n) old new at related zero = self zero x refl
related_at R (x ∷ xs) self (suc n) old new at related (suc m) = related_at R xs (λ k y is. self (suc k) y is) n old new at related m

-- an element of the list with another one in a place is that one, or stood there before
pub in_set : {X : Type 0} (xs : List X) (n : ℕ) (new : X) (m : ℕ) (x : X) → slice_get (slice_set xs n new) m ≡ Some x → (x ≡ new) ⊎ (slice_get xs m ≡ Some x)
in_set [] n new m x found = inr found
in_set (y ∷ xs) zero new zero x found = inl (let same : x ≡ new = cc in same)
in_set (y ∷ xs) zero new (suc m) x found = inr found
in_set (y ∷ xs) (suc n) new zero x found = inr found
in_set (y ∷ xs) (suc n) new (suc m) x found = in_set xs n new m x found

-- what holds of each node holds of one that is there
pub node_small : (P : NodeC → Type 0) (nodes : List NodeC) (n : ℕ) (node : NodeC) → slice_get nodes n ≡ Some node → All P nodes → P node
node_small P nodes n node at each =
    subst P (get_or_from_slice_get nodes n node node at) (each n node (slice_get_within nodes n node at))
