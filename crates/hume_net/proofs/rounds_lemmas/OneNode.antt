-- A piece of which one node alone is fed, or cleared.
use Rattle.std.proofs.Common.{◌≡◌, ℕ, zero, suc, ◌<◌, if◌then◌else◌, List, [], ◌∷◌, ◌++◌, length, Some, slice_get, slice_set, slice_index_or, refl, ap, sym, ◌∙◌, subst, inl, inr, ◌⊎◌, arith}
use Rattle.std.proofs.lemmas.Bool.{eq-eqb, ne_eqb}
use Rattle.std.proofs.lemmas.Bool.Decides.{eqb_tells}
use Rattle.std.proofs.lemmas.List.{append_assoc, append-nil}
use Rattle.std.proofs.lemmas.Option.{slice_get_within}
use Rattle.hume_base.specs.declared.types.Value.{Value}
use Rattle.hume_model.specs.declared.core_tree.NodeC.{NodeC}
use Rattle.hume_model.specs.declared.core_tree.Core.{Core}
use Rattle.hume_net.specs.declared.state.State.{State}
use Rattle.hume_net.specs.Nodes.{HasParts}
use Rattle.hume_net.specs.Sides.{part_of}
use Rattle.hume_net.specs.rounds.Pieces.{IsPieceOf, listed, only, taken_in}

listed_or : (lists : List (List Value)) (n : ℕ) → slice_index_or lists n [] ≡ listed lists n
listed_or [] n = refl
listed_or (list ∷ lists) zero = refl
listed_or (list ∷ lists) (suc n) = listed_or lists n

set_here : (lists : List (List Value)) (n : ℕ) (list : List Value) → n < length lists → listed (slice_set lists n list) n ≡ list
set_here [] n list within = absurd (omega (arith, within))
set_here (first ∷ lists) zero list within = refl
set_here (first ∷ lists) (suc n) list within = set_here lists n list (omega (arith, within))

set_elsewhere : (lists : List (List Value)) (n m : ℕ) (list : List Value) → (m ≡ n → ⊥) → listed (slice_set lists n list) m ≡ listed lists m
set_elsewhere [] n m list other = refl
set_elsewhere (first ∷ lists) zero zero list other = absurd (other refl)
set_elsewhere (first ∷ lists) zero (suc m) list other = refl
set_elsewhere (first ∷ lists) (suc n) zero list other = refl
set_elsewhere (first ∷ lists) (suc n) (suc m) list other = set_elsewhere lists n m list (λ same. other (ap suc same))

same_or_other : (a b : ℕ) → (a ≡ b) ⊎ (a ≡ b → ⊥)
same_or_other a b = elim (eqb_tells a b) [ inl same ↦ inl same.1 | inr other ↦ inr other.1 ]

only_here : (n m : ℕ) (values : List Value) → m ≡ n → only n values m ≡ values
only_here n m values same = ap (λ b. if b then values else []) (eq-eqb m n same)

none_elsewhere : (n m : ℕ) (values : List Value) → (m ≡ n → ⊥) → only n values m ≡ []
none_elsewhere n m values other = ap (λ b. if b then values else []) (ne_eqb m n other)

-- one list with more values
set_more : (lists : List (List Value)) (n m : ℕ) (values : List Value) → n < length lists → (m ≡ n) ⊎ (m ≡ n → ⊥)
    → listed (slice_set lists n (slice_index_or lists n [] ++ values)) m ≡ listed lists m ++ only n values m
set_more lists n m values within (inl same) =
    ap (listed (slice_set lists n (slice_index_or lists n [] ++ values))) same
    ∙ set_here lists n (slice_index_or lists n [] ++ values) within
    ∙ ap (λ list. list ++ values) (listed_or lists n ∙ ap (listed lists) (sym same))
    ∙ ap (λ more. listed lists m ++ more) (sym (only_here n m values same))
set_more lists n m values within (inr other) =
    set_elsewhere lists n m (slice_index_or lists n [] ++ values) other
    ∙ sym (append-nil (listed lists m))
    ∙ ap (λ more. listed lists m ++ more) (sym (none_elsewhere n m values other))

-- one list whose values stand before
set_none : (earlier : List Value) (lists : List (List Value)) (n m : ℕ) → n < length lists → (m ≡ n) ⊎ (m ≡ n → ⊥)
    → earlier ++ listed lists m ≡ (earlier ++ only n (listed lists n) m) ++ listed (slice_set lists n []) m
set_none earlier lists n m within (inl same) =
    ap (λ k. earlier ++ listed lists k) same
    ∙ sym (append-nil (earlier ++ listed lists n))
    ∙ ap (λ values. (earlier ++ values) ++ []) (sym (only_here n m (listed lists n) same))
    ∙ ap (λ none. (earlier ++ only n (listed lists n) m) ++ none) (sym (ap (listed (slice_set lists n [])) same ∙ set_here lists n [] within))
set_none earlier lists n m within (inr other) =
    ap (λ list. list ++ listed lists m) (sym (append-nil earlier))
    ∙ ap (λ values. (earlier ++ values) ++ listed lists m) (sym (none_elsewhere n m (listed lists n) other))
    ∙ ap (λ list. (earlier ++ only n (listed lists n) m) ++ list) (sym (set_elsewhere lists n m [] other))

module _ (core : Core) (earlier later : ℕ → List Value) (piece whole : State) (places : HasParts core piece)
    (n : ℕ) (node : NodeC) (is : slice_get core.nodes n ≡ Some node) where
  within_nodes : n < length core.nodes
  within_nodes = slice_get_within core.nodes n node is

  pub fed_one : (values : List Value) → IsPieceOf core earlier (λ m. only n values m ++ later m) piece whole
      → IsPieceOf core earlier later (record piece { coming = slice_set piece.coming n (slice_index_or piece.coming n [] ++ values) }) whole
  fed_one values it = record {
    wires = it.wires;
    parts = λ m other there.
        let within : n < length piece.coming = subst (λ count. n < count) (sym places.coming) within_nodes in
        let now = set_more piece.coming n m values within (same_or_other m n) in
        it.parts m other there
        ∙ (λ i. record {
          pending = (part_of piece m).pending;
          order = (part_of piece m).order;
          coming = (sym (append_assoc (part_of piece m).coming (only n values m) (later m)) ∙ ap (λ coming. coming ++ later m) (sym now)) i;
          taken = earlier m ++ (part_of piece m).taken;
        });
  }

  pub cleared_one : IsPieceOf core earlier later piece whole
      → IsPieceOf core (λ m. earlier m ++ only n (taken_in piece n) m) later (record piece { taken = slice_set piece.taken n [] }) whole
  cleared_one it = record {
    wires = it.wires;
    parts = λ m other there.
        let within : n < length piece.taken = subst (λ count. n < count) (sym places.taken) within_nodes in
        it.parts m other there
        ∙ (λ i. record {
          pending = (part_of piece m).pending;
          order = (part_of piece m).order;
          coming = (part_of piece m).coming ++ later m;
          taken = set_none (earlier m) piece.taken n m within (same_or_other m n) i;
        });
  }
