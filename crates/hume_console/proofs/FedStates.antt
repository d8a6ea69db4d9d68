-- States to which values come.
use Rattle.std.proofs.Common.{◌≡◌, ℕ, zero, suc, ◌<◌, List, [], ◌∷◌, ◌++◌, length, refl, ap, sym, ◌∙◌, subst, append-nil, append_assoc, arith, Some, inl, inr}
use Rattle.std.specs.Prelude.{slice_get, slice_index_or, slice_set}
use Rattle.std.specs.Option.{unwrap_or}
use Rattle.std.proofs.lemmas.Option.{slice_get_within}
use Rattle.hume_base.specs.declared.types.Value.{Value}
use Rattle.hume_model.specs.declared.core_tree.Core.{Core}
use Rattle.hume_net.specs.declared.state.State.{State}
use Rattle.hume_net.specs.Parts.{IsStateOf}
use Rattle.hume_net.specs.Sides.{numbered, part_of}
use Rattle.hume_net.specs.rounds.Pieces.{only}
use Rattle.hume_net.proofs.Gathered.{numbered_get}
use Rattle.hume_net.proofs.Parts.{own_list, same_numbered}
use Rattle.hume_net.proofs.Starts.{length-numbered}
use Rattle.phase_workers.specs.NodeFills.{fed_at}
use Rattle.hume_console.specs.inner.Stepping.{filled_state}
use Rattle.hume_console.proofs.ReadOn.{none_elsewhere, only_here, same_or_other}

pub set_length : (lists : List (List Value)) (n : ℕ) (list : List Value) → length (slice_set lists n list) ≡ length lists
set_length [] n list = refl
set_length (first ∷ lists) zero list = refl
set_length (first ∷ lists) (suc n) list = ap suc (set_length lists n list)

-- what a list has at a place once values came to one
fed_set : (lists : List (List Value)) (n i : ℕ) (values list : List Value) → slice_get (slice_set lists n (slice_index_or lists n [] ++ values)) i ≡ Some list
    → list ≡ unwrap_or (slice_get lists i) [] ++ only n values i
fed_set [] n i values list e = cc
fed_set (first ∷ lists) zero zero values list e =
    let same : first ++ values ≡ list = cc in
    sym same ∙ ap (λ (more : List Value). first ++ more) (sym (only_here 0 0 values refl))
fed_set (first ∷ lists) zero (suc i) values list e =
    sym (ap (λ o. unwrap_or o []) e) ∙ sym (append-nil (unwrap_or (slice_get lists i) []))
    ∙ ap (λ (more : List Value). unwrap_or (slice_get lists i) [] ++ more) (sym (none_elsewhere 0 (suc i) values (λ same. omega (arith, same))))
fed_set (first ∷ lists) (suc n) zero values list e =
    let same : first ≡ list = cc in
    sym same ∙ sym (append-nil first) ∙ ap (λ (more : List Value). first ++ more) (sym (none_elsewhere (suc n) 0 values (λ at. omega (arith, at))))
fed_set (first ∷ lists) (suc n) (suc i) values list e =
    fed_set lists n i values list e ∙ ap (λ (more : List Value). unwrap_or (slice_get lists i) [] ++ more) (elim (same_or_other i n) [
      | inl same ↦ only_here n i values same ∙ sym (only_here (suc n) (suc i) values (ap suc same))
      | inr differ ↦ none_elsewhere n i values differ ∙ sym (none_elsewhere (suc n) (suc i) values (λ at. differ (omega (arith, at))))
    ])

module _ (core : Core) (state : State) (fed : ℕ → List Value) where
  abbrev coming : ℕ → List Value
  coming n = (part_of state n).coming

  abbrev all : ℕ → List Value
  all n = coming n ++ fed n

  pub filled_coming : (n : ℕ) → n < length core.nodes → (part_of (filled_state core state fed) n).coming ≡ coming n ++ fed n
  filled_coming n within = ap (λ o. unwrap_or o []) (numbered_get (length core.nodes) all n within)

  pub filled_parts : IsStateOf core state → IsStateOf core (filled_state core state fed)
  filled_parts is = record {
    wires = is.wires;
    pending = is.pending;
    orders = is.orders;
    coming = length-numbered (length core.nodes) all;
    taken = is.taken;
  }

  pub fed_more : (n : ℕ) (values : List Value) → n < length core.nodes
      → fed_at n values (filled_state core state fed) ≡ filled_state core state (λ m. fed m ++ only n values m)
  fed_more n values within =
      let N : ℕ = length core.nodes in
      let lists : List (List Value) = numbered N all in
      let set : List (List Value) = slice_set lists n (slice_index_or lists n [] ++ values) in
      let long : length set ≡ N = set_length lists n (slice_index_or lists n [] ++ values) ∙ length-numbered N all in
      let each : numbered N (λ m. all m ++ only n values m) ≡ set =
      own_list N (λ m. all m ++ only n values m) set long (λ i list e. sym (fed_set lists n i values list e
      ∙ ap (λ (l : List Value). l ++ only n values i) (ap (λ o. unwrap_or o []) (numbered_get N all i (subst (λ k. i < k) long (slice_get_within set i list e)))))) in
      let joined : numbered N (λ m. all m ++ only n values m) ≡ numbered N (λ m. coming m ++ (fed m ++ only n values m)) =
      same_numbered N (λ m. all m ++ only n values m) (λ m. coming m ++ (fed m ++ only n values m)) (λ m less. append_assoc (coming m) (fed m) (only n values m)) in
      ap (λ (cs : List (List Value)). record state { coming = cs }) (sym each ∙ joined)

pub none_fed : (core : Core) (state : State) → IsStateOf core state → filled_state core state (λ n. []) ≡ state
none_fed core state is =
    ap (λ (cs : List (List Value)). record state { coming = cs })
    (own_list (length core.nodes) (λ n. (part_of state n).coming ++ []) state.coming is.coming
    (λ n list e. append-nil (part_of state n).coming ∙ ap (λ o. unwrap_or o []) e))

-- which values come to each node is all that counts
pub same_fed : (core : Core) (state : State) (fed other : ℕ → List Value) → ((n : ℕ) → n < length core.nodes → fed n ≡ other n)
    → filled_state core state fed ≡ filled_state core state other
same_fed core state fed other same =
    ap (λ (cs : List (List Value)). record state { coming = cs })
    (same_numbered (length core.nodes) (λ n. (part_of state n).coming ++ fed n) (λ n. (part_of state n).coming ++ other n)
    (λ n less. ap (λ (vs : List Value). (part_of state n).coming ++ vs) (same n less)))
